use Rattle.std.proofs.Common.{length}
use Rattle.clause_arena.specs.Clauses.{place_of}
use Rattle.clause_arena.specs.Words.{clauses_in}
use Rattle.watch_lists.specs.Rows.{left}
use Rattle.watch_lists.specs.Detaching.{count_in}
use Rattle.watch_lists.specs.Leaving.{Leaves}
use Rattle.watch_lists.proofs.trail.Trail.leave.Given as goal

abbrev pub invariant-loop-hand : goal.invariant-loop-hand
invariant-loop-hand l = Leaves (count_in l.initial.self (clauses_in l.initial.arena)) l.initial.self (clauses_in l.initial.arena) l.f.0 l.marks l.self (clauses_in l.arena) (place_of l.before) (place_of l.hand)

abbrev pub decreases-loop-hand : goal.decreases-loop-hand
decreases-loop-hand l = left (length (clauses_in l.arena)) (clauses_in l.arena) l.f.0 (place_of l.hand)
