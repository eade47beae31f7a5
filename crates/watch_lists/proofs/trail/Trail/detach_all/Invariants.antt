use Rattle.clause_arena.specs.Words.{clauses_in}
use Rattle.watch_lists.specs.Rows.{wanted}
use Rattle.watch_lists.specs.Fits.{attached_in}
use Rattle.watch_lists.proofs.LeaveLemmas.{AllLeft}
use Rattle.watch_lists.proofs.trail.Trail.detach_all.Given as goal

abbrev pub invariant-loop-n : goal.invariant-loop-n
invariant-loop-n l = AllLeft (wanted (attached_in l.initial.self (clauses_in l.initial.arena)) (clauses_in l.initial.arena)) l.initial.self (clauses_in l.initial.arena) l.n l.marks l.self (clauses_in l.arena)
