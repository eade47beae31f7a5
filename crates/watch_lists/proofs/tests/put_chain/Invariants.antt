use Rattle.std.proofs.Common.{◌≡◌, []}
use Rattle.clause_arena.specs.Words.{clauses_in}
use Rattle.watch_lists.specs.Fits.{Fits}
use Rattle.watch_lists.proofs.tests.put_chain.Given as goal

abbrev pub invariant-loop-j : goal.invariant-loop-j
invariant-loop-j l = Fits l.trail (clauses_in l.arena) × (l.trail.entries ≡ []) × (l.trail.vars ≡ l.fn.trail.vars)
