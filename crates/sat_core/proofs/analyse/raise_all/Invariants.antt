use Rattle.std.proofs.Common.{◌≡◌, length}
use Rattle.sat_core.proofs.analyse.raise_all.Given as goal

abbrev pub invariant-loop-var : goal.invariant-loop-var
invariant-loop-var l = (l.heap.held ≡ l.initial.heap.held) × (length l.heap.scores ≡ length l.initial.heap.scores)
