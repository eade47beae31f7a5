use Rattle.std.proofs.Common.{length}
use Rattle.json_shape.proofs.GridLemmas.{HaveLengths}
use Rattle.json_shape.proofs.grid.+has_lengths.Given as goal

abbrev pub decreases-has_lengths : goal.decreases-has_lengths
decreases-has_lengths l = length l.lengths.now

abbrev pub invariant-loop-item : goal.invariant-loop-item
invariant-loop-item l = HaveLengths l.inner l.items l.item-index
