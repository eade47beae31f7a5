use Rattle.std.proofs.Common.{◌≡◌, take, false}
use Rattle.std.specs.List.{list_any}
use Rattle.las_base.specs.Cells.{same_size}
use Rattle.las_top.proofs.verify.number_of.Given as goal

abbrev pub invariant-loop-number : goal.invariant-loop-number
invariant-loop-number l = list_any (same_size l.size) (take l.number l.spec.boxes) ≡ false
