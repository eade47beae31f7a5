use Rattle.std.proofs.Common.{◌≡◌, [], drop}
use Rattle.las_base.specs.Cells.{same_size}
use Rattle.las_spec.specs.Briefs.{once}
use Rattle.las_spec.proofs.make.sizes_once.Given as goal

abbrev pub invariant-loop-size : goal.invariant-loop-size
invariant-loop-size l = once same_size [] l.sizes ≡ once same_size l.seen.keys (drop l.size-index l.sizes)
