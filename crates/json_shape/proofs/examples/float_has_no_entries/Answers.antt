use Rattle.std.proofs.Common.{refl}
use Rattle.json_shape.specs.Grids.{entries}
use Rattle.json_shape.proofs.examples.float_has_no_entries.Goals as goal

pub returns : goal.returns
unfolding entries
returns c = ((λ x. refl), refl, refl)
