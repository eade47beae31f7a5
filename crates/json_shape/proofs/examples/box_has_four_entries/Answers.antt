use Rattle.std.proofs.Common.{refl}
use Rattle.json_shape.specs.Grids.{entries, has_lengths}
use Rattle.json_shape.proofs.examples.box_has_four_entries.Goals as goal

pub returns : goal.returns
unfolding entries has_lengths
returns c = (refl, refl)
