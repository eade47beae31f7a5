use Rattle.json_shape.proofs.LawLemmas.{grids_are_full}
use Rattle.json_shape.proofs.laws.grids_are_full.Goals as goal

pub returns : goal.returns
returns c = grids_are_full
