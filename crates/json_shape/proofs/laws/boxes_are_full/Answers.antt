use Rattle.json_shape.proofs.LawLemmas.{boxes_are_full}
use Rattle.json_shape.proofs.laws.boxes_are_full.Goals as goal

pub returns : goal.returns
returns c = boxes_are_full
