use Rattle.json_shape.proofs.LawLemmas.{boxes_are_in_place}
use Rattle.json_shape.proofs.laws.boxes_are_in_place.Goals as goal

pub returns : goal.returns
returns c = boxes_are_in_place
