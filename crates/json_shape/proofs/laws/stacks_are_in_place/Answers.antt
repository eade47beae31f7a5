use Rattle.json_shape.proofs.LawLemmas.{stacks_are_in_place}
use Rattle.json_shape.proofs.laws.stacks_are_in_place.Goals as goal

pub returns : goal.returns
returns c = stacks_are_in_place
