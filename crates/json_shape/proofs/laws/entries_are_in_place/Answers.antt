use Rattle.json_shape.proofs.LawLemmas.{entries_are_in_place}
use Rattle.json_shape.proofs.laws.entries_are_in_place.Goals as goal

pub returns : goal.returns
returns c = entries_are_in_place
