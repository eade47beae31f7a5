use Rattle.json_shape.proofs.LawLemmas.{stacks_are_full}
use Rattle.json_shape.proofs.laws.stacks_are_full.Goals as goal

pub returns : goal.returns
returns c = stacks_are_full
