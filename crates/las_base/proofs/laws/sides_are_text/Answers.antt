use Rattle.las_base.proofs.laws.sides_are_text.Goals as goal
use Rattle.las_base.proofs.Sides.{sides_are_text as law}

pub returns : goal.returns
returns c = law
