use Rattle.las_base.proofs.laws.listed_is_held.Goals as goal
use Rattle.las_base.proofs.Same.{listed_is_held as law}

pub returns : goal.returns
returns c = law
