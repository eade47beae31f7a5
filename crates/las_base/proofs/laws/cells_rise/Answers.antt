use Rattle.las_base.proofs.laws.cells_rise.Goals as goal
use Rattle.las_base.proofs.Rising.{all_rise as law}

pub returns : goal.returns
returns c = law
