use Rattle.las_base.proofs.laws.cells_by_index.Goals as goal
use Rattle.las_base.proofs.Blocks.{all_indexed as law}

pub returns : goal.returns
returns c = law
