use Rattle.grid_box.proofs.laws.pipe_ends_by_scan.Goals as goal
use Rattle.grid_box.proofs.ScanLemmas.{pipe_ends_by_scan as law}

pub returns : goal.returns
returns c = law
