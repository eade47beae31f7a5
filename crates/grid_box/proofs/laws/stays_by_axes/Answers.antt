use Rattle.grid_box.proofs.laws.stays_by_axes.Goals as goal
use Rattle.grid_box.proofs.StayLemmas.{stays_by_axes as law}

pub returns : goal.returns
returns c = law
