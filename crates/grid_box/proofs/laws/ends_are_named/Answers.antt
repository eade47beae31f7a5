use Rattle.grid_box.proofs.laws.ends_are_named.Goals as goal
use Rattle.grid_box.proofs.ReachLemmas.{ends_are_named as law}

pub returns : goal.returns
returns c = law
