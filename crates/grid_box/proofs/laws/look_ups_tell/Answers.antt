use Rattle.grid_box.proofs.laws.look_ups_tell.Goals as goal
use Rattle.grid_box.proofs.TellLemmas.{look_ups_tell as law}

pub returns : goal.returns
returns c = law
