use Rattle.grid_box.proofs.laws.no_breach_is_valid.Goals as goal
use Rattle.grid_box.proofs.BreachLemmas.{no_breach_is_valid as law}

pub returns : goal.returns
returns c = law
