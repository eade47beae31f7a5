use Rattle.cnf_base.proofs.laws.accepted_is_exact.Goals as goal
use Rattle.cnf_base.proofs.Accepted.{accepted_is_exact as law}

pub returns : goal.returns
returns c = law
