use Rattle.cnf_table.proofs.laws.parity_law.Goals as goal
use Rattle.cnf_table.proofs.ParityLemmas.{parity_law as law}

pub returns : goal.returns
returns c = law
