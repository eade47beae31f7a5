use Rattle.cnf_table.proofs.TableLemmas.{shown_is_exact as law}
use Rattle.cnf_table.proofs.laws.shown_is_exact.Goals as goal

pub returns : goal.returns
returns c = law
