use Rattle.cnf_table.proofs.TableLemmas.{table_is_exact as law}
use Rattle.cnf_table.proofs.laws.table_is_exact.Goals as goal

pub returns : goal.returns
returns c = law
