use Rattle.las_base.proofs.Indices.{listed_at}
use Rattle.las_base.proofs.Size.cell.Goals as goal

pub returns-clause-listed : goal.returns-clause-listed
returns-clause-listed c = listed_at c.args.self c.args.number c.requires
