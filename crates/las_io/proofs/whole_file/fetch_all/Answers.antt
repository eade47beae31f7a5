use Rattle.std.proofs.Common.{[]}
use Rattle.las_io.proofs.Fetched.{refused_most}
use Rattle.las_io.proofs.whole_file.fetch_all.Goals as goal

pub returns-in-Err-clause-shelf_fault : goal.returns-in-Err-clause-shelf_fault
returns-in-Err-clause-shelf_fault g c = λ e. c.in-Err.ensures.shelf_fault cc

pub returns-in-Err-clause-most : goal.returns-in-Err-clause-most
returns-in-Err-clause-most g c = refused_most _ _ _ _ _ _ _ _ [] c.in-Err.refused c.in-Err.ensures.end
