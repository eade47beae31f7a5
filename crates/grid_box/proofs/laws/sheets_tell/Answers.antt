use Rattle.grid_box.proofs.laws.sheets_tell.Goals as goal
use Rattle.grid_box.proofs.SheetLemmas.{sheets_tell as law}

pub returns : goal.returns
returns c = law
