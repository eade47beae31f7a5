use Rattle.std.proofs.Common.{subst}
use Rattle.grid_box.specs.Surfaces.{IsSurfaces}
use Rattle.grid_box.proofs.SheetBitLemmas.{surfaces_kept}
use Rattle.grid_box.proofs.sheets.Sheets.size.Goals as goal

pub returns-clause-kept : goal.returns-clause-kept
returns-clause-kept c = subst IsSurfaces c.self.view_is (surfaces_kept _ _ _ c.self.invariant)
