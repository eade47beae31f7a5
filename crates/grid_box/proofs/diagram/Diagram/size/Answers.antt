use Rattle.std.proofs.Common.{subst}
use Rattle.grid_box.specs.Drawings.{IsDrawing}
use Rattle.grid_box.proofs.SlotLemmas.{drawn_by_slots}
use Rattle.grid_box.proofs.diagram.Diagram.size.Goals as goal

pub returns-clause-drawn : goal.returns-clause-drawn
returns-clause-drawn c = subst IsDrawing c.self.view_is (drawn_by_slots _ _ _ c.self.invariant)
