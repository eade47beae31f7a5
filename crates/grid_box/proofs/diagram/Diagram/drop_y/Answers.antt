use Rattle.std.proofs.Common.{◌≡◌, ◌∙◌, ◌&&◌, not, sym, ap, subst, true, false}
use Rattle.las_base.specs.Cells.{holds, same_cell}
use Rattle.grid_box.specs.Drawings.{is_y}
use Rattle.grid_box.specs.LookUps.{drawing_by}
use Rattle.grid_box.specs.Slots.{slot_at, bit_at}
use Rattle.grid_box.proofs.SlotLemmas.{is_y-set, clear_and, kept_put_y, drawn_by_slots}
use Rattle.grid_box.proofs.diagram.Diagram.drop_y.Goals as goal

pub returns-clause-y_cells : goal.returns-clause-y_cells
returns-clause-y_cells c x =
    let s = c.self.inside.size in
    let held : holds s c.args.cell ≡ true = subst (λ d. holds d.size c.args.cell ≡ true) (sym c.self.view_is) c.requires in
    rw c.index-number.ensures.value
    (is_y-set s (slot_at s c.self.inside.slots.items) c.self.inside.y_bits.items c.args.cell false c.self.invariant.bit_count held x
    ∙ clear_and (same_cell x c.args.cell) (is_y (drawing_by s (slot_at s c.self.inside.slots.items) (bit_at s c.self.inside.y_bits.items)) x)
    ∙ ap (λ d. not (same_cell x c.args.cell) && is_y d x) c.self.view_is)

pub returns-clause-drawn : goal.returns-clause-drawn
returns-clause-drawn c = drawn_by_slots _ _ _ (kept_put_y _ _ _ _ false c.self.invariant)
