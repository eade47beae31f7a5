use Rattle.std.proofs.Common.{◌≡◌, ◌∙◌, ◌&&◌, sym, ap, subst, cond, true, None, refl}
use Rattle.las_base.specs.Axes.{same_axis}
use Rattle.las_base.specs.Cells.{holds, same_cell}
use Rattle.grid_box.specs.Drawings.{pipe_at}
use Rattle.grid_box.specs.Slots.{bit_at}
use Rattle.grid_box.proofs.SlotLemmas.{pipe_at-set, kept_put, drawn_by_slots}
use Rattle.grid_box.proofs.diagram.Diagram.drop_pipe.Goals as goal

held : (c : goal.After-self-1) → holds c.self.inside.size c.args.cell ≡ true
held c = subst (λ d. holds d.size c.args.cell ≡ true) (sym c.self.view_is) c.requires

pub invariant_of-self : goal.invariant_of-self
invariant_of-self c =
    rw c.slot_number-number.ensures.value (kept_put _ _ _ c.args.axis c.args.cell None c.self.invariant (held c) refl)

pub returns-clause-pipes : goal.returns-clause-pipes
returns-clause-pipes c a x =
    let s = c.self.inside.size in
    rw c.slot_number-number.ensures.value
    (pipe_at-set s c.self.inside.slots.items (bit_at s c.self.inside.y_bits.items) c.args.axis c.args.cell None c.self.invariant.slot_count (held c) a x
    ∙ ap (λ d. cond (same_axis c.args.axis a && same_cell c.args.cell x) None (pipe_at d a x)) c.self.view_is)

pub returns-clause-drawn : goal.returns-clause-drawn
returns-clause-drawn c = drawn_by_slots _ _ _ (invariant_of-self c)
