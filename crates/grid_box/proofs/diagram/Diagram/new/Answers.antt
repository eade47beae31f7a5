use Rattle.std.proofs.Common.{◌≡◌, ◌*◌, ap, ◌∙◌, refl, None, Some, false, replicate}
use Rattle.las_base.specs.Cells.{volume}
use Rattle.grid_box.proofs.SlotLemmas.{kept_new, drawn_by_slots, empty_drawing}
use Rattle.grid_box.proofs.diagram.Diagram.new.Goals as goal

slots_empty : (c : goal.In_ok-vec-2) → c.in_ok-vec.field-0.items ≡ replicate (3 * volume c.args.size) None
slots_empty c = c.in_ok-vec.ensures.items_if_clones_equal (elim [ None ↦ λ _. refl | Some x ↦ λ e. absurd e ]) ∙ ap (λ v. replicate (3 * v) None) c.volume-volume.ensures

bits_clear : (c : goal.In_ok-vec-2) → c.in_ok-vec-2.field-0.items ≡ replicate (volume c.args.size) false
bits_clear c = c.in_ok-vec-2.ensures.items_if_clones_equal (λ y e. e) ∙ ap (λ v. replicate v false) c.volume-volume.ensures

pub invariant_of-result : goal.invariant_of-result
invariant_of-result c = rw (slots_empty c, bits_clear c) (kept_new c.args.size c.requires)

pub returns-clause-drawn : goal.returns-clause-drawn
returns-clause-drawn c = rw (slots_empty c, bits_clear c) (drawn_by_slots _ _ _ (kept_new c.args.size c.requires))

pub returns-clause-empty : goal.returns-clause-empty
returns-clause-empty c = rw (slots_empty c, bits_clear c) (empty_drawing c.args.size)
