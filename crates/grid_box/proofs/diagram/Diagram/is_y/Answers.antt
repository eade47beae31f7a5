use Rattle.std.proofs.Common.{◌≡◌, ◌<◌, length, true, false, sym, ap, ◌∙◌, refl, arith, rules}
use Rattle.std.proofs.lemmas.List.{get_or_read}
use Rattle.las_base.specs.Cells.{holds, index}
use Rattle.las_base.proofs.Indices.{index_below}
use Rattle.grid_box.specs.Drawings.{is_y}
use Rattle.grid_box.specs.Slots.{slot_at, bit_at}
use Rattle.grid_box.proofs.LookUpLemmas.{is_y-drawing_by}
use Rattle.grid_box.proofs.diagram.Diagram.is_y.Goals as goal

pub returns-then-holds : goal.returns-then-holds
returns-then-holds c =
    let s = c.self.inside.size in
    let bits = c.self.inside.y_bits.items in
    let x = c.args.cell in
    let h : holds s x ≡ true = search rules in
    let within : index s x < length bits = omega (arith, index_below s x h) in
    let read : c.index-then-holds.result.now ≡ bit_at s bits x = get_or_read bits (index s x) _ within (rw c.index.ensures.value at c.index-then-holds.ensures) false in
    read ∙ sym (is_y-drawing_by s (slot_at s c.self.inside.slots.items) (bit_at s bits) x ∙ rw h refl) ∙ ap (λ d. is_y d x) c.self.view_is

pub returns-else-holds : goal.returns-else-holds
returns-else-holds c =
    let s = c.self.inside.size in
    let x = c.args.cell in
    let out : holds s x ≡ false = search rules in
    c.if-holds.false ∙ sym (is_y-drawing_by s (slot_at s c.self.inside.slots.items) (bit_at s c.self.inside.y_bits.items) x ∙ rw out refl) ∙ ap (λ d. is_y d x) c.self.view_is
