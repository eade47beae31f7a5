use Rattle.std.proofs.Common.{◌≡◌, ◌<◌, List, Bool, length, None, Option, Some, true, false, sym, ap, ◌∙◌, refl, arith, rules}
use Rattle.std.specs.Option.{option_map}
use Rattle.std.proofs.lemmas.List.{get_or_read}
use Rattle.las_base.specs.declared.Axis.{Axis}
use Rattle.las_base.specs.declared.Cell.{Cell}
use Rattle.las_base.specs.declared.Kind.{Kind}
use Rattle.las_base.specs.Cells.{holds}
use Rattle.las_base.specs.declared.Size.{Size}
use Rattle.grid_box.specs.Drawings.{kinds_at, pipe_at}
use Rattle.grid_box.specs.LookUps.{pipe_of, drawing_by}
use Rattle.grid_box.specs.Slots.{Slot, slot_number, slot_at, bit_at}
use Rattle.grid_box.proofs.LookUpLemmas.{pipe_at-drawing_by}
use Rattle.grid_box.proofs.SlotLemmas.{slot_below}
use Rattle.grid_box.proofs.diagram.Diagram.pipe.Goals as goal

kinds_of : (a : Axis) (c : Cell) (k : Option (Kind × Kind)) → option_map (λ p. (p.low, p.high)) (pipe_of a c k) ≡ k
kinds_of a c None = refl
kinds_of a c (Some k) = refl

here : (s : Size) (slots : List Slot) (bits : List Bool) (a : Axis) (c : Cell) → holds s c ≡ true → kinds_at (drawing_by s (slot_at s slots) (bit_at s bits)) a c ≡ slot_at s slots a c
here s slots bits a c h =
    let is : pipe_at (drawing_by s (slot_at s slots) (bit_at s bits)) a c ≡ pipe_of a c (slot_at s slots a c) = pipe_at-drawing_by s (slot_at s slots) (bit_at s bits) a c ∙ rw h refl in
    ap (option_map (λ p. (p.low, p.high))) is ∙ kinds_of a c (slot_at s slots a c)

outside : (s : Size) (slots : List Slot) (bits : List Bool) (a : Axis) (c : Cell) → holds s c ≡ false → kinds_at (drawing_by s (slot_at s slots) (bit_at s bits)) a c ≡ None
outside s slots bits a c h =
    let is : pipe_at (drawing_by s (slot_at s slots) (bit_at s bits)) a c ≡ None = pipe_at-drawing_by s (slot_at s slots) (bit_at s bits) a c ∙ rw h refl in
    ap (option_map (λ p. (p.low, p.high))) is

pub returns-then-holds : goal.returns-then-holds
returns-then-holds c =
    let s = c.self.inside.size in
    let slots = c.self.inside.slots.items in
    let a = c.args.axis in
    let x = c.args.cell in
    let h : holds s x ≡ true = search rules in
    let within : slot_number s a x < length slots = omega (arith, slot_below s a x h) in
    let read : c.index.result.now ≡ slot_at s slots a x = get_or_read slots (slot_number s a x) _ within (rw c.slot_number.ensures.value at c.index.ensures) None in
    let seen = here s slots c.self.inside.y_bits.items a x h in
    read ∙ sym seen ∙ ap (λ d. kinds_at d a x) c.self.view_is

pub returns-else-holds : goal.returns-else-holds
returns-else-holds c =
    let s = c.self.inside.size in
    let a = c.args.axis in
    let x = c.args.cell in
    let out : holds s x ≡ false = search rules in
    let seen = outside s c.self.inside.slots.items c.self.inside.y_bits.items a x out in
    sym seen ∙ ap (λ d. kinds_at d a x) c.self.view_is
