-- Slots and bits, and what a change of one of them does to the drawing.
use Rattle.std.proofs.Common.{◌≡◌, ◌≢◌, ℕ, zero, suc, ◌*◌, ◌/◌, ◌%◌, ◌<◌, Bool, true, false, cond, not, ◌&&◌, ◌||◌, List, [], ◌∷◌, length, get_or, set, replicate, Some, None, refl, sym, ap, ◌∙◌, subst, arith, length-set}
use Rattle.std.specs.List.{filter}
use Rattle.std.proofs.lemmas.Bool.{and_parts, and_from, both_ways}
use Rattle.std.proofs.lemmas.List.{get_or-set_same, get_or-set_other, length-replicate}
use Rattle.std.proofs.lemmas.Nat.{mul-add-lt, div-mul-add, mod-mul-add}
use Rattle.las_base.specs.declared.Axis.{Axis}
use Rattle.las_base.specs.declared.Axis.TheVariants.{I, J, K}
use Rattle.las_base.specs.declared.Kind.{Kind}
use Rattle.las_base.specs.declared.Cell.{Cell}
use Rattle.las_base.specs.declared.Size.{Size}
use Rattle.las_base.specs.Axes.{same_axis, same_kind}
use Rattle.las_base.specs.Cells.{same_cell, cells, holds, volume, index}
use Rattle.las_base.specs.Jobs.{within_limits}
use Rattle.las_base.proofs.Same.{same_cell-is, same_cell-refl, same_axis-is, same_axis-refl}
use Rattle.las_base.proofs.Indices.{index_below, cell_at, cell_at-index}
use Rattle.grid_box.specs.Drawings.{drawing_of, IsDrawing, pipe_at, is_y}
use Rattle.grid_box.specs.LookUps.{pipe_of, pipes_along, drawing_by, kinds_are_lawful}
use Rattle.grid_box.specs.Slots.{Slot, axis_number, slot_number, slot_at, bit_at, IsKept}
use Rattle.grid_box.proofs.LookUpLemmas.{pipe_at-drawing_by, is_y-drawing_by}
use Rattle.grid_box.proofs.DrawnLemmas.{drawn}

-- ---- the numbers of slots

axis_below : (a : Axis) → axis_number a < 3
axis_below I = omega arith
axis_below J = omega arith
axis_below K = omega arith

axis_tells : (a b : Axis) → axis_number a ≡ axis_number b → a ≡ b
axis_tells I I e = refl
axis_tells J J e = refl
axis_tells K K e = refl
axis_tells I J e = absurd (omega arith)
axis_tells I K e = absurd (omega arith)
axis_tells J I e = absurd (omega arith)
axis_tells J K e = absurd (omega arith)
axis_tells K I e = absurd (omega arith)
axis_tells K J e = absurd (omega arith)

pub slot_below : (s : Size) (a : Axis) (c : Cell) → holds s c ≡ true → slot_number s a c < 3 * volume s
slot_below s a c h = omega (arith, mul-add-lt (axis_number a) (volume s) (index s c) 3 (axis_below a) (index_below s c h))

slot_tells : (s : Size) (a b : Axis) (c d : Cell) → holds s c ≡ true → holds s d ≡ true → slot_number s a c ≡ slot_number s b d → (a ≡ b) × (c ≡ d)
slot_tells s a b c d hc hd e =
    let axis = λ (x : Axis) (y : Cell) (h : holds s y ≡ true). div-mul-add (axis_number x) (volume s) (index s y) (index_below s y h) in
    let cell = λ (x : Axis) (y : Cell) (h : holds s y ≡ true). mod-mul-add (axis_number x) (volume s) (index s y) (index_below s y h) in (
      axis_tells a b (sym (axis a c hc) ∙ ap (λ n. n / volume s) e ∙ axis b d hd),
      sym (cell_at-index s c hc) ∙ ap (cell_at s) (sym (cell a c hc) ∙ ap (λ n. n % volume s) e ∙ cell b d hd) ∙ cell_at-index s d hd,
    )

-- ---- a slot is changed

slot_at-set : (s : Size) (slots : List Slot) (axis : Axis) (cell : Cell) (slot : Slot) → length slots ≡ 3 * volume s → holds s cell ≡ true → (a : Axis) (c : Cell) → holds s c ≡ true → slot_at s (set slots (slot_number s axis cell) slot) a c ≡ cond (same_axis axis a && same_cell cell c) slot (slot_at s slots a c)
slot_at-set s slots axis cell slot long held a c h = by_test (same_axis axis a && same_cell cell c) refl
  where
    by_test : (t : Bool) → (same_axis axis a && same_cell cell c) ≡ t → slot_at s (set slots (slot_number s axis cell) slot) a c ≡ cond t slot (slot_at s slots a c)
    by_test true t =
        let p = and_parts (same_axis axis a) (same_cell cell c) t in
        let at : slot_number s a c ≡ slot_number s axis cell = ap (λ x. slot_number s x c) (sym (same_axis-is axis a p.0)) ∙ ap (slot_number s axis) (sym (same_cell-is cell c p.1)) in
        let inside : slot_number s axis cell < length slots = omega (arith, slot_below s axis cell held) in
        ap (λ n. get_or (set slots (slot_number s axis cell) slot) n None) at ∙ get_or-set_same slots (slot_number s axis cell) slot None inside
    by_test false t =
        let other : slot_number s a c ≢ slot_number s axis cell = λ e.
        let p = slot_tells s a axis c cell h held e in
        both_ways (same_axis axis a && same_cell cell c) t (and_from (same_axis axis a) (same_cell cell c) (rw p.0 (same_axis-refl axis)) (rw p.1 (same_cell-refl cell))) in
        get_or-set_other slots (slot_number s axis cell) (slot_number s a c) slot None other

-- the pipe at a place, after a slot was changed
pub pipe_at-set : (s : Size) (slots : List Slot) (y : Cell → Bool) (axis : Axis) (cell : Cell) (slot : Slot) → length slots ≡ 3 * volume s → holds s cell ≡ true → (a : Axis) (c : Cell)
    → pipe_at (drawing_by s (slot_at s (set slots (slot_number s axis cell) slot)) y) a c ≡ cond (same_axis axis a && same_cell cell c) (pipe_of axis cell slot) (pipe_at (drawing_by s (slot_at s slots) y) a c)
pipe_at-set s slots y axis cell slot long held a c =
    pipe_at-drawing_by s (slot_at s (set slots (slot_number s axis cell) slot)) y a c
    ∙ by_test (holds s c) refl
    ∙ ap (cond (same_axis axis a && same_cell cell c) (pipe_of axis cell slot)) (sym (pipe_at-drawing_by s (slot_at s slots) y a c))
  where
    here : (t : Bool) → (same_axis axis a && same_cell cell c) ≡ t → pipe_of a c (cond t slot (slot_at s slots a c)) ≡ cond t (pipe_of axis cell slot) (pipe_of a c (slot_at s slots a c))
    here true t =
        let p = and_parts (same_axis axis a) (same_cell cell c) t in
        ap (λ x. pipe_of x c slot) (sym (same_axis-is axis a p.0)) ∙ ap (λ x. pipe_of axis x slot) (sym (same_cell-is cell c p.1))
    here false t = refl

    out : (t : Bool) → (same_axis axis a && same_cell cell c) ≡ t → holds s c ≡ false → None ≡ cond t (pipe_of axis cell slot) None
    out true t h =
        let p = and_parts (same_axis axis a) (same_cell cell c) t in
        absurd (both_ways (holds s c) h (subst (λ x. holds s x ≡ true) (same_cell-is cell c p.1) held))
    out false t h = refl

    by_test : (b : Bool) → holds s c ≡ b → cond b (pipe_of a c (slot_at s (set slots (slot_number s axis cell) slot) a c)) None ≡ cond (same_axis axis a && same_cell cell c) (pipe_of axis cell slot) (cond b (pipe_of a c (slot_at s slots a c)) None)
    by_test true h = ap (pipe_of a c) (slot_at-set s slots axis cell slot long held a c h) ∙ here (same_axis axis a && same_cell cell c) refl
    by_test false h = out (same_axis axis a && same_cell cell c) refl h

-- ---- a bit is changed

bit_at-set : (s : Size) (bits : List Bool) (cell : Cell) (bit : Bool) → length bits ≡ volume s → holds s cell ≡ true → (c : Cell) → holds s c ≡ true → bit_at s (set bits (index s cell) bit) c ≡ cond (same_cell c cell) bit (bit_at s bits c)
bit_at-set s bits cell bit long held c h = by_test (same_cell c cell) refl
  where
    by_test : (t : Bool) → same_cell c cell ≡ t → bit_at s (set bits (index s cell) bit) c ≡ cond t bit (bit_at s bits c)
    by_test true t =
        let at : index s c ≡ index s cell = ap (index s) (same_cell-is c cell t) in
        let inside : index s cell < length bits = omega (arith, index_below s cell held) in
        ap (λ n. get_or (set bits (index s cell) bit) n false) at ∙ get_or-set_same bits (index s cell) bit false inside
    by_test false t =
        let other : index s c ≢ index s cell = λ e.
        let same : c ≡ cell = sym (cell_at-index s c h) ∙ ap (cell_at s) e ∙ cell_at-index s cell held in
        both_ways (same_cell c cell) t (rw same (same_cell-refl cell)) in
        get_or-set_other bits (index s cell) (index s c) bit false other

-- whether a cell is a Y cell, after a bit was changed
pub is_y-set : (s : Size) (kinds : Axis → Cell → Slot) (bits : List Bool) (cell : Cell) (bit : Bool) → length bits ≡ volume s → holds s cell ≡ true → (c : Cell)
    → is_y (drawing_by s kinds (bit_at s (set bits (index s cell) bit))) c ≡ cond (same_cell c cell) bit (is_y (drawing_by s kinds (bit_at s bits)) c)
is_y-set s kinds bits cell bit long held c =
    is_y-drawing_by s kinds (bit_at s (set bits (index s cell) bit)) c
    ∙ by_test (holds s c) refl
    ∙ ap (cond (same_cell c cell) bit) (sym (is_y-drawing_by s kinds (bit_at s bits) c))
  where
    out : (t : Bool) → same_cell c cell ≡ t → holds s c ≡ false → false ≡ cond t bit false
    out true t h = absurd (both_ways (holds s c) h (subst (λ x. holds s x ≡ true) (sym (same_cell-is c cell t)) held))
    out false t h = refl

    by_test : (b : Bool) → holds s c ≡ b → (b && bit_at s (set bits (index s cell) bit) c) ≡ cond (same_cell c cell) bit (b && bit_at s bits c)
    by_test true h = bit_at-set s bits cell bit long held c h
    by_test false h = out (same_cell c cell) refl h

pub set_or : (t b : Bool) → cond t true b ≡ (t || b)
set_or true b = refl
set_or false b = refl

pub clear_and : (t b : Bool) → cond t false b ≡ (not t && b)
clear_and true b = refl
clear_and false b = refl

-- ---- what is kept

pub lawful_kinds : (a : Axis) (low high : Kind) → (a ≢ K → low ≡ high) → kinds_are_lawful a (Some (low, high)) ≡ true
lawful_kinds K low high wall = refl
lawful_kinds I low high wall = same low high (wall (λ e. absurd (cc)))
  where
    same : (k l : Kind) → k ≡ l → same_kind k l ≡ true
    same Kind.X l e = rw (← e) refl
    same Kind.Z l e = rw (← e) refl
lawful_kinds J low high wall = same low high (wall (λ e. absurd (cc)))
  where
    same : (k l : Kind) → k ≡ l → same_kind k l ≡ true
    same Kind.X l e = rw (← e) refl
    same Kind.Z l e = rw (← e) refl

pub kept_put : (s : Size) (slots : List Slot) (bits : List Bool) (axis : Axis) (cell : Cell) (slot : Slot) → IsKept s slots bits → holds s cell ≡ true → kinds_are_lawful axis slot ≡ true → IsKept s (set slots (slot_number s axis cell) slot) bits
kept_put s slots bits axis cell slot old held lawful = record {
  limits = old.limits;
  slot_count = length-set slots (slot_number s axis cell) slot ∙ old.slot_count;
  bit_count = old.bit_count;
  kinds = λ a c h. ap (kinds_are_lawful a) (slot_at-set s slots axis cell slot old.slot_count held a c h) ∙ by_test a c h (same_axis axis a && same_cell cell c) refl;
}
  where
    by_test : (a : Axis) (c : Cell) → holds s c ≡ true → (t : Bool) → (same_axis axis a && same_cell cell c) ≡ t → kinds_are_lawful a (cond t slot (slot_at s slots a c)) ≡ true
    by_test a c h true t = subst (λ x. kinds_are_lawful x slot ≡ true) (same_axis-is axis a (and_parts (same_axis axis a) (same_cell cell c) t).0) lawful
    by_test a c h false t = old.kinds a c h

pub kept_put_y : (s : Size) (slots : List Slot) (bits : List Bool) (n : ℕ) (bit : Bool) → IsKept s slots bits → IsKept s slots (set bits n bit)
kept_put_y s slots bits n bit old = record {
  limits = old.limits;
  slot_count = old.slot_count;
  bit_count = length-set bits n bit ∙ old.bit_count;
  kinds = old.kinds;
}

get_or-replicate : {X : Type 0} (n k : ℕ) (x : X) → get_or (replicate n x) k x ≡ x
get_or-replicate zero k x = refl
get_or-replicate (suc n) zero x = refl
get_or-replicate (suc n) (suc k) x = get_or-replicate n k x

pub kept_new : (s : Size) → within_limits s ≡ true → IsKept s (replicate (3 * volume s) None) (replicate (volume s) false)
kept_new s limits = record {
  limits = limits;
  slot_count = length-replicate (3 * volume s) None;
  bit_count = length-replicate (volume s) false;
  kinds = λ a c h. ap (kinds_are_lawful a) (get_or-replicate (3 * volume s) (slot_number s a c) None);
}

pub drawn_by_slots : (s : Size) (slots : List Slot) (bits : List Bool) → IsKept s slots bits → IsDrawing (drawing_by s (slot_at s slots) (bit_at s bits))
drawn_by_slots s slots bits kept = drawn s (slot_at s slots) (bit_at s bits) kept.limits kept.kinds

-- empty slots and clear bits stand for nothing
no_pipes : (a : Axis) (kinds : Cell → Slot) (cs : List Cell) → ((c : Cell) → kinds c ≡ None) → pipes_along a kinds cs ≡ []
no_pipes a kinds [] none = refl
no_pipes a kinds (x ∷ xs) none = rw (none x) (no_pipes a kinds xs none)

no_cells : (test : Cell → Bool) (cs : List Cell) → ((c : Cell) → test c ≡ false) → filter test cs ≡ []
no_cells test [] none = refl
no_cells test (x ∷ xs) none = rw (none x) (no_cells test xs none)

pub empty_drawing : (s : Size) → drawing_by s (slot_at s (replicate (3 * volume s) None)) (bit_at s (replicate (volume s) false)) ≡ drawing_of s [] []
empty_drawing s =
    let none = λ (a : Axis). no_pipes a (slot_at s (replicate (3 * volume s) None) a) (cells s) (λ c. get_or-replicate (3 * volume s) (slot_number s a c) None) in
    rw (none I, none J, none K, no_cells (bit_at s (replicate (volume s) false)) (cells s) (λ c. get_or-replicate (volume s) (index s c) false)) refl
