-- Bits of sheets, and what a change of one of them does.
use Rattle.std.proofs.Common.{◌≡◌, ◌≢◌, ℕ, zero, suc, ◌+◌, ◌*◌, ◌/◌, ◌%◌, ◌<◌, ◌≤◌, Bool, true, false, cond, not, ◌&&◌, nat_eq, nat_lt, List, [], ◌∷◌, map, length, get_or, set, replicate, Some, refl, sym, ap, ◌∙◌, arith, length-set, ◌⊎◌, inl, inr}
use Rattle.std.proofs.lemmas.Bool.{and_parts, and_from, both_ways, eqb-true, eq-eqb, ltb-true, ltb-false, lt-ltb}
use Rattle.std.proofs.lemmas.List.{get_or-set_same, get_or-set_other, length-replicate}
use Rattle.std.proofs.lemmas.List.{length-map}
use Rattle.std.proofs.lemmas.Option.{get_or_from_slice_get}
use Rattle.std.proofs.lemmas.Nat.{mul-add-lt, div-mul-add, mod-mul-add}
use Rattle.las_base.specs.declared.Axis.{Axis}
use Rattle.las_base.specs.declared.Axis.TheVariants.{I, J, K}
use Rattle.las_base.specs.declared.Size.{Size}
use Rattle.las_base.specs.Axes.{same_axis}
use Rattle.las_base.specs.Cells.{volume, index, holds, numbers_from}
use Rattle.las_base.specs.Jobs.{most_flows, within_limits}
use Rattle.las_base.proofs.Blocks.{length-numbers_from, at_number}
use Rattle.las_base.proofs.Indices.{index_below, cell_at, cell_at-index}
use Rattle.grid_box.specs.Sheets.{Sheet, same_sheet}
use Rattle.grid_box.specs.Surfaces.{Surfaces, sheet_axes, sheet_number, has_sheet, sheets_by, sheets_of, surfaces_of, IsSurfaces, PutsSheet}
use Rattle.grid_box.specs.SheetBits.{bit_number, sheet_bit, surfaces_by, AreKept}
use Rattle.grid_box.proofs.SheetLemmas.{same_sheet-is, same_sheet-refl, fits, has-sheets_by, all_in_order, none_by}

-- ---- the numbers of bits

pub sheet_number-below : (a b : Axis) → sheet_number a b < 6
sheet_number-below I I = omega arith
sheet_number-below I J = omega arith
sheet_number-below I K = omega arith
sheet_number-below J I = omega arith
sheet_number-below J J = omega arith
sheet_number-below J K = omega arith
sheet_number-below K I = omega arith
sheet_number-below K J = omega arith
sheet_number-below K K = omega arith

pair_at : (a b : Axis) → not (same_axis a b) ≡ true → get_or sheet_axes (sheet_number a b) (I, I) ≡ (a, b)
pair_at I J e = refl
pair_at I K e = refl
pair_at J I e = refl
pair_at J K e = refl
pair_at K I e = refl
pair_at K J e = refl
pair_at I I e = absurd (cc)
pair_at J J e = absurd (cc)
pair_at K K e = absurd (cc)

row_below : (flow count : ℕ) (a b : Axis) → flow < count → flow * 6 + sheet_number a b < count * 6
row_below flow count a b h = omega (arith, sheet_number-below a b)

pub bit_below : (s : Size) (flow count : ℕ) (x : Sheet) → flow < count → holds s x.cell ≡ true → bit_number s flow x < count * (6 * volume s)
bit_below s flow count x f h =
    let n = mul-add-lt (flow * 6 + sheet_number x.axis x.span) (volume s) (index s x.cell) (count * 6) (row_below flow count x.axis x.span f) (index_below s x.cell h) in
    grind (arith, n)

numbers_tell : (s : Size) (f g : ℕ) (x y : Sheet) → fits s x ≡ true → fits s y ≡ true → bit_number s f x ≡ bit_number s g y → (f ≡ g) × (x ≡ y)
numbers_tell s f g x y p q e =
    let held = λ (z : Sheet) (h : fits s z ≡ true). (and_parts (holds s z.cell) (not (same_axis z.axis z.span)) h).0 in
    let apart = λ (z : Sheet) (h : fits s z ≡ true). (and_parts (holds s z.cell) (not (same_axis z.axis z.span)) h).1 in
    let row = λ (n : ℕ) (z : Sheet) (h : fits s z ≡ true). div-mul-add (n * 6 + sheet_number z.axis z.span) (volume s) (index s z.cell) (index_below s z.cell (held z h)) in
    let place = λ (n : ℕ) (z : Sheet) (h : fits s z ≡ true). mod-mul-add (n * 6 + sheet_number z.axis z.span) (volume s) (index s z.cell) (index_below s z.cell (held z h)) in
    let rows : f * 6 + sheet_number x.axis x.span ≡ g * 6 + sheet_number y.axis y.span = sym (row f x p) ∙ ap (λ n. n / volume s) e ∙ row g y q in
    let indices : index s x.cell ≡ index s y.cell = sym (place f x p) ∙ ap (λ n. n % volume s) e ∙ place g y q in
    let flows : f ≡ g = omega (arith, rows, sheet_number-below x.axis x.span, sheet_number-below y.axis y.span) in
    let numbers : sheet_number x.axis x.span ≡ sheet_number y.axis y.span = omega (arith, rows, flows) in
    let pairs : (x.axis, x.span) ≡ (y.axis, y.span) = sym (pair_at x.axis x.span (apart x p)) ∙ ap (λ n. get_or sheet_axes n (I, I)) numbers ∙ pair_at y.axis y.span (apart y q) in
    let cell : x.cell ≡ y.cell = sym (cell_at-index s x.cell (held x p)) ∙ ap (cell_at s) indices ∙ cell_at-index s y.cell (held y q) in
    (flows, λ t. record { axis = (pairs t).0; cell = cell t; span = (pairs t).1 })

-- ---- a look-up in the sheets of flows

of_flow : {X : Type 0} (g : ℕ → List X) (n f : ℕ) → f < n → get_or (map g (numbers_from 0 n)) f [] ≡ g f
of_flow g n f h =
    let e : 0 + f ≡ f = omega arith in
    get_or_from_slice_get (map g (numbers_from 0 n)) f (g f) [] (at_number g n 0 f h ∙ ap (λ k. Some (g k)) e)

past_flows : {X : Type 0} (g : ℕ → List X) (n first f : ℕ) → n ≤ f → get_or (map g (numbers_from first n)) f [] ≡ []
past_flows g zero first f h = refl
past_flows g (suc n) first zero h = absurd (omega arith)
past_flows g (suc n) first (suc f) h = past_flows g n (suc first) f (omega arith)

pub has_by : (s : Size) (count : ℕ) (bits : List Bool) (f : ℕ) (x : Sheet) → has_sheet (sheets_of (surfaces_by s count bits) f) x ≡ (nat_lt f count && (fits s x && sheet_bit s bits f x))
has_by s count bits f x = at (nat_lt f count) refl
  where
    by : ℕ → List Sheet
    by n = sheets_by s (sheet_bit s bits n)

    at : (t : Bool) → nat_lt f count ≡ t → has_sheet (get_or (map by (numbers_from 0 count)) f []) x ≡ (t && (fits s x && sheet_bit s bits f x))
    at true t = ap (λ l. has_sheet l x) (of_flow by count f (ltb-true f count t)) ∙ has-sheets_by s (sheet_bit s bits f) x
    at false t = ap (λ l. has_sheet l x) (past_flows by count 0 f (ltb-false f count t))

pub count_by : (s : Size) (count : ℕ) (bits : List Bool) → length ((surfaces_by s count bits).flows) ≡ count
count_by s count bits = length-map (numbers_from 0 count) (λ f. sheets_by s (sheet_bit s bits f)) ∙ length-numbers_from 0 count

-- the flows that are seen are those that are kept
pub flow_below : (s : Size) (count : ℕ) (bits : List Bool) (seen : Surfaces) (flow : ℕ) → surfaces_by s count bits ≡ seen → flow < length seen.flows → flow < count
flow_below s count bits seen flow view h = omega (arith, count_by s count bits, ap (λ d. length d.flows) view)

-- ---- a bit is changed

bit-set : (s : Size) (bits : List Bool) (flow : ℕ) (x : Sheet) (on : Bool) → bit_number s flow x < length bits → fits s x ≡ true → (f : ℕ) (y : Sheet) → fits s y ≡ true
    → sheet_bit s (set bits (bit_number s flow x) on) f y ≡ cond (nat_eq f flow && same_sheet x y) on (sheet_bit s bits f y)
bit-set s bits flow x on inside p f y q = by_test (nat_eq f flow && same_sheet x y) refl
  where
    by_test : (t : Bool) → (nat_eq f flow && same_sheet x y) ≡ t → sheet_bit s (set bits (bit_number s flow x) on) f y ≡ cond t on (sheet_bit s bits f y)
    by_test true t =
        let m = and_parts (nat_eq f flow) (same_sheet x y) t in
        let at : bit_number s f y ≡ bit_number s flow x = ap (λ n. bit_number s n y) (eqb-true f flow m.0) ∙ ap (bit_number s flow) (sym (same_sheet-is x y m.1)) in
        ap (λ n. get_or (set bits (bit_number s flow x) on) n false) at ∙ get_or-set_same bits (bit_number s flow x) on false inside
    by_test false t =
        let other : bit_number s f y ≢ bit_number s flow x = λ e.
        let m = numbers_tell s f flow y x q p e in
        both_ways (nat_eq f flow && same_sheet x y) t (and_from (nat_eq f flow) (same_sheet x y) (eq-eqb f flow m.0) (rw m.1 (same_sheet-refl x))) in
        get_or-set_other bits (bit_number s flow x) (bit_number s f y) on false other

pub puts : (s : Size) (count : ℕ) (bits : List Bool) (flow : ℕ) (x : Sheet) (on : Bool) → length bits ≡ count * (6 * volume s) → flow < count → fits s x ≡ true
    → PutsSheet (surfaces_by s count bits) (surfaces_by s count (set bits (bit_number s flow x) on)) flow x on
puts s count bits flow x on long low p f y =
    has_by s count (set bits (bit_number s flow x) on) f y
    ∙ by_test (nat_lt f count) refl (fits s y) refl
    ∙ ap (cond (nat_eq f flow && same_sheet x y) on) (sym (has_by s count bits f y))
  where
    inside : bit_number s flow x < length bits
    inside = omega (arith, long, bit_below s flow count x low (and_parts (holds s x.cell) (not (same_axis x.axis x.span)) p).0)

    -- the sheet that is put is of a flow that there is, and fits
    elsewhere : (nat_lt f count ≡ false) ⊎ (fits s y ≡ false) → (b : Bool) → (nat_eq f flow && same_sheet x y) ≡ b → false ≡ cond b on false
    elsewhere out false t = refl
    elsewhere (inl out) true t =
        let m = and_parts (nat_eq f flow) (same_sheet x y) t in
        absurd (both_ways (nat_lt f count) out (lt-ltb f count (rw (eqb-true f flow m.0) low)))
    elsewhere (inr out) true t =
        let m = and_parts (nat_eq f flow) (same_sheet x y) t in
        absurd (both_ways (fits s y) out (ap (fits s) (sym (same_sheet-is x y m.1)) ∙ p))

    by_test : (t : Bool) → nat_lt f count ≡ t → (u : Bool) → fits s y ≡ u
        → (t && (u && sheet_bit s (set bits (bit_number s flow x) on) f y)) ≡ cond (nat_eq f flow && same_sheet x y) on (t && (u && sheet_bit s bits f y))
    by_test true t true u = bit-set s bits flow x on inside p f y u
    by_test true t false u = elsewhere (inr u) (nat_eq f flow && same_sheet x y) refl
    by_test false t u v = elsewhere (inl t) (nat_eq f flow && same_sheet x y) refl

-- ---- what bits keep

pub kept_set : (s : Size) (count : ℕ) (bits : List Bool) (n : ℕ) (on : Bool) → AreKept s count bits → AreKept s count (set bits n on)
kept_set s count bits n on old = record { limits = old.limits; few = old.few; bit_count = length-set bits n on ∙ old.bit_count }

pub kept_clear : (s : Size) (count : ℕ) → within_limits s ≡ true → count ≤ most_flows → AreKept s count (replicate (count * (6 * volume s)) false)
kept_clear s count limits few = record { limits = limits; few = few; bit_count = length-replicate (count * (6 * volume s)) false }

pub surfaces_kept : (s : Size) (count : ℕ) (bits : List Bool) → AreKept s count bits → IsSurfaces (surfaces_by s count bits)
surfaces_kept s count bits kept = record {
  limits = kept.limits;
  count = rw (count_by s count bits) kept.few;
  order = all_in_order s (sheet_bit s bits) 0 count;
}

-- clear bits stand for no sheet
get_or-clear : (n k : ℕ) → get_or (replicate n false) k false ≡ false
get_or-clear zero k = refl
get_or-clear (suc n) zero = refl
get_or-clear (suc n) (suc k) = get_or-clear n k

none_each : {X : Type 0} (g : ℕ → List X) (first n : ℕ) → ((k : ℕ) → g k ≡ []) → map g (numbers_from first n) ≡ replicate n []
none_each g first zero none = refl
none_each g first (suc n) none = rw (none first) (ap (λ l. [] ∷ l) (none_each g (suc first) n none))

pub clear_by : (s : Size) (count : ℕ) → surfaces_by s count (replicate (count * (6 * volume s)) false) ≡ surfaces_of s (replicate count [])
clear_by s count =
    let bits : List Bool = replicate (count * (6 * volume s)) false in
    ap (surfaces_of s) (none_each (λ f. sheets_by s (sheet_bit s bits f)) 0 count (λ k. none_by s (sheet_bit s bits k) (λ x. get_or-clear (count * (6 * volume s)) (bit_number s k x))))
