-- How many entries a grid has, and where each stands among them.
use Rattle.std.proofs.Common.{◌≡◌, ℕ, zero, suc, ◌+◌, ◌*◌, ◌<◌, List, [], ◌∷◌, ◌++◌, length, Bool, true, false, Option, Some, None, refl, sym, ap, ◌∙◌, arith, eqb, eqb-true, length-append, subst}
use Rattle.std.proofs.lemmas.Nat.{mul-add-lt}
use Rattle.std.specs.Prelude.{option_map, option_and_then, ◌&&◌}
use Rattle.std.specs.List.{list_all, slice_get}
use Rattle.serde_json.specs.Data.{Data, null, boolean, number, string, array, object, Items, no_items, item}
use Rattle.serde_json.specs.Find.{at, get_item}
use Rattle.json_shape.specs.declared.grid.Entry.{Entry}
use Rattle.json_shape.specs.Arrays.{list_of, array_items, each}
use Rattle.json_shape.specs.Grids.{entry, joined, entries, all_of, has_lengths}
use Rattle.json_shape.specs.GridLaws.{product, AreBelow, place, at_path, grid_entry, GridsAreFull, EntriesAreInPlace, BoxesAreFull, BoxesAreInPlace, StacksAreFull, StacksAreInPlace}
use Rattle.json_shape.proofs.EachLemmas.{and_then_some, map_some, each-cons, length-each}
use Rattle.json_shape.proofs.GridLemmas.{entries_flat, entries_deep, lengths_below}

both_true : (a b : Bool) → (a && b) ≡ true → (a ≡ true) × (b ≡ true)
both_true true b e = (refl, e)
both_true false b e = absurd (cc)

slice_get_front : {A : Type 0} (xs ys : List A) (r : ℕ) → r < length xs → slice_get (xs ++ ys) r ≡ slice_get xs r
slice_get_front [] ys r h = absurd (omega arith)
slice_get_front (x ∷ xs) ys zero h = refl
slice_get_front (x ∷ xs) ys (suc r) h = slice_get_front xs ys r (omega arith)

slice_get_behind : {A : Type 0} (xs ys : List A) (n q : ℕ) → n ≡ length xs + q → slice_get (xs ++ ys) n ≡ slice_get ys q
slice_get_behind [] ys n q e = let same : n ≡ q = omega arith in ap (slice_get ys) same
slice_get_behind (x ∷ xs) ys zero q e = absurd (omega arith)
slice_get_behind (x ∷ xs) ys (suc n) q e = slice_get_behind xs ys n q (omega arith)

-- each list has this length
abbrev AreLong : {A : Type 0} → ℕ → List (List A) → Type 0
AreLong m [] = Unit {0}
AreLong m (xs ∷ xss) = (length xs ≡ m) × AreLong m xss

length-joined : {A : Type 0} (m : ℕ) (xss : List (List A)) → AreLong m xss → length (joined xss) ≡ length xss * m
length-joined m [] h = omega arith
length-joined m (xs ∷ xss) h = let rest = length-joined m xss h.1 in length-append xs (joined xss) ∙ omega arith

-- the entry r of the i-th list
joined_at : {A : Type 0} (m : ℕ) (xss : List (List A)) (i r : ℕ) → AreLong m xss → r < m → slice_get (joined xss) (i * m + r) ≡ option_and_then (λ xs. slice_get xs r) (slice_get xss i)
joined_at m [] i r h low = refl
joined_at m (xs ∷ xss) zero r h low =
    let same : 0 * m + r ≡ r = omega arith in
    ap (slice_get (xs ++ joined xss)) same ∙ slice_get_front xs (joined xss) r (omega arith)
joined_at m (xs ∷ xss) (suc i) r h low =
    slice_get_behind xs (joined xss) (suc i * m + r) (i * m + r) (omega arith) ∙ joined_at m xss i r h.1 low

-- the parts of a deeper grid, each of the inner lengths
record AreParts (n : ℕ) (ns : List ℕ) (d : Data) (es : List Entry) : Type 0 where
  ds : List Data
  xss : List (List Entry)
  items : array_items d ≡ Some ds
  long : length ds ≡ n
  inner : list_all (has_lengths ns) ds ≡ true
  gives : each (entries (length ns)) ds ≡ Some xss
  joins : joined xss ≡ es

parts : (n : ℕ) (ns : List ℕ) (d : Data) (es : List Entry) → has_lengths (n ∷ ns) d ≡ true → entries (length (n ∷ ns)) d ≡ Some es → AreParts n ns d es
parts n ns d es right e =
    let deep : option_map joined (option_and_then (each (entries (length ns))) (array_items d)) ≡ Some es = sym (entries_deep (length ns) d) ∙ e in
    let (xss, whole, joins) = map_some joined (option_and_then (each (entries (length ns))) (array_items d)) es deep in
    let (ds, items, gives) = and_then_some (each (entries (length ns))) (array_items d) xss whole in
    let tests : all_of n (has_lengths ns) (Some ds) ≡ true = ap (all_of n (has_lengths ns)) (sym items) ∙ sym (lengths_below n ns d) ∙ right in
    let (long, inner) = both_true (eqb (length ds) n) (list_all (has_lengths ns) ds) tests in
    record { ds = ds; xss = xss; items = items; long = eqb-true (length ds) n long; inner = inner; gives = gives; joins = joins }

parts_are_long : (ns : List ℕ) → ((d : Data) (es : List Entry) → has_lengths ns d ≡ true → entries (length ns) d ≡ Some es → length es ≡ product ns) → (ds : List Data) (xss : List (List Entry)) → list_all (has_lengths ns) ds ≡ true
    → each (entries (length ns)) ds ≡ Some xss → AreLong (product ns) xss
parts_are_long ns full [] xss h e = let same : [] ≡ xss = cc in subst (AreLong (product ns)) same tt
parts_are_long ns full (d ∷ ds) xss h e =
    let (xs, rest, here, there, same) = each-cons (entries (length ns)) d ds xss e in
    let (first, others) = both_true (has_lengths ns d) (list_all (has_lengths ns) ds) h in
    subst (AreLong (product ns)) same (full d xs first here, parts_are_long ns full ds rest others there)

pub grids_are_full : GridsAreFull
grids_are_full [] d es right e =
    let (x, at_d, same) = map_some (λ x. x ∷ []) (entry d) es (sym (entries_flat d) ∙ e) in
    sym (ap length same)
grids_are_full (n ∷ ns) d es right e =
    let p = parts n ns d es right e in
    let long = parts_are_long ns (grids_are_full ns) p.ds p.xss p.inner p.gives in
    sym (ap length p.joins) ∙ length-joined (product ns) p.xss long ∙ ap (λ k. k * product ns) (length-each (entries (length ns)) p.ds p.xss p.gives ∙ p.long)

item_at : (ds : Items) (i : ℕ) → get_item i ds ≡ slice_get (list_of ds) i
item_at no_items i = refl
item_at (item d ds) zero = refl
item_at (item d ds) (suc i) = item_at ds i

-- the i-th item of an array
pub at_items : (i : ℕ) (d : Data) (ds : List Data) → array_items d ≡ Some ds → at i d ≡ slice_get ds i
at_items i null ds e = absurd (cc)
at_items i (boolean b) ds e = absurd (cc)
at_items i (number n) ds e = absurd (cc)
at_items i (string s) ds e = absurd (cc)
at_items i (array its) ds e = let same : list_of its ≡ ds = cc in item_at its i ∙ ap (λ l. slice_get l i) same
at_items i (object ms) ds e = absurd (cc)

place_below : (is ns : List ℕ) → AreBelow is ns → place is ns < product ns
place_below [] [] h = omega arith
place_below [] (n ∷ ns) h = absurd h
place_below (i ∷ is) [] h = absurd h
place_below (i ∷ is) (n ∷ ns) h = omega (arith, mul-add-lt i (product ns) (place is ns) n h.0 (place_below is ns h.1))

-- what a part gives at the indexes that are left
in_part : (is ns : List ℕ) → ((d : Data) (es : List Entry) → has_lengths ns d ≡ true → entries (length ns) d ≡ Some es → slice_get es (place is ns) ≡ grid_entry is d) → (ds : List Data) (xss : List (List Entry)) (i : ℕ)
    → i < length ds → list_all (has_lengths ns) ds ≡ true → each (entries (length ns)) ds ≡ Some xss
    → option_and_then (λ xs. slice_get xs (place is ns)) (slice_get xss i) ≡ option_and_then (grid_entry is) (slice_get ds i)
in_part is ns inside [] xss i low h e = absurd (omega arith)
in_part is ns inside (d ∷ ds) xss zero low h e =
    let (xs, rest, here, there, same) = each-cons (entries (length ns)) d ds xss e in
    let (first, others) = both_true (has_lengths ns d) (list_all (has_lengths ns) ds) h in
    ap (λ yss. option_and_then (λ ys. slice_get ys (place is ns)) (slice_get yss 0)) (sym same) ∙ inside d xs first here
in_part is ns inside (d ∷ ds) xss (suc i) low h e =
    let (xs, rest, here, there, same) = each-cons (entries (length ns)) d ds xss e in
    let (first, others) = both_true (has_lengths ns d) (list_all (has_lengths ns) ds) h in
    ap (λ yss. option_and_then (λ ys. slice_get ys (place is ns)) (slice_get yss (suc i))) (sym same) ∙ in_part is ns inside ds rest i (omega arith) others there

path_step : (i : ℕ) (is : List ℕ) (o : Option Data) → option_and_then (grid_entry is) o ≡ option_and_then entry (option_and_then (at_path is) o)
path_step i is None = refl
path_step i is (Some d) = refl

in_place : (is ns : List ℕ) → AreBelow is ns → (d : Data) (es : List Entry) → has_lengths ns d ≡ true → entries (length ns) d ≡ Some es → slice_get es (place is ns) ≡ grid_entry is d
in_place [] [] h d es right e =
    let (x, at_d, same) = map_some (λ x. x ∷ []) (entry d) es (sym (entries_flat d) ∙ e) in
    ap (λ l. slice_get l 0) (sym same) ∙ sym at_d
in_place [] (n ∷ ns) h d es right e = absurd h
in_place (i ∷ is) [] h d es right e = absurd h
in_place (i ∷ is) (n ∷ ns) h d es right e =
    let p = parts n ns d es right e in
    let long = parts_are_long ns (grids_are_full ns) p.ds p.xss p.inner p.gives in
    let low : i < length p.ds = let first : i < n = h.0 in let all : length p.ds ≡ n = p.long in omega arith in
    ap (λ l. slice_get l (i * product ns + place is ns)) (sym p.joins) ∙ joined_at (product ns) p.xss i (place is ns) long (place_below is ns h.1)
    ∙ in_part is ns (in_place is ns h.1) p.ds p.xss i low p.inner p.gives
    ∙ path_step i is (slice_get p.ds i) ∙ ap (λ o. option_and_then entry (option_and_then (at_path is) o)) (sym (at_items i d p.ds p.items))

pub entries_are_in_place : EntriesAreInPlace
entries_are_in_place is ns d es right e h = in_place is ns h d es right e

pub boxes_are_full : BoxesAreFull
boxes_are_full a b c d es right e = grids_are_full (a ∷ b ∷ c ∷ []) d es right e ∙ omega arith

pub boxes_are_in_place : BoxesAreInPlace
boxes_are_in_place a b c i j k d es right e low_i low_j low_k =
    let same : (i * b + j) * c + k ≡ i * (b * (c * 1)) + (j * (c * 1) + (k * 1 + 0)) = omega arith in
    ap (slice_get es) same ∙ in_place (i ∷ j ∷ k ∷ []) (a ∷ b ∷ c ∷ []) (low_i, (low_j, (low_k, tt))) d es right e

pub stacks_are_full : StacksAreFull
stacks_are_full n a b c d es right e = grids_are_full (n ∷ a ∷ b ∷ c ∷ []) d es right e ∙ omega arith

pub stacks_are_in_place : StacksAreInPlace
stacks_are_in_place n a b c m i j k d es right e low_m low_i low_j low_k =
    let same : ((m * a + i) * b + j) * c + k ≡ m * (a * (b * (c * 1))) + (i * (b * (c * 1)) + (j * (c * 1) + (k * 1 + 0))) = omega arith in
    ap (slice_get es) same ∙ in_place (m ∷ i ∷ j ∷ k ∷ []) (n ∷ a ∷ b ∷ c ∷ []) (low_m, (low_i, (low_j, (low_k, tt)))) d es right e
