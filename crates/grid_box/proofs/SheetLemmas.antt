-- Lists of sheets in order, and what is listed in them.
use Rattle.std.proofs.Common.{◌≡◌, ◌≢◌, ℕ, suc, Bool, true, false, cond, not, ◌&&◌, ◌||◌, List, [], ◌∷◌, map, length, get_or, refl, sym, ap, ◌∙◌, subst, arith}
use Rattle.std.specs.List.{list_any, list_all, filter, flat_map, All}
use Rattle.std.proofs.lemmas.Bool.{and_parts, and_from, or_left, or_right, not_from_false, false_from_ne_true}
use Rattle.std.proofs.lemmas.List.Elements.{All-map}
use Rattle.std.proofs.lemmas.List.Folds.{list_any-append, list_all-map}
use Rattle.std.proofs.Math.Bool.{or-false, and-false}
use Rattle.las_base.specs.declared.Axis.{Axis}
use Rattle.las_base.specs.declared.Axis.TheVariants.{I, J, K}
use Rattle.las_base.specs.declared.Cell.{Cell}
use Rattle.las_base.specs.declared.Size.{Size}
use Rattle.las_base.specs.Axes.{same_axis}
use Rattle.las_base.specs.Cells.{same_cell, cells, holds, numbers_from}
use Rattle.las_base.proofs.Same.{same_cell-is, same_cell-refl, same_axis-is, same_axis-refl, listed_is_held}
use Rattle.grid_box.specs.Sheets.{Sheet, same_sheet, agree, all_or_none}
use Rattle.grid_box.specs.Surfaces.{sheet_axes, all_sheets, has_sheet, sheets_by, AreInOrder, SheetsTell}

-- ---- tests of equality

pub same_sheet-is : (x y : Sheet) → same_sheet x y ≡ true → x ≡ y
same_sheet-is x y e =
    let p = and_parts (same_axis x.axis y.axis) (same_cell x.cell y.cell && same_axis x.span y.span) e in
    let q = and_parts (same_cell x.cell y.cell) (same_axis x.span y.span) p.1 in
    let axis = same_axis-is x.axis y.axis p.0 in
    let cell = same_cell-is x.cell y.cell q.0 in
    let span = same_axis-is x.span y.span q.1 in
    λ t. record { axis = axis t; cell = cell t; span = span t }

pub same_sheet-refl : (x : Sheet) → same_sheet x x ≡ true
same_sheet-refl x = rw (same_axis-refl x.axis, same_cell-refl x.cell, same_axis-refl x.span) refl

-- ---- what a box has room for

-- the sheet's pipe has its low cell in the box, and the sheet does not span the pipe's own axis
abbrev pub fits : Size → Sheet → Bool
fits s x = holds s x.cell && not (same_axis x.axis x.span)

-- axes that are not one
pub apart : (a b : Axis) → b ≢ a → not (same_axis a b) ≡ true
apart a b other = not_from_false (same_axis a b) (false_from_ne_true (same_axis a b) (λ e. other (sym (same_axis-is a b e))))

module _ (x : Sheet) (cs : List Cell) where
  abbrev with_axes : Axis × Axis → List Sheet
  with_axes a = map (λ c. record { axis = a.0; cell = c; span = a.1 }) cs

  abbrev has_axes : Axis × Axis → Bool
  has_axes a = same_axis x.axis a.0 && same_axis x.span a.1

  and_true : (b : Bool) → (b && true) ≡ b
  and_true true = refl
  and_true false = refl

  of_pair : (a b : Axis) (ds : List Cell) → has_sheet (map (λ c. record { axis = a; cell = c; span = b }) ds) x ≡ ((same_axis x.axis a && same_axis x.span b) && list_any (same_cell x.cell) ds)
  of_pair a b [] = sym (and-false (same_axis x.axis a && same_axis x.span b))
  of_pair a b (d ∷ ds) = at (same_axis x.axis a) (same_axis x.span b) (of_pair a b ds)
    where
      at : (t u : Bool) → has_sheet (map (λ c. record { axis = a; cell = c; span = b }) ds) x ≡ ((t && u) && list_any (same_cell x.cell) ds)
          → ((t && (same_cell x.cell d && u)) || has_sheet (map (λ c. record { axis = a; cell = c; span = b }) ds) x) ≡ ((t && u) && (same_cell x.cell d || list_any (same_cell x.cell) ds))
      at true true ih = rw (and_true (same_cell x.cell d)) (ap (λ r. same_cell x.cell d || r) ih)
      at true false ih = rw (and-false (same_cell x.cell d)) ih
      at false u ih = ih

  of_pairs : (ps : List (Axis × Axis)) → has_sheet (flat_map with_axes ps) x ≡ (list_any has_axes ps && list_any (same_cell x.cell) cs)
  of_pairs [] = refl
  of_pairs (a ∷ ps) =
      list_any-append (same_sheet x) (with_axes a) (flat_map with_axes ps)
      ∙ ap (λ b. b || has_sheet (flat_map with_axes ps) x) (of_pair a.0 a.1 cs)
      ∙ ap (λ b. (has_axes a && list_any (same_cell x.cell) cs) || b) (of_pairs ps)
      ∙ either (has_axes a) (list_any has_axes ps) (list_any (same_cell x.cell) cs)
    where
      either : (p q c : Bool) → ((p && c) || (q && c)) ≡ ((p || q) && c)
      either true q true = refl
      either true q false = and-false q
      either false q c = refl

  two_axes : (a b : Axis) → list_any (λ p. same_axis a p.0 && same_axis b p.1) sheet_axes ≡ not (same_axis a b)
  two_axes I I = refl
  two_axes I J = refl
  two_axes I K = refl
  two_axes J I = refl
  two_axes J J = refl
  two_axes J K = refl
  two_axes K I = refl
  two_axes K J = refl
  two_axes K K = refl

and_swap : (a b : Bool) → (a && b) ≡ (b && a)
and_swap true true = refl
and_swap true false = refl
and_swap false true = refl
and_swap false false = refl

listed_fits : (s : Size) (x : Sheet) → has_sheet (all_sheets s) x ≡ fits s x
listed_fits s x =
    of_pairs x (cells s) sheet_axes
    ∙ ap (λ b. b && list_any (same_cell x.cell) (cells s)) (two_axes x (cells s) x.axis x.span)
    ∙ ap (λ b. not (same_axis x.axis x.span) && b) (listed_is_held s x.cell)
    ∙ and_swap (not (same_axis x.axis x.span)) (holds s x.cell)

-- ---- the sheets that a test lets through

any-filter : (test : Sheet → Bool) (x : Sheet) (ys : List Sheet) → has_sheet (filter test ys) x ≡ (has_sheet ys x && test x)
any-filter test x [] = refl
any-filter test x (y ∷ ys) = at (same_sheet x y) refl (test y) refl (any-filter test x ys)
  where
    and_no : (b : Bool) → (b && false) ≡ false
    and_no true = refl
    and_no false = refl

    at : (t : Bool) → same_sheet x y ≡ t → (b : Bool) → test y ≡ b → has_sheet (filter test ys) x ≡ (has_sheet ys x && test x)
        → has_sheet (cond b (y ∷ filter test ys) (filter test ys)) x ≡ ((same_sheet x y || has_sheet ys x) && test x)
    at true t true e ih = let is : test x ≡ true = ap test (same_sheet-is x y t) ∙ e in rw (t, is) refl
    at true t false e ih = let is : test x ≡ false = ap test (same_sheet-is x y t) ∙ e in rw t (ih ∙ rw is (and_no (has_sheet ys x)))
    at false t true e ih = rw t ih
    at false t false e ih = rw t ih

-- a sheet is among those that a test lets through where the box has room for it and it passes
pub has-sheets_by : (s : Size) (test : Sheet → Bool) (x : Sheet) → has_sheet (sheets_by s test) x ≡ (fits s x && test x)
has-sheets_by s test x = any-filter test x (all_sheets s) ∙ ap (λ b. b && test x) (listed_fits s x)

each_listed : (ys : List Sheet) (p : Sheet → Bool) → ((x : Sheet) → has_sheet ys x ≡ true → p x ≡ true) → list_all p ys ≡ true
each_listed [] p h = refl
each_listed (y ∷ ys) p h =
    and_from (p y) (list_all p ys) (h y (or_left (same_sheet y y) (has_sheet ys y) (same_sheet-refl y))) (each_listed ys p (λ x e. h x (or_right (same_sheet x y) (has_sheet ys x) e)))

filter_among : (p test : Sheet → Bool) (ys : List Sheet) → list_all p ys ≡ true → filter test ys ≡ filter (λ x. p x && test x) ys
filter_among p test [] h = refl
filter_among p test (y ∷ ys) h =
    let q = and_parts (p y) (list_all p ys) h in
    rw q.0 (ap (λ zs. cond (test y) (y ∷ zs) zs) (filter_among p test ys q.1))

-- they are in order
pub in_order : (s : Size) (test : Sheet → Bool) → AreInOrder s (sheets_by s test)
in_order s test =
    filter_among (has_sheet (all_sheets s)) test (all_sheets s) (each_listed (all_sheets s) (has_sheet (all_sheets s)) (λ x e. e))
    ∙ sym (λ t. sheets_by s (λ x. any-filter test x (all_sheets s) t))

-- where none passes there is none
pub none_by : (s : Size) (test : Sheet → Bool) → ((x : Sheet) → test x ≡ false) → sheets_by s test ≡ []
none_by s test none = go (all_sheets s)
  where
    go : (ys : List Sheet) → filter test ys ≡ []
    go [] = refl
    go (y ∷ ys) = rw (none y) (go ys)

-- ---- several flows

pub all_in_order : (s : Size) (test : ℕ → Sheet → Bool) (first n : ℕ) → All (AreInOrder s) (map (λ f. sheets_by s (test f)) (numbers_from first n))
all_in_order s test first n =
    All-map (AreInOrder s) (λ f. sheets_by s (test f)) (numbers_from first n) (λ k d h. in_order s (test (get_or (numbers_from first n) k d)))

-- ---- sheets in order are told by what is listed

lists_tell : (s : Size) (xs ys : List (List Sheet)) → All (AreInOrder s) xs → All (AreInOrder s) ys → length xs ≡ length ys
    → ((f : ℕ) (x : Sheet) → has_sheet (get_or xs f []) x ≡ has_sheet (get_or ys f []) x) → xs ≡ ys
lists_tell s [] [] p q long same = refl
lists_tell s [] (y ∷ ys) p q long same = absurd (omega arith)
lists_tell s (x ∷ xs) [] p q long same = absurd (omega arith)
lists_tell s (x ∷ xs) (y ∷ ys) p q long same =
    let first : x ≡ y = p 0 x (omega arith) ∙ (λ t. sheets_by s (λ z. same 0 z t)) ∙ sym (q 0 y (omega arith)) in
    let later : xs ≡ ys = lists_tell s xs ys (λ k d h. p (suc k) d (omega arith)) (λ k d h. q (suc k) d (omega arith)) (omega arith) (λ f. same (suc f)) in
    λ t. first t ∷ later t

pub sheets_tell : SheetsTell
sheets_tell s t p q size long same u =
    record { size = size u; flows = lists_tell t.size s.flows t.flows (subst (λ b. All (AreInOrder b) s.flows) size p.order) q.order long same u }

-- all or none: all pass a test, or none does
pub all_or_no : {X : Type 0} (f : X → Bool) (xs : List X) → all_or_none (map f xs) ≡ (list_all f xs || list_all (λ x. not (f x)) xs)
all_or_no f [] = refl
all_or_no f (x ∷ xs) = by_first (f x)
  where
    by_first : (b : Bool) → list_all (agree b) (map f xs) ≡ ((b && list_all f xs) || (not b && list_all (λ x. not (f x)) xs))
    by_first true = list_all-map (agree true) f xs ∙ sym (or-false (list_all f xs))
    by_first false = list_all-map (agree false) f xs
