-- Tests of the cells of a box, of its inner cells, and of those beyond its far faces.
use Rattle.std.proofs.Common.{◌≡◌, ◌-◌, Bool, true, false, cond, ◌&&◌, ◌||◌, not, nat_eq, List, [], ◌∷◌, Some, None, ◌⊎◌, inl, inr, refl, sym, ap, ◌∙◌, arith}
use Rattle.std.specs.List.{list_all, list_any}
use Rattle.std.proofs.lemmas.Bool.{and_parts, cases_Bool, eqb-false}
use Rattle.las_base.specs.declared.Axis.{Axis}
use Rattle.las_base.specs.declared.Axis.TheVariants.{I, J, K}
use Rattle.las_base.specs.declared.Way.{Way}
use Rattle.las_base.specs.declared.Way.TheVariants.{Plus, Minus}
use Rattle.las_base.specs.declared.Cell.{Cell}
use Rattle.las_base.specs.declared.Size.{Size}
use Rattle.las_base.specs.Cells.{holds, index, cells, coordinate, with_coordinate, above, low_cell, same_cell, widened}
use Rattle.las_base.specs.Jobs.{Task, is_port_place}
use Rattle.las_base.proofs.Blocks.{all_indexed, all_held}
use Rattle.las_base.proofs.Indices.{cell_is}
use Rattle.las_base.proofs.Same.{same_cell-is, same_cell-refl, same_test}
use Rattle.las_base.proofs.Widened.{held_wide}
use Rattle.grid_box.specs.PipeRules.{◌==>◌, everywhere}
use Rattle.cnf_table.specs.Positions.{low_of, inner_cells}
use Rattle.cnf_table.proofs.ListLemmas.{all_get, list_all-filter, list_all-swap, list_all-and, same_where, list_all-true}

pub all_of : (test : Cell → Bool) (s : Size) → list_all test (cells s) ≡ true → (c : Cell) → holds s c ≡ true → test c ≡ true
all_of test s all c h = all_get test (cells s) (index s c) c all (all_indexed s c h)

-- the cells of a box suffice for a test that passes at each other cell
pub narrowed : (test : Cell → Bool) (s : Size) → ((c : Cell) → holds s c ≡ false → test c ≡ true) → list_all test (cells s) ≡ list_all test (cells (widened s))
narrowed test s outside =
    same_test _ _
    (λ all. all_held test (widened s) (λ c w. by_test c (cases_Bool (holds s c)) all))
    (λ all. all_held test s (λ c h. all_of test (widened s) all c (held_wide s c h)))
  where
    by_test : (c : Cell) → (holds s c ≡ true) ⊎ (holds s c ≡ false) → list_all test (cells s) ≡ true → test c ≡ true
    by_test c (inl h) all = all_of test s all c h
    by_test c (inr out) all = outside c out

-- the inner cells suffice for a test that passes at each port's place and outside the box
pub inner_suffice : (t : Task) (test : Cell → Bool) → ((c : Cell) → is_port_place t c ≡ true → test c ≡ true) → ((c : Cell) → is_port_place t c ≡ false → holds t.size c ≡ false → test c ≡ true) → list_all test (inner_cells t) ≡ everywhere t test
inner_suffice t test places outside =
    list_all-filter test (λ c. not (is_port_place t c)) (cells t.size)
    ∙ same_test _ _
    (λ all. all_held test (widened t.size) (λ c w. by_place c (cases_Bool (is_port_place t c)) (cases_Bool (holds t.size c)) all))
    (λ all. all_held (λ c. not (not (is_port_place t c)) || test c) t.size (λ c h. or_later (not (not (is_port_place t c))) (test c) (all_of test (widened t.size) all c (held_wide t.size c h))))
  where
    or_later : (a b : Bool) → b ≡ true → (a || b) ≡ true
    or_later true b e = refl
    or_later false b e = e

    not_place : (a b : Bool) → a ≡ false → (not (not a) || b) ≡ true → b ≡ true
    not_place true b e f = absurd (cc)
    not_place false b e f = f

    by_place : (c : Cell) → (is_port_place t c ≡ true) ⊎ (is_port_place t c ≡ false) → (holds t.size c ≡ true) ⊎ (holds t.size c ≡ false) → list_all (λ c. not (not (is_port_place t c)) || test c) (cells t.size) ≡ true → test c ≡ true
    by_place c (inl p) h all = places c p
    by_place c (inr p) (inr out) all = outside c p out
    by_place c (inr p) (inl h) all = not_place (is_port_place t c) (test c) p (all_of (λ c. not (not (is_port_place t c)) || test c) t.size all c h)

implied : (b : Bool) → b ≡ true → (x : Bool) → (b ==> x) ≡ x
implied true e x = refl
implied false e x = absurd (cc)

-- a test of one named cell
pub all_at_one : (s : Size) (test : Cell → Bool) (x : Cell) → holds s x ≡ true → list_all (λ c. same_cell x c ==> test c) (cells s) ≡ test x
all_at_one s test x h =
    same_test _ _
    (λ all. sym (implied (same_cell x x) (same_cell-refl x) (test x)) ∙ all_of (λ c. same_cell x c ==> test c) s all x h)
    (λ e. all_held (λ c. same_cell x c ==> test c) s (λ c w. at c (same_cell x c) refl e))
  where
    at : (c : Cell) (b : Bool) → same_cell x c ≡ b → test x ≡ true → (b ==> test c) ≡ true
    at c true t e = ap test (sym (same_cell-is x c t)) ∙ e
    at c false t e = refl

-- what is asked of ports at each cell is asked of each port at its place
pub at_places : {X : Type 0} (s : Size) (place : X → Cell) (test : Cell → X → Bool) (xs : List X) → list_all (λ x. holds s (place x)) xs ≡ true → list_all (λ c. list_all (λ x. same_cell (place x) c ==> test c x) xs) (cells s) ≡ list_all (λ x. test (place x) x) xs
at_places s place test xs held =
    list_all-swap (λ c x. same_cell (place x) c ==> test c x) (cells s) xs
    ∙ same_where (λ x. holds s (place x)) (λ x. list_all (λ c. same_cell (place x) c ==> test c x) (cells s)) (λ x. test (place x) x) xs held (λ x h. all_at_one s (λ c. test c x) (place x) h)

-- what is asked of forbidden cells at each cell is asked of each of them
pub at_listed : (s : Size) (test : Cell → Bool) (xs : List Cell) → list_all (holds s) xs ≡ true → list_all (λ c. list_any (same_cell c) xs ==> test c) (cells s) ≡ list_all test xs
at_listed s test [] held = list_all-true (cells s)
at_listed s test (x ∷ xs) held =
    let parts = and_parts (holds s x) (list_all (holds s) xs) held in
    (λ i. list_all (λ c. split c i) (cells s))
    ∙ list_all-and (λ c. same_cell x c ==> test c) (λ c. list_any (same_cell c) xs ==> test c) (cells s)
    ∙ (λ i. all_at_one s test x parts.0 i && at_listed s test xs parts.1 i)
  where
    same_cell-swap : (c : Cell) → same_cell c x ≡ same_cell x c
    same_cell-swap c = same_test _ _ (λ e. rw (same_cell-is c x e) (same_cell-refl x)) (λ e. rw (same_cell-is x c e) (same_cell-refl c))

    either : (a b z : Bool) → ((a || b) ==> z) ≡ ((a ==> z) && (b ==> z))
    either true true true = refl
    either true true false = refl
    either true false true = refl
    either true false false = refl
    either false b z = refl

    split : (c : Cell) → ((same_cell c x || list_any (same_cell c) xs) ==> test c) ≡ ((same_cell x c ==> test c) && (list_any (same_cell c) xs ==> test c))
    split c = ap (λ b. (b || list_any (same_cell c) xs) ==> test c) (same_cell-swap c) ∙ either (same_cell x c) (list_any (same_cell c) xs) (test c)

-- a position that has a low cell has this one
pub low_case : (c : Cell) (p : Axis × Way) → (low_cell c p.0 p.1 ≡ None) ⊎ (low_cell c p.0 p.1 ≡ Some (low_of c p))
low_case c (a, Plus) = inr refl
low_case c (a, Minus) = at (nat_eq (coordinate c a) 0)
  where
    at : (b : Bool) → (cond b None (Some (with_coordinate c a (coordinate c a - 1))) ≡ None) ⊎ (cond b None (Some (with_coordinate c a (coordinate c a - 1))) ≡ Some (with_coordinate c a (coordinate c a - 1)))
    at true = inl refl
    at false = inr refl

-- the pipe one down leads up to the cell
pub above_low : (c : Cell) (a : Axis) (x : Cell) → low_cell c a Minus ≡ Some x → above a x ≡ c
above_low c a x e = by_zero (nat_eq (coordinate c a) 0) refl e
  where
    up : (a : Axis) → (coordinate c a ≡ 0 → ⊥) → above a (with_coordinate c a (coordinate c a - 1)) ≡ c
    up I n = cell_is _ _ (omega arith) refl refl
    up J n = cell_is _ _ refl (omega arith) refl
    up K n = cell_is _ _ refl refl (omega arith)

    by_zero : (b : Bool) → nat_eq (coordinate c a) 0 ≡ b → cond b None (Some (with_coordinate c a (coordinate c a - 1))) ≡ Some x → above a x ≡ c
    by_zero true z f = absurd (cc)
    by_zero false z f = let same : with_coordinate c a (coordinate c a - 1) ≡ x = cc in ap (above a) (sym same) ∙ up a (eqb-false (coordinate c a) 0 z)
