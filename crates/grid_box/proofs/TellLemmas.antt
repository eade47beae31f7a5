-- A drawing's look-ups tell the drawing.
use Rattle.std.proofs.Common.{◌≡◌, ◌<◌, Bool, true, false, cond, ◌||◌, nat_eq, nat_lt, List, [], ◌∷◌, Some, None, ◌⊎◌, inl, inr, refl, sym, ap, ◌∙◌, subst, arith}
use Rattle.std.specs.List.{list_all, list_any, find}
use Rattle.std.proofs.lemmas.Bool.{and_parts, and_from, eqb-true, ltb-true}
use Rattle.las_base.specs.declared.Axis.{Axis}
use Rattle.las_base.specs.declared.Axis.TheVariants.{I, J, K}
use Rattle.las_base.specs.declared.Cell.{Cell}
use Rattle.las_base.specs.Axes.{same_axis}
use Rattle.las_base.specs.Cells.{same_cell, cell_before, rises}
use Rattle.las_base.proofs.Same.{same_cell-is, same_cell-refl, same_axis-is, same_axis-refl}
use Rattle.grid_box.specs.Drawings.{Pipe, is_pipe_at, axis_before, pipe_before}
use Rattle.grid_box.specs.LookUps.{LookUpsTell}

-- ---- the order of cells and of pipes

abbrev Before : Cell → Cell → Type 0
Before a b = (a.i < b.i) ⊎ ((a.i ≡ b.i) × ((a.j < b.j) ⊎ ((a.j ≡ b.j) × (a.k < b.k))))

before_parts : (a b : Cell) → cell_before a b ≡ true → Before a b
before_parts a b h = by_i (nat_eq a.i b.i) refl (nat_eq a.j b.j) refl h
  where
    by_i : (t : Bool) → nat_eq a.i b.i ≡ t → (u : Bool) → nat_eq a.j b.j ≡ u → cond t (cond u (nat_lt a.k b.k) (nat_lt a.j b.j)) (nat_lt a.i b.i) ≡ true → Before a b
    by_i true t true u l = inr (eqb-true a.i b.i t, inr (eqb-true a.j b.j u, ltb-true a.k b.k l))
    by_i true t false u l = inr (eqb-true a.i b.i t, inl (ltb-true a.j b.j l))
    by_i false t u w l = inl (ltb-true a.i b.i l)

one_way : (a b : Cell) → Before a b → Before b a → ⊥
one_way a b (inl p) (inl q) = absurd (omega arith)
one_way a b (inl p) (inr q) = let e = q.0 in absurd (omega arith)
one_way a b (inr p) (inl q) = let e = p.0 in absurd (omega arith)
one_way a b (inr (e, inl p)) (inr (f, inl q)) = absurd (omega arith)
one_way a b (inr (e, inl p)) (inr (f, inr q)) = let g = q.0 in absurd (omega arith)
one_way a b (inr (e, inr p)) (inr (f, inl q)) = let g = p.0 in absurd (omega arith)
one_way a b (inr (e, inr p)) (inr (f, inr q)) = let g = p.1 in let h = q.1 in absurd (omega arith)

pub cell_before-one_way : (a b : Cell) → cell_before a b ≡ true → cell_before b a ≡ true → ⊥
cell_before-one_way a b p q = one_way a b (before_parts a b p) (before_parts b a q)

abbrev key_before : Axis → Cell → Axis → Cell → Bool
key_before a c b d = cond (same_axis a b) (cell_before c d) (axis_before a b)

key_before-one_way : (a b : Axis) (c d : Cell) → key_before a c b d ≡ true → key_before b d a c ≡ true → ⊥
key_before-one_way I I c d p q = cell_before-one_way c d p q
key_before-one_way J J c d p q = cell_before-one_way c d p q
key_before-one_way K K c d p q = cell_before-one_way c d p q
key_before-one_way I J c d p q = absurd (cc)
key_before-one_way I K c d p q = absurd (cc)
key_before-one_way J K c d p q = absurd (cc)
key_before-one_way J I c d p q = absurd (cc)
key_before-one_way K I c d p q = absurd (cc)
key_before-one_way K J c d p q = absurd (cc)

-- ---- lists in order, each element with a key of its own

module _ {E X : Type 0} (before : X → X → Bool) (at : E → X → Bool) (key : X → E) (at_key : (x : X) → at (key x) x ≡ true)
    (after : (k : E) (x y : X) → at k x ≡ true → before x y ≡ true → at k y ≡ false) (one_way : (x y : X) → before x y ≡ true → before y x ≡ true → ⊥) where
  none_after : (k : E) (x : X) (ys : List X) → at k x ≡ true → list_all (before x) ys ≡ true → find (at k) ys ≡ None
  none_after k x [] here all = refl
  none_after k x (y ∷ ys) here all =
      let p = and_parts (before x y) (list_all (before x) ys) all in
      rw (after k x y here p.0) (none_after k x ys here p.1)

  found_passes : (test : X → Bool) (k : E) (ys : List X) (x : X) → list_all test ys ≡ true → find (at k) ys ≡ Some x → test x ≡ true
  found_passes test k [] x all e = absurd (cc)
  found_passes test k (y ∷ ys) x all e =
      let p = and_parts (test y) (list_all test ys) all in
      by_test (at k y) e p.0 (found_passes test k ys x p.1)
    where
      by_test : (b : Bool) → cond b (Some y) (find (at k) ys) ≡ Some x → test y ≡ true → (find (at k) ys ≡ Some x → test x ≡ true) → test x ≡ true
      by_test true e p later = let same : y ≡ x = cc in subst (λ z. test z ≡ true) same p
      by_test false e p later = later e

  -- the first of one list is the first of the other, or stands behind it
  first_or_after : (x y : X) (xs ys : List X) → list_all (before y) ys ≡ true → find (at (key x)) (x ∷ xs) ≡ find (at (key x)) (y ∷ ys) → (x ≡ y) ⊎ (before y x ≡ true)
  first_or_after x y xs ys all e = by_test (at (key x) y) refl (sym (rw (at_key x) at e))
    where
      by_test : (b : Bool) → at (key x) y ≡ b → cond (at (key x) y) (Some y) (find (at (key x)) ys) ≡ Some x → (x ≡ y) ⊎ (before y x ≡ true)
      by_test true t f = let g = rw t at f in inl (let same : y ≡ x = cc in sym same)
      by_test false t f = let g = rw t at f in inr (found_passes (before y) (key x) ys x all g)

  firsts_are_one : (x y : X) → (x ≡ y) ⊎ (before y x ≡ true) → (y ≡ x) ⊎ (before x y ≡ true) → x ≡ y
  firsts_are_one x y (inl e) other = e
  firsts_are_one x y (inr p) (inl e) = sym e
  firsts_are_one x y (inr p) (inr q) = absurd (one_way x y q p)

  rest_alike : (x : X) (xs ys : List X) → list_all (before x) xs ≡ true → list_all (before x) ys ≡ true → (k : E) → find (at k) (x ∷ xs) ≡ find (at k) (x ∷ ys) → find (at k) xs ≡ find (at k) ys
  rest_alike x xs ys p q k e = by_test (at k x) refl e
    where
      by_test : (b : Bool) → at k x ≡ b → cond b (Some x) (find (at k) xs) ≡ cond b (Some x) (find (at k) ys) → find (at k) xs ≡ find (at k) ys
      by_test true t e = none_after k x xs t p ∙ sym (none_after k x ys t q)
      by_test false t e = e

  pub lists_are_one : (xs ys : List X) → rises before xs ≡ true → rises before ys ≡ true → ((k : E) → find (at k) xs ≡ find (at k) ys) → xs ≡ ys
  lists_are_one [] [] p q same = refl
  lists_are_one [] (y ∷ ys) p q same = let e = rw (at_key y) at (same (key y)) in absurd (cc)
  lists_are_one (x ∷ xs) [] p q same = let e = rw (at_key x) at (same (key x)) in absurd (cc)
  lists_are_one (x ∷ xs) (y ∷ ys) p q same =
      let px = and_parts (list_all (before x) xs) (rises before xs) p in
      let qy = and_parts (list_all (before y) ys) (rises before ys) q in
      let first : x ≡ y = firsts_are_one x y (first_or_after x y xs ys qy.0 (same (key x))) (first_or_after y x ys xs px.0 (sym (same (key y)))) in
      let after_x : list_all (before x) ys ≡ true = subst (λ z. list_all (before z) ys ≡ true) (sym first) qy.0 in
      let alike : (k : E) → find (at k) (x ∷ xs) ≡ find (at k) (x ∷ ys) = λ k. same k ∙ ap (λ z. find (at k) (z ∷ ys)) (sym first) in
      ap (λ z. z ∷ xs) first ∙ ap (λ zs. y ∷ zs) (lists_are_one xs ys px.1 qy.1 (λ k. rest_alike x xs ys px.0 after_x k (alike k)))

-- ---- pipes and Y cells

pipe_after : (k : Axis × Cell) (p q : Pipe) → is_pipe_at k.0 k.1 p ≡ true → pipe_before p q ≡ true → is_pipe_at k.0 k.1 q ≡ false
pipe_after k p q here before = by_test (is_pipe_at k.0 k.1 q) refl
  where
    by_test : (b : Bool) → is_pipe_at k.0 k.1 q ≡ b → is_pipe_at k.0 k.1 q ≡ false
    by_test false t = t
    by_test true t =
        let m = and_parts (same_axis p.axis k.0) (same_cell p.cell k.1) here in
        let n = and_parts (same_axis q.axis k.0) (same_cell q.cell k.1) t in
        let axis : p.axis ≡ q.axis = same_axis-is p.axis k.0 m.0 ∙ sym (same_axis-is q.axis k.0 n.0) in
        let cell : p.cell ≡ q.cell = same_cell-is p.cell k.1 m.1 ∙ sym (same_cell-is q.cell k.1 n.1) in
        let alike : key_before p.axis p.cell p.axis p.cell ≡ true = ap (λ a. key_before p.axis p.cell a p.cell) axis ∙ ap (key_before p.axis p.cell q.axis) cell ∙ before in
        absurd (key_before-one_way p.axis p.axis p.cell p.cell alike alike)

pipe_key : (p : Pipe) → is_pipe_at p.axis p.cell p ≡ true
pipe_key p = and_from (same_axis p.axis p.axis) (same_cell p.cell p.cell) (same_axis-refl p.axis) (same_cell-refl p.cell)

pub pipes_are_one : (ps qs : List Pipe) → rises pipe_before ps ≡ true → rises pipe_before qs ≡ true → ((a : Axis) (c : Cell) → find (is_pipe_at a c) ps ≡ find (is_pipe_at a c) qs) → ps ≡ qs
pipes_are_one ps qs p q same =
    lists_are_one {E = Axis × Cell} pipe_before (λ k. is_pipe_at k.0 k.1) (λ p. (p.axis, p.cell)) pipe_key pipe_after (λ x y. key_before-one_way x.axis y.axis x.cell y.cell) ps qs p q (λ k. same k.0 k.1)

find_same : (c : Cell) (cs : List Cell) → find (same_cell c) cs ≡ cond (list_any (same_cell c) cs) (Some c) None
find_same c [] = refl
find_same c (x ∷ xs) = by_test (same_cell c x) refl (find_same c xs)
  where
    by_test : (b : Bool) → same_cell c x ≡ b → find (same_cell c) xs ≡ cond (list_any (same_cell c) xs) (Some c) None → cond (same_cell c x) (Some x) (find (same_cell c) xs) ≡ cond (same_cell c x || list_any (same_cell c) xs) (Some c) None
    by_test true t later = rw t (ap Some (sym (same_cell-is c x t)))
    by_test false t later = rw t later

cell_after : (k x y : Cell) → same_cell k x ≡ true → cell_before x y ≡ true → same_cell k y ≡ false
cell_after k x y here before = by_test (same_cell k y) refl
  where
    by_test : (b : Bool) → same_cell k y ≡ b → same_cell k y ≡ false
    by_test false t = t
    by_test true t =
        let same : x ≡ y = sym (same_cell-is k x here) ∙ same_cell-is k y t in
        let alike : cell_before x x ≡ true = ap (cell_before x) same ∙ before in
        absurd (cell_before-one_way x x alike alike)

pub cells_are_one : (cs ds : List Cell) → rises cell_before cs ≡ true → rises cell_before ds ≡ true → ((c : Cell) → list_any (same_cell c) cs ≡ list_any (same_cell c) ds) → cs ≡ ds
cells_are_one cs ds p q same =
    lists_are_one cell_before same_cell (λ c. c) same_cell-refl cell_after cell_before-one_way cs ds p q (λ k. find_same k cs ∙ ap (λ b. cond b (Some k) None) (same k) ∙ sym (find_same k ds))

pub look_ups_tell : LookUpsTell
look_ups_tell d e p q size pipes ys t = record {
  size = size t;
  pipes = pipes_are_one d.pipes e.pipes p.pipe_order q.pipe_order pipes t;
  y_cells = cells_are_one d.y_cells e.y_cells p.y_order q.y_order ys t;
}
