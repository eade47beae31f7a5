-- Tests of equality on cells and axes decide it.
use Rattle.std.proofs.Common.{◌≡◌, ℕ, zero, suc, Bool, true, false, ◌&&◌, ◌||◌, nat_eq, not, List, [], ◌∷◌, Some, slice_get, ◌⊎◌, inl, inr, refl, sym, ◌∙◌, ap}
use Rattle.std.specs.List.{list_all, list_any}
use Rattle.std.proofs.lemmas.Bool.{and_parts, cases_Bool, eqb-true, eq-eqb, both_ways}
use Rattle.las_base.specs.declared.Axis.{Axis}
use Rattle.las_base.specs.declared.Axis.TheVariants.{I, J, K}
use Rattle.las_base.specs.declared.Kind.{Kind}
use Rattle.las_base.specs.declared.Cell.{Cell}
use Rattle.las_base.specs.declared.Size.{Size}
use Rattle.las_base.specs.Axes.{same_axis, kind_by, same_kind}
use Rattle.las_base.specs.Cells.{same_cell, same_size, holds, cells, index}
use Rattle.las_base.proofs.Blocks.{all_indexed, all_held}

pub same_cell-is : (x y : Cell) → same_cell x y ≡ true → x ≡ y
same_cell-is x y e =
    let p = and_parts (nat_eq x.i y.i) (nat_eq x.j y.j && nat_eq x.k y.k) e in
    let q = and_parts (nat_eq x.j y.j) (nat_eq x.k y.k) p.1 in
    let ei : x.i ≡ y.i = eqb-true x.i y.i p.0 in
    let ej : x.j ≡ y.j = eqb-true x.j y.j q.0 in
    let ek : x.k ≡ y.k = eqb-true x.k y.k q.1 in
    λ t. record { i = ei t; j = ej t; k = ek t }

pub same_cell-refl : (x : Cell) → same_cell x x ≡ true
same_cell-refl x = rw (eq-eqb x.i x.i refl, eq-eqb x.j x.j refl, eq-eqb x.k x.k refl) refl

pub same_size-is : (s t : Size) → same_size s t ≡ true → s ≡ t
same_size-is s t e =
    let p = and_parts (nat_eq s.i t.i) (nat_eq s.j t.j && nat_eq s.k t.k) e in
    let q = and_parts (nat_eq s.j t.j) (nat_eq s.k t.k) p.1 in
    let ei : s.i ≡ t.i = eqb-true s.i t.i p.0 in
    let ej : s.j ≡ t.j = eqb-true s.j t.j q.0 in
    let ek : s.k ≡ t.k = eqb-true s.k t.k q.1 in
    λ x. record { i = ei x; j = ej x; k = ek x }

pub same_sides : (s t : Size) → s.i ≡ t.i → s.j ≡ t.j → s.k ≡ t.k → s ≡ t
same_sides s t ei ej ek =
    let make : ℕ → ℕ → ℕ → Size = λ i j k. record { i = i; j = j; k = k } in
    ap (λ i. make i s.j s.k) ei ∙ ap (λ j. make t.i j s.k) ej ∙ ap (λ k. make t.i t.j k) ek

pub same_size-refl : (s : Size) → same_size s s ≡ true
same_size-refl s = rw (eq-eqb s.i s.i refl, eq-eqb s.j s.j refl, eq-eqb s.k s.k refl) refl

pub same_axis-is : (a b : Axis) → same_axis a b ≡ true → a ≡ b
same_axis-is I I e = refl
same_axis-is J J e = refl
same_axis-is K K e = refl
same_axis-is I J e = cc
same_axis-is I K e = cc
same_axis-is J I e = cc
same_axis-is J K e = cc
same_axis-is K I e = cc
same_axis-is K J e = cc

pub same_axis-refl : (a : Axis) → same_axis a a ≡ true
same_axis-refl I = refl
same_axis-refl J = refl
same_axis-refl K = refl

pub kind_by-same : (k : Kind) → kind_by (same_kind k Kind.Z) ≡ k
kind_by-same Kind.X = refl
kind_by-same Kind.Z = refl

-- a test that follows from another and gives it is the same test
pub same_test : (a b : Bool) → (a ≡ true → b ≡ true) → (b ≡ true → a ≡ true) → a ≡ b
same_test true b f g = sym (f refl)
same_test false true f g = g refl
same_test false false f g = refl

pub same_cell-sym : (x y : Cell) → same_cell x y ≡ same_cell y x
same_cell-sym x y = same_test _ _ (λ e. rw (same_cell-is x y e) (same_cell-refl y)) (λ e. rw (same_cell-is y x e) (same_cell-refl x))

pub same_size-sym : (s t : Size) → same_size s t ≡ same_size t s
same_size-sym s t = same_test _ _ (λ e. rw (same_size-is s t e) (same_size-refl t)) (λ e. rw (same_size-is t s e) (same_size-refl s))

pub any_at : {X : Type 0} (test : X → Bool) (xs : List X) (n : ℕ) (x : X) → slice_get xs n ≡ Some x → test x ≡ true → list_any test xs ≡ true
any_at test [] n x e t = absurd (cc)
any_at test (y ∷ ys) zero x e t = let same : y ≡ x = cc in rw (same, t) refl
any_at test (y ∷ ys) (suc n) x e t = rw (any_at test ys n x e t) (or_true (test y))
  where
    or_true : (b : Bool) → (b || true) ≡ true
    or_true true = refl
    or_true false = refl

pub none_any : {X : Type 0} (test : X → Bool) (xs : List X) → list_all (λ x. not (test x)) xs ≡ true → list_any test xs ≡ false
none_any test [] h = refl
none_any test (x ∷ xs) h =
    let p = and_parts (not (test x)) (list_all (λ x. not (test x)) xs) h in
    at (test x) p.0 (none_any test xs p.1)
  where
    at : (b : Bool) → not b ≡ true → list_any test xs ≡ false → (b || list_any test xs) ≡ false
    at true e ih = absurd (cc)
    at false e ih = ih

-- the cells of a box are those that it holds
pub listed_is_held : (s : Size) (c : Cell) → list_any (same_cell c) (cells s) ≡ holds s c
listed_is_held s c = by_test (cases_Bool (holds s c))
  where
    by_test : (holds s c ≡ true) ⊎ (holds s c ≡ false) → list_any (same_cell c) (cells s) ≡ holds s c
    by_test (inl h) = any_at (same_cell c) (cells s) (index s c) c (all_indexed s c h) (same_cell-refl c) ∙ sym h
    by_test (inr out) = none_any (same_cell c) (cells s) (all_held (λ x. not (same_cell c x)) s (λ x h. other x h (cases_Bool (same_cell c x)))) ∙ sym out
      where
        other : (x : Cell) → holds s x ≡ true → (same_cell c x ≡ true) ⊎ (same_cell c x ≡ false) → not (same_cell c x) ≡ true
        other x h (inl t) = absurd (both_ways (holds s c) out (rw (same_cell-is c x t) h))
        other x h (inr t) = rw t refl
