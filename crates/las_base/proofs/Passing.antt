-- Cells that pass a test, as a loop over their numbers goes through them.
use Rattle.std.proofs.Common.{◌≡◌, ◌≢◌, ℕ, suc, ◌<◌, ◌≤◌, Bool, true, false, cond, ◌&&◌, nat_lt, refl, sym, ap, ◌∙◌, subst, arith}
use Rattle.std.proofs.lemmas.Bool.{both_ways, lt-ltb, le-ltb}
use Rattle.std.proofs.Math.Bool.{and-false}
use Rattle.las_base.specs.declared.Cell.{Cell}
use Rattle.las_base.specs.declared.Size.{Size}
use Rattle.las_base.specs.Cells.{holds, volume, index, same_cell}
use Rattle.las_base.proofs.Same.{same_cell-is, same_cell-refl}
use Rattle.las_base.proofs.Indices.{cell_at, cell_at-index, index_below, nat_lt-more}

-- the cell has a number below n, and passes a test
abbrev pub passed : Size → ℕ → (Cell → Bool) → Cell → Bool
passed s n test c = holds s c && (nat_lt (index s c) n && test c)

module _ (s : Size) (test : Cell → Bool) where
  pub passed_none : (c : Cell) → passed s 0 test c ≡ false
  passed_none c = rw (le-ltb (index s c) 0 (omega arith)) (and-false (holds s c))

  -- with one number more
  pub passed_more : (n : ℕ) (cell : Cell) → holds s cell ≡ true → index s cell ≡ n → (c : Cell) → passed s (suc n) test c ≡ cond (same_cell cell c) (test cell) (passed s n test c)
  passed_more n cell held at c = by_test (same_cell cell c) refl
    where
      other : same_cell cell c ≡ false → holds s c ≡ true → index s c ≢ n
      other t h e =
          let same : cell ≡ c = sym (cell_at-index s cell held) ∙ ap (cell_at s) (at ∙ sym e) ∙ cell_at-index s c h in
          both_ways (same_cell cell c) t (subst (λ x. same_cell cell x ≡ true) same (same_cell-refl cell))

      by_holds : same_cell cell c ≡ false → (b : Bool) → holds s c ≡ b → (b && (nat_lt (index s c) (suc n) && test c)) ≡ (b && (nat_lt (index s c) n && test c))
      by_holds t true h = ap (λ b. b && test c) (nat_lt-more (index s c) n (other t h))
      by_holds t false h = refl

      by_test : (t : Bool) → same_cell cell c ≡ t → passed s (suc n) test c ≡ cond t (test cell) (passed s n test c)
      by_test true t =
          let same : c ≡ cell = sym (same_cell-is cell c t) in
          rw (same, held, at, lt-ltb n (suc n) (omega arith)) refl
      by_test false t = by_holds t (holds s c) refl

  -- a cell that fails adds nothing
  pub passed_same : (n : ℕ) (cell : Cell) → holds s cell ≡ true → index s cell ≡ n → test cell ≡ false → (c : Cell) → passed s (suc n) test c ≡ passed s n test c
  passed_same n cell held at none c = passed_more n cell held at c ∙ by_test (same_cell cell c) refl
    where
      not_yet : passed s n test cell ≡ false
      not_yet = rw (held, at, le-ltb n n (omega arith)) refl

      by_test : (t : Bool) → same_cell cell c ≡ t → cond t (test cell) (passed s n test c) ≡ passed s n test c
      by_test true t = none ∙ sym not_yet ∙ ap (passed s n test) (same_cell-is cell c t)
      by_test false t = refl

  -- with all numbers
  pub passed_all : (n : ℕ) → volume s ≤ n → (c : Cell) → passed s n test c ≡ (holds s c && test c)
  passed_all n end c = by_holds (holds s c) refl
    where
      by_holds : (b : Bool) → holds s c ≡ b → (b && (nat_lt (index s c) n && test c)) ≡ (b && test c)
      by_holds true h = let low : index s c < n = omega (arith, index_below s c h, end) in rw (lt-ltb (index s c) n low) refl
      by_holds false h = refl
