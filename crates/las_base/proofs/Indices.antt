-- Cells and their indices.
use Rattle.std.proofs.Common.{◌≡◌, ℕ, zero, suc, ◌+◌, ◌*◌, ◌/◌, ◌%◌, ◌<◌, true, ◌&&◌, nat_lt, Some, slice_get, ap, ◌∙◌, subst, arith, ◌≢◌, false, ◌⊎◌, inl, inr, sym, ◌≤◌}
use Rattle.std.proofs.lemmas.Nat.{div-mul-add, mod-mul-add, div-add-mod', div_below, mod_below, mul-add-lt}
use Rattle.std.proofs.lemmas.Bool.{and_parts, and_from, ltb-true, lt-ltb, cases_Bool, ltb-false, le-ltb}
use Rattle.las_base.specs.declared.Cell.{Cell}
use Rattle.las_base.specs.declared.Size.{Size}
use Rattle.las_base.specs.Cells.{holds, cells, volume, index}
use Rattle.las_base.proofs.Blocks.{all_indexed}

pub held_parts : (s : Size) (c : Cell) → holds s c ≡ true → (c.i < s.i) × (c.j < s.j) × (c.k < s.k)
held_parts s c h =
    let p = and_parts (nat_lt c.i s.i) (nat_lt c.j s.j && nat_lt c.k s.k) h in
    let q = and_parts (nat_lt c.j s.j) (nat_lt c.k s.k) p.1 in
    (ltb-true c.i s.i p.0, ltb-true c.j s.j q.0, ltb-true c.k s.k q.1)

pub held_from : (s : Size) (c : Cell) → c.i < s.i → c.j < s.j → c.k < s.k → holds s c ≡ true
held_from s c i j k = and_from (nat_lt c.i s.i) (nat_lt c.j s.j && nat_lt c.k s.k) (lt-ltb c.i s.i i) (and_from (nat_lt c.j s.j) (nat_lt c.k s.k) (lt-ltb c.j s.j j) (lt-ltb c.k s.k k))

-- cells of equal coordinates are one
pub cell_is : (a b : Cell) → a.i ≡ b.i → a.j ≡ b.j → a.k ≡ b.k → a ≡ b
cell_is a b p q r =
    let at_i : ℕ → Cell = λ n. record { i = n; j = a.j; k = a.k } in
    let at_j : ℕ → Cell = λ n. record { i = b.i; j = n; k = a.k } in
    let at_k : ℕ → Cell = λ n. record { i = b.i; j = b.j; k = n } in
    ap at_i p ∙ ap at_j q ∙ ap at_k r

-- the cell with an index
abbrev pub cell_at : Size → ℕ → Cell
cell_at s n = record { i = n / s.k / s.j; j = n / s.k % s.j; k = n % s.k }

pub cell_at-index : (s : Size) (c : Cell) → holds s c ≡ true → cell_at s (index s c) ≡ c
cell_at-index s c h =
    let parts = held_parts s c h in
    let row : index s c / s.k ≡ c.i * s.j + c.j = div-mul-add (c.i * s.j + c.j) s.k c.k parts.2 in
    let i_is : index s c / s.k / s.j ≡ c.i = ap (λ n. n / s.j) row ∙ div-mul-add c.i s.j c.j parts.1 in
    let j_is : index s c / s.k % s.j ≡ c.j = ap (λ n. n % s.j) row ∙ mod-mul-add c.i s.j c.j parts.1 in
    cell_is _ _ i_is j_is (mod-mul-add (c.i * s.j + c.j) s.k c.k parts.2)

pub index-cell_at : (s : Size) (n : ℕ) → index s (cell_at s n) ≡ n
index-cell_at s n = ap (λ m. m * s.k + n % s.k) (div-add-mod' (n / s.k) s.j) ∙ div-add-mod' n s.k

pub index_below : (s : Size) (c : Cell) → holds s c ≡ true → index s c < volume s
index_below s c h =
    let parts = held_parts s c h in
    let row = mul-add-lt c.i s.j c.j s.i parts.0 parts.1 in
    let rows : c.i * s.j + c.j < s.i * s.j = omega (arith, row) in
    let all = mul-add-lt (c.i * s.j + c.j) s.k c.k (s.i * s.j) rows parts.2 in
    omega (arith, all)

sides_above : (i j k n : ℕ) → n < i * j * k → (0 < j) × (0 < k)
sides_above i j zero n h = absurd (omega arith)
sides_above i zero (suc k) n h = absurd (grind arith)
sides_above i (suc j) (suc k) n h = (omega arith, omega arith)

pub cell_at_held : (s : Size) (n : ℕ) → n < volume s → holds s (cell_at s n) ≡ true
cell_at_held s n h =
    let above = sides_above s.i s.j s.k n h in
    held_from s (cell_at s n) (div_below (n / s.k) s.j s.i above.0 (div_below n s.k (s.i * s.j) above.1 h)) (mod_below (n / s.k) s.j above.0) (mod_below n s.k above.1)

-- the cell with an index below the volume stands there in the list of cells
pub listed_at : (s : Size) (n : ℕ) → n < volume s → slice_get (cells s) n ≡ Some (cell_at s n)
listed_at s n h = subst (λ k. slice_get (cells s) k ≡ Some (cell_at s n)) (index-cell_at s n) (all_indexed s (cell_at s n) (cell_at_held s n h))

-- below one more, for another number
pub nat_lt-more : (n m : ℕ) → n ≢ m → nat_lt n (suc m) ≡ nat_lt n m
nat_lt-more n m other = by_test (cases_Bool (nat_lt n m))
  where
    by_test : (nat_lt n m ≡ true) ⊎ (nat_lt n m ≡ false) → nat_lt n (suc m) ≡ nat_lt n m
    by_test (inl t) = let low : n < m = ltb-true n m t in lt-ltb n (suc m) (omega arith) ∙ sym t
    by_test (inr t) = let high : m ≤ n = ltb-false n m t in le-ltb n (suc m) (omega (arith, other)) ∙ sym t
