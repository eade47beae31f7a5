-- Evenness, and all or none, of the truth values that a list gives.
use Rattle.std.proofs.Common.{◌≡◌, ℕ, suc, ◌%◌, Bool, true, false, cond, not, ◌&&◌, ◌||◌, nat_eq, List, [], ◌∷◌, map, length, refl, sym, ap, ◌∙◌, arith}
use Rattle.std.specs.List.{list_all, filter, count_by}
use Rattle.std.proofs.lemmas.Bool.{eq-eqb, ne_eqb, eqb-true, eqb-false}
use Rattle.std.proofs.lemmas.List.Folds.{list_all-map}
use Rattle.std.proofs.lemmas.List.Sums.{length-filter}
use Rattle.grid_box.specs.Sheets.{agree, is_odd, all_or_none}

next_parity : (n : ℕ) → nat_eq (suc n % 2) 0 ≡ not (nat_eq (n % 2) 0)
next_parity n = by_test (nat_eq (n % 2) 0) refl
  where
    by_test : (b : Bool) → nat_eq (n % 2) 0 ≡ b → nat_eq (suc n % 2) 0 ≡ not b
    by_test true t = let e : n % 2 ≡ 0 = eqb-true (n % 2) 0 t in ne_eqb (suc n % 2) 0 (λ h. let k : suc n % 2 ≡ 0 = h in omega arith)
    by_test false t = let e = eqb-false (n % 2) 0 t in eq-eqb (suc n % 2) 0 (omega (arith, e))

even_length : {X : Type 0} (f : X → Bool) (xs : List X) → not (is_odd (map f xs)) ≡ nat_eq (length (filter f xs) % 2) 0
even_length f [] = refl
even_length f (x ∷ xs) = by_test (f x) (even_length f xs)
  where
    by_test : (b : Bool) → not (is_odd (map f xs)) ≡ nat_eq (length (filter f xs) % 2) 0 → not (cond b (not (is_odd (map f xs))) (is_odd (map f xs))) ≡ nat_eq (length (cond b (x ∷ filter f xs) (filter f xs)) % 2) 0
    by_test true ih = ap not ih ∙ sym (next_parity (length (filter f xs)))
    by_test false ih = ih

-- the count is even where it is not odd
pub even_count : {X : Type 0} (f : X → Bool) (xs : List X) → not (is_odd (map f xs)) ≡ nat_eq (count_by f xs % 2) 0
even_count f xs = even_length f xs ∙ ap (λ n. nat_eq (n % 2) 0) (length-filter f xs)

-- all or none, by two tests
pub all_or_no : {X : Type 0} (f : X → Bool) (xs : List X) → all_or_none (map f xs) ≡ (list_all (λ x. agree true (f x)) xs || list_all (λ x. agree false (f x)) xs)
all_or_no f [] = refl
all_or_no f (x ∷ xs) = by_test (f x)
  where
    or_no : (b : Bool) → (b || false) ≡ b
    or_no true = refl
    or_no false = refl

    by_test : (b : Bool) → list_all (agree b) (map f xs) ≡ ((b && list_all (λ x. agree true (f x)) xs) || (not b && list_all (λ x. agree false (f x)) xs))
    by_test true = list_all-map (agree true) f xs ∙ sym (or_no (list_all (λ x. agree true (f x)) xs))
    by_test false = list_all-map (agree false) f xs
