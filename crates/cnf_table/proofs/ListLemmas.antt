-- Tests of all and of some elements of a list.
use Rattle.std.proofs.Common.{◌≡◌, ℕ, zero, suc, Bool, true, false, cond, ◌&&◌, ◌||◌, not, List, [], ◌∷◌, map, Some, slice_get, refl, sym, ap, ap₂, ◌∙◌}
use Rattle.std.specs.List.{list_all, list_any, filter, flat_map}
use Rattle.std.proofs.lemmas.Bool.{and_parts, and_from}
use Rattle.std.proofs.lemmas.List.Folds.{list_all-append}
use Rattle.cnf_table.specs.Clauses.{only_if}

pub list_all-flat_map : {X Y : Type 0} (p : Y → Bool) (f : X → List Y) (xs : List X) → list_all p (flat_map f xs) ≡ list_all (λ x. list_all p (f x)) xs
list_all-flat_map p f [] = refl
list_all-flat_map p f (x ∷ xs) = list_all-append p (f x) (flat_map f xs) ∙ ap (λ b. list_all p (f x) && b) (list_all-flat_map p f xs)

pub list_any-map : {X Y : Type 0} (p : Y → Bool) (f : X → Y) (xs : List X) → list_any p (map f xs) ≡ list_any (λ x. p (f x)) xs
list_any-map p f [] = refl
list_any-map p f (x ∷ xs) = ap (λ b. p (f x) || b) (list_any-map p f xs)

module _ {X : Type 0} where
  -- what a filter keeps passes a test, where each element passes it or is not kept
  pub list_all-filter : (f g : X → Bool) (xs : List X) → list_all f (filter g xs) ≡ list_all (λ x. not (g x) || f x) xs
  list_all-filter f g [] = refl
  list_all-filter f g (x ∷ xs) = by_test (g x) (list_all-filter f g xs)
    where
      by_test : (b : Bool) → list_all f (filter g xs) ≡ list_all (λ x. not (g x) || f x) xs → list_all f (cond b (x ∷ filter g xs) (filter g xs)) ≡ ((not b || f x) && list_all (λ x. not (g x) || f x) xs)
      by_test true ih = ap (λ b. f x && b) ih
      by_test false ih = ih

  pub list_any-filter : (f g : X → Bool) (xs : List X) → list_any f (filter g xs) ≡ list_any (λ x. g x && f x) xs
  list_any-filter f g [] = refl
  list_any-filter f g (x ∷ xs) = by_test (g x) (list_any-filter f g xs)
    where
      by_test : (b : Bool) → list_any f (filter g xs) ≡ list_any (λ x. g x && f x) xs → list_any f (cond b (x ∷ filter g xs) (filter g xs)) ≡ ((b && f x) || list_any (λ x. g x && f x) xs)
      by_test true ih = ap (λ b. f x || b) ih
      by_test false ih = ih

  pub list_all-and : (f g : X → Bool) (xs : List X) → list_all (λ x. f x && g x) xs ≡ (list_all f xs && list_all g xs)
  list_all-and f g [] = refl
  list_all-and f g (x ∷ xs) = ap (λ b. (f x && g x) && b) (list_all-and f g xs) ∙ sorted (f x) (g x) (list_all f xs) (list_all g xs)
    where
      sorted : (a b c d : Bool) → ((a && b) && (c && d)) ≡ ((a && c) && (b && d))
      sorted true true c d = refl
      sorted true false true d = refl
      sorted true false false d = refl
      sorted false b c d = refl

  pub list_all-true : (xs : List X) → list_all (λ x. true) xs ≡ true
  list_all-true [] = refl
  list_all-true (x ∷ xs) = list_all-true xs

  pub list_all-only_if : (f : X → Bool) (b : Bool) (xs : List X) → list_all f (only_if b xs) ≡ (not b || list_all f xs)
  list_all-only_if f true xs = refl
  list_all-only_if f false xs = refl

  pub or-list_all : (b : Bool) (f : X → Bool) (xs : List X) → list_all (λ x. b || f x) xs ≡ (b || list_all f xs)
  or-list_all true f xs = list_all-true xs
  or-list_all false f xs = refl

  -- two tests that agree where a third passes
  pub same_where : (g p q : X → Bool) (xs : List X) → list_all g xs ≡ true → ((x : X) → g x ≡ true → p x ≡ q x) → list_all p xs ≡ list_all q xs
  same_where g p q [] a e = refl
  same_where g p q (x ∷ xs) a e =
      let parts = and_parts (g x) (list_all g xs) a in
      ap₂ (λ b c. b && c) (e x parts.0) (same_where g p q xs parts.1 e)

  -- an element passes a test that all pass
  pub all_get : (f : X → Bool) (xs : List X) (n : ℕ) (x : X) → list_all f xs ≡ true → slice_get xs n ≡ Some x → f x ≡ true
  all_get f [] n x all e = absurd (cc)
  all_get f (y ∷ ys) zero x all e = let same : y ≡ x = cc in ap f (sym same) ∙ (and_parts (f y) (list_all f ys) all).0
  all_get f (y ∷ ys) (suc n) x all e = all_get f ys n x (and_parts (f y) (list_all f ys) all).1 e

  pub all_weaker : (f g : X → Bool) (xs : List X) → ((x : X) → f x ≡ true → g x ≡ true) → list_all f xs ≡ true → list_all g xs ≡ true
  all_weaker f g [] e all = refl
  all_weaker f g (x ∷ xs) e all =
      let parts = and_parts (f x) (list_all f xs) all in
      and_from (g x) (list_all g xs) (e x parts.0) (all_weaker f g xs e parts.1)

-- tests of pairs, by the first or by the second
pub list_all-swap : {X Y : Type 0} (f : X → Y → Bool) (xs : List X) (ys : List Y) → list_all (λ x. list_all (f x) ys) xs ≡ list_all (λ y. list_all (λ x. f x y) xs) ys
list_all-swap f [] ys = sym (list_all-true ys)
list_all-swap f (x ∷ xs) ys = ap (λ b. list_all (f x) ys && b) (list_all-swap f xs ys) ∙ sym (list_all-and (f x) (λ y. list_all (λ x. f x y) xs) ys)
