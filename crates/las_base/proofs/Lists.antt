-- Lists of which each element passes a test, and lists with one element more.
use Rattle.std.proofs.Common.{◌≡◌, ℕ, zero, suc, Bool, true, false, cond, ◌||◌, List, [], ◌∷◌, ◌++◌, map, take, Some, slice_get, refl, sym, ap, ap₂, ◌∙◌}
use Rattle.std.specs.List.{list_all, list_any, filter, find}
use Rattle.std.proofs.lemmas.Bool.{and_parts, and_from}
use Rattle.std.proofs.lemmas.List.Folds.{list_any-append}
use Rattle.std.proofs.Math.Bool.{or-false}

module _ {X : Type 0} where
  -- a test that each element passes gives a weaker one
  pub all_more : (p q : X → Bool) → ((x : X) → p x ≡ true → q x ≡ true) → (xs : List X) → list_all p xs ≡ true → list_all q xs ≡ true
  all_more p q weaker [] all = refl
  all_more p q weaker (x ∷ xs) all =
      let parts = and_parts (p x) (list_all p xs) all in
      and_from (q x) (list_all q xs) (weaker x parts.0) (all_more p q weaker xs parts.1)

  -- an element that is found passes a test that all pass
  pub all_found : (f g : X → Bool) (xs : List X) (x : X) → list_all f xs ≡ true → find g xs ≡ Some x → f x ≡ true
  all_found f g [] x all e = absurd (cc)
  all_found f g (y ∷ ys) x all e =
      let parts = and_parts (f y) (list_all f ys) all in
      by_test (g y) e parts.0 (all_found f g ys x parts.1)
    where
      by_test : (b : Bool) → cond b (Some y) (find g ys) ≡ Some x → f y ≡ true → (find g ys ≡ Some x → f x ≡ true) → f x ≡ true
      by_test true e passed later = let same : y ≡ x = cc in ap f (sym same) ∙ passed
      by_test false e passed later = later e

  -- what a filter keeps passes its test
  pub filter_passes : (f : X → Bool) (xs : List X) → list_all f (filter f xs) ≡ true
  filter_passes f [] = refl
  filter_passes f (x ∷ xs) = by_test (f x) refl (filter_passes f xs)
    where
      by_test : (b : Bool) → f x ≡ b → list_all f (filter f xs) ≡ true → list_all f (cond b (x ∷ filter f xs) (filter f xs)) ≡ true
      by_test true e rest = and_from (f x) (list_all f (filter f xs)) e rest
      by_test false e rest = rest

  -- two functions that agree where a test passes
  pub map_where : {Y : Type 0} (c : X → Bool) (f g : X → Y) (xs : List X) → list_all c xs ≡ true → ((x : X) → c x ≡ true → f x ≡ g x) → map f xs ≡ map g xs
  map_where c f g [] all same = refl
  map_where c f g (x ∷ xs) all same =
      let parts = and_parts (c x) (list_all c xs) all in
      ap₂ (λ y ys. y ∷ ys) (same x parts.0) (map_where c f g xs parts.1 same)

  pub any_push : (test : X → Bool) (xs : List X) (x : X) → list_any test (xs ++ x ∷ []) ≡ (list_any test xs || test x)
  any_push test xs x = list_any-append test xs (x ∷ []) ∙ ap (λ r. list_any test xs || r) (or-false (test x))

  -- the front with one element more
  pub taken_next : (xs : List X) (n : ℕ) (x : X) → slice_get xs n ≡ Some x → take (suc n) xs ≡ take n xs ++ x ∷ []
  taken_next [] n x at = absurd (cc)
  taken_next (y ∷ ys) zero x at = let same : y ≡ x = cc in rw same refl
  taken_next (y ∷ ys) (suc n) x at = ap (λ l. y ∷ l) (taken_next ys n x at)
