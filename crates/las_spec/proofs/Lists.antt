-- Lists of which each element passes a test, and lists that were made from others.
use Rattle.std.proofs.Common.{◌≡◌, ℕ, ◌+◌, Bool, true, not, cond, nat_lt, List, [], ◌∷◌, ◌++◌, map, length, Option, Some, None, refl, ap, ◌∙◌, arith}
use Rattle.std.specs.Prelude.{position}
use Rattle.std.specs.List.{list_all, filter_map, prefix_len}
use Rattle.std.proofs.lemmas.Bool.{and_parts, and_from, le-ltb}
use Rattle.std.proofs.lemmas.List.Folds.{list_all-map}
use Rattle.las_base.proofs.Lists.{all_more}

pub all_of_each : {X : Type 0} (test : X → Bool) → ((x : X) → test x ≡ true) → (xs : List X) → list_all test xs ≡ true
all_of_each test h [] = refl
all_of_each test h (x ∷ xs) = and_from (test x) (list_all test xs) (h x) (all_of_each test h xs)

whole_front : {X : Type 0} (test : X → Bool) (xs : List X) → list_all test xs ≡ true → prefix_len test xs ≡ length xs
whole_front test [] e = refl
whole_front test (x ∷ xs) e =
    let s = and_parts (test x) (list_all test xs) e in
    rw s.0 (ap (λ n. 1 + n) (whole_front test xs s.1) ∙ omega arith)

-- no element passes
pub no_position : {X : Type 0} (test : X → Bool) (xs : List X) → list_all (λ x. not (test x)) xs ≡ true → position test xs ≡ None
no_position test xs e = at (prefix_len (λ x. not (test x)) xs) (whole_front (λ x. not (test x)) xs e)
  where
    at : (n : ℕ) → n ≡ length xs → cond (nat_lt n (length xs)) (Some n) None ≡ None
    at n same = rw (le-ltb n (length xs) (omega arith)) refl

-- what was made from a thing gives the thing back
pub map_back : {A B : Type 0} (f : A → B) (g : B → A) → ((x : A) → g (f x) ≡ x) → (xs : List A) → map g (map f xs) ≡ xs
map_back f g h [] = refl
map_back f g h (x ∷ xs) = ap (λ y. y ∷ map g (map f xs)) (h x) ∙ ap (λ ys. x ∷ ys) (map_back f g h xs)

pub filter_back : {A B : Type 0} (f : A → B) (g : B → Option A) → ((x : A) → g (f x) ≡ Some x) → (xs : List A) → filter_map g (map f xs) ≡ xs
filter_back f g h [] = refl
filter_back f g h (x ∷ xs) = rw (h x) (ap (λ ys. x ∷ ys) (filter_back f g h xs))

-- no thing's image passes
pub no_position_made : {A B : Type 0} (test : B → Bool) (g : A → B) (pass : A → Bool) → ((x : A) → pass x ≡ true → not (test (g x)) ≡ true) → (xs : List A) → list_all pass xs ≡ true → position test (map g xs) ≡ None
no_position_made test g pass h xs e = no_position test (map g xs) (list_all-map (λ y. not (test y)) g xs ∙ all_more pass (λ x. not (test (g x))) h xs e)

pub all_push : {X : Type 0} (test : X → Bool) (xs : List X) (x : X) → list_all test xs ≡ true → test x ≡ true → list_all test (xs ++ x ∷ []) ≡ true
all_push test [] x e t = and_from (test x) true t refl
all_push test (y ∷ ys) x e t =
    let s = and_parts (test y) (list_all test ys) e in
    and_from (test y) (list_all test (ys ++ x ∷ [])) s.0 (all_push test ys x s.1 t)
