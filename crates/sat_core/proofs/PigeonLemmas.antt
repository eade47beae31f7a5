-- What is apart by its keys, each of them in a list, is no longer than the list.
use Rattle.std.proofs.Common.{◌≡◌, ℕ, suc, ◌≤◌, Bool, true, false, cond, ◌||◌, nat_eq, List, [], ◌∷◌, map, length, refl, sym, ap, ◌∙◌, arith, inl, inr, ◌⊎◌}
use Rattle.std.specs.List.{list_any, filter}
use Rattle.std.proofs.lemmas.Bool.{or_cases, or_left, or_right, both_ways, eqb-true, eq-eqb}
use Rattle.sat_core.proofs.AmongLemmas.{Among}

-- no two have one key
abbrev pub Apart : {X : Type 0} → (X → ℕ) → List X → Type 0
Apart key [] = Unit {0}
Apart {X} key (x ∷ xs) = ((y : X) → Among y xs → key x ≡ key y → ⊥) × Apart key xs

-- the list without the first that is this number
abbrev pub less_one : ℕ → List ℕ → List ℕ
less_one k [] = []
less_one k (y ∷ ys) = cond (nat_eq k y) ys (y ∷ less_one k ys)

less_one-length : (k : ℕ) (ys : List ℕ) → list_any (nat_eq k) ys ≡ true → suc (length (less_one k ys)) ≡ length ys
less_one-length k [] h = absurd (both_ways false refl h)
less_one-length k (y ∷ ys) h = at (nat_eq k y) h (less_one-length k ys)
  where
    at : (b : Bool) → (b || list_any (nat_eq k) ys) ≡ true → (list_any (nat_eq k) ys ≡ true → suc (length (less_one k ys)) ≡ length ys) → suc (length (cond b ys (y ∷ less_one k ys))) ≡ suc (length ys)
    at true h ih = refl
    at false h ih = ap suc (ih h)

less_one-keeps : (k q : ℕ) (ys : List ℕ) → (k ≡ q → ⊥) → list_any (nat_eq q) ys ≡ true → list_any (nat_eq q) (less_one k ys) ≡ true
less_one-keeps k q [] n h = h
less_one-keeps k q (y ∷ ys) n h = at (nat_eq k y) refl (less_one-keeps k q ys n) (or_cases (nat_eq q y) (list_any (nat_eq q) ys) h)
  where
    at : (b : Bool) → nat_eq k y ≡ b → (list_any (nat_eq q) ys ≡ true → list_any (nat_eq q) (less_one k ys) ≡ true) → (nat_eq q y ≡ true) ⊎ (list_any (nat_eq q) ys ≡ true) → list_any (nat_eq q) (cond b ys (y ∷ less_one k ys)) ≡ true
    at true e ih (inl s) = absurd (n (eqb-true k y e ∙ sym (eqb-true q y s)))
    at true e ih (inr s) = s
    at false e ih (inl s) = or_left (nat_eq q y) (list_any (nat_eq q) (less_one k ys)) s
    at false e ih (inr s) = or_right (nat_eq q y) (list_any (nat_eq q) (less_one k ys)) (ih s)

pub no_more : {X : Type 0} (key : X → ℕ) (xs : List X) (ys : List ℕ) → Apart key xs → ((x : X) → Among x xs → list_any (nat_eq (key x)) ys ≡ true) → length xs ≤ length ys
no_more key [] ys apart within = omega arith
no_more key (x ∷ xs) ys apart within =
    let long = less_one-length (key x) ys (within x (inl refl)) in
    let ih = no_more key xs (less_one (key x) ys) apart.1 (λ y h. less_one-keeps (key x) (key y) ys (apart.0 y h) (within y (inr h))) in
    omega arith

-- what passes a test stands in the list, and passes it
pub among_passed : {X : Type 0} (p : X → Bool) (x : X) (xs : List X) → Among x (filter p xs) → Among x xs × (p x ≡ true)
among_passed p x [] h = absurd h
among_passed {X} p x (y ∷ ys) h = at (p y) refl h (among_passed p x ys)
  where
    at : (b : Bool) → p y ≡ b → Among x (cond b (y ∷ filter p ys) (filter p ys)) → (Among x (filter p ys) → Among x ys × (p x ≡ true)) → Among x (y ∷ ys) × (p x ≡ true)
    at true e (inl same) ih = (inl same, ap p (sym same) ∙ e)
    at true e (inr k) ih = (inr (ih k).0, (ih k).1)
    at false e k ih = (inr (ih k).0, (ih k).1)

pub apart_filter : {X : Type 0} (key : X → ℕ) (p : X → Bool) (xs : List X) → Apart key xs → Apart key (filter p xs)
apart_filter key p [] a = tt
apart_filter {X} key p (x ∷ xs) a = at (p x) (apart_filter key p xs a.1)
  where
    at : (b : Bool) → Apart key (filter p xs) → Apart key (cond b (x ∷ filter p xs) (filter p xs))
    at true k = ((λ y h. a.0 y (among_passed p y xs h).0), k)
    at false k = k

-- a key of the list is in the list of keys
pub key_among : {X : Type 0} (key : X → ℕ) (x : X) (xs : List X) → Among x xs → list_any (nat_eq (key x)) (map key xs) ≡ true
key_among key x [] h = absurd h
key_among key x (y ∷ ys) (inl e) = or_left (nat_eq (key x) (key y)) (list_any (nat_eq (key x)) (map key ys)) (eq-eqb (key x) (key y) (ap key (sym e)))
key_among key x (y ∷ ys) (inr h) = or_right (nat_eq (key x) (key y)) (list_any (nat_eq (key x)) (map key ys)) (key_among key x ys h)
