-- Literals: a variable has two, each the other's negation.
use Rattle.std.proofs.Common.{◌≡◌, ℕ, ◌+◌, ◌-◌, ◌*◌, ◌/◌, ◌%◌, ◌<◌, ◌≤◌, Bool, true, false, not, nat_eq, nat_lt, List, [], ◌∷◌, map, refl, sym, ap, ◌∙◌, arith, inl, inr, ◌⊎◌}
use Rattle.std.specs.List.{list_all}
use Rattle.std.proofs.lemmas.Bool.{and_parts, and_from, or_cases, or_left, or_right, ltb-true, lt-ltb, eqb-true, eq-eqb, eqb-false, ne_eqb, cases_eq}
use Rattle.cnf_base.specs.declared.literal.Lit.{Lit}
use Rattle.cnf_base.specs.Literals.{variable, negation, same_lit, has_lit, plain, negated, Clause, Values, lit_true, are_below}

-- numbers are compared either way round
pub nat_eq-sym : (m n : ℕ) → nat_eq m n ≡ nat_eq n m
nat_eq-sym m n = elim (cases_eq m n) as (λ _. nat_eq m n ≡ nat_eq n m) [
  | inl e ↦ eq-eqb m n e ∙ sym (eq-eqb n m (sym e))
  | inr d ↦ ne_eqb m n d ∙ sym (ne_eqb n m (λ e. d (sym e)))
]

pub lit_is : (l m : Lit) → l.0 ≡ m.0 → l ≡ m
lit_is l m e = ap (λ (k : ℕ). record { 0 = k }) e

pub same_lit-refl : (l : Lit) → same_lit l l ≡ true
same_lit-refl l = eq-eqb l.0 l.0 refl

pub same_lit-is : (l m : Lit) → same_lit l m ≡ true → l ≡ m
same_lit-is l m e = lit_is l m (eqb-true l.0 m.0 e)

pub not_same : (l m : Lit) → (l.0 ≡ m.0 → ⊥) → same_lit l m ≡ false
not_same l m n = ne_eqb l.0 m.0 n

-- a literal's number is even and the next one is its negation's, or odd and the one before
pub negation_cases : (l : Lit) → ((l.0 % 2 ≡ 0) × ((negation l).0 ≡ l.0 + 1)) ⊎ ((l.0 % 2 ≡ 1) × ((negation l).0 ≡ l.0 - 1))
negation_cases l = elim (cases_eq (l.0 % 2) 0) [ inl e ↦ inl (e, rw (eq-eqb (l.0 % 2) 0 e) refl) | inr n ↦ inr (omega arith, rw (ne_eqb (l.0 % 2) 0 n) refl) ]

pub negation-twice : (l : Lit) → negation (negation l) ≡ l
negation-twice l =
    lit_is (negation (negation l)) l
    (elim (negation_cases l) [
      | inl (e, f) ↦ elim (negation_cases (negation l)) [ inl (g, h) ↦ omega arith | inr (g, h) ↦ omega arith ]
      | inr (e, f) ↦ elim (negation_cases (negation l)) [ inl (g, h) ↦ omega arith | inr (g, h) ↦ omega arith ]
    ])

pub variable-negation : (l : Lit) → variable (negation l) ≡ variable l
variable-negation l = elim (negation_cases l) [ inl (e, f) ↦ omega arith | inr (e, f) ↦ omega arith ]

-- no literal is its own negation, by its number and as it is
pub negation_differs : (l : Lit) → (negation l).0 ≡ l.0 → ⊥
negation_differs l q = elim (negation_cases l) [ inl (e, f) ↦ omega arith | inr (e, f) ↦ omega arith ]

pub not_own_negation : (l : Lit) → l ≡ negation l → ⊥
not_own_negation l e = negation_differs l (ap (λ (m : Lit). m.0) (sym e))

pub negation_below : (l : Lit) (n : ℕ) → variable l < n → (negation l).0 < 2 * n
negation_below l n lt = elim (negation_cases l) [ inl (e, f) ↦ omega arith | inr (e, f) ↦ omega arith ]

-- literals of one variable are one, or each other's negations
pub one_variable : (l m : Lit) → variable l ≡ variable m → (l ≡ m) ⊎ (l ≡ negation m)
one_variable l m e =
    elim (negation_cases m) [
      | inl (a, b) ↦ elim (cases_eq l.0 m.0) [ inl q ↦ inl (lit_is l m q) | inr n ↦ inr (lit_is l (negation m) (omega arith)) ]
      | inr (a, b) ↦ elim (cases_eq l.0 m.0) [ inl q ↦ inl (lit_is l m q) | inr n ↦ inr (lit_is l (negation m) (omega arith)) ]
    ]

-- the negations of two literals are one where the literals are
pub negation_same : (l m : Lit) → negation l ≡ m → l ≡ negation m
negation_same l m e = sym (negation-twice l) ∙ ap negation e

-- what is the negation of a literal is negated by it
pub negation_back : (l m : Lit) → l ≡ negation m → negation l ≡ m
negation_back l m e = ap negation e ∙ negation-twice m

-- ---- by the variable

-- a literal is its variable's plain one or its negated one
pub two_of : (l : Lit) → (l ≡ plain (variable l)) ⊎ (l ≡ negated (variable l))
two_of l = at (nat_eq (l.0 % 2) 0) refl
  where
    at : (b : Bool) → nat_eq (l.0 % 2) 0 ≡ b → (l ≡ plain (variable l)) ⊎ (l ≡ negated (variable l))
    at true e = let r : l.0 % 2 ≡ 0 = eqb-true (l.0 % 2) 0 e in let n : l.0 ≡ 2 * (l.0 / 2) = omega arith in inl (ap (λ (k : ℕ). record { 0 = k }) n)
    at false e = let r : l.0 % 2 ≡ 0 → ⊥ = eqb-false (l.0 % 2) 0 e in let n : l.0 ≡ 2 * (l.0 / 2) + 1 = omega arith in inr (ap (λ (k : ℕ). record { 0 = k }) n)

pub negation-plain : (x : ℕ) → negation (plain x) ≡ negated x
negation-plain x = let e : 2 * x % 2 ≡ 0 = omega arith in rw e refl

pub negation-negated : (x : ℕ) → negation (negated x) ≡ plain x
negation-negated x =
    let e : nat_eq ((2 * x + 1) % 2) 0 ≡ false = ne_eqb ((2 * x + 1) % 2) 0 (λ h. omega arith) in
    let d : 2 * x + 1 - 1 ≡ 2 * x = omega arith in
    rw (e, d) refl

pub lit_true-plain : (v : Values) (x : ℕ) → lit_true v (plain x) ≡ v x
lit_true-plain v x = let e : 2 * x % 2 ≡ 0 = omega arith in let d : 2 * x / 2 ≡ x = omega arith in rw (e, d) refl

pub lit_true-negated : (v : Values) (x : ℕ) → lit_true v (negated x) ≡ not (v x)
lit_true-negated v x =
    let e : nat_eq ((2 * x + 1) % 2) 0 ≡ false = ne_eqb ((2 * x + 1) % 2) 0 (λ h. omega arith) in
    let d : (2 * x + 1) / 2 ≡ x = omega arith in
    rw (e, d) refl

-- ---- lists of literals

-- a literal of the list is in it
pub has_lit-here : (ls : List Lit) (l : Lit) → has_lit (l ∷ ls) l ≡ true
has_lit-here ls l = or_left (same_lit l l) (has_lit ls l) (same_lit-refl l)

pub has_lit-later : (ls : List Lit) (m l : Lit) → has_lit ls l ≡ true → has_lit (m ∷ ls) l ≡ true
has_lit-later ls m l h = or_right (same_lit l m) (has_lit ls l) h

-- a literal of a longer list is its head or in the rest
pub has_lit-cases : (ls : List Lit) (m l : Lit) → has_lit (m ∷ ls) l ≡ true → (l ≡ m) ⊎ (has_lit ls l ≡ true)
has_lit-cases ls m l h = elim (or_cases (same_lit l m) (has_lit ls l) h) as (λ _. (l ≡ m) ⊎ (has_lit ls l ≡ true)) [ inl e ↦ inl (same_lit-is l m e) | inr e ↦ inr e ]

-- the negations of a list
pub has_lit-negations : (ls : List Lit) (l : Lit) → has_lit ls l ≡ true → has_lit (map negation ls) (negation l) ≡ true
has_lit-negations [] l h = cc
has_lit-negations (m ∷ ms) l h =
    elim (has_lit-cases ms m l h) as (λ _. has_lit (map negation (m ∷ ms)) (negation l) ≡ true) [
      | inl e ↦ or_left (same_lit (negation l) (negation m)) (has_lit (map negation ms) (negation l)) (ap (λ (k : Lit). same_lit (negation l) (negation k)) (sym e) ∙ same_lit-refl (negation l))
      | inr e ↦ or_right (same_lit (negation l) (negation m)) (has_lit (map negation ms) (negation l)) (has_lit-negations ms l e)
    ]

pub negations_has_lit : (ls : List Lit) (l : Lit) → has_lit (map negation ls) l ≡ true → has_lit ls (negation l) ≡ true
negations_has_lit [] l h = cc
negations_has_lit (m ∷ ms) l h =
    elim (has_lit-cases (map negation ms) (negation m) l h) as (λ _. has_lit (m ∷ ms) (negation l) ≡ true) [
      | inl e ↦ or_left (same_lit (negation l) m) (has_lit ms (negation l)) (ap (λ (k : Lit). same_lit k m) (negation_back l m e) ∙ same_lit-refl m)
      | inr e ↦ or_right (same_lit (negation l) m) (has_lit ms (negation l)) (negations_has_lit ms l e)
    ]

-- what holds of each literal of a list, as a test
pub all_by : (q : Lit → Bool) (c : List Lit) → ((m : Lit) → has_lit c m ≡ true → q m ≡ true) → list_all q c ≡ true
all_by q [] h = refl
all_by q (m ∷ ms) h = and_from (q m) (list_all q ms) (h m (has_lit-here ms m)) (all_by q ms (λ l e. h l (has_lit-later ms m l e)))

-- what is below a number is below a greater one
pub are_below-wider : (n m : ℕ) (c : Clause) → n ≤ m → are_below n c ≡ true → are_below m c ≡ true
are_below-wider n m [] le b = refl
are_below-wider n m (l ∷ ls) le b =
    let p = and_parts (nat_lt (variable l) n) (are_below n ls) b in
    let k : variable l < n = ltb-true (variable l) n p.0 in
    and_from (nat_lt (variable l) m) (are_below m ls) (lt-ltb (variable l) m (omega arith)) (are_below-wider n m ls le p.1)
