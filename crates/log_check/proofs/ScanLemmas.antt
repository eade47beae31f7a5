-- A clause that is gone through once.
use Rattle.std.proofs.Common.{◌≡◌, ◌⊎◌, ℕ, ◌+◌, ◌-◌, ◌*◌, ◌/◌, ◌%◌, ◌<◌, Bool, true, false, ◌&&◌, ◌||◌, not, cond, List, [], ◌∷◌, ◌++◌, map, length, get_or, take, drop, Option, Some, None, refl, sym, ap, ◌∙◌, subst, arith, inl, inr, nat_eq, nat_lt}
use Rattle.std.specs.List.{list_all, list_any}
use Rattle.std.specs.Option.{option_map}
use Rattle.std.proofs.lemmas.Bool.{eq-eqb, eqb-true, eqb-false, ne_eqb, cases_eq, or_left, or_right, or_from}
use Rattle.std.proofs.lemmas.List.{drop_more, map-append, take_more}
use Rattle.std.proofs.lemmas.List.Folds.{list_any-append}
use Rattle.cnf_base.specs.declared.literal.Lit.{Lit}
use Rattle.cnf_base.specs.Literals.{variable, negation, same_lit, has_lit, Clause, are_below}
use Rattle.cnf_base.specs.Units.{Look, Falsified, OneOpen, Loose, open_lits, look_of, look}
use Rattle.cnf_base.specs.Logs.{clause_of, at_look, at_hint, hint_fault, distinct_vars}
use Rattle.cnf_base.proofs.LitLemmas.{nat_eq-sym, variable-negation}
use Rattle.log_check.specs.Scans.{open_then, has_var, is_fresh}

parity : (n : ℕ) → (n % 2 ≡ 0) ⊎ (n % 2 ≡ 1)
parity n = search arith

pub negation_within : (l : Lit) (vars : ℕ) → variable l < vars → variable (negation l) < vars
negation_within l vars h = subst (λ n. n < vars) (sym (variable-negation l)) h

-- what follows from the open literal, or loose
abbrev pub or_loose : Option (Option Lit) → (Option Lit → Look) → Look
or_loose None go_on = Loose
or_loose (Some only) go_on = go_on only

-- the look of what is left of a clause, by the open literal so far
abbrev pub look_on : List Lit → Option Lit → List Lit → Look
look_on trues None [] = Falsified
look_on trues (Some l) [] = OneOpen l
look_on trues only (l ∷ ls) = or_loose (open_then trues only l) (λ next. look_on trues next ls)

one_open_on : (trues : List Lit) (m : Lit) (ls : List Lit) → look_on trues (Some m) ls ≡ cond (list_all (same_lit m) (open_lits trues ls)) (OneOpen m) Loose
one_open_on trues m [] = refl
one_open_on trues m (l ∷ ls) = at (has_lit trues (negation l)) (same_lit m l) refl (one_open_on trues m ls)
  where
    at : (b s : Bool) → same_lit m l ≡ s → look_on trues (Some m) ls ≡ cond (list_all (same_lit m) (open_lits trues ls)) (OneOpen m) Loose
        → or_loose (cond b (Some (Some m)) (cond s (Some (Some m)) None)) (λ next. look_on trues next ls) ≡ cond (list_all (same_lit m) (cond (not b) (l ∷ open_lits trues ls) (open_lits trues ls))) (OneOpen m) Loose
    at true s e ih = ih
    at false true e ih = ih ∙ ap (λ s. cond (s && list_all (same_lit m) (open_lits trues ls)) (OneOpen m) Loose) (sym e)
    at false false e ih = ap (λ s. cond (s && list_all (same_lit m) (open_lits trues ls)) (OneOpen m) Loose) (sym e)

pub look_on_is_look : (trues : List Lit) (c : List Lit) → look_on trues None c ≡ look trues c
look_on_is_look trues [] = refl
look_on_is_look trues (l ∷ ls) = at (has_lit trues (negation l)) (look_on_is_look trues ls)
  where
    at : (b : Bool) → look_on trues None ls ≡ look trues ls → or_loose (cond b (Some None) (Some (Some l))) (λ next. look_on trues next ls) ≡ look_of (cond (not b) (l ∷ open_lits trues ls) (open_lits trues ls))
    at true ih = ih
    at false ih = one_open_on trues l ls

-- lists of the same literals
abbrev pub SameLits : List Lit → List Lit → Type 0
SameLits xs ys = (l : Lit) → has_lit xs l ≡ has_lit ys l

same_open : (xs ys : List Lit) (c : Clause) → SameLits xs ys → open_lits xs c ≡ open_lits ys c
same_open xs ys [] same = refl
same_open xs ys (l ∷ ls) same =
    ap (λ b. cond (not b) (l ∷ open_lits xs ls) (open_lits xs ls)) (same (negation l))
    ∙ ap (λ os. cond (not (has_lit ys (negation l))) (l ∷ os) os) (same_open xs ys ls same)

same_more : (xs ys : List Lit) (l : Lit) → SameLits xs ys → SameLits (l ∷ xs) (l ∷ ys)
same_more xs ys l same m = ap (λ b. same_lit m l || b) (same m)

pub same_faults : (live : List (ℕ × Clause)) (xs ys : List Lit) (hs : List ℕ) → SameLits xs ys → hint_fault live xs hs ≡ hint_fault live ys hs
same_faults live xs ys [] same = refl
same_faults live xs ys (h ∷ hs) same = at (clause_of live h) (λ l. same_faults live (l ∷ xs) (l ∷ ys) hs (same_more xs ys l same))
  where
    looked : (k : Look) → ((l : Lit) → hint_fault live (l ∷ xs) hs ≡ hint_fault live (l ∷ ys) hs) → at_look k hs (λ l. hint_fault live (l ∷ xs) hs) ≡ at_look k hs (λ l. hint_fault live (l ∷ ys) hs)
    looked Falsified ih = last hs
      where
        last : (hs : List ℕ) → at_look Falsified hs (λ l. hint_fault live (l ∷ xs) hs) ≡ at_look Falsified hs (λ l. hint_fault live (l ∷ ys) hs)
        last [] = refl
        last (_ ∷ _) = refl
    looked (OneOpen l) ih = ih l
    looked Loose ih = refl

    at : (o : Option Clause) → ((l : Lit) → hint_fault live (l ∷ xs) hs ≡ hint_fault live (l ∷ ys) hs) → at_hint o xs hs (λ l. hint_fault live (l ∷ xs) hs) ≡ at_hint o ys hs (λ l. hint_fault live (l ∷ ys) hs)
    at None ih = refl
    at (Some c) ih = ap (λ os. at_look (look_of os) hs (λ l. hint_fault live (l ∷ xs) hs)) (same_open xs ys c same) ∙ looked (look ys c) ih

or_same : (a b : Bool) → (a || b) ≡ (b || (a || false))
or_same true true = refl
or_same true false = refl
or_same false true = refl
or_same false false = refl

-- a literal in front or behind
pub in_front_or_behind : (xs : List Lit) (l : Lit) → SameLits (l ∷ xs) (xs ++ l ∷ [])
in_front_or_behind xs l m = or_same (same_lit m l) (has_lit xs m) ∙ sym (list_any-append (same_lit m) xs (l ∷ []))

-- what one hint comes to, by how its clause looks
abbrev pub at_sight : Option Look → List ℕ → (Lit → Option ℕ) → Option ℕ
at_sight None hs go_on = Some 4
at_sight (Some k) hs go_on = at_look k hs go_on

pub one_hint : (live : List (ℕ × Clause)) (trues : List Lit) (h : ℕ) (hs : List ℕ) (o : Option Look) → o ≡ option_map (look trues) (clause_of live h) → hint_fault live trues (h ∷ hs) ≡ at_sight o hs (λ l. hint_fault live (l ∷ trues) hs)
one_hint live trues h hs o e = at (clause_of live h) o e
  where
    at : (c : Option Clause) (o : Option Look) → o ≡ option_map (look trues) c → at_hint c trues hs (λ l. hint_fault live (l ∷ trues) hs) ≡ at_sight o hs (λ l. hint_fault live (l ∷ trues) hs)
    at None o e = ap (λ o. at_sight o hs (λ l. hint_fault live (l ∷ trues) hs)) (sym e)
    at (Some c) o e = ap (λ o. at_sight o hs (λ l. hint_fault live (l ∷ trues) hs)) (sym e)

-- ---- literals of distinct variables
-- each literal is of a variable that there is, and that none before it has
abbrev pub are_fresh : ℕ → List Lit → List Lit → Bool
are_fresh vars seen [] = true
are_fresh vars seen (l ∷ ls) = (nat_lt (variable l) vars && not (has_var seen l)) && are_fresh vars (seen ++ l ∷ []) ls

all_not : (seen : List Lit) (l : Lit) (ls : List Lit) → list_all (λ m. not (has_var (seen ++ l ∷ []) m)) ls ≡ (list_all (λ m. not (has_var seen m)) ls && not (list_any (λ m. nat_eq (variable l) (variable m)) ls))
all_not seen l [] = refl
all_not seen l (m ∷ ms) =
    ap (λ b. not b && list_all (λ m. not (has_var (seen ++ l ∷ []) m)) ms) (list_any-append (λ k. nat_eq (variable m) (variable k)) seen (l ∷ []) ∙ ap (λ b. has_var seen m || (b || false)) (nat_eq-sym (variable m) (variable l)))
    ∙ ap (λ b. not (has_var seen m || (nat_eq (variable l) (variable m) || false)) && b) (all_not seen l ms)
    ∙ shuffle (has_var seen m) (nat_eq (variable l) (variable m)) (list_all (λ m. not (has_var seen m)) ms) (list_any (λ m. nat_eq (variable l) (variable m)) ms)
  where
    shuffle : (a b c d : Bool) → (not (a || (b || false)) && (c && not d)) ≡ ((not a && c) && not (b || d))
    shuffle true b c d = refl
    shuffle false true false d = refl
    shuffle false true true d = refl
    shuffle false false true d = refl
    shuffle false false false d = refl

fresh_table : (b s ab d la a : Bool) → ((b && not s) && (ab && (d && (la && not a)))) ≡ ((b && ab) && ((not a && d) && (not s && la)))
fresh_table false s ab d la a = refl
fresh_table true true false d la a = refl
fresh_table true true true d la true = refl
fresh_table true true true true la false = refl
fresh_table true true true false la false = refl
fresh_table true false false d la a = refl
fresh_table true false true true true true = refl
fresh_table true false true true false true = refl
fresh_table true false true false true true = refl
fresh_table true false true false false true = refl
fresh_table true false true true true false = refl
fresh_table true false true true false false = refl
fresh_table true false true false true false = refl
fresh_table true false true false false false = refl

fresh_after : (vars : ℕ) (seen ls : List Lit) → are_fresh vars seen ls ≡ (are_below vars ls && (distinct_vars ls && list_all (λ l. not (has_var seen l)) ls))
fresh_after vars seen [] = refl
fresh_after vars seen (l ∷ ls) =
    ap (λ b. (nat_lt (variable l) vars && not (has_var seen l)) && b) (fresh_after vars (seen ++ l ∷ []) ls)
    ∙ ap (λ b. (nat_lt (variable l) vars && not (has_var seen l)) && (are_below vars ls && (distinct_vars ls && b))) (all_not seen l ls)
    ∙ fresh_table (nat_lt (variable l) vars) (has_var seen l) (are_below vars ls) (distinct_vars ls) (list_all (λ m. not (has_var seen m)) ls) (list_any (λ m. nat_eq (variable l) (variable m)) ls)

all_none : (ls : List Lit) → list_all (λ l. not (has_var [] l)) ls ≡ true
all_none [] = refl
all_none (l ∷ ls) = all_none ls

and_true : (a b : Bool) → (a && (b && true)) ≡ (a && b)
and_true false b = refl
and_true true true = refl
and_true true false = refl

pub fresh_are_lawful : (vars : ℕ) (ls : List Lit) → are_fresh vars [] ls ≡ (are_below vars ls && distinct_vars ls)
fresh_are_lawful vars ls = fresh_after vars [] ls ∙ ap (λ b. are_below vars ls && (distinct_vars ls && b)) (all_none ls) ∙ and_true (are_below vars ls) (distinct_vars ls)

-- the two literals of a variable
neg_sum : (l : Lit) → (negation l).0 + l.0 ≡ 4 * (l.0 / 2) + 1
neg_sum l = at (nat_eq (l.0 % 2) 0) refl
  where
    at : (b : Bool) → nat_eq (l.0 % 2) 0 ≡ b → cond b (l.0 + 1) (l.0 - 1) + l.0 ≡ 4 * (l.0 / 2) + 1
    at true e = omega (arith, eqb-true (l.0 % 2) 0 e)
    at false e = omega (arith, eqb-false (l.0 % 2) 0 e)

either_is_var : (l m : Lit) → (same_lit l (negation m) || same_lit (negation l) (negation m)) ≡ nat_eq (variable l) (variable m)
either_is_var l m = elim (cases_eq (variable l) (variable m)) as (λ _. (same_lit l (negation m) || same_lit (negation l) (negation m)) ≡ nat_eq (variable l) (variable m)) [
  | inl e ↦ (elim (cases_eq l.0 (negation m).0) as (λ _. (same_lit l (negation m) || same_lit (negation l) (negation m)) ≡ true) [
    | inl f ↦ or_left (same_lit l (negation m)) (same_lit (negation l) (negation m)) (eq-eqb l.0 (negation m).0 f)
    | inr f ↦ or_right (same_lit l (negation m)) (same_lit (negation l) (negation m)) (eq-eqb (negation l).0 (negation m).0 (other l.0 m.0 (negation l).0 (negation m).0 e f (neg_sum l) (neg_sum m)))
  ]) ∙ sym (eq-eqb (variable l) (variable m) e)
  | inr n ↦ or_from (same_lit l (negation m)) (same_lit (negation l) (negation m))
      (ne_eqb l.0 (negation m).0 (λ f. n (ap (λ k. k / 2) f ∙ variable-negation m)))
      (ne_eqb (negation l).0 (negation m).0 (λ f. n (sym (variable-negation l) ∙ ap (λ k. k / 2) f ∙ variable-negation m)))
      ∙ sym (ne_eqb (variable l) (variable m) n)
]
  where
    other : (a b na nb : ℕ) → a / 2 ≡ b / 2 → (a ≡ nb → ⊥) → na + a ≡ 4 * (a / 2) + 1 → nb + b ≡ 4 * (b / 2) + 1 → na ≡ nb
    other a b na nb e f p q = omega (arith, e, f, p, q)

pub known_var : (seen : List Lit) (l : Lit) → (has_lit (map negation seen) l || has_lit (map negation seen) (negation l)) ≡ has_var seen l
known_var [] l = refl
known_var (m ∷ ms) l =
    swap_four (same_lit l (negation m)) (has_lit (map negation ms) l) (same_lit (negation l) (negation m)) (has_lit (map negation ms) (negation l))
    ∙ ap (λ b. b || (has_lit (map negation ms) l || has_lit (map negation ms) (negation l))) (either_is_var l m)
    ∙ ap (λ b. nat_eq (variable l) (variable m) || b) (known_var ms l)
  where
    swap_four : (p h q k : Bool) → ((p || h) || (q || k)) ≡ ((p || q) || (h || k))
    swap_four true h q k = refl
    swap_four false true true k = refl
    swap_four false true false k = refl
    swap_four false false q k = refl

-- one literal more is assumed
pub record Assumes (vars : ℕ) (lits : List Lit) (i : ℕ) (trail : List Lit) : Type 0 where
  pub trail_is : trail ≡ map negation (take i lits)
  pub fresh : are_fresh vars (take i lits) (drop i lits) ≡ (are_below vars lits && distinct_vars lits)

pub assumes_none : (vars : ℕ) (lits trail : List Lit) → trail ≡ [] → Assumes vars lits 0 trail
assumes_none vars lits trail e = record {
  trail_is = e;
  fresh = fresh_are_lawful vars lits;
}

fresh_at : (vars : ℕ) (lits trail : List Lit) (i : ℕ) (d : Lit) → i < length lits → Assumes vars lits i trail → (is_fresh vars trail (get_or lits i d) && are_fresh vars (take (i + 1) lits) (drop (i + 1) lits)) ≡ (are_below vars lits && distinct_vars lits)
fresh_at vars lits trail i d within a =
    let l = get_or lits i d in
    let first : is_fresh vars trail l ≡ (nat_lt (variable l) vars && not (has_var (take i lits) l)) = ap (λ t. is_fresh vars t l) a.trail_is ∙ ap (λ b. nat_lt (variable l) vars && not b) (known_var (take i lits) l) in
    ap (λ b. b && are_fresh vars (take (i + 1) lits) (drop (i + 1) lits)) first
    ∙ ap (λ ts. (nat_lt (variable l) vars && not (has_var (take i lits) l)) && are_fresh vars ts (drop (i + 1) lits)) (take_more lits i d within)
    ∙ ap (are_fresh vars (take i lits)) (sym (drop_more lits i d within)) ∙ a.fresh

pub assumes_more : (vars : ℕ) (lits trail later : List Lit) (i : ℕ) (d : Lit) → i < length lits → Assumes vars lits i trail → is_fresh vars trail (get_or lits i d) ≡ true → later ≡ trail ++ negation (get_or lits i d) ∷ [] → Assumes vars lits (i + 1) later
assumes_more vars lits trail later i d within a fresh is = record {
  trail_is = is ∙ ap (λ t. t ++ negation (get_or lits i d) ∷ []) a.trail_is ∙ sym (map-append negation (take i lits) (get_or lits i d ∷ [])) ∙ ap (map negation) (sym (take_more lits i d within));
  fresh = ap (λ b. b && are_fresh vars (take (i + 1) lits) (drop (i + 1) lits)) (sym fresh) ∙ fresh_at vars lits trail i d within a;
}

pub assumes_no_more : (vars : ℕ) (lits trail : List Lit) (i : ℕ) (d : Lit) → i < length lits → Assumes vars lits i trail → is_fresh vars trail (get_or lits i d) ≡ false → false ≡ (are_below vars lits && distinct_vars lits)
assumes_no_more vars lits trail i d within a stale = ap (λ b. b && are_fresh vars (take (i + 1) lits) (drop (i + 1) lits)) (sym stale) ∙ fresh_at vars lits trail i d within a
