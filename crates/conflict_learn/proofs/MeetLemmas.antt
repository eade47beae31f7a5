-- Which variables learning meets, from the first clause to the literal that is left.
use Rattle.std.proofs.Common.{◌≡◌, ◌≢◌, ℕ, zero, suc, ◌+◌, ◌<◌, ◌≤◌, Bool, true, false, not, ◌||◌, nat_eq, List, [], ◌∷◌, ◌++◌, length, get_or, Some, refl, sym, ap, ◌∙◌, subst, arith, inl, inr, ◌⊎◌}
use Rattle.std.specs.List.{All, list_any}
use Rattle.std.proofs.lemmas.Bool.{both_ways, eq-eqb, ne_eqb, eqb-true, eqb-false, and_parts, and_from, not-true, not_from_false, or_cases, or_left, or_right, cases_eq, false_from_ne_true}
use Rattle.std.proofs.lemmas.List.Folds.{list_any-append}
use Rattle.cnf_base.specs.declared.literal.Lit.{Lit}
use Rattle.cnf_base.specs.declared.literal.Var.{Var}
use Rattle.cnf_base.specs.Literals.{variable, negation, has_lit}
use Rattle.cnf_base.specs.Lessons.{are_distinct}
use Rattle.cnf_base.specs.Logs.{distinct_vars}
use Rattle.cnf_base.proofs.LitLemmas.{variable-negation, has_lit-here, has_lit-later, has_lit-cases}
use Rattle.clause_arena.specs.Clauses.{Live, lits_of}
use Rattle.conflict_learn.specs.declared.draft.Draft.{Draft}
use Rattle.conflict_learn.specs.Paths.{Path, IsPath}
use Rattle.conflict_learn.specs.MarkSets.{is_marked}
use Rattle.conflict_learn.specs.Tallies.{is_open, stays}
use Rattle.conflict_learn.specs.Drafts.{Tallies, HasVar, ListsMarked, TakesIn, Resolves, HasFirst}
use Rattle.conflict_learn.specs.Asserting.{HeadsWith}
use Rattle.conflict_learn.specs.Meets.{vars_of, numbers_of, is_met, IsAboveRoot, IsBrought, AreReached, IsResolved, Meets, MeetsBehind, IsOpenVar, MeetsPresent}
use Rattle.conflict_learn.proofs.ResolveLemmas.{stays_not_open, stays_not_fixed}
use Rattle.conflict_learn.proofs.LevelLemmas.{open_is_level, level_is_open}

-- one more variable, or more of them, at the end
met_behind : (xs ys : List Var) (v : ℕ) → is_met (xs ++ ys) v ≡ true → (is_met xs v ≡ true) ⊎ (is_met ys v ≡ true)
met_behind xs ys v h = or_cases (is_met xs v) (is_met ys v) (sym (list_any-append (λ (x : Var). nat_eq x.0 v) xs ys) ∙ h)

met_kept : (xs ys : List Var) (v : ℕ) → is_met xs v ≡ true → is_met (xs ++ ys) v ≡ true
met_kept xs ys v h = list_any-append (λ (x : Var). nat_eq x.0 v) xs ys ∙ or_left (is_met xs v) (is_met ys v) h

met_new : (xs ys : List Var) (v : ℕ) → is_met ys v ≡ true → is_met (xs ++ ys) v ≡ true
met_new xs ys v h = list_any-append (λ (x : Var). nat_eq x.0 v) xs ys ∙ or_right (is_met xs v) (is_met ys v) h

met_alone : (x : Var) (v : ℕ) → is_met (x ∷ []) v ≡ true → x.0 ≡ v
met_alone x v h = elim (or_cases (nat_eq x.0 v) false h) as (λ _. x.0 ≡ v) [ inl e ↦ eqb-true x.0 v e | inr e ↦ absurd (both_ways false refl e) ]

alone_met : (x : Var) (v : ℕ) → x.0 ≡ v → is_met (x ∷ []) v ≡ true
alone_met x v e = or_left (nat_eq x.0 v) false (eq-eqb x.0 v e)

-- what stands at a place is met
met_at : (xs : List Var) (k : ℕ) (d : Var) → k < length xs → is_met xs (get_or xs k d).0 ≡ true
met_at [] k d lt = absurd (omega arith)
met_at (x ∷ xs) zero d lt = or_left (nat_eq x.0 x.0) (is_met xs x.0) (eq-eqb x.0 x.0 refl)
met_at (x ∷ xs) (suc k) d lt = or_right (nat_eq x.0 (get_or xs k d).0) (is_met xs (get_or xs k d).0) (met_at xs k d (omega arith))

-- a variable whose number is met stands in the list of numbers, and the other way round
number_met : (xs : List Var) (v : ℕ) → list_any (nat_eq v) (numbers_of xs) ≡ true → is_met xs v ≡ true
number_met [] v h = h
number_met (x ∷ xs) v h = elim (or_cases (nat_eq v x.0) (list_any (nat_eq v) (numbers_of xs)) h) as (λ _. is_met (x ∷ xs) v ≡ true) [
  | inl e ↦ or_left (nat_eq x.0 v) (is_met xs v) (eq-eqb x.0 v (sym (eqb-true v x.0 e)))
  | inr e ↦ or_right (nat_eq x.0 v) (is_met xs v) (number_met xs v e)
]

-- lists of distinct variables of which none stands in both
distinct_both : (xs ys : List Var) → are_distinct (numbers_of xs) ≡ true → are_distinct (numbers_of ys) ≡ true → ((v : ℕ) → is_met xs v ≡ true → is_met ys v ≡ true → ⊥) → are_distinct (numbers_of (xs ++ ys)) ≡ true
distinct_both [] ys dx dy apart = dy
distinct_both (x ∷ xs) ys dx dy apart =
    let parts = and_parts (not (list_any (nat_eq x.0) (numbers_of xs))) (are_distinct (numbers_of xs)) dx in
    let here : is_met (x ∷ xs) x.0 ≡ true = or_left (nat_eq x.0 x.0) (is_met xs x.0) (eq-eqb x.0 x.0 refl) in
    let none : list_any (nat_eq x.0) (numbers_of (xs ++ ys)) ≡ false = false_from_ne_true (list_any (nat_eq x.0) (numbers_of (xs ++ ys))) (λ h. at (met_behind xs ys x.0 (number_met (xs ++ ys) x.0 h)) parts.0 here) in
    and_from (not (list_any (nat_eq x.0) (numbers_of (xs ++ ys)))) (are_distinct (numbers_of (xs ++ ys))) (not_from_false (list_any (nat_eq x.0) (numbers_of (xs ++ ys))) none)
    (distinct_both xs ys parts.1 dy (λ v hx hy. apart v (or_right (nat_eq x.0 v) (is_met xs v) hx) hy))
  where
    numbered : (zs : List Var) (v : ℕ) → is_met zs v ≡ true → list_any (nat_eq v) (numbers_of zs) ≡ true
    numbered [] v h = h
    numbered (z ∷ zs) v h = elim (or_cases (nat_eq z.0 v) (is_met zs v) h) as (λ _. list_any (nat_eq v) (numbers_of (z ∷ zs)) ≡ true) [
      | inl e ↦ or_left (nat_eq v z.0) (list_any (nat_eq v) (numbers_of zs)) (eq-eqb v z.0 (sym (eqb-true z.0 v e)))
      | inr e ↦ or_right (nat_eq v z.0) (list_any (nat_eq v) (numbers_of zs)) (numbered zs v e)
    ]

    at : (is_met xs x.0 ≡ true) ⊎ (is_met ys x.0 ≡ true) → not (list_any (nat_eq x.0) (numbers_of xs)) ≡ true → is_met (x ∷ xs) x.0 ≡ true → ⊥
    at (inl h) once here = both_ways (list_any (nat_eq x.0) (numbers_of xs)) (not-true (list_any (nat_eq x.0) (numbers_of xs)) once) (numbered xs x.0 h)
    at (inr h) once here = apart x.0 here h

-- the variables of literals
pub vars_met : (ls : List Lit) (l : Lit) → has_lit ls l ≡ true → is_met (vars_of ls) (variable l) ≡ true
vars_met [] l h = h
vars_met (m ∷ ms) l h = elim (has_lit-cases ms m l h) as (λ _. is_met (vars_of (m ∷ ms)) (variable l) ≡ true) [
  | inl e ↦ or_left (nat_eq (variable m) (variable l)) (is_met (vars_of ms) (variable l)) (eq-eqb (variable m) (variable l) (sym (ap variable e)))
  | inr e ↦ or_right (nat_eq (variable m) (variable l)) (is_met (vars_of ms) (variable l)) (vars_met ms l e)
]

pub met_lit : (ls : List Lit) (v : ℕ) → is_met (vars_of ls) v ≡ true → HasVar ls v
met_lit [] v h = absurd (both_ways false refl h)
met_lit (m ∷ ms) v h = elim (or_cases (nat_eq (variable m) v) (is_met (vars_of ms) v) h) as (λ _. HasVar (m ∷ ms) v) [
  | inl e ↦ record { lit = m; within = has_lit-here ms m; is = eqb-true (variable m) v e }
  | inr e ↦ (let r = met_lit ms v e in record { lit = r.lit; within = has_lit-later ms m r.lit r.within; is = r.is })
]

numbers_any : (ls : List Lit) (v : ℕ) → list_any (nat_eq v) (numbers_of (vars_of ls)) ≡ list_any (λ l. nat_eq v (variable l)) ls
numbers_any [] v = refl
numbers_any (m ∷ ms) v = ap (λ b. nat_eq v (variable m) || b) (numbers_any ms v)

vars_distinct : (ls : List Lit) → distinct_vars ls ≡ true → are_distinct (numbers_of (vars_of ls)) ≡ true
vars_distinct [] d = refl
vars_distinct (m ∷ ms) d =
    let parts = and_parts (not (list_any (λ l. nat_eq (variable m) (variable l)) ms)) (distinct_vars ms) d in
    and_from (not (list_any (nat_eq (variable m)) (numbers_of (vars_of ms)))) (are_distinct (numbers_of (vars_of ms))) (ap not (numbers_any ms (variable m)) ∙ parts.0) (vars_distinct ms parts.1)

-- the variable is of the level in work, and its place is not before this one
pub record IsOpenFrom (p : Path) (level place v : ℕ) : Type 0 where
  pub spot : ℕ
  pub from : place ≤ spot
  pub within : spot < p.size
  pub is : variable (p.lit spot) ≡ v
  pub present : is_open level (p.level spot) ≡ true

-- the literal at the place was resolved
abbrev pub WasMet : Path → List Var → ℕ → Type 0
WasMet p met k = (k < p.size) × (is_met met (variable (p.lit k)) ≡ true)

-- from a place on, all marked literals of the level in work were resolved, and their variables are in the list
pub record MeetsDown (p : Path) (cs : List Live) (begins : ℕ → Type 0) (level place : ℕ) (marks : List Bool) (ls : List Lit) (met : List Var) : Type 0 where
  pub listed : ListsMarked marks ls
  pub stand : (v : ℕ) → is_met met v ≡ true → IsOpenFrom p level place v
  pub once : are_distinct (numbers_of met) ≡ true
  pub reached : AreReached p cs begins (WasMet p met) (λ v. is_marked marks v || is_met met v)

pub meets_begin : (p : Path) (cs : List Live) (level place : ℕ) (marks : List Bool) (ls : List Lit) (met : List Var) → ListsMarked marks ls → met ≡ [] → MeetsDown p cs (λ v. is_marked marks v ≡ true) level place marks ls met
meets_begin p cs level place marks ls met listed none =
    subst (λ xs. MeetsDown p cs (λ v. is_marked marks v ≡ true) level place marks ls xs) (sym none) (record {
      listed = listed;
      stand = λ v h. absurd (both_ways false refl h);
      once = refl;
      reached = record {
        first = λ k lt pos h. or_left (is_marked marks (variable (p.lit k))) false h;
        later = λ k lt pos b. absurd (both_ways false refl b.at.1);
        only = λ k lt pos h. elim (or_cases (is_marked marks (variable (p.lit k))) false h) as (λ _. (is_marked marks (variable (p.lit k)) ≡ true) ⊎ IsBrought p cs (WasMet p []) (variable (p.lit k))) [ inl e ↦ inl e | inr e ↦ absurd (both_ways false refl e) ];
      };
    })

-- a place that is not marked is passed
pub meets_passed : (p : Path) (cs : List Live) (begins : ℕ → Type 0) (level place k : ℕ) (marks : List Bool) (ls : List Lit) (met : List Var) → k + 1 ≡ place → MeetsDown p cs begins level place marks ls met → MeetsDown p cs begins level k marks ls met
meets_passed p cs begins level place k marks ls met next old = record {
  listed = old.listed;
  stand = λ v h. (let o = old.stand v h in record { spot = o.spot; from = (let f : place ≤ o.spot = o.from in omega arith); within = o.within; is = o.is; present = o.present });
  once = old.once;
  reached = old.reached;
}

same_reason : (a b : ℕ) → Some a ≡ Some b → a ≡ b
same_reason a b e = cc

module _ (vars : ℕ) (p : Path) (cs : List Live) (begins : ℕ → Type 0) (level place k : ℕ) (marks : List Bool) (d : Draft) (met : List Var) (x : Var) (path : IsPath vars p) (next : k + 1 ≡ place) (in_path : k < p.size) (here : is_open level (p.level k) ≡ true) (marked : is_marked marks (variable (p.lit k)) ≡ true) (var : x.0 ≡ variable (p.lit k)) (old : MeetsDown p cs begins level place marks d.lits.items met) where
  -- the variable of the place was not met before
  fresh : (v : ℕ) → is_met met v ≡ true → variable (p.lit k) ≡ v → ⊥
  fresh v h same =
      let o = old.stand v h in
      let one : o.spot ≡ k = path.apart o.spot k o.within in_path (o.is ∙ sym same) in
      let f : place ≤ o.spot = o.from in
      omega arith

  here_now : is_met (met ++ x ∷ []) (variable (p.lit k)) ≡ true
  here_now = met_new met (x ∷ []) (variable (p.lit k)) (alone_met x (variable (p.lit k)) var)

  -- what is met now was so, or is of the place
  met_now : (v : ℕ) → is_met (met ++ x ∷ []) v ≡ true → (is_met met v ≡ true) ⊎ (variable (p.lit k) ≡ v)
  met_now v h = elim (met_behind met (x ∷ []) v h) as (λ _. (is_met met v ≡ true) ⊎ (variable (p.lit k) ≡ v)) [ inl o ↦ inl o | inr e ↦ inr (sym var ∙ met_alone x v e) ]

  open_now : (v : ℕ) → is_met (met ++ x ∷ []) v ≡ true → IsOpenFrom p level k v
  open_now v h = elim (met_now v h) as (λ _. IsOpenFrom p level k v) [
    | inl e ↦ (let o = old.stand v e in record { spot = o.spot; from = (let f : place ≤ o.spot = o.from in omega arith); within = o.within; is = o.is; present = o.present })
    | inr e ↦ record { spot = k; from = omega arith; within = in_path; is = e; present = here }
  ]

  once_now : are_distinct (numbers_of (met ++ x ∷ [])) ≡ true
  once_now = distinct_both met (x ∷ []) old.once refl (λ v h e. fresh v h (sym var ∙ met_alone x v e))

  -- a place of which the variable is met now
  was_now : (j : ℕ) → WasMet p (met ++ x ∷ []) j → WasMet p met j ⊎ (j ≡ k)
  was_now j w = elim (met_now (variable (p.lit j)) w.1) as (λ _. WasMet p met j ⊎ (j ≡ k)) [ inl o ↦ inl (w.0, o) | inr e ↦ inr (path.apart j k w.0 in_path (sym e)) ]

  -- the literal there is resolved
  module _ (after : List Bool) (f : Draft) (step : Resolves p cs k marks after d f) (at_level : is_open d.level (p.level k) ≡ true) where
    known : ℕ → Bool
    known v = is_marked marks v || is_met met v

    more : (j : ℕ) → j < p.size → (is_marked marks (variable (p.lit j)) || is_met met (variable (p.lit j))) ≡ true → (is_marked after (variable (p.lit j)) || is_met (met ++ x ∷ []) (variable (p.lit j))) ≡ true
    more j lt h = at (cases_eq j k) (or_cases (is_marked marks (variable (p.lit j))) (is_met met (variable (p.lit j))) h)
      where
        at : (j ≡ k) ⊎ (j ≡ k → ⊥) → (is_marked marks (variable (p.lit j)) ≡ true) ⊎ (is_met met (variable (p.lit j)) ≡ true) → (is_marked after (variable (p.lit j)) || is_met (met ++ x ∷ []) (variable (p.lit j))) ≡ true
        at (inl e) _ = or_right (is_marked after (variable (p.lit j))) (is_met (met ++ x ∷ []) (variable (p.lit j))) (ap (λ i. is_met (met ++ x ∷ []) (variable (p.lit i))) e ∙ here_now)
        at (inr ne) (inl m) = or_left (is_marked after (variable (p.lit j))) (is_met (met ++ x ∷ []) (variable (p.lit j))) (step.others_stay j lt ne m)
        at (inr ne) (inr m) = or_right (is_marked after (variable (p.lit j))) (is_met (met ++ x ∷ []) (variable (p.lit j))) (met_kept met (x ∷ []) (variable (p.lit j)) m)

    -- what is known now was so, or was brought by the reason of the place
    fewer : (v : ℕ) → (is_marked after v || is_met (met ++ x ∷ []) v) ≡ true → ((is_marked marks v || is_met met v) ≡ true) ⊎ ((variable (p.lit k) ≢ v) × HasVar (lits_of cs step.reason) v)
    fewer v h = at (or_cases (is_marked after v) (is_met (met ++ x ∷ []) v) h)
      where
        came : (variable (p.lit k) ≢ v) → (is_marked marks v ≡ true) ⊎ HasVar (lits_of cs step.reason) v → ((is_marked marks v || is_met met v) ≡ true) ⊎ ((variable (p.lit k) ≢ v) × HasVar (lits_of cs step.reason) v)
        came ne (inl m) = inl (or_left (is_marked marks v) (is_met met v) m)
        came ne (inr r) = inr (ne, r)

        was : (is_met met v ≡ true) ⊎ (variable (p.lit k) ≡ v) → ((is_marked marks v || is_met met v) ≡ true) ⊎ ((variable (p.lit k) ≢ v) × HasVar (lits_of cs step.reason) v)
        was (inl m) = inl (or_right (is_marked marks v) (is_met met v) m)
        was (inr e) = inl (or_left (is_marked marks v) (is_met met v) (ap (is_marked marks) (sym e) ∙ marked))

        at : (is_marked after v ≡ true) ⊎ (is_met (met ++ x ∷ []) v ≡ true) → ((is_marked marks v || is_met met v) ≡ true) ⊎ ((variable (p.lit k) ≢ v) × HasVar (lits_of cs step.reason) v)
        at (inl m) = came (step.came v m).0 (step.came v m).1
        at (inr m) = was (met_now v m)

    brought_more : (v : ℕ) → IsBrought p cs (WasMet p met) v → IsBrought p cs (WasMet p (met ++ x ∷ [])) v
    brought_more v b = record { place = b.place; at = (b.at.0, met_kept met (x ∷ []) (variable (p.lit b.place)) b.at.1); reason = b.reason; reason_is = b.reason_is; holds = b.holds; other = b.other }

    pub meets_resolved : MeetsDown p cs begins level k after f.lits.items (met ++ x ∷ [])
    meets_resolved = record {
      listed = step.lists at_level old.listed;
      stand = open_now;
      once = once_now;
      reached = record {
        first = λ j lt pos b. more j lt (old.reached.first j lt pos b);
        later = λ j lt pos b. elim (was_now b.place b.at) as (λ _. (is_marked after (variable (p.lit j)) || is_met (met ++ x ∷ []) (variable (p.lit j))) ≡ true) [
          | inl w ↦ more j lt (old.reached.later j lt pos (record { place = b.place; at = w; reason = b.reason; reason_is = b.reason_is; holds = b.holds; other = b.other }))
          | inr e ↦ or_left (is_marked after (variable (p.lit j))) (is_met (met ++ x ∷ []) (variable (p.lit j))) (step.brought (variable (p.lit j))
              (subst (λ r. HasVar (lits_of cs r) (variable (p.lit j))) (same_reason b.reason step.reason (sym b.reason_is ∙ ap p.reason e ∙ step.reason_is)) b.holds)
              (λ same. b.other (ap (λ i. variable (p.lit i)) e ∙ same)))
        ];
        only = λ j lt pos h. elim (fewer (variable (p.lit j)) h) as (λ _. begins (variable (p.lit j)) ⊎ IsBrought p cs (WasMet p (met ++ x ∷ [])) (variable (p.lit j))) [
          | inl o ↦ (elim (old.reached.only j lt pos o) as (λ _. begins (variable (p.lit j)) ⊎ IsBrought p cs (WasMet p (met ++ x ∷ [])) (variable (p.lit j))) [ inl b ↦ inl b | inr b ↦ inr (brought_more (variable (p.lit j)) b) ])
          | inr r ↦ inr (record { place = k; at = (in_path, here_now); reason = step.reason; reason_is = step.reason_is; holds = r.1; other = r.0 })
        ];
      };
    }

  -- the literal there is the one that is left
  module _ (first : Lit) (is : p.lit k ≡ negation first) where
    was_resolved : (j : ℕ) → WasMet p met j → IsResolved p level first (met ++ x ∷ []) j
    was_resolved j w =
        let o = old.stand (variable (p.lit j)) w.1 in
        let one : o.spot ≡ j = path.apart o.spot j o.within w.0 o.is in
        record {
          within = w.0;
          present = ap p.level (sym one) ∙ (open_is_level level (p.level o.spot) o.present).0;
          among = met_kept met (x ∷ []) (variable (p.lit j)) w.1;
          other = λ e. fresh (variable (p.lit j)) w.1 (ap variable (is ∙ sym e));
        }

    resolved_was : (j : ℕ) → IsResolved p level first (met ++ x ∷ []) j → WasMet p met j
    resolved_was j r = elim (met_now (variable (p.lit j)) r.among) as (λ _. WasMet p met j) [
      | inl o ↦ (r.within, o)
      | inr e ↦ absurd (r.other (ap p.lit (path.apart j k r.within in_path (sym e)) ∙ is))
    ]

    still : (v : ℕ) → (is_marked marks v || is_met met v) ≡ true → (is_marked marks v || is_met (met ++ x ∷ []) v) ≡ true
    still v h = elim (or_cases (is_marked marks v) (is_met met v) h) as (λ _. (is_marked marks v || is_met (met ++ x ∷ []) v) ≡ true) [
      | inl m ↦ or_left (is_marked marks v) (is_met (met ++ x ∷ []) v) m
      | inr m ↦ or_right (is_marked marks v) (is_met (met ++ x ∷ []) v) (met_kept met (x ∷ []) v m)
    ]

    before : (v : ℕ) → (is_marked marks v || is_met (met ++ x ∷ []) v) ≡ true → (is_marked marks v || is_met met v) ≡ true
    before v h = elim (or_cases (is_marked marks v) (is_met (met ++ x ∷ []) v) h) as (λ _. (is_marked marks v || is_met met v) ≡ true) [
      | inl m ↦ or_left (is_marked marks v) (is_met met v) m
      | inr m ↦ (elim (met_now v m) as (λ _. (is_marked marks v || is_met met v) ≡ true) [ inl o ↦ or_right (is_marked marks v) (is_met met v) o | inr e ↦ or_left (is_marked marks v) (is_met met v) (ap (is_marked marks) (sym e) ∙ marked) ])
    ]

    pub meets_last : (stood : (v : ℕ) → is_met (met ++ x ∷ []) v ≡ true → IsOpenVar p level v) → AreReached p cs begins (IsResolved p level first (met ++ x ∷ [])) (λ v. is_marked marks v || is_met (met ++ x ∷ []) v)
    meets_last stood = record {
      first = λ j lt pos b. still (variable (p.lit j)) (old.reached.first j lt pos b);
      later = λ j lt pos b. still (variable (p.lit j)) (old.reached.later j lt pos (record { place = b.place; at = resolved_was b.place b.at; reason = b.reason; reason_is = b.reason_is; holds = b.holds; other = b.other }));
      only = λ j lt pos h. elim (old.reached.only j lt pos (before (variable (p.lit j)) h)) as (λ _. begins (variable (p.lit j)) ⊎ IsBrought p cs (IsResolved p level first (met ++ x ∷ [])) (variable (p.lit j))) [
        | inl b ↦ inl b
        | inr b ↦ inr (record { place = b.place; at = was_resolved b.place b.at; reason = b.reason; reason_is = b.reason_is; holds = b.holds; other = b.other })
      ];
    }

    open_last : (v : ℕ) → is_met (met ++ x ∷ []) v ≡ true → IsOpenVar p level v
    open_last v h = let o = open_now v h in record { place = o.spot; within = o.within; is = o.is; present = o.present }

    left_last : is_met (met ++ x ∷ []) (variable first) ≡ true
    left_last = ap (is_met (met ++ x ∷ [])) (sym (ap variable is ∙ variable-negation first)) ∙ here_now

-- the literal at the place is the one that is left
pub meets_present : (vars : ℕ) (p : Path) (cs : List Live) (start : List Bool) (level place k : ℕ) (marks : List Bool) (d : Draft) (met : List Var) (x : Var) → IsPath vars p → k + 1 ≡ place → k < p.size → is_open level (p.level k) ≡ true → is_marked marks (variable (p.lit k)) ≡ true → x.0 ≡ variable (p.lit k) → MeetsDown p cs (λ v. is_marked start v ≡ true) level place marks d.lits.items met → (first : Lit) → p.lit k ≡ negation first → MeetsPresent p cs start level first marks d.lits.items (met ++ x ∷ [])
meets_present vars p cs start level place k marks d met x path next in_path here marked var old first is =
    let begins : ℕ → Type 0 = λ v. is_marked start v ≡ true in
    let stood = open_last vars p cs begins level place k marks d met x path next in_path here marked var old first is in
    record {
      once = once_now vars p cs begins level place k marks d met x path next in_path here marked var old;
      stand = stood;
      left = left_last vars p cs begins level place k marks d met x path next in_path here marked var old first is;
      listed = old.listed;
      reached = meets_last vars p cs begins level place k marks d met x path next in_path here marked var old first is stood;
    }

-- nothing is listed before the first clause
pub lists_none : (marks : List Bool) (ls : List Lit) → ls ≡ [] → ListsMarked marks ls
lists_none marks ls none = subst (ListsMarked marks) (sym none) (record { marked = λ l h. absurd (both_ways false refl h); apart = refl })

-- with the variables of the listed literals, all are there
module _ (vars : ℕ) (p : Path) (cs : List Live) (conflict level : ℕ) (clear start marks : List Bool) (c b d : Draft) (first : Lit) (met : List Var) (path : IsPath vars p) (none : (v : ℕ) → is_marked clear v ≡ false) (taken : TakesIn p cs conflict clear start c b) (tally : Tallies p marks d) (level_is : d.level ≡ level) (one : HasFirst p d.level marks first) (present : MeetsPresent p cs start d.level first marks d.lits.items met) where
  all : List Var
  all = met ++ vars_of d.lits.items

  begun : (v : ℕ) → HasVar (lits_of cs conflict) v → is_marked start v ≡ true
  begun v h = ap (is_marked start) (sym h.is) ∙ taken.all h.lit h.within

  begins : (v : ℕ) → is_marked start v ≡ true → HasVar (lits_of cs conflict) v
  begins v h = elim (taken.added v h) as (λ _. HasVar (lits_of cs conflict) v) [ inl o ↦ absurd (both_ways (is_marked clear v) (none v) o) | inr r ↦ r ]

  -- where a listed variable stands
  between : (v : ℕ) → is_met (vars_of d.lits.items) v ≡ true → (k : ℕ) × (k < p.size) × (variable (p.lit k) ≡ v) × (stays d.level (p.level k) ≡ true)
  between v h =
      let l = met_lit d.lits.items v h in
      let s = tally.only l.lit l.within in
      (s.place, s.within, ap variable s.is ∙ variable-negation l.lit ∙ l.is, s.stays_there)

  no_open : (v : ℕ) → is_met (vars_of d.lits.items) v ≡ true → (k : ℕ) → k < p.size → variable (p.lit k) ≡ v → is_open d.level (p.level k) ≡ true → ⊥
  no_open v h k lt is there =
      let s = between v h in
      let same : s.0 ≡ k = path.apart s.0 k s.1 lt (s.2 ∙ sym is) in
      both_ways (is_open d.level (p.level k)) (stays_not_open d.level (p.level k) (ap (λ i. stays d.level (p.level i)) (sym same) ∙ s.3)) there

  apart : (v : ℕ) → is_met met v ≡ true → is_met (vars_of d.lits.items) v ≡ true → ⊥
  apart v m h = let o = present.stand v m in no_open v h o.place o.within o.is o.present

  -- what is marked or met is one of all
  marked_all : (k : ℕ) → k < p.size → 0 < p.level k → is_marked marks (variable (p.lit k)) ≡ true → is_met (met ++ vars_of d.lits.items) (variable (p.lit k)) ≡ true
  marked_all k lt pos h = at (cases_eq (p.level k) d.level)
    where
      at : (p.level k ≡ d.level) ⊎ (p.level k ≡ d.level → ⊥) → is_met (met ++ vars_of d.lits.items) (variable (p.lit k)) ≡ true
      at (inl e) =
          let same : k ≡ one.place = one.alone k lt h (level_is_open d.level (p.level k) e pos) in
          let is : variable (p.lit k) ≡ variable first = ap (λ i. variable (p.lit i)) same ∙ ap variable one.is ∙ variable-negation first in
          met_kept met (vars_of d.lits.items) (variable (p.lit k)) (ap (is_met met) is ∙ present.left)
      at (inr ne) =
          let stay : stays d.level (p.level k) ≡ true = and_from (not (nat_eq (p.level k) 0)) (not (nat_eq (p.level k) d.level)) (not_from_false (nat_eq (p.level k) 0) (ne_eqb (p.level k) 0 (λ z. omega arith))) (not_from_false (nat_eq (p.level k) d.level) (ne_eqb (p.level k) d.level ne)) in
          met_new met (vars_of d.lits.items) (variable (p.lit k)) (ap (is_met (vars_of d.lits.items)) (sym (variable-negation (p.lit k))) ∙ vars_met d.lits.items (negation (p.lit k)) (tally.kept k lt h stay))

  to_all : (k : ℕ) → k < p.size → 0 < p.level k → (is_marked marks (variable (p.lit k)) || is_met met (variable (p.lit k))) ≡ true → is_met (met ++ vars_of d.lits.items) (variable (p.lit k)) ≡ true
  to_all k lt pos h = elim (or_cases (is_marked marks (variable (p.lit k))) (is_met met (variable (p.lit k))) h) as (λ _. is_met (met ++ vars_of d.lits.items) (variable (p.lit k)) ≡ true) [
    | inl m ↦ marked_all k lt pos m
    | inr m ↦ met_kept met (vars_of d.lits.items) (variable (p.lit k)) m
  ]

  from_all : (v : ℕ) → is_met (met ++ vars_of d.lits.items) v ≡ true → (is_marked marks v || is_met met v) ≡ true
  from_all v h = elim (met_behind met (vars_of d.lits.items) v h) as (λ _. (is_marked marks v || is_met met v) ≡ true) [
    | inl m ↦ or_right (is_marked marks v) (is_met met v) m
    | inr m ↦ (let l = met_lit d.lits.items v m in or_left (is_marked marks v) (is_met met v) (ap (is_marked marks) (sym l.is) ∙ present.listed.marked l.lit l.within))
  ]

  -- the same literals are resolved
  down : (k : ℕ) → 0 < p.level k → IsResolved p level first (met ++ vars_of d.lits.items) k → IsResolved p d.level first met k
  down k pos r = record {
    within = r.within;
    present = r.present ∙ sym level_is;
    among = elim (met_behind met (vars_of d.lits.items) (variable (p.lit k)) r.among) as (λ _. is_met met (variable (p.lit k)) ≡ true) [
      | inl m ↦ m
      | inr m ↦ absurd (no_open (variable (p.lit k)) m k r.within refl (level_is_open d.level (p.level k) (r.present ∙ sym level_is) pos))
    ];
    other = r.other;
  }

  up : (k : ℕ) → IsResolved p d.level first met k → IsResolved p level first (met ++ vars_of d.lits.items) k
  up k r = record { within = r.within; present = r.present ∙ level_is; among = met_kept met (vars_of d.lits.items) (variable (p.lit k)) r.among; other = r.other }

  -- the level in work is above 0, since the literal that is left is of it
  deep : 0 < level
  deep = let o = open_is_level d.level (p.level one.place) one.present_there in let pos : 0 < p.level one.place = o.1 in let e : p.level one.place ≡ d.level = o.0 in omega arith

  pub meets_all : Meets p cs conflict level first (met ++ vars_of d.lits.items)
  meets_all = record {
    once = distinct_both met (vars_of d.lits.items) present.once (vars_distinct d.lits.items present.listed.apart) apart;
    above = λ v h. elim (met_behind met (vars_of d.lits.items) v h) as (λ _. IsAboveRoot p v) [
      | inl m ↦ (let o = present.stand v m in record { place = o.place; within = o.within; is = o.is; positive = (open_is_level d.level (p.level o.place) o.present).1 })
      | inr m ↦ (let s = between v m in record { place = s.0; within = s.1; is = s.2; positive = (let ne : p.level s.0 ≡ 0 → ⊥ = eqb-false (p.level s.0) 0 (stays_not_fixed d.level (p.level s.0) s.3) in omega arith) })
    ];
    reached = record {
      first = λ k lt pos h. to_all k lt pos (present.reached.first k lt pos (begun (variable (p.lit k)) h));
      later = λ k lt pos r. to_all k lt pos (present.reached.later k lt pos (record { place = r.place; at = down r.place (let w = deep in let e : p.level r.place ≡ level = r.at.present in omega arith) r.at; reason = r.reason; reason_is = r.reason_is; holds = r.holds; other = r.other }));
      only = λ k lt pos h. elim (present.reached.only k lt pos (from_all (variable (p.lit k)) h)) as (λ _. HasVar (lits_of cs conflict) (variable (p.lit k)) ⊎ IsBrought p cs (IsResolved p level first (met ++ vars_of d.lits.items)) (variable (p.lit k))) [
        | inl m ↦ inl (begins (variable (p.lit k)) m)
        | inr r ↦ inr (record { place = r.place; at = up r.place r.at; reason = r.reason; reason_is = r.reason_is; holds = r.holds; other = r.other })
      ];
    };
  }

-- the lesson's first literal is the one that is left
pub meets_behind : (p : Path) (cs : List Live) (conflict level : ℕ) (marks : List Bool) (first : Lit) (some lits : List Lit) (back : ℕ) (met : List Var) → Meets p cs conflict level first met → HeadsWith p marks first some lits back → MeetsBehind p cs conflict level lits met
meets_behind p cs conflict level marks first some lits back met meets heads = subst (λ ls. MeetsBehind p cs conflict level ls met) (sym heads.is) meets

-- each variable that is met is one of the trail's
pub met_below : (vars : ℕ) (p : Path) (cs : List Live) (conflict level : ℕ) (first : Lit) (met : List Var) → IsPath vars p → Meets p cs conflict level first met → All (λ (x : Var). x.0 < vars) met
met_below vars p cs conflict level first met path meets = λ k d lt. (
    let a = meets.above (get_or met k d).0 (met_at met k d lt) in
    let below : variable (p.lit a.place) < vars = path.below a.place a.within in
    let is : variable (p.lit a.place) ≡ (get_or met k d).0 = a.is in
    omega arith)
