-- What one more clause does to the trail and to what is held.
use Rattle.std.proofs.Common.{◌≡◌, ℕ, zero, suc, ◌/◌, ◌<◌, ◌≤◌, Bool, true, false, cond, ◌&&◌, ◌||◌, not, nat_eq, nat_lt, nat_le, List, [], ◌∷◌, ◌++◌, map, length, Some, refl, sym, ap, ◌∙◌, subst, arith, inl, inr}
use Rattle.std.specs.List.{list_all, list_any}
use Rattle.std.proofs.lemmas.Bool.{and_parts, and_from, or_cases, or_left, or_right, both_ways, not-true, eqb-true, eqb-false, eq-eqb, ne_eqb, ltb-true, false_from_ne_true, le-leb}
use Rattle.std.proofs.lemmas.List.{length-map}
use Rattle.std.proofs.lemmas.List.Folds.{list_any-append}
use Rattle.cnf_base.specs.declared.literal.Lit.{Lit}
use Rattle.cnf_base.specs.Literals.{variable, negation, same_lit, has_lit, are_below, Clause}
use Rattle.cnf_base.specs.Logs.{distinct_vars}
use Rattle.cnf_base.specs.Lessons.{are_distinct}
use Rattle.cnf_base.proofs.LitLemmas.{same_lit-refl, same_lit-is}
use Rattle.clause_arena.specs.declared.ClauseRef.{ClauseRef}
use Rattle.clause_arena.specs.Clauses.{Live, is_live, lits_of, clause_at, added}
use Rattle.clause_arena.specs.Words.{clauses_in}
use Rattle.watch_lists.specs.declared.trail.Entry.{Entry}
use Rattle.watch_lists.specs.Entries.{is_true, is_assigned, true_by, depth_of, entry_for}
use Rattle.watch_lists.specs.Trails.{Seen}
use Rattle.watch_lists.specs.Rows.{lit_in}
use Rattle.watch_lists.specs.Fits.{Fits, IsClause, KeepsClauses, SameAttached, attached_in}
use Rattle.watch_lists.specs.Attaching.{CanBeAttached, attached_entries}
use Rattle.watch_lists.proofs.ClauseLemmas.{keeps_same}
use Rattle.decide_order.specs.Rankings.{is_held}
use Rattle.sat_core.specs.declared.search.Search.{Search}
use Rattle.sat_core.specs.Standing.{IsFact, IsPlaced, ArePlaced}
use Rattle.sat_core.specs.Asserted.{IsAsserted}
use Rattle.sat_core.specs.Ready.{IsOrdered, IsReady, MayBeDecided}
use Rattle.sat_core.proofs.CountLemmas.{few_below}
use Rattle.sat_core.proofs.HoldLemmas.{lone_too, true_by-append}

vars_apart : (c : Clause) → distinct_vars c ≡ true → are_distinct (map variable c) ≡ true
vars_apart [] d = refl
vars_apart (l ∷ ls) d =
    let p = and_parts (not (list_any (λ m. nat_eq (variable l) (variable m)) ls)) (distinct_vars ls) d in
    and_from (not (list_any (nat_eq (variable l)) (map variable ls))) (are_distinct (map variable ls)) (ap not (same ls) ∙ p.0) (vars_apart ls p.1)
  where
    same : (ms : List Lit) → list_any (nat_eq (variable l)) (map variable ms) ≡ list_any (λ m. nat_eq (variable l) (variable m)) ms
    same [] = refl
    same (m ∷ ms) = ap (λ b. nat_eq (variable l) (variable m) || b) (same ms)

vars_below : (n : ℕ) (c : Clause) → are_below n c ≡ true → list_all (λ x. nat_lt x n) (map variable c) ≡ true
vars_below n [] b = refl
vars_below n (l ∷ ls) b = let p = and_parts (nat_lt (variable l) n) (are_below n ls) b in and_from (nat_lt (variable l) n) (list_all (λ x. nat_lt x n) (map variable ls)) p.0 (vars_below n ls p.1)

-- a clause of distinct variables below a bound is no longer than the bound
pub clause_short : (n : ℕ) (c : Clause) → are_below n c ≡ true → distinct_vars c ≡ true → length c ≤ n
clause_short n c b d =
    let e : length (map variable c) ≡ length c = length-map c variable in
    let k : length (map variable c) ≤ n = few_below n (map variable c) (vars_apart c d) (vars_below n c b) in
    omega arith

pub lit_below : (n : ℕ) (c : Clause) (i : ℕ) → are_below n c ≡ true → i < length c → variable (lit_in c i) < n
lit_below n [] i b lt = absurd (omega arith)
lit_below n (l ∷ ls) zero b lt = ltb-true (variable l) n (and_parts (nat_lt (variable l) n) (are_below n ls) b).0
lit_below n (l ∷ ls) (suc i) b lt = lit_below n ls i (and_parts (nat_lt (variable l) n) (are_below n ls) b).1 (omega arith)

pub lit_at_has : (c : Clause) (i : ℕ) → i < length c → has_lit c (lit_in c i) ≡ true
lit_at_has [] i lt = absurd (omega arith)
lit_at_has (l ∷ ls) zero lt = or_left (same_lit l l) (has_lit ls l) (same_lit-refl l)
lit_at_has (l ∷ ls) (suc i) lt = or_right (same_lit (lit_in ls i) l) (has_lit ls (lit_in ls i)) (lit_at_has ls i (omega arith))

has_variable : (l : Lit) (ms : List Lit) (m : Lit) → has_lit ms m ≡ true → variable l ≡ variable m → list_any (λ n. nat_eq (variable l) (variable n)) ms ≡ true
has_variable l [] m h e = cc
has_variable l (n ∷ ns) m h e =
    elim (or_cases (same_lit m n) (has_lit ns m) h) as (λ _. (nat_eq (variable l) (variable n) || list_any (λ n. nat_eq (variable l) (variable n)) ns) ≡ true) [
      | inl s ↦ or_left (nat_eq (variable l) (variable n)) (list_any (λ n. nat_eq (variable l) (variable n)) ns) (eq-eqb (variable l) (variable n) (e ∙ ap variable (same_lit-is m n s)))
      | inr s ↦ or_right (nat_eq (variable l) (variable n)) (list_any (λ n. nat_eq (variable l) (variable n)) ns) (has_variable l ns m s e)
    ]

lits_apart : (c : Clause) (i j : ℕ) → distinct_vars c ≡ true → i < length c → j < length c → (lit_in c i).0 ≡ (lit_in c j).0 → i ≡ j
lits_apart [] i j d p q e = absurd (omega arith)
lits_apart (l ∷ ls) zero zero d p q e = refl
lits_apart (l ∷ ls) zero (suc j) d p q e =
    let parts = and_parts (not (list_any (λ m. nat_eq (variable l) (variable m)) ls)) (distinct_vars ls) d in
    absurd (both_ways (list_any (λ m. nat_eq (variable l) (variable m)) ls) (not-true (list_any (λ m. nat_eq (variable l) (variable m)) ls) parts.0) (has_variable l ls (lit_in ls j) (lit_at_has ls j (omega arith)) (ap (λ n. n / 2) e)))
lits_apart (l ∷ ls) (suc i) zero d p q e =
    let parts = and_parts (not (list_any (λ m. nat_eq (variable l) (variable m)) ls)) (distinct_vars ls) d in
    absurd (both_ways (list_any (λ m. nat_eq (variable l) (variable m)) ls) (not-true (list_any (λ m. nat_eq (variable l) (variable m)) ls) parts.0) (has_variable l ls (lit_in ls i) (lit_at_has ls i (omega arith)) (ap (λ n. n / 2) (sym e))))
lits_apart (l ∷ ls) (suc i) (suc j) d p q e =
    let parts = and_parts (not (list_any (λ m. nat_eq (variable l) (variable m)) ls)) (distinct_vars ls) d in
    ap suc (lits_apart ls i j parts.1 (omega arith) (omega arith) e)

pub is_clause : (n : ℕ) (c : Clause) → 2 ≤ length c → are_below n c ≡ true → distinct_vars c ≡ true → IsClause n c
is_clause n c long b d = record { long = long; apart = λ i j p q e. lits_apart c i j d p q e; below = λ i lt. lit_below n c i b lt }

-- the literals of the new clause
pub lits_of_added : (cs : List Live) (r id : ℕ) (lits : Clause) → lits_of (added r id lits ∷ cs) r ≡ lits
lits_of_added cs r id lits = ap (λ b. (cond b (added r id lits) (clause_at cs r)).lits) (eq-eqb r r refl)

pub lits_of_other : (cs : List Live) (r id x : ℕ) (lits : Clause) → (x ≡ r → ⊥) → lits_of (added r id lits ∷ cs) x ≡ lits_of cs x
lits_of_other cs r id x lits other = ap (λ b. (cond b (added r id lits) (clause_at cs x)).lits) (ne_eqb r x (λ s. other (sym s)))

-- an asserted clause of two or more literals can be attached
pub can_be_attached : (es : List Entry) (c : Clause) → 1 < length c → IsAsserted es c → CanBeAttached es c
can_be_attached es [] long a = absurd (omega arith)
can_be_attached es (first ∷ []) long a = absurd (let k : 1 < 1 = long in omega arith)
can_be_attached es (first ∷ second ∷ rest) long a = inr (a.0, a.1, λ i two lt. others i two lt)
  where
    others : (i : ℕ) → 2 ≤ i → i < length (first ∷ second ∷ rest) → is_true es (negation (lit_in (first ∷ second ∷ rest) i)) ≡ true
    others zero two lt = absurd (omega arith)
    others (suc zero) two lt = absurd (let k : 2 ≤ 1 = two in omega arith)
    others (suc (suc i)) two lt = a.2 (lit_in rest i) (lit_at_has rest i (omega arith))

-- a clause that is not live is not attached
pub not_attached : (t : Seen) (cs : List Live) (r : ℕ) → Fits t cs → is_live cs r ≡ false → attached_in t cs r ≡ false
not_attached t cs r fits fresh = false_from_ne_true (attached_in t cs r) (λ h. both_ways (is_live cs r) fresh (fits.clauses r h).0)

-- a clause stays placed where another one is held
pub placed_one : (t u : Seen) (cs ds : List Live) (r id : ℕ) (lits : Clause) (x : ℕ) → KeepsClauses (added r id lits ∷ cs) ds → (attached_in t cs x ≡ true → attached_in u ds x ≡ true) → ((l : Lit) → true_by 0 t.entries l ≡ true → true_by 0 u.entries l ≡ true) → (x ≡ r → ⊥) → IsPlaced t cs x → IsPlaced u ds x
placed_one t u cs ds r id lits x keeps stays up other (inl a) = inl (stays a)
placed_one t u cs ds r id lits x keeps stays up other (inr fact) = inr (record {
  lit = fact.lit;
  alone = lone_too fact.lit (lits_of ds x) (keeps.long x ∙ ap length (lits_of_other cs r id x lits other ∙ fact.alone)) (λ m. keeps.lits x m ∙ ap (λ ls. has_lit ls m) (lits_of_other cs r id x lits other ∙ fact.alone));
  true_at_0 = up fact.lit fact.true_at_0;
})

-- clauses stay placed where one more is held, and it is placed too
pub placed_added : (t u : Seen) (cs ds : List Live) (r id : ℕ) (lits : Clause) → KeepsClauses (added r id lits ∷ cs) ds → is_live cs r ≡ false → ((x : ℕ) → (x ≡ r → ⊥) → attached_in t cs x ≡ true → attached_in u ds x ≡ true) → ((l : Lit) → true_by 0 t.entries l ≡ true → true_by 0 u.entries l ≡ true) → IsPlaced u ds r → ArePlaced t cs → ArePlaced u ds
placed_added t u cs ds r id lits keeps fresh stays up new placed x live = at (nat_eq r x) refl (sym (keeps.live x) ∙ live)
  where
    at : (b : Bool) → nat_eq r x ≡ b → (b || is_live cs x) ≡ true → IsPlaced u ds x
    at true e h = let P : ℕ → Type 0 = λ y. IsPlaced u ds y in subst P (eqb-true r x e) new
    at false e h = placed_one t u cs ds r id lits x keeps (stays x (λ s. eqb-false r x e (sym s))) up (λ s. eqb-false r x e (sym s)) (placed x h)

-- the order is as good for a trail that has grown
pub ordered_on : (s : Search) (u : Seen) → IsOrdered s → u.vars ≡ s.trail.vars → ((v : ℕ) → is_assigned s.trail.entries v ≡ true → is_assigned u.entries v ≡ true) → (t : Search) → t ≡ record s { arena = t.arena; trail = u } → IsOrdered t
ordered_on s u o vars grown t same = record {
  few = let e : t.trail.vars ≡ s.trail.vars = trail_vars in let k = o.few in omega arith;
  may_be_decided = may;
  scores = ap (λ (x : Search). length x.heap.scores) same ∙ o.scores ∙ sym trail_vars;
  phases = ap (λ (x : Search). length x.phases.items) same ∙ o.phases ∙ sym trail_vars;
  scratch = ap (λ (x : Search). x.scratch.vars) same ∙ o.scratch ∙ sym trail_vars;
}
  where
    trail_vars : t.trail.vars ≡ s.trail.vars
    trail_vars = ap (λ (x : Search). x.trail.vars) same ∙ vars

    may : MayBeDecided t.heap t.trail
    may v lt free =
        let free_u : is_assigned u.entries v ≡ false = sym (ap (λ (x : Search). is_assigned x.trail.entries v) same) ∙ free in
        let was : is_assigned s.trail.entries v ≡ false = false_from_ne_true (is_assigned s.trail.entries v) (λ h. both_ways (is_assigned u.entries v) free_u (grown v h)) in
        ap (λ (x : Search). is_held x.heap v) same ∙ o.may_be_decided v (let e = trail_vars in omega arith) was

pub assigned_append : (es more : List Entry) (v : ℕ) → is_assigned es v ≡ true → is_assigned (es ++ more) v ≡ true
assigned_append es more v h = list_any-append (λ e. nat_eq (variable e.lit) v) es more ∙ or_left (is_assigned es v) (is_assigned more v) h

pub assigned_attached : (es : List Entry) (ls : List Lit) (r : ClauseRef) (v : ℕ) → is_assigned es v ≡ true → is_assigned (attached_entries es ls r) v ≡ true
assigned_attached es ls r v h = at (is_true es (negation (lit_in ls 1)))
  where
    at : (b : Bool) → is_assigned (cond b (es ++ entry_for es (lit_in ls 0) (Some r) ∷ []) es) v ≡ true
    at true = assigned_append es (entry_for es (lit_in ls 0) (Some r) ∷ []) v h
    at false = h

pub low_attached : (es : List Entry) (ls : List Lit) (r : ClauseRef) (l : Lit) → true_by 0 es l ≡ true → true_by 0 (attached_entries es ls r) l ≡ true
low_attached es ls r l h = at (is_true es (negation (lit_in ls 1)))
  where
    at : (b : Bool) → true_by 0 (cond b (es ++ entry_for es (lit_in ls 0) (Some r) ∷ []) es) l ≡ true
    at true = true_by-append 0 es (entry_for es (lit_in ls 0) (Some r) ∷ []) l h
    at false = h

-- the literal of a clause of one literal is true at level 0 where it comes there
pub fact_added : (t u : Seen) (cs : List Live) (r : ClauseRef) (id : ℕ) (lits : Clause) (lit : Lit) → (1 < length lits → ⊥) → lit ≡ lit_in lits 0 → IsAsserted t.entries lits → u.entries ≡ t.entries ++ entry_for t.entries lit (Some r) ∷ [] → IsFact u (added r.0 id lits ∷ cs) r.0
fact_added t u cs r id [] lit short is a more = absurd a
fact_added t u cs r id (x ∷ y ∷ ys) lit short is a more = absurd (short (omega arith))
fact_added t u cs r id (x ∷ []) lit short is a more = record {
  lit = lit;
  alone = lits_of_added cs r.0 id (x ∷ []) ∙ ap (λ k. k ∷ []) (sym is);
  true_at_0 = ap (λ es. true_by 0 es lit) more ∙ list_any-append (λ e. nat_le e.level 0 && same_lit lit e.lit) t.entries (entry_for t.entries lit (Some r) ∷ [])
      ∙ or_right (true_by 0 t.entries lit) ((nat_le (depth_of t.entries) 0 && same_lit lit lit) || false) (or_left (nat_le (depth_of t.entries) 0 && same_lit lit lit) false (and_from (nat_le (depth_of t.entries) 0) (same_lit lit lit) (le-leb (depth_of t.entries) 0 (let e : depth_of t.entries ≡ 0 = a.1 in omega arith)) (same_lit-refl lit)));
}

-- the search behind a clause that was attached
pub attached_is_ready : (old new : Search) (r : ClauseRef) (id : ℕ) (lits : Clause) (cs : List Live) → IsReady old → new ≡ record old { arena = new.arena; trail = new.trail } → cs ≡ added r.0 id lits ∷ clauses_in old.arena → is_live (clauses_in old.arena) r.0 ≡ false → SameAttached old.trail (clauses_in old.arena) old.trail (added r.0 id lits ∷ clauses_in old.arena)
    → Fits new.trail (clauses_in new.arena) → KeepsClauses cs (clauses_in new.arena) → ((x : ℕ) → attached_in new.trail (clauses_in new.arena) x ≡ cond (nat_eq x r.0) true (attached_in old.trail cs x)) → new.trail.vars ≡ old.trail.vars → new.trail.entries ≡ attached_entries old.trail.entries (lits_of cs r.0) r → IsReady new
attached_is_ready old new r id lits cs ready same cs_is fresh before fits keeps attached vars entries = record {
  fits = fits;
  placed = placed_added old.trail new.trail (clauses_in old.arena) (clauses_in new.arena) r.0 id lits (let P : List Live → Type 0 = λ es. KeepsClauses es (clauses_in new.arena) in subst P cs_is keeps) fresh stays (λ l h. ap (λ es. true_by 0 es l) entries ∙ low_attached old.trail.entries (lits_of cs r.0) r l h) (inl new_one) ready.placed;
  ordered = ordered_on old new.trail ready.ordered vars (λ v h. ap (λ es. is_assigned es v) entries ∙ assigned_attached old.trail.entries (lits_of cs r.0) r v h) new same;
}
  where
    stays : (x : ℕ) → (x ≡ r.0 → ⊥) → attached_in old.trail (clauses_in old.arena) x ≡ true → attached_in new.trail (clauses_in new.arena) x ≡ true
    stays x other h =
        attached x ∙ ap (λ b. cond b true (attached_in old.trail cs x)) (ne_eqb x r.0 other) ∙ ap (λ es. attached_in old.trail es x) cs_is ∙ before x ∙ h

    new_one : attached_in new.trail (clauses_in new.arena) r.0 ≡ true
    new_one = attached r.0 ∙ ap (λ b. cond b true (attached_in old.trail cs r.0)) (eq-eqb r.0 r.0 refl)

-- the search behind a clause of one literal that was made true
pub implied_is_ready : (old new : Search) (r : ClauseRef) (id : ℕ) (lits : Clause) (lit : Lit) → IsReady old → new ≡ record old { arena = new.arena; trail = new.trail } → clauses_in new.arena ≡ added r.0 id lits ∷ clauses_in old.arena → is_live (clauses_in old.arena) r.0 ≡ false → SameAttached old.trail (clauses_in old.arena) old.trail (added r.0 id lits ∷ clauses_in old.arena)
    → (1 < length lits → ⊥) → lit ≡ lit_in lits 0 → IsAsserted old.trail.entries lits → Fits new.trail (clauses_in new.arena) → new.trail ≡ record old.trail { entries = old.trail.entries ++ entry_for old.trail.entries lit (Some r) ∷ [] } → ((x : ℕ) → attached_in new.trail (clauses_in new.arena) x ≡ attached_in old.trail (clauses_in new.arena) x) → IsReady new
implied_is_ready old new r id lits lit ready same cs_is fresh before short lit_is asserted fits trail attached = record {
  fits = fits;
  placed = placed_added old.trail new.trail (clauses_in old.arena) (clauses_in new.arena) r.0 id lits (let P : List Live → Type 0 = λ es. KeepsClauses es (clauses_in new.arena) in subst P cs_is (keeps_same (clauses_in new.arena))) fresh stays (λ l h. ap (λ es. true_by 0 es l) entries ∙ true_by-append 0 old.trail.entries (entry_for old.trail.entries lit (Some r) ∷ []) l h) (inr new_one) ready.placed;
  ordered = ordered_on old new.trail ready.ordered (ap (λ (t : Seen). t.vars) trail) (λ v h. ap (λ es. is_assigned es v) entries ∙ assigned_append old.trail.entries (entry_for old.trail.entries lit (Some r) ∷ []) v h) new same;
}
  where
    entries : new.trail.entries ≡ old.trail.entries ++ entry_for old.trail.entries lit (Some r) ∷ []
    entries = ap (λ (t : Seen). t.entries) trail

    stays : (x : ℕ) → (x ≡ r.0 → ⊥) → attached_in old.trail (clauses_in old.arena) x ≡ true → attached_in new.trail (clauses_in new.arena) x ≡ true
    stays x other h = attached x ∙ ap (λ es. attached_in old.trail es x) cs_is ∙ before x ∙ h

    new_one : IsFact new.trail (clauses_in new.arena) r.0
    new_one = let P : List Live → Type 0 = λ es. IsFact new.trail es r.0 in subst P (sym cs_is) (fact_added old.trail new.trail (clauses_in old.arena) r id lits lit short lit_is asserted entries)
