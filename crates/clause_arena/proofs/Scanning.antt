-- How the clauses of a row of seats are found, changed, taken out and added.
use Rattle.std.proofs.Common.{◌≡◌, ℕ, zero, suc, ◌<◌, ◌≤◌, ◌⊎◌, Bool, true, false, nat_eq, nat_le, List, [], ◌∷◌, refl, sym, ap, ◌∙◌, subst, arith, inl, inr}
use Rattle.std.specs.List.{AllByRecursion}
use Rattle.std.proofs.lemmas.Bool.{or_cases, both_ways, le-leb, lt-leb, eqb-true, eq-eqb, ne_eqb, cases_lt}
use Rattle.clause_arena.specs.Clauses.{Live, clause_at, is_live, with_clause, without}
use Rattle.clause_arena.specs.Words.{Seat, step, clauses_to}

-- each clause has the number of its seat as its place, and its literals stop behind where they begin
abbrev pub AreSeated : (ℕ → Seat) → Type 0
AreSeated s = (p : ℕ) → ((s p).clause.place ≡ p) × ((s p).start ≤ (s p).stop)

-- the seats of a live clause
pub record Found (s : ℕ → Seat) (n e r : ℕ) : Type 0 where
  pub within : r < n
  pub ends : (s r).stop ≤ e
  pub seen : (s r).is_seen ≡ true
  pub clause : clause_at (clauses_to s n e) r ≡ (s r).clause

pub found : (s : ℕ → Seat) (n e r : ℕ) → AreSeated s → is_live (clauses_to s n e) r ≡ true → Found s n e r
found s zero e r w h = absurd (both_ways false refl h)
found s (suc p) e r w h =
    elim (cases_lt e (s p).stop) [
      | inl over ↦ absurd (both_ways false refl (rw (lt-leb (s p).stop e over) at h))
      | inr within ↦ rest (found s p (s p).start r w) within (s p).is_seen refl (rw (le-leb (s p).stop e within) at h)
    ]
  where
    cs : List Live
    cs = clauses_to s p (s p).start

    here : (s p).stop ≤ e → (s p).is_seen ≡ true → (s p).clause.place ≡ r → Found s (suc p) e r
    here within is same =
        let at : p ≡ r = sym (w p).0 ∙ same in
        record {
          within = omega arith;
          ends = subst (λ q. (s q).stop ≤ e) at within;
          seen = subst (λ q. (s q).is_seen ≡ true) at is;
          clause = rw (le-leb (s p).stop e within, is, eq-eqb (s p).clause.place r same) (ap (λ q. (s q).clause) at);
        }

    there : (is_live cs r ≡ true → Found s p (s p).start r) → (b : Bool) → (s p).stop ≤ e → (s p).is_seen ≡ b → is_live cs r ≡ true → Found s (suc p) e r
    there ih b within is live =
        let f : Found s p (s p).start r = ih live in
        let before : r < p = f.within in
        let ends : (s r).stop ≤ (s p).start = f.ends in
        let order : (s p).start ≤ (s p).stop = (w p).1 in
        let place : (s p).clause.place ≡ p = (w p).0 in
        record { within = omega arith; ends = omega arith; seen = f.seen; clause = rw (le-leb (s p).stop e within, is) (skip b (λ q. (let z : p ≡ r = sym place ∙ q in omega arith))) ∙ f.clause }
      where
        skip : (b : Bool) → ((s p).clause.place ≡ r → ⊥) → clause_at (step true b (s p).clause cs) r ≡ clause_at cs r
        skip false apart = refl
        skip true apart = rw (ne_eqb (s p).clause.place r apart) refl

    rest : (is_live cs r ≡ true → Found s p (s p).start r) → (s p).stop ≤ e → (b : Bool) → (s p).is_seen ≡ b → is_live (step true b (s p).clause cs) r ≡ true → Found s (suc p) e r
    rest ih within false is h = there ih false within is h
    rest ih within true is h = elim (or_cases (nat_eq (s p).clause.place r) (is_live cs r) h) [ inl q ↦ here within is (eqb-true (s p).clause.place r q) | inr q ↦ there ih true within is q ]

-- two rows of seats with the same literals but for those of one clause
pub record Agree (s t : ℕ → Seat) (r : ℕ) : Type 0 where
  pub starts : (p : ℕ) → (t p).start ≡ (s p).start
  pub stops : (p : ℕ) → (t p).stop ≡ (s p).stop
  pub others : (p : ℕ) → (p ≡ r → ⊥) → (((s p).stop ≤ (s r).start) ⊎ ((s r).stop ≤ (s p).start)) → t p ≡ s p

-- the first seats alone decide which clauses are there, and of these only those whose literals fit
pub same_to : (s t : ℕ → Seat) (n e top : ℕ) → AreSeated s → ((p : ℕ) → p < n → (t p).stop ≡ (s p).stop) → ((p : ℕ) → p < n → (s p).stop ≤ top → t p ≡ s p) → e ≤ top → clauses_to t n e ≡ clauses_to s n e
same_to s t zero e top w stops same le = refl
same_to s t (suc p) e top w stops same le =
    elim (cases_lt e (s p).stop) [
      | inl over ↦ rw (stops p (omega arith), lt-leb (s p).stop e over) refl
      | inr within ↦ (let order : (s p).start ≤ (s p).stop = (w p).1 in
          let at : t p ≡ s p = same p (omega arith) (omega arith) in
          let ih : clauses_to t p (s p).start ≡ clauses_to s p (s p).start = same_to s t p (s p).start top w (λ q lt. stops q (omega arith)) (λ q lt. same q (omega arith)) (omega arith) in
          rw (at, ih) refl)
    ]

-- the seats below a clause are as they were
same_below : (s t : ℕ → Seat) (n e r : ℕ) → AreSeated s → Agree s t r → n ≤ r → e ≤ (s r).start → clauses_to t n e ≡ clauses_to s n e
same_below s t n e r w a le end = same_to s t n e (s r).start w (λ p lt. a.stops p) (λ p lt fits. a.others p (λ q. omega arith) (inl fits)) end

-- no clause of the first seats is the one at a later seat
pub all_below : (s : ℕ → Seat) (n e p : ℕ) → AreSeated s → n ≤ p → AllByRecursion (λ (d : Live). d.place < p) (clauses_to s n e)
all_below s zero e p w le = tt
all_below s (suc q) e p w le = at (nat_le (s q).stop e) (s q).is_seen (all_below s q (s q).start p w (omega arith))
  where
    at : (a b : Bool) → AllByRecursion (λ (d : Live). d.place < p) (clauses_to s q (s q).start) → AllByRecursion (λ (d : Live). d.place < p) (step a b (s q).clause (clauses_to s q (s q).start))
    at false b h = tt
    at true false h = h
    at true true h = (let place : (s q).clause.place ≡ q = (w q).0 in omega arith, h)

untouched : (cs : List Live) (p : ℕ) (f : Live → Live) → AllByRecursion (λ d. d.place < p) cs → with_clause cs p f ≡ cs
untouched [] p f a = refl
untouched (c ∷ cs) p f a =
    let less : c.place < p = a.0 in
    rw (ne_eqb c.place p (λ q. omega arith), untouched cs p f a.1) refl

all_kept : (cs : List Live) (p : ℕ) → AllByRecursion (λ d. d.place < p) cs → without cs p ≡ cs
all_kept [] p a = refl
all_kept (c ∷ cs) p a =
    let less : c.place < p = a.0 in
    rw (ne_eqb c.place p (λ q. omega arith), all_kept cs p a.1) refl

-- one clause is changed where its seat is
pub changed : (s t : ℕ → Seat) (n e r : ℕ) (f : Live → Live) → AreSeated s → is_live (clauses_to s n e) r ≡ true → Agree s t r → (t r).is_seen ≡ true → (t r).clause ≡ f (s r).clause → clauses_to t n e ≡ with_clause (clauses_to s n e) r f
changed s t zero e r f w h a seen is = refl
changed s t (suc p) e r f w h a seen is =
    elim (cases_lt e (s p).stop) [
      | inl over ↦ absurd (both_ways false refl (rw (lt-leb (s p).stop e over) at h))
      | inr within ↦ rest (λ live. changed s t p (s p).start r f w live a seen is) within (s p).is_seen refl (rw (le-leb (s p).stop e within) at h)
    ]
  where
    cs : List Live
    cs = clauses_to s p (s p).start

    new : List Live
    new = step (nat_le (t p).stop e) (t p).is_seen (t p).clause (clauses_to t p (t p).start)

    here : (s p).stop ≤ e → (s p).is_seen ≡ true → (s p).clause.place ≡ r → new ≡ with_clause (clauses_to s (suc p) e) r f
    here within kept same =
        let at : p ≡ r = sym (w p).0 ∙ same in
        let seen' : (t p).is_seen ≡ true = ap (λ q. (t q).is_seen) at ∙ seen in
        let cell : (t p).clause ≡ f (s p).clause = ap (λ q. (t q).clause) at ∙ is ∙ ap (λ q. f (s q).clause) (sym at) in
        let low : (s p).start ≤ (s r).start = subst (λ q. (s p).start ≤ (s q).start) at (omega arith) in
        let tail : clauses_to t p (s p).start ≡ cs = same_below s t p (s p).start r w a (omega arith) low in
        let others : with_clause cs r f ≡ cs = untouched cs r f (all_below s p (s p).start r w (omega arith)) in
        rw (a.stops p, a.starts p, seen', cell, tail, le-leb (s p).stop e within, kept, eq-eqb (s p).clause.place r same, others) refl

    there : (is_live cs r ≡ true → clauses_to t p (s p).start ≡ with_clause cs r f) → (b : Bool) → (s p).stop ≤ e → (s p).is_seen ≡ b → is_live cs r ≡ true → new ≡ with_clause (clauses_to s (suc p) e) r f
    there ih b within kept live =
        let k : Found s p (s p).start r = found s p (s p).start r w live in
        let before : r < p = k.within in
        let at : t p ≡ s p = a.others p (λ q. omega arith) (inr k.ends) in
        let place : (s p).clause.place ≡ p = (w p).0 in
        rw (at, le-leb (s p).stop e within, kept, ih live) (put b (λ q. (let z : p ≡ r = sym place ∙ q in omega arith)))
      where
        put : (b : Bool) → ((s p).clause.place ≡ r → ⊥) → step true b (s p).clause (with_clause cs r f) ≡ with_clause (step true b (s p).clause cs) r f
        put false apart = refl
        put true apart = rw (ne_eqb (s p).clause.place r apart) refl

    rest : (is_live cs r ≡ true → clauses_to t p (s p).start ≡ with_clause cs r f) → (s p).stop ≤ e → (b : Bool) → (s p).is_seen ≡ b → is_live (step true b (s p).clause cs) r ≡ true → new ≡ with_clause (clauses_to s (suc p) e) r f
    rest ih within false kept h = there ih false within kept h
    rest ih within true kept h = elim (or_cases (nat_eq (s p).clause.place r) (is_live cs r) h) [ inl q ↦ here within kept (eqb-true (s p).clause.place r q) | inr q ↦ there ih true within kept q ]

-- one clause goes where its seat is not seen any more
pub removed : (s t : ℕ → Seat) (n e r : ℕ) → AreSeated s → is_live (clauses_to s n e) r ≡ true → Agree s t r → (t r).is_seen ≡ false → clauses_to t n e ≡ without (clauses_to s n e) r
removed s t zero e r w h a gone = refl
removed s t (suc p) e r w h a gone =
    elim (cases_lt e (s p).stop) [
      | inl over ↦ absurd (both_ways false refl (rw (lt-leb (s p).stop e over) at h))
      | inr within ↦ rest (λ live. removed s t p (s p).start r w live a gone) within (s p).is_seen refl (rw (le-leb (s p).stop e within) at h)
    ]
  where
    cs : List Live
    cs = clauses_to s p (s p).start

    new : List Live
    new = step (nat_le (t p).stop e) (t p).is_seen (t p).clause (clauses_to t p (t p).start)

    here : (s p).stop ≤ e → (s p).is_seen ≡ true → (s p).clause.place ≡ r → new ≡ without (clauses_to s (suc p) e) r
    here within kept same =
        let at : p ≡ r = sym (w p).0 ∙ same in
        let gone' : (t p).is_seen ≡ false = ap (λ q. (t q).is_seen) at ∙ gone in
        let low : (s p).start ≤ (s r).start = subst (λ q. (s p).start ≤ (s q).start) at (omega arith) in
        let tail : clauses_to t p (s p).start ≡ cs = same_below s t p (s p).start r w a (omega arith) low in
        let others : without cs r ≡ cs = all_kept cs r (all_below s p (s p).start r w (omega arith)) in
        rw (a.stops p, a.starts p, gone', tail, le-leb (s p).stop e within, kept, eq-eqb (s p).clause.place r same, others) refl

    there : (is_live cs r ≡ true → clauses_to t p (s p).start ≡ without cs r) → (b : Bool) → (s p).stop ≤ e → (s p).is_seen ≡ b → is_live cs r ≡ true → new ≡ without (clauses_to s (suc p) e) r
    there ih b within kept live =
        let k : Found s p (s p).start r = found s p (s p).start r w live in
        let before : r < p = k.within in
        let at : t p ≡ s p = a.others p (λ q. omega arith) (inr k.ends) in
        let place : (s p).clause.place ≡ p = (w p).0 in
        rw (at, le-leb (s p).stop e within, kept, ih live) (put b (λ q. (let z : p ≡ r = sym place ∙ q in omega arith)))
      where
        put : (b : Bool) → ((s p).clause.place ≡ r → ⊥) → step true b (s p).clause (without cs r) ≡ without (step true b (s p).clause cs) r
        put false apart = refl
        put true apart = rw (ne_eqb (s p).clause.place r apart) refl

    rest : (is_live cs r ≡ true → clauses_to t p (s p).start ≡ without cs r) → (s p).stop ≤ e → (b : Bool) → (s p).is_seen ≡ b → is_live (step true b (s p).clause cs) r ≡ true → new ≡ without (clauses_to s (suc p) e) r
    rest ih within false kept h = there ih false within kept h
    rest ih within true kept h = elim (or_cases (nat_eq (s p).clause.place r) (is_live cs r) h) [ inl q ↦ here within kept (eqb-true (s p).clause.place r q) | inr q ↦ there ih true within kept q ]

-- a clause at the next seat is the newest
pub newest : (s t : ℕ → Seat) (n e end : ℕ) → AreSeated s → ((p : ℕ) → p < n → (t p).stop ≡ (s p).stop) → ((p : ℕ) → p < n → (s p).stop ≤ e → t p ≡ s p) → (t n).start ≡ e → (t n).stop ≤ end → (t n).is_seen ≡ true → clauses_to t (suc n) end ≡ (t n).clause ∷ clauses_to s n e
newest s t n e end w stops same start stop seen = rw (le-leb (t n).stop end stop, seen, start, same_to s t n e e w stops same (omega arith)) refl

-- one seat is read: nothing where its literals do not fit, and else its clause where it is seen
pub scan_over : (s : ℕ → Seat) (p e : ℕ) → e < (s p).stop → clauses_to s (suc p) e ≡ []
scan_over s p e over = rw (lt-leb (s p).stop e over) refl

pub scan_seen : (s : ℕ → Seat) (p e : ℕ) → (s p).stop ≤ e → (s p).is_seen ≡ true → clauses_to s (suc p) e ≡ (s p).clause ∷ clauses_to s p (s p).start
scan_seen s p e within seen = rw (le-leb (s p).stop e within, seen) refl

pub scan_passed : (s : ℕ → Seat) (p e : ℕ) → (s p).stop ≤ e → (s p).is_seen ≡ false → clauses_to s (suc p) e ≡ clauses_to s p (s p).start
scan_passed s p e within seen = rw (le-leb (s p).stop e within, seen) refl
