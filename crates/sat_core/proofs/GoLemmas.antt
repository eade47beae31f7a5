-- A clause that is no reason is let go, and the search is ready as before.
use Rattle.std.proofs.Common.{◌≡◌, ℕ, zero, suc, ◌+◌, ◌<◌, ◌≤◌, Bool, true, false, cond, not, nat_eq, nat_lt, List, [], ◌∷◌, ◌++◌, length, take, drop, get_or, Option, Some, None, refl, sym, ap, ◌∙◌, subst, arith, inl, inr}
use Rattle.std.specs.List.{list_any}
use Rattle.std.proofs.lemmas.Bool.{and_parts, or_parts, or_cases, or_left, or_right, both_ways, eqb-true, eq-eqb, ltb-true, not-true, false_from_ne_true, lt-ltb, le-ltb}
use Rattle.cnf_base.specs.declared.literal.Lit.{Lit}
use Rattle.cnf_base.specs.Literals.{variable, same_lit, has_lit}
use Rattle.cnf_base.proofs.LitLemmas.{same_lit-is}
use Rattle.clause_arena.specs.declared.ClauseRef.{ClauseRef}
use Rattle.clause_arena.specs.Clauses.{Live, is_live, lits_of, place_of, without}
use Rattle.clause_arena.specs.Words.{clauses_in}
use Rattle.clause_arena.proofs.Updates.{without-other, without-live, without-gone}
use Rattle.watch_lists.specs.declared.trail.Entry.{Entry}
use Rattle.watch_lists.specs.Entries.{entry, entry_of, reason_of, is_assigned, true_by}
use Rattle.watch_lists.specs.Rows.{times}
use Rattle.watch_lists.specs.Leaving.{is_marked}
use Rattle.watch_lists.proofs.RowLemmas.{times-other}
use Rattle.watch_lists.proofs.ClauseLemmas.{keeps_same}
use Rattle.watch_lists.specs.Trails.{Seen, IsTrail}
use Rattle.watch_lists.specs.Fits.{Fits, attached_in, AreReasons, IsNoReason, KeepsClauses}
use Rattle.watch_lists.proofs.AssignLemmas.{fits_after_retire}
use Rattle.sat_core.specs.declared.search.Search.{Search}
use Rattle.sat_core.specs.Standing.{IsPlaced}
use Rattle.sat_core.specs.Ready.{IsReady}
use Rattle.sat_core.specs.Reducing.{leads_to, is_reason, is_idle, Loses, MayAllGo, AreMarked, places_of}
use Rattle.sat_core.proofs.TrailLemmas.{PassesAt, any_at, at_any}
use Rattle.sat_core.proofs.ReleaseLemmas.{entry_is}
use Rattle.sat_core.proofs.GainLemmas.{ordered_on}
use Rattle.sat_core.proofs.LoseLemmas.{loses_more, once_apart, once_rest, some_rest, some_first}

-- a variable without a value has no reason
pub reason_none : (es : List Entry) (v : ℕ) → is_assigned es v ≡ false → reason_of es v ≡ None
reason_none [] v h = refl
reason_none (e ∷ es) v h =
    let p = or_parts (nat_eq (variable e.lit) v) (is_assigned es v) h in
    ap (λ b. (cond b e (entry_of es v)).reason) p.0 ∙ reason_none es v p.1

-- the clause that is a variable's reason is a reason
pub reason_there : (es : List Entry) (r v : ℕ) → leads_to r (reason_of es v) ≡ true → is_reason es r ≡ true
reason_there [] r v h = h
reason_there (e ∷ es) r v h = at (nat_eq (variable e.lit) v) h (reason_there es r v)
  where
    at : (b : Bool) → leads_to r (cond b e (entry_of es v)).reason ≡ true → (leads_to r (reason_of es v) ≡ true → is_reason es r ≡ true) → is_reason (e ∷ es) r ≡ true
    at true k ih = or_left (leads_to r e.reason) (is_reason es r) k
    at false k ih = or_right (leads_to r e.reason) (is_reason es r) (ih k)

leads_some : (r : ℕ) (o : Option ClauseRef) → leads_to r o ≡ true → (s : ClauseRef) × (o ≡ Some s) × (s.0 ≡ r)
leads_some r None h = absurd (both_ways false refl h)
leads_some r (Some s) h = (s, refl, eqb-true s.0 r h)

place_leads : (r : ℕ) (o : Option ClauseRef) → place_of o ≡ Some r → leads_to r o ≡ true
place_leads r None h = absurd (cc)
place_leads r (Some s) h = eq-eqb s.0 r (let k : s.0 ≡ r = cc in k)

any_has : (q : Lit → Bool) (ls : List Lit) (m : Lit) → has_lit ls m ≡ true → q m ≡ true → list_any q ls ≡ true
any_has q [] m h k = cc
any_has q (l ∷ ls) m h k =
    elim (or_cases (same_lit m l) (has_lit ls m) h) as (λ _. list_any q (l ∷ ls) ≡ true)
    [ inl e ↦ or_left (q l) (list_any q ls) (ap q (sym (same_lit-is m l e)) ∙ k) | inr e ↦ or_right (q l) (list_any q ls) (any_has q ls m e k) ]

-- a clause that is the reason of none of its literals is no reason
pub no_reason : (t : Seen) (cs : List Live) (r : ℕ) → IsTrail t → AreReasons cs t.entries → list_any (λ (l : Lit). leads_to r (reason_of t.entries (variable l))) (lits_of cs r) ≡ false → is_reason t.entries r ≡ false
no_reason t cs r trail reasons none = false_from_ne_true (is_reason t.entries r) (λ h. at (any_at (λ (e : Entry). leads_to r e.reason) t.entries h))
  where
    at : PassesAt (λ (e : Entry). leads_to r e.reason) t.entries → ⊥
    at p =
        let s = leads_some r (entry t.entries p.place).reason p.passes in
        let is = reasons p.place s.0 p.within s.1 in
        let lit : Lit = (entry t.entries p.place).lit in
        let found : leads_to r (reason_of t.entries (variable (entry t.entries p.place).lit)) ≡ true = ap (λ (e : Entry). leads_to r e.reason) (entry_is t.entries p.place p.within trail.apart) ∙ p.passes in
        let has : has_lit (lits_of cs r) (entry t.entries p.place).lit ≡ true = ap (λ x. has_lit (lits_of cs x) (entry t.entries p.place).lit) (sym s.2) ∙ is.has in
        both_ways (list_any (λ (l : Lit). leads_to r (reason_of t.entries (variable l))) (lits_of cs r)) none (any_has (λ (l : Lit). leads_to r (reason_of t.entries (variable l))) (lits_of cs r) (entry t.entries p.place).lit has found)

pub none_leads : (es : List Entry) (r : ℕ) → is_reason es r ≡ false → IsNoReason es r
none_leads es r none i lt is = both_ways (is_reason es r) none (at_any (λ (e : Entry). leads_to r e.reason) es i lt (place_leads r (entry es i).reason is))

-- an idle clause is long, and no reason
pub idle_parts : (t : Seen) (cs : List Live) (r : ℕ) → is_idle t cs r ≡ true → (2 < length (lits_of cs r)) × (is_reason t.entries r ≡ false)
idle_parts t cs r h =
    let p = and_parts (nat_lt 2 (length (lits_of cs r))) (not (is_reason t.entries r)) h in
    (ltb-true 2 (length (lits_of cs r)) p.0, not-true (is_reason t.entries r) p.1)

-- a clause of three literals or more is attached
pub long_attached : (t : Seen) (cs : List Live) (r : ℕ) → 2 < length (lits_of cs r) → IsPlaced t cs r → attached_in t cs r ≡ true
long_attached t cs r long (inl a) = a
long_attached t cs r long (inr fact) = absurd (let one : length (lits_of cs r) ≡ 1 = ap length fact.alone in omega arith)

-- on the way: all clauses left the lists of watches, and so many of them the arena
pub record IsLettingGo (old now : Search) (gone : List ℕ) (n : ℕ) : Type 0 where
  pub same : now ≡ record old { arena = now.arena; trail = now.trail }
  pub entries : now.trail.entries ≡ old.trail.entries
  pub vars : now.trail.vars ≡ old.trail.vars
  pub fits : Fits now.trail (clauses_in now.arena)
  pub loses : Loses (clauses_in old.arena) (take n gone) (clauses_in now.arena)
  pub live : (x : ℕ) → 1 ≤ times x (drop n gone) → is_live (clauses_in now.arena) x ≡ true
  pub idle : (x : ℕ) → 1 ≤ times x (drop n gone) → is_reason old.trail.entries x ≡ false
  pub once : (x : ℕ) → times x (drop n gone) ≤ 1
  pub off : (x : ℕ) → 1 ≤ times x (drop n gone) → attached_in now.trail (clauses_in now.arena) x ≡ false
  pub placed : (x : ℕ) → is_live (clauses_in now.arena) x ≡ true → times x (drop n gone) ≡ 0 → IsPlaced now.trail (clauses_in now.arena) x

-- all clauses left the lists of watches
pub begins : (old now : Search) (gone : List ℕ) (marks : List Bool) → IsReady old → MayAllGo old.trail (clauses_in old.arena) gone → AreMarked marks gone → now ≡ record old { arena = now.arena; trail = now.trail } → now.trail ≡ record old.trail { heads = now.trail.heads } → Fits now.trail (clauses_in now.arena) → KeepsClauses (clauses_in old.arena) (clauses_in now.arena) → ((x : ℕ) → lits_of (clauses_in now.arena) x ≡ lits_of (clauses_in old.arena) x)
    → ((x : ℕ) → attached_in now.trail (clauses_in now.arena) x ≡ cond (is_marked marks x) false (attached_in old.trail (clauses_in old.arena) x)) → IsLettingGo old now gone 0
begins old now gone marks ready may marked same trail fits keeps lits attached = record {
  same = same;
  entries = ap (λ (t : Seen). t.entries) trail;
  vars = ap (λ (t : Seen). t.vars) trail;
  fits = fits;
  loses = keeps;
  live = λ x h. keeps.live x ∙ may.live x h;
  idle = λ x h. (idle_parts old.trail (clauses_in old.arena) x (may.idle x h)).1;
  once = may.once;
  off = λ x h. attached x ∙ ap (λ b. cond b false (attached_in old.trail (clauses_in old.arena) x)) (marked x ∙ lt-ltb 0 (times x gone) (omega arith));
  placed = λ x live none. at x (attached x ∙ ap (λ b. cond b false (attached_in old.trail (clauses_in old.arena) x)) (marked x ∙ le-ltb 0 (times x gone) (omega arith))) (ready.placed x (sym (keeps.live x) ∙ live));
}
  where
    at : (x : ℕ) → attached_in now.trail (clauses_in now.arena) x ≡ attached_in old.trail (clauses_in old.arena) x → IsPlaced old.trail (clauses_in old.arena) x → IsPlaced now.trail (clauses_in now.arena) x
    at x e (inl a) = inl (e ∙ a)
    at x e (inr fact) = inr (record { lit = fact.lit; alone = lits x ∙ fact.alone; true_at_0 = ap (λ (t : Seen). true_by 0 t.entries fact.lit) trail ∙ fact.true_at_0 })

pub some_at : (rs : List ClauseRef) (i : ℕ) → i < length rs → 1 ≤ times (get_or rs i (record { 0 = 0 })).0 (places_of rs)
some_at [] i lt = absurd (omega arith)
some_at (r ∷ rs) zero lt = some_first r.0 (places_of rs)
some_at (r ∷ rs) (suc i) lt = some_rest r.0 (get_or rs i (record { 0 = 0 })).0 (places_of rs) (some_at rs i (omega arith))

drop_suc : (rs : List ClauseRef) (i : ℕ) → i < length rs → drop i (places_of rs) ≡ (get_or rs i (record { 0 = 0 })).0 ∷ drop (suc i) (places_of rs)
drop_suc [] i lt = absurd (omega arith)
drop_suc (r ∷ rs) zero lt = refl
drop_suc (r ∷ rs) (suc i) lt = drop_suc rs i (omega arith)

drop_at : (rs : List ClauseRef) (i : ℕ) → i < length rs → drop i (places_of rs) ≡ (get_or rs i (record { 0 = 0 })).0 ∷ drop (i + 1) (places_of rs)
drop_at rs i lt = let e : suc i ≡ i + 1 = omega arith in drop_suc rs i lt ∙ ap (λ n. (get_or rs i (record { 0 = 0 })).0 ∷ drop n (places_of rs)) e

take_suc : (rs : List ClauseRef) (i : ℕ) → i < length rs → take (suc i) (places_of rs) ≡ take i (places_of rs) ++ (get_or rs i (record { 0 = 0 })).0 ∷ []
take_suc [] i lt = absurd (omega arith)
take_suc (r ∷ rs) zero lt = refl
take_suc (r ∷ rs) (suc i) lt = ap (λ ps. r.0 ∷ ps) (take_suc rs i (omega arith))

pub take_at : (rs : List ClauseRef) (i : ℕ) → i < length rs → take (i + 1) (places_of rs) ≡ take i (places_of rs) ++ (get_or rs i (record { 0 = 0 })).0 ∷ []
take_at rs i lt = let e : i + 1 ≡ suc i = omega arith in ap (λ n. take n (places_of rs)) e ∙ take_suc rs i lt

pub take_whole : (rs : List ClauseRef) (i : ℕ) → length rs ≤ i → take i (places_of rs) ≡ places_of rs
take_whole [] zero le = refl
take_whole [] (suc i) le = refl
take_whole (r ∷ rs) zero le = absurd (omega arith)
take_whole (r ∷ rs) (suc i) le = ap (λ ps. r.0 ∷ ps) (take_whole rs i (omega arith))

-- the next clause may go
pub first_goes : (old now : Search) (rs : List ClauseRef) (i : ℕ) → i < length rs → IsLettingGo old now (places_of rs) i → 1 ≤ times (get_or rs i (record { 0 = 0 })).0 (drop i (places_of rs))
first_goes old now rs i lt h =
    let r : ℕ = (get_or rs i (record { 0 = 0 })).0 in
    subst (λ ps. 1 ≤ times (get_or rs i (record { 0 = 0 })).0 ps) (sym (drop_at rs i lt)) (some_first r (drop (i + 1) (places_of rs)))

-- one clause more leaves the arena
pub goes_on : (old now new : Search) (rs : List ClauseRef) (i : ℕ) → i < length rs → IsLettingGo old now (places_of rs) i → new ≡ record now { arena = new.arena } → clauses_in new.arena ≡ without (clauses_in now.arena) (get_or rs i (record { 0 = 0 })).0 → IsLettingGo old new (places_of rs) (i + 1)
goes_on old now new rs i lt h same left = record {
  same = same ∙ ap (λ (s : Search). record s { arena = new.arena }) h.same ∙ ap (λ (t : Seen). record old { arena = new.arena; trail = t }) (sym trail);
  entries = ap (λ (t : Seen). t.entries) trail ∙ h.entries;
  vars = ap (λ (t : Seen). t.vars) trail ∙ h.vars;
  fits = over (λ (t : Seen) (ds : List Live). Fits t ds) law.0;
  loses = (let P : List ℕ → Type 0 = λ ps. Loses (clauses_in old.arena) ps (clauses_in new.arena) in subst P (sym (take_at rs i lt)) (loses_more (clauses_in old.arena) (clauses_in now.arena) (clauses_in new.arena) (take i (places_of rs)) (get_or rs i (record { 0 = 0 })).0 h.loses (subst (λ (ds : List Live). Loses (clauses_in now.arena) ((get_or rs i (record { 0 = 0 })).0 ∷ []) ds) (sym left) (keeps_same (without (clauses_in now.arena) (get_or rs i (record { 0 = 0 })).0)))));
  live = λ x k. ap (λ ds. is_live ds x) left ∙ without-live (clauses_in now.arena) r x (apart x k) ∙ h.live x (ahead x k);
  idle = λ x k. h.idle x (ahead x k);
  once = once_rest r (drop (i + 1) (places_of rs)) once_all;
  off = λ x k. over (λ (t : Seen) (ds : List Live). attached_in t ds x ≡ false) (law.1 x ∙ h.off x (ahead x k));
  placed = λ x live none. (let l : is_live (without (clauses_in now.arena) (get_or rs i (record { 0 = 0 })).0) x ≡ true = ap (λ ds. is_live ds x) (sym left) ∙ live in
      over (λ (t : Seen) (ds : List Live). IsPlaced t ds x) (at x (other x l) (h.placed x (sym (without-live (clauses_in now.arena) r x (other x l)) ∙ l) (ap (times x) (drop_at rs i lt) ∙ times-other x r (drop (i + 1) (places_of rs)) (λ e. other x l (sym e)) ∙ none))));
}
  where
    r : ℕ
    r = (get_or rs i (record { 0 = 0 })).0

    trail : new.trail ≡ now.trail
    trail = ap (λ (s : Search). s.trail) same

    over : (P : Seen → List Live → Type 0) → P now.trail (without (clauses_in now.arena) (get_or rs i (record { 0 = 0 })).0) → P new.trail (clauses_in new.arena)
    over P p = subst (λ (t : Seen). P t (clauses_in new.arena)) (sym trail) (subst (λ (ds : List Live). P now.trail ds) (sym left) p)

    some : 1 ≤ times (get_or rs i (record { 0 = 0 })).0 (drop i (places_of rs))
    some = first_goes old now rs i lt h

    once_all : (x : ℕ) → times x ((get_or rs i (record { 0 = 0 })).0 ∷ drop (i + 1) (places_of rs)) ≤ 1
    once_all x = subst (λ ps. times x ps ≤ 1) (drop_at rs i lt) (h.once x)

    apart : (x : ℕ) → 1 ≤ times x (drop (i + 1) (places_of rs)) → x ≡ (get_or rs i (record { 0 = 0 })).0 → ⊥
    apart x k = once_apart r x (drop (i + 1) (places_of rs)) once_all k

    ahead : (x : ℕ) → 1 ≤ times x (drop (i + 1) (places_of rs)) → 1 ≤ times x (drop i (places_of rs))
    ahead x k = subst (λ ps. 1 ≤ times x ps) (sym (drop_at rs i lt)) (some_rest r x (drop (i + 1) (places_of rs)) k)

    other : (x : ℕ) → is_live (without (clauses_in now.arena) (get_or rs i (record { 0 = 0 })).0) x ≡ true → x ≡ (get_or rs i (record { 0 = 0 })).0 → ⊥
    other x l e = both_ways (is_live (without (clauses_in now.arena) r) x) (ap (is_live (without (clauses_in now.arena) r)) e ∙ without-gone (clauses_in now.arena) r) l

    law : Fits now.trail (without (clauses_in now.arena) (get_or rs i (record { 0 = 0 })).0) × ((x : ℕ) → attached_in now.trail (without (clauses_in now.arena) (get_or rs i (record { 0 = 0 })).0) x ≡ attached_in now.trail (clauses_in now.arena) x)
    law = fits_after_retire now.trail (clauses_in now.arena) r h.fits (h.off r some) (subst (λ (es : List Entry). IsNoReason es r) (sym h.entries) (none_leads old.trail.entries r (h.idle r some)))

    at : (x : ℕ) → (x ≡ (get_or rs i (record { 0 = 0 })).0 → ⊥) → IsPlaced now.trail (clauses_in now.arena) x → IsPlaced now.trail (without (clauses_in now.arena) (get_or rs i (record { 0 = 0 })).0) x
    at x n (inl a) = inl (law.1 x ∙ a)
    at x n (inr fact) = inr (record { lit = fact.lit; alone = ap (λ (c : Live). c.lits) (without-other (clauses_in now.arena) r x n) ∙ fact.alone; true_at_0 = fact.true_at_0 })

drop_whole : (rs : List ClauseRef) (i : ℕ) → length rs ≤ i → drop i (places_of rs) ≡ []
drop_whole [] zero le = refl
drop_whole [] (suc i) le = refl
drop_whole (r ∷ rs) zero le = absurd (omega arith)
drop_whole (r ∷ rs) (suc i) le = drop_whole rs i (omega arith)

-- all of them are gone, and the search is ready as before
pub gone_are_ready : (old now : Search) (rs : List ClauseRef) (i : ℕ) → length rs ≤ i → IsReady old → IsLettingGo old now (places_of rs) i → IsReady now
gone_are_ready old now rs i le ready h = record {
  fits = h.fits;
  placed = λ x live. h.placed x live (ap (times x) (drop_whole rs i le));
  ordered = ordered_on old now.trail ready.ordered h.vars (λ v k. ap (λ es. is_assigned es v) h.entries ∙ k) now h.same;
}

pub all_gone : (old now : Search) (rs : List ClauseRef) (i : ℕ) → length rs ≤ i → IsLettingGo old now (places_of rs) i → Loses (clauses_in old.arena) (places_of rs) (clauses_in now.arena)
all_gone old now rs i le h = let P : List ℕ → Type 0 = λ ps. Loses (clauses_in old.arena) ps (clauses_in now.arena) in subst P (take_whole rs i le) h.loses
