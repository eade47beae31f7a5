-- Clauses that are let go, in the arena and in the log.
use Rattle.std.proofs.Common.{◌≡◌, ℕ, suc, ◌≤◌, Bool, true, false, cond, not, ◌||◌, nat_eq, List, [], ◌∷◌, ◌++◌, map, length, Some, None, refl, sym, ap, ◌∙◌, subst, arith, inl, inr}
use Rattle.std.specs.List.{filter, fold}
use Rattle.std.proofs.lemmas.Bool.{both_ways, or_parts, eq-eqb, eqb-true, cases_eq}
use Rattle.std.proofs.lemmas.List.Sums.{fold-append}
use Rattle.cnf_base.specs.Literals.{Clause, has_lit}
use Rattle.cnf_base.specs.Logs.{clause_of, removal_fault, is_live as is_logged, without as without_id}
use Rattle.clause_arena.specs.Clauses.{Live, no_clause, clause_at, is_live, id_of, without}
use Rattle.clause_arena.proofs.Updates.{without-other, without-live, without-gone}
use Rattle.watch_lists.specs.Rows.{times}
use Rattle.watch_lists.specs.Fits.{KeepsClauses}
use Rattle.watch_lists.proofs.RowLemmas.{times-here, times-other}
use Rattle.watch_lists.proofs.ClauseLemmas.{keeps_both}
use Rattle.conflict_learn.specs.Resolvents.{Mirrors}
use Rattle.conflict_learn.proofs.MirrorLemmas.{mirrors_what_is_left, mirrors_after_removal}
use Rattle.sat_core.specs.Standing.{AreIdsApart, Covers, IsCovered}
use Rattle.sat_core.specs.Reducing.{Loses, ids_in}
use Rattle.sat_core.proofs.HoldLemmas.{mirrors_kept, covers_kept, apart_kept}

-- where no clause lives, none is read
none_at : (cs : List Live) (r : ℕ) → is_live cs r ≡ false → clause_at cs r ≡ no_clause
none_at [] r h = refl
none_at (c ∷ cs) r h = let p = or_parts (nat_eq c.place r) (is_live cs r) h in rw p.0 (none_at cs r p.1)

gone_at : (cs : List Live) (r x : ℕ) → x ≡ r → clause_at (without cs r) x ≡ no_clause
gone_at cs r x e = ap (clause_at (without cs r)) e ∙ none_at (without cs r) r (without-gone cs r)

places_without : (cs : List Live) (r : ℕ) → map (λ (c : Live). c.place) (without cs r) ≡ filter (λ p. cond (nat_eq p r) false true) (map (λ (c : Live). c.place) cs)
places_without [] r = refl
places_without (c ∷ cs) r = at (nat_eq c.place r) (places_without cs r)
  where
    at : (b : Bool) → map (λ (c : Live). c.place) (without cs r) ≡ filter (λ p. cond (nat_eq p r) false true) (map (λ (c : Live). c.place) cs) → map (λ (c : Live). c.place) (cond (cond b false true) (c ∷ without cs r) (without cs r)) ≡ cond (cond b false true) (c.place ∷ filter (λ p. cond (nat_eq p r) false true) (map (λ (c : Live). c.place) cs)) (filter (λ p. cond (nat_eq p r) false true) (map (λ (c : Live). c.place) cs))
    at true e = e
    at false e = ap (λ ps. c.place ∷ ps) e

-- clauses that are kept are kept without one of them
pub keeps_without : (cs ds : List Live) (r : ℕ) → KeepsClauses cs ds → KeepsClauses (without cs r) (without ds r)
keeps_without cs ds r k = record {
  places = places_without ds r ∙ ap (filter (λ p. cond (nat_eq p r) false true)) k.places ∙ sym (places_without cs r);
  live = λ x. elim (cases_eq x r) [
    | inl e ↦ ap (is_live (without ds r)) e ∙ without-gone ds r ∙ sym (ap (is_live (without cs r)) e ∙ without-gone cs r)
    | inr n ↦ without-live ds r x n ∙ k.live x ∙ sym (without-live cs r x n)
  ];
  id = λ x. elim (cases_eq x r) [
    | inl e ↦ ap (λ (c : Live). c.id) (gone_at ds r x e ∙ sym (gone_at cs r x e))
    | inr n ↦ ap (λ (c : Live). c.id) (without-other ds r x n) ∙ k.id x ∙ sym (ap (λ (c : Live). c.id) (without-other cs r x n))
  ];
  lits = λ x m. elim (cases_eq x r) [
    | inl e ↦ ap (λ (c : Live). has_lit c.lits m) (gone_at ds r x e ∙ sym (gone_at cs r x e))
    | inr n ↦ ap (λ (c : Live). has_lit c.lits m) (without-other ds r x n) ∙ k.lits x m ∙ sym (ap (λ (c : Live). has_lit c.lits m) (without-other cs r x n))
  ];
  long = λ x. elim (cases_eq x r) [
    | inl e ↦ ap (λ (c : Live). length c.lits) (gone_at ds r x e ∙ sym (gone_at cs r x e))
    | inr n ↦ ap (λ (c : Live). length c.lits) (without-other ds r x n) ∙ k.long x ∙ sym (ap (λ (c : Live). length c.lits) (without-other cs r x n))
  ];
}

-- one more is lost
pub loses_more : (cs ds es : List Live) (gone : List ℕ) (r : ℕ) → Loses cs gone ds → Loses ds (r ∷ []) es → Loses cs (gone ++ r ∷ []) es
loses_more cs ds es gone r l m =
    let P : List Live → Type 0 = λ bs. KeepsClauses bs es in
    subst P (sym (fold-append without cs gone (r ∷ []))) (keeps_both (without (fold without cs gone) r) (without ds r) es (keeps_without (fold without cs gone) ds r l) m)

-- the live clauses of a log and those of an arena are the same
pub record AreAlike (logged : List (ℕ × Clause)) (cs : List Live) : Type 0 where
  pub mirrors : Mirrors logged cs
  pub covers : Covers cs logged
  pub apart : AreIdsApart cs

pub alike_kept : (logged : List (ℕ × Clause)) (cs ds : List Live) → KeepsClauses cs ds → AreAlike logged cs → AreAlike logged ds
alike_kept logged cs ds k a = record { mirrors = mirrors_kept logged cs ds k a.mirrors; covers = covers_kept logged cs ds k a.covers; apart = apart_kept cs ds k a.apart }

-- what is found without an id is found with it, under another id
found_before : (logged : List (ℕ × Clause)) (gone id : ℕ) (c : Clause) → clause_of (without_id logged gone) id ≡ Some c → (clause_of logged id ≡ Some c) × (id ≡ gone → ⊥)
found_before [] gone id c e = cc
found_before (x ∷ xs) gone id c e = at (nat_eq x.0 gone) (nat_eq x.0 id) refl refl e (found_before xs gone id c)
  where
    at : (a b : Bool) → nat_eq x.0 gone ≡ a → nat_eq x.0 id ≡ b → clause_of (cond (not a) (x ∷ without_id xs gone) (without_id xs gone)) id ≡ Some c → (clause_of (without_id xs gone) id ≡ Some c → (clause_of xs id ≡ Some c) × (id ≡ gone → ⊥)) → (cond b (Some x.1) (clause_of xs id) ≡ Some c) × (id ≡ gone → ⊥)
    at true true g h k ih = absurd ((ih k).1 (sym (eqb-true x.0 id h) ∙ eqb-true x.0 gone g))
    at true false g h k ih = ih k
    at false true g h k ih = (sym (ap (λ b. cond b (Some x.1) (clause_of (without_id xs gone) id)) h) ∙ k, λ same. both_ways (nat_eq x.0 gone) g (eq-eqb x.0 gone (eqb-true x.0 id h ∙ same)))
    at false false g h k ih = ih (sym (ap (λ b. cond b (Some x.1) (clause_of (without_id xs gone) id)) h) ∙ k)

other_place : (cs : List Live) (r x : ℕ) → is_live (without cs r) x ≡ true → x ≡ r → ⊥
other_place cs r x live e = both_ways (is_live (without cs r) x) (ap (is_live (without cs r)) e ∙ without-gone cs r) live

-- one clause goes
pub alike_without : (logged : List (ℕ × Clause)) (cs : List Live) (r : ℕ) → is_live cs r ≡ true → AreAlike logged cs → AreAlike (without_id logged (id_of cs r)) (without cs r)
alike_without logged cs r live a = record {
  mirrors = mirrors_after_removal logged (without cs r) (id_of cs r) (λ x l e. n x l (a.apart x r (was x l) live (sym (ap (λ (c : Live). c.id) (without-other cs r x (n x l))) ∙ e))) (mirrors_what_is_left logged cs r a.mirrors);
  covers = λ id c e. (let k = found_before logged (id_of cs r) id c e in covered id c k.1 (a.covers id c k.0));
  apart = λ x y lx ly e. a.apart x y (was x lx) (was y ly) (sym (ap (λ (c : Live). c.id) (without-other cs r x (n x lx))) ∙ e ∙ ap (λ (c : Live). c.id) (without-other cs r y (n y ly)));
}
  where
    n : (x : ℕ) → is_live (without cs r) x ≡ true → x ≡ r → ⊥
    n x l = other_place cs r x l

    was : (x : ℕ) → is_live (without cs r) x ≡ true → is_live cs x ≡ true
    was x l = sym (without-live cs r x (n x l)) ∙ l

    covered : (id : ℕ) (c : Clause) → (id ≡ id_of cs r → ⊥) → IsCovered cs id c → IsCovered (without cs r) id c
    covered id c other h =
        let m : h.place ≡ r → ⊥ = λ e. other (sym h.id_is ∙ ap (id_of cs) e) in
        record {
          place = h.place;
          live = without-live cs r h.place m ∙ h.live;
          id_is = ap (λ (c : Live). c.id) (without-other cs r h.place m) ∙ h.id_is;
          same = λ l. ap (λ (c : Live). has_lit c.lits l) (without-other cs r h.place m) ∙ h.same l;
        }

-- of a list in which each stands once, the first stands in the rest no more
pub once_apart : (r x : ℕ) (rest : List ℕ) → ((y : ℕ) → times y (r ∷ rest) ≤ 1) → 1 ≤ times x rest → x ≡ r → ⊥
once_apart r x rest once some e =
    let here : times x (r ∷ rest) ≡ suc (times x rest) = times-here x r rest (sym e) in
    let most = once x in omega arith

pub once_rest : (r : ℕ) (rest : List ℕ) → ((y : ℕ) → times y (r ∷ rest) ≤ 1) → (y : ℕ) → times y rest ≤ 1
once_rest r rest once y = elim (cases_eq r y) [
  | inl e ↦ (let here : times y (r ∷ rest) ≡ suc (times y rest) = times-here y r rest e in let most = once y in omega arith)
  | inr n ↦ (let other : times y (r ∷ rest) ≡ times y rest = times-other y r rest n in let most = once y in omega arith)
]

pub some_rest : (r x : ℕ) (rest : List ℕ) → 1 ≤ times x rest → 1 ≤ times x (r ∷ rest)
some_rest r x rest some = elim (cases_eq r x) [
  | inl e ↦ (let here : times x (r ∷ rest) ≡ suc (times x rest) = times-here x r rest e in omega arith)
  | inr n ↦ (let other : times x (r ∷ rest) ≡ times x rest = times-other x r rest n in omega arith)
]

pub some_first : (r : ℕ) (rest : List ℕ) → 1 ≤ times r (r ∷ rest)
some_first r rest = let here : times r (r ∷ rest) ≡ suc (times r rest) = times-here r r rest refl in omega arith

-- ids that are the same for each of the places
pub ids_same : (cs ds : List Live) (ps : List ℕ) → ((x : ℕ) → 1 ≤ times x ps → id_of ds x ≡ id_of cs x) → ids_in ds ps ≡ ids_in cs ps
ids_same cs ds [] same = refl
ids_same cs ds (p ∷ ps) same = ap (λ n. n ∷ ids_in ds ps) (same p (some_first p ps)) ∙ ap (λ ns. id_of cs p ∷ ns) (ids_same cs ds ps (λ x h. same x (some_rest p x ps h)))

named_is_live : (logged : List (ℕ × Clause)) (id : ℕ) (c : Clause) → clause_of logged id ≡ Some c → is_logged logged id ≡ true
named_is_live [] id c e = cc
named_is_live (x ∷ xs) id c e = at (nat_eq x.0 id) e (named_is_live xs id c)
  where
    at : (b : Bool) → cond b (Some x.1) (clause_of xs id) ≡ Some c → (clause_of xs id ≡ Some c → is_logged xs id ≡ true) → (b || is_logged xs id) ≡ true
    at true k ih = refl
    at false k ih = ih k

-- what stays of the places once the first clause went
pub record StaysLive (cs : List Live) (r : ℕ) (rest : List ℕ) : Type 0 where
  pub live : (x : ℕ) → 1 ≤ times x rest → is_live (without cs r) x ≡ true
  pub once : (x : ℕ) → times x rest ≤ 1
  pub ids : ids_in (without cs r) rest ≡ ids_in cs rest

pub stays_live : (cs : List Live) (r : ℕ) (rest : List ℕ) → ((x : ℕ) → 1 ≤ times x (r ∷ rest) → is_live cs x ≡ true) → ((x : ℕ) → times x (r ∷ rest) ≤ 1) → StaysLive cs r rest
stays_live cs r rest live once = record {
  live = λ x h. without-live cs r x (once_apart r x rest once h) ∙ live x (some_rest r x rest h);
  once = once_rest r rest once;
  ids = ids_same cs (without cs r) rest (λ x h. ap (λ (c : Live). c.id) (without-other cs r x (once_apart r x rest once h)));
}

-- all of them go
pub alike_without_all : (logged : List (ℕ × Clause)) (cs : List Live) (gone : List ℕ) → ((x : ℕ) → 1 ≤ times x gone → is_live cs x ≡ true) → ((x : ℕ) → times x gone ≤ 1) → AreAlike logged cs → AreAlike (fold without_id logged (ids_in cs gone)) (fold without cs gone)
alike_without_all logged cs [] live once a = a
alike_without_all logged cs (r ∷ rest) live once a =
    let s = stays_live cs r rest live once in
    let P : List ℕ → Type 0 = λ ids. AreAlike (fold without_id (without_id logged (id_of cs r)) ids) (fold without (without cs r) rest) in
    subst P s.ids (alike_without_all (without_id logged (id_of cs r)) (without cs r) rest s.live s.once (alike_without logged cs r (live r (some_first r rest)) a))

-- each is live in the log when its turn comes
pub removal_passes : (logged : List (ℕ × Clause)) (cs : List Live) (gone : List ℕ) → ((x : ℕ) → 1 ≤ times x gone → is_live cs x ≡ true) → ((x : ℕ) → times x gone ≤ 1) → AreAlike logged cs → removal_fault logged (ids_in cs gone) ≡ None
removal_passes logged cs [] live once a = refl
removal_passes logged cs (r ∷ rest) live once a =
    let s = stays_live cs r rest live once in
    let here = live r (some_first r rest) in
    let t = a.mirrors.twin r here in
    let P : List ℕ → Type 0 = λ ids. removal_fault (without_id logged (id_of cs r)) ids ≡ None in
    rw (named_is_live logged (id_of cs r) t.clause t.is) (subst P s.ids (removal_passes (without_id logged (id_of cs r)) (without cs r) rest s.live s.once (alike_without logged cs r here a)))
