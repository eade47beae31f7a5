-- As many lessons live in the arena as in the log, and all but the short ones and the reasons may go.
use Rattle.std.proofs.Common.{◌≡◌, ℕ, suc, ◌+◌, ◌/◌, ◌<◌, ◌≤◌, Bool, true, false, cond, ◌&&◌, not, nat_eq, nat_lt, nat_le, List, [], ◌∷◌, ◌++◌, map, length, Option, Some, None, refl, sym, ap, ◌∙◌, arith, inl, inr}
use Rattle.std.specs.List.{AllByRecursion, filter, fold, list_any, count_by, enumerate_from}
use Rattle.std.proofs.lemmas.Bool.{and_parts, and_from, or_cases, or_left, or_right, both_ways, not-true, eqb-true, eq-eqb, ne_eqb, ltb-true, lt-ltb, leb-true, le-leb, cases_lt}
use Rattle.std.proofs.lemmas.List.{length-map}
use Rattle.std.proofs.lemmas.List.Sums.{length-filter, sum_by-cons}
use Rattle.cnf_base.specs.declared.literal.Lit.{Lit}
use Rattle.cnf_base.specs.Literals.{variable, has_lit, same_lit, Clause, Cnf}
use Rattle.cnf_base.specs.Logs.{LogStep, Add, Remove, LogState, clause_of, without, distinct_vars, after_step, state_at_start, PassesFrom, IsWhole}
use Rattle.cnf_base.specs.Lessons.{live_additions, short_additions}
use Rattle.clause_arena.specs.declared.ClauseRef.{ClauseRef}
use Rattle.clause_arena.specs.Clauses.{Live, is_live, id_of, lits_of, places}
use Rattle.clause_arena.proofs.Packed.{Falls}
use Rattle.watch_lists.specs.declared.trail.Entry.{Entry}
use Rattle.watch_lists.specs.Rows.{lit_in}
use Rattle.watch_lists.specs.Trails.{Seen}
use Rattle.watch_lists.specs.Fits.{IsClause}
use Rattle.sat_core.specs.Standing.{log_state, AreIdsApart}
use Rattle.sat_core.specs.Intake.{numbers_of}
use Rattle.sat_core.specs.Reducing.{leads_to, is_reason, is_lesson, is_short_lesson, is_idle_lesson, lessons_in, short_lessons_in}
use Rattle.sat_core.proofs.AmongLemmas.{Among, among_filter}
use Rattle.sat_core.proofs.OnceLemmas.{number_in}
use Rattle.sat_core.proofs.RiseLemmas.{RisesTo, add_passes}
use Rattle.sat_core.proofs.PigeonLemmas.{Apart, no_more, among_passed, apart_filter, key_among}
use Rattle.sat_core.proofs.LoseLemmas.{AreAlike}

-- a place is listed exactly where a clause lives there
pub live_among : (cs : List Live) (r : ℕ) → Among r (places cs) → is_live cs r ≡ true
live_among [] r h = absurd h
live_among (c ∷ cs) r (inl e) = or_left (nat_eq c.place r) (is_live cs r) (eq-eqb c.place r e)
live_among (c ∷ cs) r (inr h) = or_right (nat_eq c.place r) (is_live cs r) (live_among cs r h)

pub among_live : (cs : List Live) (r : ℕ) → is_live cs r ≡ true → Among r (places cs)
among_live [] r h = cc
among_live (c ∷ cs) r h = elim (or_cases (nat_eq c.place r) (is_live cs r) h) as (λ _. Among r (places (c ∷ cs))) [ inl e ↦ inl (eqb-true c.place r e) | inr k ↦ inr (among_live cs r k) ]

pub apart_places : (cs : List Live) → Falls cs → Apart (λ r. r) (places cs)
apart_places [] f = tt
apart_places (c ∷ cs) f = ((λ y h e. (let lt : y < c.place = below cs y f.0 h in omega arith)), apart_places cs f.1)
  where
    below : (ds : List Live) (y : ℕ) → AllByRecursion (λ d. d.place < c.place) ds → Among y (places ds) → y < c.place
    below [] y a h = absurd h
    below (d ∷ ds) y a (inl e) = let lt : d.place < c.place = a.0 in omega arith
    below (d ∷ ds) y a (inr h) = below ds y a.1 h

apart_ids : (cs : List Live) (ps : List ℕ) → AreIdsApart cs → ((r : ℕ) → Among r ps → is_live cs r ≡ true) → Apart (λ r. r) ps → Apart (id_of cs) ps
apart_ids cs [] apart live a = tt
apart_ids cs (p ∷ ps) apart live a = ((λ y h e. a.0 y h (apart p y (live p (inl refl)) (live y (inr h)) e)), apart_ids cs ps apart (λ r h. live r (inr h)) a.1)

-- ids of a log's clauses rise, so they are apart and each names its own
above : (low last : ℕ) (es : List (ℕ × Clause)) (x : ℕ × Clause) → RisesTo low es last → Among x es → low < x.0
above low last [] x h k = absurd k
above low last (e ∷ es) x h (inl same) = let lt : low < e.0 = h.0 in let is : e.0 ≡ x.0 = ap (λ (y : ℕ × Clause). y.0) same in omega arith
above low last (e ∷ es) x h (inr k) = let lt : low < e.0 = h.0 in let m : e.0 < x.0 = above e.0 last es x h.1 k in omega arith

apart_logged : (low last : ℕ) (es : List (ℕ × Clause)) → RisesTo low es last → Apart (λ (e : ℕ × Clause). e.0) es
apart_logged low last [] h = tt
apart_logged low last (e ∷ es) h = ((λ x k same. (let m : e.0 < x.0 = above e.0 last es x h.1 k in omega arith)), apart_logged e.0 last es h.1)

found_here : (low last : ℕ) (es : List (ℕ × Clause)) (x : ℕ × Clause) → RisesTo low es last → Among x es → clause_of es x.0 ≡ Some x.1
found_here low last [] x h k = absurd k
found_here low last (e ∷ es) x h (inl same) =
    rw (eq-eqb e.0 x.0 (ap (λ (y : ℕ × Clause). y.0) same)) (ap (λ (y : ℕ × Clause). Some y.1) same)
found_here low last (e ∷ es) x h (inr k) =
    let m : e.0 < x.0 = above e.0 last es x h.1 k in
    rw (ne_eqb e.0 x.0 (λ d. omega arith)) (found_here e.0 last es x h.1 k)

-- what an id names is listed where it passes
listed_under : (q : ℕ × Clause → Bool) (es : List (ℕ × Clause)) (id : ℕ) (c : Clause) → clause_of es id ≡ Some c → ((e : ℕ × Clause) → e.0 ≡ id → e.1 ≡ c → q e ≡ true) → list_any (nat_eq id) (map (λ (e : ℕ × Clause). e.0) (filter q es)) ≡ true
listed_under q [] id c e pass = cc
listed_under q (x ∷ xs) id c e pass = at (nat_eq x.0 id) (q x) refl refl e (listed_under q xs id c)
  where
    at : (a b : Bool) → nat_eq x.0 id ≡ a → q x ≡ b → cond a (Some x.1) (clause_of xs id) ≡ Some c → (clause_of xs id ≡ Some c → ((e : ℕ × Clause) → e.0 ≡ id → e.1 ≡ c → q e ≡ true) → list_any (nat_eq id) (map (λ (e : ℕ × Clause). e.0) (filter q xs)) ≡ true) → list_any (nat_eq id) (map (λ (e : ℕ × Clause). e.0) (cond b (x ∷ filter q xs) (filter q xs))) ≡ true
    at true true d f k ih = or_left (nat_eq id x.0) (list_any (nat_eq id) (map (λ (e : ℕ × Clause). e.0) (filter q xs))) (eq-eqb id x.0 (sym (eqb-true x.0 id d)))
    at true false d f k ih = absurd (both_ways (q x) f (pass x (eqb-true x.0 id d) (let s : x.1 ≡ c = cc in s)))
    at false true d f k ih = or_right (nat_eq id x.0) (list_any (nat_eq id) (map (λ (e : ℕ × Clause). e.0) (filter q xs))) (ih k pass)
    at false false d f k ih = ih k pass

-- counts as lengths
listed : {X : Type 0} (key : X → ℕ) (q : X → Bool) (xs : List X) → length (map key (filter q xs)) ≡ count_by q xs
listed key q xs = length-map (filter q xs) key ∙ length-filter q xs

pub lessons_logged : (n : ℕ) (last : ℕ) (state : LogState) (cs : List Live) → RisesTo 0 state.live last → Falls cs → AreAlike state.live cs → lessons_in n cs ≡ live_additions n state
lessons_logged n last state cs rises falls a =
    let up = no_more (id_of cs) (filter (is_lesson n cs) (places cs)) (map (λ (e : ℕ × Clause). e.0) (filter (λ (e : ℕ × Clause). nat_lt n e.0) state.live)) (apart_filter (id_of cs) (is_lesson n cs) (places cs) (apart_ids cs (places cs) a.apart (live_among cs) (apart_places cs falls))) in_log in
    let down = no_more (λ (e : ℕ × Clause). e.0) (filter (λ (e : ℕ × Clause). nat_lt n e.0) state.live) (map (id_of cs) (filter (is_lesson n cs) (places cs))) (apart_filter (λ (e : ℕ × Clause). e.0) (λ (e : ℕ × Clause). nat_lt n e.0) state.live (apart_logged 0 last state.live rises)) in_arena in
    let one = length-filter (is_lesson n cs) (places cs) in
    let two = length-filter (λ (e : ℕ × Clause). nat_lt n e.0) state.live in
    let three = listed (λ (e : ℕ × Clause). e.0) (λ (e : ℕ × Clause). nat_lt n e.0) state.live in
    let four = listed (id_of cs) (is_lesson n cs) (places cs) in
    omega arith
  where
    in_log : (r : ℕ) → Among r (filter (is_lesson n cs) (places cs)) → list_any (nat_eq (id_of cs r)) (map (λ (e : ℕ × Clause). e.0) (filter (λ (e : ℕ × Clause). nat_lt n e.0) state.live)) ≡ true
    in_log r h =
        let p = among_passed (is_lesson n cs) r (places cs) h in
        let t = a.mirrors.twin r (live_among cs r p.0) in
        listed_under (λ (e : ℕ × Clause). nat_lt n e.0) state.live (id_of cs r) t.clause t.is (λ e same c. ap (nat_lt n) same ∙ p.1)

    in_arena : (e : ℕ × Clause) → Among e (filter (λ (e : ℕ × Clause). nat_lt n e.0) state.live) → list_any (nat_eq e.0) (map (id_of cs) (filter (is_lesson n cs) (places cs))) ≡ true
    in_arena e h =
        let p = among_passed (λ (e : ℕ × Clause). nat_lt n e.0) e state.live h in
        let k = a.covers e.0 e.1 (found_here 0 last state.live e rises p.0) in
        ap (λ id. list_any (nat_eq id) (map (id_of cs) (filter (is_lesson n cs) (places cs)))) (sym k.id_is)
        ∙ key_among (id_of cs) k.place (filter (is_lesson n cs) (places cs)) (among_filter (is_lesson n cs) k.place (places cs) (ap (nat_lt n) k.id_is ∙ p.1) (among_live cs k.place k.live))

-- each clause that a log added has distinct variables
abbrev pub AddedApart : ℕ → List (ℕ × Clause) → Type 0
AddedApart n es = AllByRecursion (λ (e : ℕ × Clause). n < e.0 → distinct_vars e.1 ≡ true) es

added_start : (n k : ℕ) (cs : List Clause) → k + length cs ≤ n + 1 → AddedApart n (enumerate_from k cs)
added_start n k [] le = tt
added_start n k (c ∷ cs) le = ((λ lt. absurd (omega arith)), added_start n (k + 1) cs (omega arith))

added_push : (n id : ℕ) (c : Clause) (es : List (ℕ × Clause)) → distinct_vars c ≡ true → AddedApart n es → AddedApart n (es ++ (id, c) ∷ [])
added_push n id c [] d a = ((λ lt. d), tt)
added_push n id c (e ∷ es) d a = (a.0, added_push n id c es d a.1)

added_filter : (n : ℕ) (p : ℕ × Clause → Bool) (es : List (ℕ × Clause)) → AddedApart n es → AddedApart n (filter p es)
added_filter n p [] a = tt
added_filter n p (e ∷ es) a = at (p e) (added_filter n p es a.1)
  where
    at : (b : Bool) → AddedApart n (filter p es) → AddedApart n (cond b (e ∷ filter p es) (filter p es))
    at true k = (a.0, k)
    at false k = k

added_without : (n : ℕ) (es : List (ℕ × Clause)) (ids : List ℕ) → AddedApart n es → AddedApart n (fold without es ids)
added_without n es [] a = a
added_without n es (id ∷ ids) a = added_without n (without es id) ids (added_filter n (λ (e : ℕ × Clause). not (nat_eq e.0 id)) es a)

added_along : (n vars : ℕ) (state : LogState) (ss : List LogStep) → PassesFrom vars state ss → AddedApart n state.live → AddedApart n (fold after_step state ss).live
added_along n vars state [] p a = a
added_along n vars state (Add id lits hints ∷ ss) p a = added_along n vars (after_step state (Add id lits hints)) ss p.2 (added_push n id lits state.live (add_passes vars state id lits hints p.0).apart a)
added_along n vars state (Remove ids ∷ ss) p a = added_along n vars (after_step state (Remove ids)) ss p.2 (added_without n state.live ids a)

pub added_apart : (f : Cnf) (ss : List LogStep) → IsWhole f ss → AddedApart (length f.clauses) (log_state f ss).live
added_apart f ss whole = added_along (length f.clauses) f.vars (state_at_start f) ss whole (added_start (length f.clauses) 1 f.clauses (omega arith))

named_apart : (n : ℕ) (es : List (ℕ × Clause)) (id : ℕ) (c : Clause) → AddedApart n es → clause_of es id ≡ Some c → n < id → distinct_vars c ≡ true
named_apart n [] id c a e lt = cc
named_apart n (x ∷ xs) id c a e lt = at (nat_eq x.0 id) refl e (λ k. named_apart n xs id c a.1 k lt)
  where
    at : (b : Bool) → nat_eq x.0 id ≡ b → cond b (Some x.1) (clause_of xs id) ≡ Some c → (clause_of xs id ≡ Some c → distinct_vars c ≡ true) → distinct_vars c ≡ true
    at true d k ih = let same : x.1 ≡ c = cc in let is : x.0 ≡ id = eqb-true x.0 id d in ap distinct_vars (sym same) ∙ a.0 (omega arith)
    at false d k ih = ih k

-- lengths of clauses with the same literals
lit_among : (c : Clause) (l : Lit) → Among l c → has_lit c l ≡ true
lit_among [] l h = absurd h
lit_among (m ∷ ms) l (inl e) = or_left (same_lit l m) (has_lit ms l) (eq-eqb l.0 m.0 (ap (λ (k : Lit). k.0) (sym e)))
lit_among (m ∷ ms) l (inr h) = or_right (same_lit l m) (has_lit ms l) (lit_among ms l h)

apart_vars : (c : Clause) → distinct_vars c ≡ true → Apart (λ (l : Lit). l.0) c
apart_vars [] d = tt
apart_vars (l ∷ ls) d =
    let p = and_parts (not (list_any (λ m. nat_eq (variable l) (variable m)) ls)) (distinct_vars ls) d in
    ((λ m h e. both_ways (list_any (λ m. nat_eq (variable l) (variable m)) ls) (not-true (list_any (λ m. nat_eq (variable l) (variable m)) ls) p.0) (other ls m h e)), apart_vars ls p.1)
  where
    other : (ns : List Lit) (m : Lit) → Among m ns → l.0 ≡ m.0 → list_any (λ m. nat_eq (variable l) (variable m)) ns ≡ true
    other [] m h e = absurd h
    other (k ∷ ks) m (inl same) e = or_left (nat_eq (variable l) (variable k)) (list_any (λ m. nat_eq (variable l) (variable m)) ks) (eq-eqb (variable l) (variable k) (ap (λ n. n / 2) e ∙ ap variable (sym same)))
    other (k ∷ ks) m (inr h) e = or_right (nat_eq (variable l) (variable k)) (list_any (λ m. nat_eq (variable l) (variable m)) ks) (other ks m h e)

pub no_longer : (c ls : Clause) → distinct_vars c ≡ true → ((l : Lit) → has_lit c l ≡ has_lit ls l) → length c ≤ length ls
no_longer c ls d same =
    let k = no_more (λ (l : Lit). l.0) c (numbers_of ls) (apart_vars c d) (λ l h. number_in ls l ∙ sym (same l) ∙ lit_among c l h) in
    let e : length (numbers_of ls) ≡ length ls = length-map ls (λ (l : Lit). l.0) in
    omega arith

at_index : (ls : Clause) (l : Lit) → Among l ls → (i : ℕ) × (i < length ls) × (lit_in ls i ≡ l)
at_index [] l h = absurd h
at_index (m ∷ ms) l (inl e) = (0, omega arith, e)
at_index (m ∷ ms) l (inr h) = let k = at_index ms l h in (suc k.0, omega (arith, k.1), k.2)

apart_clause : (ls : Clause) → ((i j : ℕ) → i < length ls → j < length ls → (lit_in ls i).0 ≡ (lit_in ls j).0 → i ≡ j) → Apart (λ (l : Lit). l.0) ls
apart_clause [] a = tt
apart_clause (l ∷ ls) a = (
  (λ m h e. (let k = at_index ls m h in let z : ◌≡◌ {A = ℕ} 0 (suc k.0) = a 0 (suc k.0) (omega arith) (omega (arith, k.1)) (e ∙ ap (λ (x : Lit). x.0) (sym k.2)) in omega arith)),
  apart_clause ls (λ i j p q e. (let z : suc i ≡ suc j = a (suc i) (suc j) (omega arith) (omega arith) e in omega arith)),
)

pub no_shorter : (vars : ℕ) (c ls : Clause) → IsClause vars ls → ((l : Lit) → has_lit c l ≡ has_lit ls l) → length ls ≤ length c
no_shorter vars c ls is same =
    let k = no_more (λ (l : Lit). l.0) ls (numbers_of c) (apart_clause ls is.apart) (λ l h. number_in c l ∙ same l ∙ lit_among ls l h) in
    let e : length (numbers_of c) ≡ length c = length-map c (λ (l : Lit). l.0) in
    omega arith

-- short lessons of the arena are short in the log
pub short_logged : (n : ℕ) (state : LogState) (cs : List Live) → AddedApart n state.live → Falls cs → AreAlike state.live cs → short_lessons_in n cs ≤ short_additions n state
short_logged n state cs added falls a =
    let up = no_more (id_of cs) (filter (is_short_lesson n cs) (places cs)) (map (λ (e : ℕ × Clause). e.0) (filter (λ (e : ℕ × Clause). nat_lt n e.0 && nat_le (length e.1) 2) state.live)) (apart_filter (id_of cs) (is_short_lesson n cs) (places cs) (apart_ids cs (places cs) a.apart (live_among cs) (apart_places cs falls))) in_log in
    let one = length-filter (is_short_lesson n cs) (places cs) in
    let three = listed (λ (e : ℕ × Clause). e.0) (λ (e : ℕ × Clause). nat_lt n e.0 && nat_le (length e.1) 2) state.live in
    omega arith
  where
    in_log : (r : ℕ) → Among r (filter (is_short_lesson n cs) (places cs)) → list_any (nat_eq (id_of cs r)) (map (λ (e : ℕ × Clause). e.0) (filter (λ (e : ℕ × Clause). nat_lt n e.0 && nat_le (length e.1) 2) state.live)) ≡ true
    in_log r h =
        let p = among_passed (is_short_lesson n cs) r (places cs) h in
        let q = and_parts (is_lesson n cs r) (nat_le (length (lits_of cs r)) 2) p.1 in
        let t = a.mirrors.twin r (live_among cs r p.0) in
        let le = no_longer t.clause (lits_of cs r) (named_apart n state.live (id_of cs r) t.clause added t.is (ltb-true n (id_of cs r) q.0)) t.same in
        let two : length (lits_of cs r) ≤ 2 = leb-true (length (lits_of cs r)) 2 q.1 in
        listed_under (λ (e : ℕ × Clause). nat_lt n e.0 && nat_le (length e.1) 2) state.live (id_of cs r) t.clause t.is
        (λ e same c. and_from (nat_lt n e.0) (nat_le (length e.1) 2) (ap (nat_lt n) same ∙ q.0) (ap (λ d. nat_le (length d) 2) c ∙ le-leb (length t.clause) 2 (omega arith)))

-- reasons are no more than entries
abbrev pub place_or_0 : Option ClauseRef → ℕ
place_or_0 None = 0
place_or_0 (Some r) = r.0

reason_listed : (es : List Entry) (r : ℕ) → is_reason es r ≡ true → list_any (nat_eq r) (map (λ (e : Entry). place_or_0 e.reason) es) ≡ true
reason_listed [] r h = h
reason_listed (e ∷ es) r h =
    elim (or_cases (leads_to r e.reason) (is_reason es r) h) as (λ _. list_any (nat_eq r) (map (λ (e : Entry). place_or_0 e.reason) (e ∷ es)) ≡ true) [
      | inl k ↦ or_left (nat_eq r (place_or_0 e.reason)) (list_any (nat_eq r) (map (λ (e : Entry). place_or_0 e.reason) es)) (at e.reason k)
      | inr k ↦ or_right (nat_eq r (place_or_0 e.reason)) (list_any (nat_eq r) (map (λ (e : Entry). place_or_0 e.reason) es)) (reason_listed es r k)
    ]
  where
    at : (o : Option ClauseRef) → leads_to r o ≡ true → nat_eq r (place_or_0 o) ≡ true
    at None k = absurd (both_ways false refl k)
    at (Some s) k = eq-eqb r s.0 (sym (eqb-true s.0 r k))

reasons_few : (es : List Entry) (cs : List Live) → Falls cs → count_by (is_reason es) (places cs) ≤ length es
reasons_few es cs falls =
    let up = no_more (λ r. r) (filter (is_reason es) (places cs)) (map (λ (e : Entry). place_or_0 e.reason) es) (apart_filter (λ r. r) (is_reason es) (places cs) (apart_places cs falls)) (λ r h. reason_listed es r (among_passed (is_reason es) r (places cs) h).1) in
    let one = length-filter (is_reason es) (places cs) in
    let two : length (map (λ (e : Entry). place_or_0 e.reason) es) ≡ length es = length-map es (λ (e : Entry). place_or_0 e.reason) in
    omega arith

-- a lesson may go, or is short, or is a reason
one_of : (l r : Bool) (k : ℕ) → cond l 1 0 ≤ cond (l && (nat_lt 2 k && not r)) 1 0 + cond (l && nat_le k 2) 1 0 + cond r 1 0
one_of false r k = omega arith
one_of true true k = omega arith
one_of true false k = elim (cases_lt 2 k) [ inl lt ↦ rw (lt-ltb 2 k lt) (omega arith) | inr le ↦ rw (le-leb k 2 le) (omega arith) ]

pub all_but : (n : ℕ) (t : Seen) (cs : List Live) (ps : List ℕ) → count_by (is_lesson n cs) ps ≤ count_by (is_idle_lesson n t cs) ps + count_by (is_short_lesson n cs) ps + count_by (is_reason t.entries) ps
all_but n t cs [] = omega arith
all_but n t cs (p ∷ ps) =
    let a : count_by (is_lesson n cs) (p ∷ ps) ≡ cond (is_lesson n cs p) 1 0 + count_by (is_lesson n cs) ps = sum_by-cons (λ r. cond (is_lesson n cs r) 1 0) p ps in
    let b : count_by (is_idle_lesson n t cs) (p ∷ ps) ≡ cond (is_idle_lesson n t cs p) 1 0 + count_by (is_idle_lesson n t cs) ps = sum_by-cons (λ r. cond (is_idle_lesson n t cs r) 1 0) p ps in
    let c : count_by (is_short_lesson n cs) (p ∷ ps) ≡ cond (is_short_lesson n cs p) 1 0 + count_by (is_short_lesson n cs) ps = sum_by-cons (λ r. cond (is_short_lesson n cs r) 1 0) p ps in
    let d : count_by (is_reason t.entries) (p ∷ ps) ≡ cond (is_reason t.entries p) 1 0 + count_by (is_reason t.entries) ps = sum_by-cons (λ r. cond (is_reason t.entries r) 1 0) p ps in
    let one = one_of (is_lesson n cs p) (is_reason t.entries p) (length (lits_of cs p)) in
    let ih = all_but n t cs ps in
    omega arith

pub enough_idle : (n : ℕ) (t : Seen) (cs : List Live) → Falls cs → length t.entries ≤ t.vars → lessons_in n cs ≤ count_by (is_idle_lesson n t cs) (places cs) + short_lessons_in n cs + t.vars
enough_idle n t cs falls short = let a = all_but n t cs (places cs) in let b = reasons_few t.entries cs falls in omega arith
