-- Half of the lessons, of those that may go.
use Rattle.std.proofs.Common.{◌≡◌, ℕ, zero, suc, ◌+◌, ◌/◌, ◌<◌, ◌≤◌, min, Bool, true, false, cond, nat_eq, List, [], ◌∷◌, length, take, get_or, refl, sym, ap, ◌∙◌, subst, arith, inl, inr, length-take}
use Rattle.std.specs.Prelude.{Result, Ok, Err, IfOk}
use Rattle.std.specs.List.{filter, count_by, sum_by}
use Rattle.std.specs.List.Sorted.{IsPermutation}
use Rattle.std.proofs.lemmas.Bool.{and_parts, cases_eq, cases_lt}
use Rattle.std.proofs.lemmas.List.{length-map, take_all}
use Rattle.std.proofs.lemmas.List.Sums.{length-filter, sum_by-cons}
use Rattle.std.proofs.lemmas.List.Sorted.{length_permutation, sum_by-IsPermutation}
use Rattle.clause_arena.specs.declared.ClauseRef.{ClauseRef}
use Rattle.clause_arena.specs.Clauses.{Live, is_live, places}
use Rattle.clause_arena.proofs.Packed.{Falls}
use Rattle.watch_lists.specs.Rows.{times}
use Rattle.watch_lists.specs.Trails.{Seen}
use Rattle.watch_lists.proofs.RowLemmas.{times-here, times-other}
use Rattle.sat_core.specs.declared.worth.Idle.{Idle}
use Rattle.sat_core.specs.Reducing.{AreChosen, AreIdle, clauses_of, is_idle, is_idle_lesson, is_lesson, lessons_in, places_of}
use Rattle.sat_core.proofs.AmongLemmas.{Among}
use Rattle.sat_core.proofs.PigeonLemmas.{Apart, among_passed, apart_filter}
use Rattle.sat_core.proofs.GoLemmas.{some_at}
use Rattle.sat_core.proofs.TallyLemmas.{live_among, apart_places, enough_idle}

-- what stands in a list stands among it, and where it is apart, once
times_among : (r : ℕ) (xs : List ℕ) → 1 ≤ times r xs → Among r xs
times_among r [] h = absurd (omega arith)
times_among r (x ∷ xs) h = elim (cases_eq x r) as (λ _. Among r (x ∷ xs)) [
  | inl e ↦ inl e
  | inr n ↦ inr (times_among r xs (let k : times r (x ∷ xs) ≡ times r xs = times-other r x xs n in omega arith))
]

times_once : (r : ℕ) (xs : List ℕ) → Apart (λ x. x) xs → times r xs ≤ 1
times_once r [] a = omega arith
times_once r (x ∷ xs) a = elim (cases_eq x r) [
  | inl e ↦ (let k : times r (x ∷ xs) ≡ suc (times r xs) = times-here r x xs e in
      elim (cases_lt (times r xs) 1) [ inl lt ↦ omega arith | inr le ↦ absurd (a.0 r (times_among r xs le) e) ])
  | inr n ↦ (let k : times r (x ∷ xs) ≡ times r xs = times-other r x xs n in let ih = times_once r xs a.1 in omega arith)
]

-- how often a clause stands among idle lessons is a sum, and so does not hang on their order
times_sum : (r : ℕ) (xs : List Idle) → times r (places_of (clauses_of xs)) ≡ sum_by (λ (x : Idle). cond (nat_eq x.clause.0 r) 1 0) xs
times_sum r [] = refl
times_sum r (x ∷ xs) =
    let s : sum_by (λ (x : Idle). cond (nat_eq x.clause.0 r) 1 0) (x ∷ xs) ≡ cond (nat_eq x.clause.0 r) 1 0 + sum_by (λ (x : Idle). cond (nat_eq x.clause.0 r) 1 0) xs = sum_by-cons (λ (x : Idle). cond (nat_eq x.clause.0 r) 1 0) x xs in
    at (nat_eq x.clause.0 r) (times_sum r xs) ∙ sym s
  where
    at : (b : Bool) → times r (places_of (clauses_of xs)) ≡ sum_by (λ (x : Idle). cond (nat_eq x.clause.0 r) 1 0) xs → cond b (suc (times r (places_of (clauses_of xs)))) (times r (places_of (clauses_of xs))) ≡ cond b 1 0 + sum_by (λ (x : Idle). cond (nat_eq x.clause.0 r) 1 0) xs
    at true e = omega arith
    at false e = omega arith

times_shuffled : (r : ℕ) (xs ys : List Idle) → IsPermutation xs ys → times r (places_of (clauses_of ys)) ≡ times r (places_of (clauses_of xs))
times_shuffled r xs ys p = times_sum r ys ∙ sum_by-IsPermutation (λ (x : Idle). cond (nat_eq x.clause.0 r) 1 0) xs ys p ∙ sym (times_sum r xs)

times_take : (r k : ℕ) (xs : List Idle) → times r (places_of (clauses_of (take k xs))) ≤ times r (places_of (clauses_of xs))
times_take r zero xs = omega arith
times_take r (suc k) [] = omega arith
times_take r (suc k) (x ∷ xs) = at (nat_eq x.clause.0 r) (times_take r k xs)
  where
    at : (b : Bool) → times r (places_of (clauses_of (take k xs))) ≤ times r (places_of (clauses_of xs)) → cond b (suc (times r (places_of (clauses_of (take k xs))))) (times r (places_of (clauses_of (take k xs)))) ≤ cond b (suc (times r (places_of (clauses_of xs)))) (times r (places_of (clauses_of xs)))
    at true h = omega arith
    at false h = h

-- a test of places, by the clauses
places_filter : (p : ℕ → Bool) (rs : List ClauseRef) → places_of (filter (λ (r : ClauseRef). p r.0) rs) ≡ filter p (places_of rs)
places_filter p [] = refl
places_filter p (r ∷ rs) = at (p r.0) (places_filter p rs)
  where
    at : (b : Bool) → places_of (filter (λ (r : ClauseRef). p r.0) rs) ≡ filter p (places_of rs) → places_of (cond b (r ∷ filter (λ (r : ClauseRef). p r.0) rs) (filter (λ (r : ClauseRef). p r.0) rs)) ≡ cond b (r.0 ∷ filter p (places_of rs)) (filter p (places_of rs))
    at true e = ap (λ ps. r.0 ∷ ps) e
    at false e = e

places_count : (p : ℕ → Bool) (rs : List ClauseRef) → count_by (λ (r : ClauseRef). p r.0) rs ≡ count_by p (places_of rs)
places_count p rs =
    sym (length-filter (λ (r : ClauseRef). p r.0) rs) ∙ sym (length-map (filter (λ (r : ClauseRef). p r.0) rs) (λ (r : ClauseRef). r.0)) ∙ ap length (places_filter p rs) ∙ length-filter p (places_of rs)

-- of the idle lessons in any order, as many as half of all lessons
pub chosen : (n : ℕ) (t : Seen) (cs : List Live) (xs ys : List Idle) (lessons k : ℕ) (gone : List ClauseRef) → Falls cs → length t.entries ≤ t.vars → AreIdle n t cs (clauses_of xs) lessons → IsPermutation xs ys → k ≡ lessons / 2 → gone ≡ clauses_of (take k ys) → AreChosen n t cs gone
chosen n t cs xs ys lessons k gone falls short idle one half is = record {
  may_go = record {
    live = λ r h. live_among cs r (passed r h).0;
    idle = λ r h. (and_parts (is_lesson n cs r) (is_idle t cs r) (passed r h).1).1;
    once = λ r. (let a = times_most r in let b = times_once r (filter (is_idle_lesson n t cs) (places cs)) (apart_filter (λ x. x) (is_idle_lesson n t cs) (places cs) (apart_places cs falls)) in omega arith);
  };
  lessons = λ r h. (and_parts (is_lesson n cs r) (is_idle t cs r) (passed r h).1).0;
  at_most_half = let a = count in let b = long in omega arith;
  enough = let a = count in let b = long in let c = many in let d = enough_idle n t cs falls short in omega arith;
}
  where
    stand : places_of (clauses_of xs) ≡ filter (is_idle_lesson n t cs) (places cs)
    stand = ap places_of idle.idle_are ∙ places_filter (is_idle_lesson n t cs) idle.all ∙ ap (filter (is_idle_lesson n t cs)) idle.all_are

    times_most : (r : ℕ) → times r (places_of gone) ≤ times r (filter (is_idle_lesson n t cs) (places cs))
    times_most r =
        let a : times r (places_of gone) ≡ times r (places_of (clauses_of (take k ys))) = ap (λ rs. times r (places_of rs)) is in
        let b = times_take r k ys in
        let d = times_shuffled r xs ys one in
        let e : times r (places_of (clauses_of xs)) ≡ times r (filter (is_idle_lesson n t cs) (places cs)) = ap (times r) stand in
        omega arith

    passed : (r : ℕ) → 1 ≤ times r (places_of gone) → Among r (places cs) × (is_idle_lesson n t cs r ≡ true)
    passed r h = among_passed (is_idle_lesson n t cs) r (places cs) (times_among r (filter (is_idle_lesson n t cs) (places cs)) (let a = times_most r in omega arith))

    count : lessons ≡ lessons_in n cs
    count = idle.count ∙ places_count (is_lesson n cs) idle.all ∙ ap (count_by (is_lesson n cs)) idle.all_are

    long : length gone ≡ min k (length ys)
    long = ap length is ∙ length-map (take k ys) (λ (x : Idle). x.clause) ∙ length-take k ys

    many : length ys ≡ count_by (is_idle_lesson n t cs) (places cs)
    many =
        length_permutation xs ys one ∙ sym (length-map xs (λ (x : Idle). x.clause)) ∙ sym (length-map (clauses_of xs) (λ (r : ClauseRef). r.0)) ∙ ap length stand ∙ length-filter (is_idle_lesson n t cs) (places cs)

-- on the way: the clauses up to a place were looked at
pub record IsFinding (n : ℕ) (t : Seen) (cs : List Live) (refs : List ClauseRef) (i : ℕ) (idle : List Idle) (lessons : ℕ) : Type 0 where
  pub found : clauses_of idle ≡ filter (λ (r : ClauseRef). is_idle_lesson n t cs r.0) (take i refs)
  pub count : lessons ≡ count_by (λ (r : ClauseRef). is_lesson n cs r.0) (take i refs)
  pub few : lessons ≤ i

pub all_found : (n : ℕ) (t : Seen) (cs : List Live) (refs : List ClauseRef) (i : ℕ) (idle : List Idle) (lessons : ℕ) → length refs ≤ i → places_of refs ≡ places cs → IsFinding n t cs refs i idle lessons → AreIdle n t cs (clauses_of idle) lessons
all_found n t cs refs i idle lessons le all h = record {
  all = refs;
  all_are = all;
  idle_are = h.found ∙ ap (filter (λ (r : ClauseRef). is_idle_lesson n t cs r.0)) (take_all i refs le);
  count = h.count ∙ ap (count_by (λ (r : ClauseRef). is_lesson n cs r.0)) (take_all i refs le);
}

-- each of the clauses is live
pub ref_live : (cs : List Live) (refs : List ClauseRef) (i : ℕ) → places_of refs ≡ places cs → i < length refs → is_live cs (get_or refs i (record { 0 = 0 })).0 ≡ true
ref_live cs refs i all lt = live_among cs (get_or refs i (record { 0 = 0 })).0 (let P : List ℕ → Type 0 = λ ps. Among (get_or refs i (record { 0 = 0 })).0 ps in subst P all (times_among (get_or refs i (record { 0 = 0 })).0 (places_of refs) (some_at refs i lt)))

pub if_ok_on : {A E : Type 0} (P Q : A → Type 0) (r : Result A E) → ((a : A) → P a → Q a) → IfOk r P → IfOk r Q
if_ok_on P Q (Ok a) f p = f a p
if_ok_on P Q (Err e) f p = p
