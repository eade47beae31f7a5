-- The log behind a reduction.
use Rattle.std.proofs.Common.{◌≡◌, ℕ, ◌<◌, ◌≤◌, Bool, true, nat_lt, List, [], ◌∷◌, ◌++◌, length, Option, Some, refl, sym, ap, ◌∙◌, subst, arith, zero-add}
use Rattle.std.specs.Option.{IfSome}
use Rattle.std.specs.List.{list_all, fold}
use Rattle.std.proofs.lemmas.Bool.{and_from, lt-ltb}
use Rattle.std.proofs.lemmas.List.{length-map}
use Rattle.cnf_base.specs.Literals.{Cnf}
use Rattle.cnf_base.specs.Logs.{LogStep, Remove, LogState, additions, clause_of, without as without_id}
use Rattle.cnf_base.specs.Lessons.{IsReductionPlace, is_long, live_additions, progress_at_start, removals_due}
use Rattle.cnf_base.specs.Takes.{are_ids}
use Rattle.clause_arena.specs.declared.ClauseRef.{ClauseRef}
use Rattle.clause_arena.specs.Clauses.{Live, is_live, id_of, lits_of, without}
use Rattle.clause_arena.specs.Packing.{moves_of, packed_by}
use Rattle.clause_arena.proofs.Packed.{Falls}
use Rattle.watch_lists.specs.Rows.{times}
use Rattle.watch_lists.specs.Trails.{Seen}
use Rattle.watch_lists.specs.Fits.{Fits}
use Rattle.sat_core.specs.Standing.{log_state, log_progress, ArePlaced, HoldsLog, HoldsLesson, HoldsReduced, MirrorsLog}
use Rattle.sat_core.specs.Reducing.{AreChosen, Loses, ids_in, places_of}
use Rattle.sat_core.proofs.RiseLemmas.{rises_whole, named_within}
use Rattle.sat_core.proofs.StepLemmas.{state_more, progress_state, progress_added}
use Rattle.sat_core.proofs.DueLemmas.{nothing_due_behind_removal}
use Rattle.sat_core.proofs.LogLemmas.{IsLawful, log_less}
use Rattle.sat_core.proofs.RefuteLemmas.{told_more}
use Rattle.sat_core.proofs.LoseLemmas.{AreAlike, alike_kept, alike_without_all, removal_passes, some_rest, some_first}
use Rattle.sat_core.proofs.TallyLemmas.{lessons_logged, short_logged, added_apart, no_shorter}
use Rattle.sat_core.proofs.GoLemmas.{idle_parts, long_attached}
use Rattle.sat_core.proofs.PackLemmas.{alike_packed}

alike : (f : Cnf) (first now : Option (List LogStep)) (cs : List Live) (added : ℕ) (h : HoldsLog f first now cs added) → AreAlike (log_state f h.mirror.steps).live cs
alike f first now cs added h = record { mirrors = h.mirror.mirrors; covers = h.covers; apart = h.apart }

-- as many are chosen as are due
due : (f : Cnf) (first now : Option (List LogStep)) (t : Seen) (cs : List Live) (added : ℕ) (gone : List ClauseRef) (h : HoldsLog f first now cs added) → Falls cs → t.vars ≡ f.vars → AreChosen (length f.clauses) t cs gone → removals_due f (log_state f h.mirror.steps) ≤ length gone
due f first now t cs added gone h falls vars chosen =
    let state = log_state f h.mirror.steps in
    let a = lessons_logged (length f.clauses) (log_state f h.mirror.steps).last (log_state f h.mirror.steps) cs (rises_whole f h.mirror.steps h.mirror.log.whole) falls (alike f first now cs added h) in
    let b = short_logged (length f.clauses) (log_state f h.mirror.steps) cs (added_apart f h.mirror.steps h.mirror.log.whole) falls (alike f first now cs added h) in
    let c = chosen.enough in
    omega arith

-- what holds of each place holds of its id
all_ids : (q : ℕ → Bool) (cs : List Live) (ps : List ℕ) → ((r : ℕ) → 1 ≤ times r ps → q (id_of cs r) ≡ true) → list_all q (ids_in cs ps) ≡ true
all_ids q cs [] each = refl
all_ids q cs (p ∷ ps) each = and_from (q (id_of cs p)) (list_all q (ids_in cs ps)) (each p (some_first p ps)) (all_ids q cs ps (λ r h. each r (some_rest p r ps h)))

pub ids_long : (cs : List Live) (gone : List ClauseRef) → length (ids_in cs (places_of gone)) ≡ length gone
ids_long cs gone = length-map (places_of gone) (id_of cs) ∙ length-map gone (λ (r : ClauseRef). r.0)

lawful : (f : Cnf) (first now : Option (List LogStep)) (t : Seen) (cs : List Live) (added : ℕ) (gone : List ClauseRef) (h : HoldsLesson f first now cs added) → IsReductionPlace added → Falls cs → t.vars ≡ f.vars → Fits t cs → ArePlaced t cs → AreChosen (length f.clauses) t cs gone → IsLawful f h.log.mirror.steps (ids_in cs (places_of gone))
lawful f first now t cs added gone h place falls vars fits placed chosen = record {
  passes = removal_passes (log_state f h.log.mirror.steps).live cs (places_of gone) chosen.may_go.live chosen.may_go.once (alike f first now cs added h.log);
  removal = record {
    fresh = h.fresh;
    place = (let P : ℕ → Type 0 = λ n. IsReductionPlace n in subst P (sym (progress_added (progress_at_start f) h.log.mirror.steps ∙ zero-add (additions h.log.mirror.steps) ∙ h.log.mirror.log.count)) place);
    additions_alone = all_ids (nat_lt (length f.clauses)) cs (places_of gone) chosen.lessons;
    at_most_half = (let e = state_is in let a = lessons_logged (length f.clauses) (log_state f h.log.mirror.steps).last (log_state f h.log.mirror.steps) cs (rises_whole f h.log.mirror.steps h.log.mirror.log.whole) falls (alike f first now cs added h.log) in
        let d : live_additions (length f.clauses) (log_progress f h.log.mirror.steps).state ≡ live_additions (length f.clauses) (log_state f h.log.mirror.steps) = ap (live_additions (length f.clauses)) e in let b = ids_long cs gone in let c = chosen.at_most_half in omega arith);
    long_alone = (let P : LogState → Type 0 = λ s. list_all (λ id. is_long (clause_of s.live id)) (ids_in cs (places_of gone)) ≡ true in subst P (sym state_is) (all_ids (λ id. is_long (clause_of (log_state f h.log.mirror.steps).live id)) cs (places_of gone) long));
  };
  enough = (let a = ids_long cs gone in let b = due f first now t cs added gone h.log falls vars chosen in omega arith);
}
  where
    state_is : (log_progress f h.log.mirror.steps).state ≡ log_state f h.log.mirror.steps
    state_is = progress_state (progress_at_start f) h.log.mirror.steps

    long : (r : ℕ) → 1 ≤ times r (places_of gone) → is_long (clause_of (log_state f h.log.mirror.steps).live (id_of cs r)) ≡ true
    long r some =
        let live = chosen.may_go.live r some in
        let two : 2 < length (lits_of cs r) = (idle_parts t cs r (chosen.may_go.idle r some)).0 in
        let twin = h.log.mirror.mirrors.twin r live in
        let le = no_shorter t.vars twin.clause (lits_of cs r) (fits.clauses r (long_attached t cs r two (placed r live))).1 twin.same in
        ap is_long twin.is ∙ lt-ltb 2 (length twin.clause) (omega arith)

-- what a removal names are ids
pub ids_are : (f : Cnf) (first now : Option (List LogStep)) (cs : List Live) (added : ℕ) (gone : List ClauseRef) → HoldsLog f first now cs added → ((r : ℕ) → 1 ≤ times r (places_of gone) → is_live cs r ≡ true) → are_ids (ids_in cs (places_of gone)) ≡ true
ids_are f first now cs added gone h live = all_ids (nat_lt 0) cs (places_of gone) (λ r some.
    (let t = h.mirror.mirrors.twin r (live r some) in
    lt-ltb 0 (id_of cs r) (named_within 0 (log_state f h.mirror.steps).last (id_of cs r) t.clause (log_state f h.mirror.steps).live (rises_whole f h.mirror.steps h.mirror.log.whole) t.is).0))

-- behind a removal the search holds the clauses of the log
pub reduced_holds : (f : Cnf) (first before after : Option (List LogStep)) (t : Seen) (cs ds es : List Live) (added : ℕ) (gone : List ClauseRef) (ids : List ℕ) → HoldsLesson f first before cs added → IsReductionPlace added → AreChosen (length f.clauses) t cs gone → Fits t cs → ArePlaced t cs → t.vars ≡ f.vars → Falls cs → Falls ds → Loses cs (places_of gone) ds → es ≡ packed_by (moves_of ds) ds → ids ≡ ids_in cs (places_of gone) → IfSome before (λ steps. after ≡ Some (steps ++ Remove ids ∷ [])) → HoldsReduced f first after es added
reduced_holds f first before after t cs ds es added gone ids h place chosen fits placed vars falls falls_after loses packed is takes = record {
  log = record {
    mirror = record {
      steps = m.steps ++ Remove ids ∷ [];
      are_told = told_more first before after m.steps (Remove ids) m.are_told takes;
      log = log_less f m.steps added ids m.log (let P : List ℕ → Type 0 = λ ns. IsLawful f m.steps ns in subst P (sym is) (lawful f first before t cs added gone h place falls vars fits placed chosen));
      mirrors = same.mirrors;
    };
    covers = same.covers;
    apart = same.apart;
  };
  reduced = nothing_due_behind_removal f m.steps ids;
}
  where
    m : MirrorsLog f first before cs added
    m = h.log.mirror

    left : AreAlike (fold without_id (log_state f h.log.mirror.steps).live (ids_in cs (places_of gone))) ds
    left = alike_kept (fold without_id (log_state f m.steps).live (ids_in cs (places_of gone))) (fold without cs (places_of gone)) ds loses (alike_without_all (log_state f m.steps).live cs (places_of gone) chosen.may_go.live chosen.may_go.once (alike f first before cs added h.log))

    same : AreAlike (log_state f (h.log.mirror.steps ++ Remove ids ∷ [])).live es
    same =
        let P : LogState → Type 0 = λ s. AreAlike s.live es in
        let Q : List ℕ → Type 0 = λ ns. AreAlike (fold without_id (log_state f m.steps).live ns) es in
        let R : List Live → Type 0 = λ bs. AreAlike (fold without_id (log_state f m.steps).live (ids_in cs (places_of gone))) bs in
        subst P (sym (state_more f m.steps (Remove ids))) (subst Q (sym is) (subst R (sym packed) (alike_packed (moves_of ds) (fold without_id (log_state f m.steps).live (ids_in cs (places_of gone))) ds falls_after left)))

-- where the schedule asks for nothing, or none may go, nothing is due
pub not_due : (f : Cnf) (first now : Option (List LogStep)) (cs : List Live) (added : ℕ) → HoldsLesson f first now cs added → (IsReductionPlace added → ⊥) → HoldsReduced f first now cs added
not_due f first now cs added h elsewhere = record {
  log = h.log;
  reduced = λ fresh place some. elsewhere (let P : ℕ → Type 0 = λ n. IsReductionPlace n in subst P h.log.mirror.log.count place);
}

pub none_due : (f : Cnf) (first now : Option (List LogStep)) (t : Seen) (cs : List Live) (added : ℕ) (gone : List ClauseRef) → HoldsLesson f first now cs added → Falls cs → t.vars ≡ f.vars → AreChosen (length f.clauses) t cs gone → length gone ≡ 0 → HoldsReduced f first now cs added
none_due f first now t cs added gone h falls vars chosen none = record {
  log = h.log;
  reduced = λ fresh place some. (let a = due f first now t cs added gone h.log falls vars chosen in omega arith);
}
