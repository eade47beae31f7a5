-- A log of lessons, and one step more.
use Rattle.std.proofs.Common.{◌≡◌, ℕ, ◌+◌, ◌≤◌, List, [], ◌∷◌, ◌++◌, length, None, refl, sym, ap, ◌∙◌, subst, arith}
use Rattle.std.specs.List.{fold}
use Rattle.cnf_base.specs.declared.literal.Lit.{Lit}
use Rattle.cnf_base.specs.Literals.{Cnf}
use Rattle.cnf_base.specs.Logs.{LogStep, Add, Remove, LogState, state_at_start, removal_fault, step_fault}
use Rattle.cnf_base.specs.Lessons.{IsNew, IsRemoval, progress_after, progress_at_start, removals_due}
use Rattle.sat_core.specs.Standing.{log_state, log_progress, next_id, IsLog, IsReduced}
use Rattle.sat_core.proofs.StepLemmas.{passes_more, state_more, additions_more, lessons_more, progress_state}
use Rattle.sat_core.proofs.DueLemmas.{reduced_at_start, reduced_behind_addition, reduced_behind_removal}

-- a log of lessons before its first step
pub log_begins : (f : Cnf) → IsLog f [] 0
log_begins f = record { whole = tt; lessons = tt; count = refl; last = omega arith; reduced = reduced_at_start f }

-- a lesson more
pub log_more : (f : Cnf) (ss : List LogStep) (added : ℕ) (first : Lit) (others : List Lit) (hints : List ℕ) → IsLog f ss added → IsReduced f ss → step_fault f.vars (log_state f ss) (Add (next_id f added) (first ∷ others) hints) ≡ None → IsNew (log_state f ss) (first ∷ others) hints → IsLog f (ss ++ Add (next_id f added) (first ∷ others) hints ∷ []) (added + 1)
log_more f ss added first others hints log rested passes new = record {
  whole = passes_more f.vars (state_at_start f) ss (Add (next_id f added) (first ∷ others) hints) log.whole passes refl;
  lessons = lessons_more f ss (Add (next_id f added) (first ∷ others) hints) log.lessons at_end;
  count = additions_more ss (Add (next_id f added) (first ∷ others) hints) ∙ ap (λ n. n + 1) log.count;
  last = ap (λ (s : LogState). s.last) (state_more f ss (Add (next_id f added) (first ∷ others) hints)) ∙ (let e : length f.clauses + added + 1 ≡ length f.clauses + (added + 1) = omega arith in e);
  reduced = reduced_behind_addition f ss (next_id f added) (first ∷ others) hints log.reduced rested;
}
  where
    at_end : IsNew (fold progress_after (progress_at_start f) ss).state (first ∷ others) hints
    at_end =
        let P : LogState → Type 0 = λ s. IsNew s (first ∷ others) hints in
        subst P (sym (progress_state (progress_at_start f) ss)) new

-- what a lawful removal names, in the log as it stands
pub record IsLawful (f : Cnf) (ss : List LogStep) (ids : List ℕ) : Type 0 where
  pub passes : removal_fault (log_state f ss).live ids ≡ None
  pub removal : IsRemoval (length f.clauses) (log_progress f ss) ids
  pub enough : removals_due f (log_state f ss) ≤ length ids

-- a removal more
pub log_less : (f : Cnf) (ss : List LogStep) (added : ℕ) (ids : List ℕ) → IsLog f ss added → IsLawful f ss ids → IsLog f (ss ++ Remove ids ∷ []) added
log_less f ss added ids log lawful = record {
  whole = passes_more f.vars (state_at_start f) ss (Remove ids) log.whole lawful.passes refl;
  lessons = lessons_more f ss (Remove ids) log.lessons lawful.removal;
  count = additions_more ss (Remove ids) ∙ (let c = log.count in omega arith);
  last = ap (λ (s : LogState). s.last) (state_more f ss (Remove ids)) ∙ log.last;
  reduced = reduced_behind_removal f ss ids log.reduced lawful.removal.fresh lawful.enough;
}
