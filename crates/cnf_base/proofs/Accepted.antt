-- A log in which no line fails is whole up to the empty clause, and the other way round.
use Rattle.std.proofs.Common.{◌≡◌, ℕ, suc, Bool, true, false, List, [], ◌∷◌, ◌++◌, Option, Some, None, refl, ap, ◌∙◌}
use Rattle.cnf_base.specs.Literals.{Cnf}
use Rattle.cnf_base.specs.Logs.{LogStep, LogState, LogEnd, state_at_start, step_fault, after_step, adds_empty_clause, at_fault, log_fault, PassesFrom, state_after, IsWholeUpToEmpty, AcceptedIsExact}

-- as `IsWholeUpToEmpty`, from a state on
record EndsFrom (vars : ℕ) (state : LogState) (steps : List LogStep) : Type 0 where
  before : List LogStep
  last : LogStep
  parts : steps ≡ before ++ last ∷ []
  whole : PassesFrom vars state before
  passes : step_fault vars (state_after state before) last ≡ None
  empty : adds_empty_clause last ≡ true

no_more : (vars : ℕ) (state : LogState) (line : ℕ) (s : LogStep) (ss : List LogStep) → step_fault vars state s ≡ None → adds_empty_clause s ≡ true → log_fault vars (after_step state s) line true ss LogEnd ≡ None → EndsFrom vars state (s ∷ ss)
no_more vars state line s [] p e h = record { before = []; last = s; parts = refl; whole = tt; passes = p; empty = e }
no_more vars state line s (t ∷ ts) p e h = cc

one_more : (vars : ℕ) (state : LogState) (s : LogStep) (ss : List LogStep) → step_fault vars state s ≡ None → adds_empty_clause s ≡ false → EndsFrom vars (after_step state s) ss → EndsFrom vars state (s ∷ ss)
one_more vars state s ss p e r = record { before = s ∷ r.before; last = r.last; parts = ap (λ xs. s ∷ xs) r.parts; whole = (p, e, r.whole); passes = r.passes; empty = r.empty }

ends : (vars : ℕ) (state : LogState) (line : ℕ) (steps : List LogStep) → log_fault vars state line false steps LogEnd ≡ None → EndsFrom vars state steps
ends vars state line [] h = cc
ends vars state line (s ∷ ss) h = at (step_fault vars state s) refl h (λ g. ends vars (after_step state s) (suc line) ss g)
  where
    by_end : (b : Bool) → adds_empty_clause s ≡ b → step_fault vars state s ≡ None → log_fault vars (after_step state s) (suc line) b ss LogEnd ≡ None → (log_fault vars (after_step state s) (suc line) false ss LogEnd ≡ None → EndsFrom vars (after_step state s) ss) → EndsFrom vars state (s ∷ ss)
    by_end true e p g ih = no_more vars state (suc line) s ss p e g
    by_end false e p g ih = one_more vars state s ss p e (ih g)

    at : (o : Option ℕ) → step_fault vars state s ≡ o → at_fault o line (λ next. log_fault vars (after_step state s) next (adds_empty_clause s) ss LogEnd) ≡ None → (log_fault vars (after_step state s) (suc line) false ss LogEnd ≡ None → EndsFrom vars (after_step state s) ss) → EndsFrom vars state (s ∷ ss)
    at (Some why) p g ih = cc
    at None p g ih = by_end (adds_empty_clause s) refl p g ih

accepted : (vars : ℕ) (state : LogState) (line : ℕ) (before : List LogStep) (last : LogStep) → PassesFrom vars state before → step_fault vars (state_after state before) last ≡ None → adds_empty_clause last ≡ true → log_fault vars state line false (before ++ last ∷ []) LogEnd ≡ None
accepted vars state line [] last w p e =
    ap (λ o. at_fault o line (λ next. log_fault vars (after_step state last) next (adds_empty_clause last) [] LogEnd)) p
    ∙ ap (λ b. log_fault vars (after_step state last) (suc line) b [] LogEnd) e
accepted vars state line (s ∷ ss) last w p e =
    ap (λ o. at_fault o line (λ next. log_fault vars (after_step state s) next (adds_empty_clause s) (ss ++ last ∷ []) LogEnd)) w.0
    ∙ ap (λ b. log_fault vars (after_step state s) (suc line) b (ss ++ last ∷ []) LogEnd) w.1
    ∙ accepted vars (after_step state s) (suc line) ss last w.2 p e

from_ends : (f : Cnf) (steps : List LogStep) → EndsFrom f.vars (state_at_start f) steps → IsWholeUpToEmpty f steps
from_ends f steps r = record { before = r.before; last = r.last; parts = r.parts; whole = r.whole; passes = r.passes; empty = r.empty }

to_accepted : (f : Cnf) (steps : List LogStep) → IsWholeUpToEmpty f steps → log_fault f.vars (state_at_start f) 1 false steps LogEnd ≡ None
to_accepted f steps r =
    ap (λ xs. log_fault f.vars (state_at_start f) 1 false xs LogEnd) r.parts ∙ accepted f.vars (state_at_start f) 1 r.before r.last r.whole r.passes r.empty

-- a log is accepted exactly where it is whole up to the empty clause
pub accepted_is_exact : AcceptedIsExact
accepted_is_exact f steps = (λ h. from_ends f steps (ends f.vars (state_at_start f) 1 steps h), to_accepted f steps)
