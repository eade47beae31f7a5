-- What one more step does to a log of lessons.
use Rattle.std.proofs.Common.{◌≡◌, ℕ, suc, ◌+◌, ◌<◌, Bool, true, false, cond, nat_eq, List, [], ◌∷◌, ◌++◌, length, Option, Some, None, refl, ap, ◌∙◌, arith, zero-add}
use Rattle.std.specs.List.{fold}
use Rattle.std.proofs.lemmas.List.Sums.{fold-append, sum_by-append, sum_by-cons}
use Rattle.cnf_base.specs.Literals.{Clause, Cnf}
use Rattle.cnf_base.specs.Logs.{LogStep, Add, Remove, LogState, LogEnd, state_at_start, clause_of, step_fault, after_step, adds_empty_clause, PassesFrom, IsWhole, IsAccepted, at_fault, log_fault, additions, is_addition}
use Rattle.cnf_base.specs.Lessons.{Along, Progress, IsLesson, progress_after, progress_at_start}
use Rattle.cnf_base.proofs.LessonLemmas.{lessons_join}
use Rattle.sat_core.specs.Standing.{log_state, IsLog}
use Rattle.sat_core.proofs.RiseLemmas.{rises_whole, named_within}

-- the steps and one more pass
pub passes_more : (vars : ℕ) (state : LogState) (ss : List LogStep) (s : LogStep) → PassesFrom vars state ss → step_fault vars (fold after_step state ss) s ≡ None → adds_empty_clause s ≡ false → PassesFrom vars state (ss ++ s ∷ [])
passes_more vars state [] s p e n = (e, n, tt)
passes_more vars state (x ∷ xs) s p e n = (p.0, p.1, passes_more vars (after_step state x) xs s p.2 e n)

-- the steps and then the empty clause are accepted
accepted_from : (vars : ℕ) (state : LogState) (line : ℕ) (ss : List LogStep) (id : ℕ) (hints : List ℕ) → PassesFrom vars state ss → step_fault vars (fold after_step state ss) (Add id [] hints) ≡ None → log_fault vars state line false (ss ++ Add id [] hints ∷ []) LogEnd ≡ None
accepted_from vars state line [] id hints p e = ap (λ o. at_fault o line (λ next. log_fault vars (after_step state (Add id [] hints)) next true [] LogEnd)) e
accepted_from vars state line (x ∷ xs) id hints p e =
    ap (λ o. at_fault o line (λ next. log_fault vars (after_step state x) next (adds_empty_clause x) (xs ++ Add id [] hints ∷ []) LogEnd)) p.0
    ∙ ap (λ b. log_fault vars (after_step state x) (suc line) b (xs ++ Add id [] hints ∷ []) LogEnd) p.1
    ∙ accepted_from vars (after_step state x) (suc line) xs id hints p.2 e

-- the empty clause makes the log accepted
pub accepted_more : (f : Cnf) (ss : List LogStep) (added id : ℕ) (hints : List ℕ) → IsLog f ss added → step_fault f.vars (log_state f ss) (Add id [] hints) ≡ None → IsAccepted f (ss ++ Add id [] hints ∷ [])
accepted_more f ss added id hints log e = accepted_from f.vars (state_at_start f) 1 ss id hints log.whole e

pub state_more : (f : Cnf) (ss : List LogStep) (s : LogStep) → log_state f (ss ++ s ∷ []) ≡ after_step (log_state f ss) s
state_more f ss s = fold-append after_step (state_at_start f) ss (s ∷ [])

pub additions_more : (ss : List LogStep) (s : LogStep) → additions (ss ++ s ∷ []) ≡ additions ss + cond (is_addition s) 1 0
additions_more ss s =
    sum_by-append (λ x. cond (is_addition x) 1 0) ss (s ∷ []) ∙ ap (λ n. additions ss + n) (zero-add (cond (is_addition s) 1 0))

-- how far a log has come, part by part
pub progress_state : (p : Progress) (ss : List LogStep) → (fold progress_after p ss).state ≡ fold after_step p.state ss
progress_state p [] = refl
progress_state p (s ∷ ss) = progress_state (progress_after p s) ss

pub progress_added : (p : Progress) (ss : List LogStep) → (fold progress_after p ss).added ≡ p.added + additions ss
progress_added p [] = omega arith
progress_added p (s ∷ ss) =
    progress_added (progress_after p s) ss ∙ (let e : additions (s ∷ ss) ≡ cond (is_addition s) 1 0 + additions ss = sum_by-cons (λ x. cond (is_addition x) 1 0) s ss in let d = one s in omega arith)
  where
    one : (s : LogStep) → (progress_after p s).added ≡ p.added + cond (is_addition s) 1 0
    one (Add id lits hints) = refl
    one (Remove ids) = omega arith

pub lessons_more : (f : Cnf) (ss : List LogStep) (s : LogStep) → Along (IsLesson (length f.clauses)) progress_after (progress_at_start f) ss → IsLesson (length f.clauses) (fold progress_after (progress_at_start f) ss) s → Along (IsLesson (length f.clauses)) progress_after (progress_at_start f) (ss ++ s ∷ [])
lessons_more f ss s a l = (lessons_join f (progress_at_start f) ss (s ∷ [])).1 (a, (l, tt))

-- where a clause is put behind others, an id names what it named, or else the new one
pub named_old : (es : List (ℕ × Clause)) (id x : ℕ) (lits c : Clause) → clause_of es x ≡ Some c → clause_of (es ++ (id, lits) ∷ []) x ≡ Some c
named_old [] id x lits c e = cc
named_old (y ∷ ys) id x lits c e = at (nat_eq y.0 x) (named_old ys id x lits c) e
  where
    at : (b : Bool) → (clause_of ys x ≡ Some c → clause_of (ys ++ (id, lits) ∷ []) x ≡ Some c) → cond b (Some y.1) (clause_of ys x) ≡ Some c → cond b (Some y.1) (clause_of (ys ++ (id, lits) ∷ []) x) ≡ Some c
    at true ih k = k
    at false ih k = ih k

pub named_new : (es : List (ℕ × Clause)) (id x : ℕ) (lits : Clause) → clause_of es x ≡ None → clause_of (es ++ (id, lits) ∷ []) x ≡ cond (nat_eq id x) (Some lits) None
named_new [] id x lits e = refl
named_new (y ∷ ys) id x lits e = at (nat_eq y.0 x) (named_new ys id x lits) e
  where
    at : (b : Bool) → (clause_of ys x ≡ None → clause_of (ys ++ (id, lits) ∷ []) x ≡ cond (nat_eq id x) (Some lits) None) → cond b (Some y.1) (clause_of ys x) ≡ None → cond b (Some y.1) (clause_of (ys ++ (id, lits) ∷ []) x) ≡ cond (nat_eq id x) (Some lits) None
    at true ih k = cc
    at false ih k = ih k

-- an id above the last names nothing yet
pub named_none : (f : Cnf) (ss : List LogStep) (id : ℕ) → IsWhole f ss → (log_state f ss).last < id → clause_of (log_state f ss).live id ≡ None
named_none f ss id whole lt = at (clause_of (log_state f ss).live id) refl
  where
    at : (o : Option Clause) → clause_of (log_state f ss).live id ≡ o → clause_of (log_state f ss).live id ≡ None
    at None e = e
    at (Some c) e = let w = named_within 0 (log_state f ss).last id c (log_state f ss).live (rises_whole f ss whole) e in absurd (omega (arith, w.1))
