-- A log that is judged step by step.
use Rattle.std.proofs.Common.{◌≡◌, ℕ, suc, ◌+◌, Bool, true, false, List, [], ◌∷◌, ◌++◌, Option, Some, None, IfSome, Result, Ok, Err, refl, sym, ap, ◌∙◌, subst, arith, append_assoc, append-nil, add-one, add-zero, take, slice_get, zero}
use Rattle.std.specs.List.{enumerate_from}
use Rattle.cnf_base.specs.Literals.{Cnf, IsRefuted}
use Rattle.cnf_base.specs.Logs.{LogState, LogStep, Tail, LogEnd, Malformed, Limit, first_fault, log_fault, tail_fault, at_fault, step_fault, after_step, adds_empty_clause, state_at_start}
use Rattle.cnf_base.proofs.Refute.{logs_refute}
use Rattle.clause_log.specs.declared.steps.Step.{Step}
use Rattle.clause_log.specs.declared.steps.StepRefused.{StepRefused}
use Rattle.clause_log.specs.declared.steps.StepRefused as refused
use Rattle.clause_log.specs.Steps.{Ahead, Follows, TheEnd, BadLine, TheLimit, Gives, step_is, tail_of}
use Rattle.log_check.specs.declared.answer.Check.{Check}
use Rattle.log_check.specs.declared.answer.Check.TheVariants.{Accepted, Rejected}
use Rattle.log_check.specs.declared.answer.CheckRefused.{CheckRefused}
use Rattle.log_check.specs.declared.answer.CheckRefused.TheVariants as no_check
use Rattle.log_check.specs.Scans.{Judges}
use Rattle.log_check.specs.Answers.{Answers, IsAnswer, IsUnderWay, end_is}

pub begins : (f : Cnf) (told : Option Ahead) (vars : ℕ) (state : LogState) → vars ≡ f.vars → state ≡ state_at_start f → IsUnderWay f told told vars state 1 false
begins f told vars state same start = record {
  taken = [];
  ahead = all told;
  goes_on = λ rest tail. ap (λ s. log_fault f.vars s 1 false rest tail) (sym start) ∙ ap (λ v. log_fault v state 1 false rest tail) (sym same);
}
  where
    all : (told : Option Ahead) → IfSome told (λ a. (rest : List LogStep) × (told ≡ Some (rest, a.1)) × (a.0 ≡ [] ++ rest))
    all None = tt
    all (Some a) = (a.0, refl, refl)

-- what is left after one step more
ahead_more : (told now later : Option Ahead) (taken : List LogStep) (step : Step)
    → IfSome told (λ a. (rest : List LogStep) × (now ≡ Some (rest, a.1)) × (a.0 ≡ taken ++ rest)) → IfSome now (Gives (Ok (Some step)) later)
    → IfSome told (λ a. (rest : List LogStep) × (later ≡ Some (rest, a.1)) × (a.0 ≡ (taken ++ step_is step ∷ []) ++ rest))
ahead_more None now later taken step ahead gives = tt
ahead_more (Some a) now later taken step (rest, is, split) gives = at rest split (subst (λ n. IfSome n (Gives (Ok (Some step)) later)) is gives)
  where
    at : (rest : List LogStep) → a.0 ≡ taken ++ rest → Gives (Ok (Some step)) later (rest, a.1) → (rest : List LogStep) × (later ≡ Some (rest, a.1)) × (a.0 ≡ (taken ++ step_is step ∷ []) ++ rest)
    at [] split g = absurd g
    at (s ∷ ss) split g = (ss, g.1, split ∙ ap (λ x. taken ++ x ∷ ss) (sym g.0) ∙ sym (append_assoc taken (step_is step ∷ []) ss))

step_passes : (vars : ℕ) (state : LogState) (line : ℕ) (s : LogStep) (rest : List LogStep) (tail : Tail) → step_fault vars state s ≡ None → log_fault vars state line false (s ∷ rest) tail ≡ log_fault vars (after_step state s) (suc line) (adds_empty_clause s) rest tail
step_passes vars state line s rest tail e = ap (λ o. at_fault o line (λ next. log_fault vars (after_step state s) next (adds_empty_clause s) rest tail)) e

step_fails : (vars : ℕ) (state : LogState) (line why : ℕ) (s : LogStep) (rest : List LogStep) (tail : Tail) → step_fault vars state s ≡ Some why → log_fault vars state line false (s ∷ rest) tail ≡ Some (line, why)
step_fails vars state line why s rest tail e = ap (λ o. at_fault o line (λ next. log_fault vars (after_step state s) next (adds_empty_clause s) rest tail)) e

pub one_taken : (f : Cnf) (told now later : Option Ahead) (vars : ℕ) (state after : LogState) (line : ℕ) (ended : Bool) (step : Step) (why : Option ℕ) (last : Bool)
    → IsUnderWay f told now vars state line ended → ended ≡ false → IfSome now (Gives (Ok (Some step)) later) → Judges vars state (step_is step) after why → why ≡ None → last ≡ adds_empty_clause (step_is step)
    → IsUnderWay f told later vars after (line + 1) last
one_taken f told now later vars state after line ended step why last way running gives judged none is = record {
  taken = way.taken ++ step_is step ∷ [];
  ahead = ahead_more told now later way.taken step way.ahead gives;
  goes_on = λ rest tail.
      ap (λ xs. first_fault f xs tail) (append_assoc way.taken (step_is step ∷ []) rest)
      ∙ way.goes_on (step_is step ∷ rest) tail
      ∙ ap (λ b. log_fault vars state line b (step_is step ∷ rest) tail) running
      ∙ step_passes vars state line (step_is step) rest tail (sym judged.reason ∙ none)
      ∙ ap (λ s. log_fault vars s (suc line) (adds_empty_clause (step_is step)) rest tail) (sym (judged.taken none))
      ∙ ap (λ n. log_fault vars after n (adds_empty_clause (step_is step)) rest tail) (sym (add-one line))
      ∙ ap (λ b. log_fault vars after (line + 1) b rest tail) (sym is);
}

-- a step was given at which the log fails, whatever is behind it
fails_at : (f : Cnf) (told now later : Option Ahead) (vars : ℕ) (state : LogState) (line why : ℕ) (ended : Bool) (step : Step)
    → IsUnderWay f told now vars state line ended → IfSome now (Gives (Ok (Some step)) later)
    → ((rest : List LogStep) (tail : Tail) → log_fault vars state line ended (step_is step ∷ rest) tail ≡ Some (line, why))
    → Answers f told (Ok (Rejected line why))
fails_at f told now later vars state line why ended step way gives fails = at told (ahead_more told now later way.taken step way.ahead gives)
  where
    whole : (rest : List LogStep) (tail : Tail) → first_fault f ((way.taken ++ step_is step ∷ []) ++ rest) tail ≡ Some (line, why)
    whole rest tail = ap (λ xs. first_fault f xs tail) (append_assoc way.taken (step_is step ∷ []) rest) ∙ way.goes_on (step_is step ∷ rest) tail ∙ fails rest tail

    at : (told : Option Ahead) → IfSome told (λ a. (rest : List LogStep) × (later ≡ Some (rest, a.1)) × (a.0 ≡ (way.taken ++ step_is step ∷ []) ++ rest)) → Answers f told (Ok (Rejected line why))
    at None ahead = record {
      steps = (way.taken ++ step_is step ∷ []) ++ [];
      follows = TheEnd;
      told_are = tt;
      answer = whole [] LogEnd;
    }
    at (Some a) (rest, is, split) = record {
      steps = a.0;
      follows = a.1;
      told_are = refl;
      answer = ap (λ xs. first_fault f xs (tail_of a.1)) split ∙ whole rest (tail_of a.1);
    }

pub behind_the_end : (f : Cnf) (told now later : Option Ahead) (vars : ℕ) (state : LogState) (line : ℕ) (ended : Bool) (step : Step)
    → IsUnderWay f told now vars state line ended → ended ≡ true → IfSome now (Gives (Ok (Some step)) later) → Answers f told (Ok (Rejected line 8))
behind_the_end f told now later vars state line ended step way closed gives =
    fails_at f told now later vars state line 8 ended step way gives (λ rest tail. ap (λ b. log_fault vars state line b (step_is step ∷ rest) tail) closed)

pub not_passed : (f : Cnf) (told now later : Option Ahead) (vars : ℕ) (state after : LogState) (line why : ℕ) (ended : Bool) (step : Step)
    → IsUnderWay f told now vars state line ended → ended ≡ false → IfSome now (Gives (Ok (Some step)) later) → Judges vars state (step_is step) after (Some why) → Answers f told (Ok (Rejected line why))
not_passed f told now later vars state after line why ended step way running gives judged =
    fails_at f told now later vars state line why ended step way gives (λ rest tail.
    ap (λ b. log_fault vars state line b (step_is step ∷ rest) tail) running ∙ step_fails vars state line why (step_is step) rest tail (sym judged.reason))

-- what is told, where no step was left and this followed
none_left : (told now : Option Ahead) (taken : List LogStep) (follows : Follows)
    → IfSome told (λ a. (rest : List LogStep) × (now ≡ Some (rest, a.1)) × (a.0 ≡ taken ++ rest)) → IfSome now (λ a. a ≡ ([], follows))
    → IfSome told (λ a. a ≡ (taken, follows))
none_left None now taken follows ahead end = tt
none_left (Some a) now taken follows (rest, is, split) end =
    let at : (rest, a.1) ≡ ([], follows) = subst (λ n. IfSome n (λ a. a ≡ ([], follows))) is end in
    let none : rest ≡ [] = ap (λ (p : Ahead). p.0) at in
    let same : a.1 ≡ follows = ap (λ (p : Ahead). p.1) at in
    let all : a.0 ≡ taken = split ∙ ap (λ xs. taken ++ xs) none ∙ append-nil taken in
    pair a all same
  where
    pair : (a : Ahead) {xs : List LogStep} {fs : Follows} → a.0 ≡ xs → a.1 ≡ fs → a ≡ (xs, fs)
    pair a e f = λ i. (e i, f i)

all_taken : (f : Cnf) (told now : Option Ahead) (vars : ℕ) (state : LogState) (line : ℕ) (ended : Bool) (tail : Tail) → (way : IsUnderWay f told now vars state line ended) → first_fault f way.taken tail ≡ tail_fault line ended tail
all_taken f told now vars state line ended tail way = ap (λ xs. first_fault f xs tail) (sym (append-nil way.taken)) ∙ way.goes_on [] tail

ends_so : (o : Option Ahead) (later : Option Ahead) → IfSome o (Gives (Ok None) later) → IfSome o (λ a. a ≡ ([], TheEnd))
ends_so None later g = tt
ends_so (Some ([], TheEnd)) later g = refl
ends_so (Some ([], BadLine n)) later g = absurd g
ends_so (Some ([], TheLimit)) later g = absurd g
ends_so (Some (s ∷ ss, follows)) later g = absurd g

pub at_the_end : (f : Cnf) (told now later : Option Ahead) (vars : ℕ) (state : LogState) (line : ℕ) (ended : Bool)
    → IsUnderWay f told now vars state line ended → IfSome now (Gives (Ok None) later) → Answers f told (Ok (end_is line ended))
at_the_end f told now later vars state line ended way gives = record {
  steps = way.taken;
  follows = TheEnd;
  told_are = none_left told now way.taken TheEnd way.ahead (ends_so now later gives);
  answer = at ended (all_taken f told now vars state line ended LogEnd way);
}
  where
    at : (b : Bool) → first_fault f way.taken LogEnd ≡ tail_fault line b LogEnd → IsAnswer f way.taken TheEnd (Ok (end_is line b))
    at true e = (refl, e)
    at false e = e

bad_so : (o : Option Ahead) (later : Option Ahead) (n : ℕ) → IfSome o (Gives (Err (refused.TheVariants.Malformed n)) later) → IfSome o (λ a. a ≡ ([], BadLine n))
bad_so None later n g = tt
bad_so (Some ([], TheEnd)) later n g = absurd g
bad_so (Some ([], BadLine m)) later n g = ap (λ k. ([], BadLine k)) (sym g)
bad_so (Some ([], TheLimit)) later n g = absurd g
bad_so (Some (s ∷ ss, follows)) later n g = absurd g

pub at_a_bad_line : (f : Cnf) (told now later : Option Ahead) (vars : ℕ) (state : LogState) (line n : ℕ) (ended : Bool)
    → IsUnderWay f told now vars state line ended → IfSome now (Gives (Err (refused.TheVariants.Malformed n)) later) → Answers f told (Ok (Rejected line 1))
at_a_bad_line f told now later vars state line n ended way gives = record {
  steps = way.taken;
  follows = BadLine n;
  told_are = none_left told now way.taken (BadLine n) way.ahead (bad_so now later n gives);
  answer = all_taken f told now vars state line ended Malformed way;
}

long_so : (o : Option Ahead) (later : Option Ahead) → IfSome o (Gives (Err refused.TheVariants.TooLong) later) → IfSome o (λ a. a ≡ ([], TheLimit))
long_so None later g = tt
long_so (Some ([], TheEnd)) later g = absurd g
long_so (Some ([], BadLine n)) later g = absurd g
long_so (Some ([], TheLimit)) later g = refl
long_so (Some (s ∷ ss, follows)) later g = absurd g

pub at_the_limit : (f : Cnf) (told now later : Option Ahead) (vars : ℕ) (state : LogState) (line : ℕ) (ended : Bool)
    → IsUnderWay f told now vars state line ended → IfSome now (Gives (Err refused.TheVariants.TooLong) later) → Answers f told (Err no_check.TooLong)
at_the_limit f told now later vars state line ended way gives = record {
  steps = way.taken;
  follows = TheLimit;
  told_are = none_left told now way.taken TheLimit way.ahead (long_so now later gives);
  answer = (refl, all_taken f told now vars state line ended Limit way);
}

-- an answer that says nothing of the log
pub not_judged : (f : Cnf) (told : Option Ahead) (e : CheckRefused) → ((steps : List LogStep) (follows : Follows) → IsAnswer f steps follows (Err e)) → Answers f told (Err e)
not_judged f None e any = record { steps = []; follows = TheEnd; told_are = tt; answer = any [] TheEnd }
not_judged f (Some a) e any = record { steps = a.0; follows = a.1; told_are = refl; answer = any a.0 a.1 }

-- no values satisfy a formula whose log is accepted
pub accepted_refutes : (f : Cnf) (told : Option Ahead) (result : Result Check CheckRefused) → Answers f told result → result ≡ Ok Accepted → IsRefuted f.clauses
accepted_refutes f told result a is =
    let answer : IsAnswer f a.steps a.follows (Ok Accepted) = subst (IsAnswer f a.steps a.follows) is a.answer in
    logs_refute f a.steps answer.1

pub no_memory : (f : Cnf) (told : Option Ahead) → Answers f told (Err no_check.Memory)
no_memory f told = not_judged f told no_check.Memory (λ steps follows. tt)

pub no_shelf : (f : Cnf) (told : Option Ahead) → Answers f told (Err no_check.ShelfFault)
no_shelf f told = not_judged f told no_check.ShelfFault (λ steps follows. tt)

-- one clause more of a formula
enumerated_next : {X : Type 0} (start : ℕ) (xs : List X) (i : ℕ) (x : X) → slice_get xs i ≡ Some x → enumerate_from start (take (suc i) xs) ≡ enumerate_from start (take i xs) ++ (start + i, x) ∷ []
enumerated_next start [] i x e = cc
enumerated_next start (y ∷ ys) zero x e =
    let is : y ≡ x = cc in
    ap (λ z. (start, z) ∷ []) is ∙ ap (λ n. (n, x) ∷ []) (sym (add-zero start))
enumerated_next start (y ∷ ys) (suc i) x e =
    ap (λ ps. (start, y) ∷ ps) (enumerated_next (start + 1) ys i x e ∙ ap (λ n. enumerate_from (start + 1) (take i ys) ++ (n, x) ∷ []) (next start i))
  where
    next : (a b : ℕ) → a + 1 + b ≡ a + suc b
    next a b = omega arith

pub enumerated_more : {X : Type 0} (start : ℕ) (xs : List X) (i : ℕ) (x : X) → slice_get xs i ≡ Some x → enumerate_from start (take (i + 1) xs) ≡ enumerate_from start (take i xs) ++ (start + i, x) ∷ []
enumerated_more start xs i x e = ap (λ n. enumerate_from start (take n xs)) (add-one i) ∙ enumerated_next start xs i x e

-- a step that was given is no fault
pub given_well : (r : Result (Option Step) StepRefused) (step : Option Step) → r ≡ Ok step → r ≡ Err refused.TheVariants.ShelfFault → ⊥
given_well r step is e = cc
