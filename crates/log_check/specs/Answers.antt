-- What a checker answers.
use Rattle.std.specs.Prelude.{◌≡◌, ℕ, Bool, List, ◌++◌, Option, Some, None, IfSome, Result, Ok, Err, if◌then◌else◌, ⊤}
use Rattle.cnf_base.specs.Literals.{Cnf}
use Rattle.cnf_base.specs.Logs.{LogState, LogStep, Tail, Limit, IsAccepted, first_fault, log_fault}
use Rattle.clause_log.specs.Steps.{Ahead, Follows, TheEnd, TheLimit, tail_of}
use Rattle.log_check.specs.declared.answer.Check.{Check}
use Rattle.log_check.specs.declared.answer.Check.TheVariants.{Accepted, Rejected}
use Rattle.log_check.specs.declared.answer.CheckRefused.{CheckRefused}
use Rattle.log_check.specs.declared.answer.CheckRefused.TheVariants as refused

-- the answer is that to these steps, and to what follows them
abbrev pub IsAnswer : Cnf → List LogStep → Follows → Result Check CheckRefused → Type 0
IsAnswer f steps follows (Ok Accepted) = (follows ≡ TheEnd) × IsAccepted f steps
IsAnswer f steps follows (Ok (Rejected line why)) = first_fault f steps (tail_of follows) ≡ Some (line, why)
IsAnswer f steps follows (Err refused.TooLong) = (follows ≡ TheLimit) × (first_fault f steps Limit ≡ None)
IsAnswer f steps follows (Err refused.ShelfFault) = ⊤
IsAnswer f steps follows (Err refused.Memory) = ⊤

-- there are steps, and what follows them, that the answer is to: those ahead, where they are told
pub record Answers (f : Cnf) (told : Option Ahead) (result : Result Check CheckRefused) : Type 0 where
  pub steps : List LogStep
  pub follows : Follows
  pub told_are : IfSome told (λ ahead. ahead ≡ (steps, follows))
  pub answer : IsAnswer f steps follows result

-- what a log comes to that ends here
abbrev pub end_is : ℕ → Bool → Check
end_is line ended = if ended then Accepted else Rejected line 9

-- some steps were taken: those that are ahead now are the rest of those told, and the first fault of the whole is that of the rest
pub record IsUnderWay (f : Cnf) (told now : Option Ahead) (vars : ℕ) (state : LogState) (line : ℕ) (ended : Bool) : Type 0 where
  pub taken : List LogStep
  pub ahead : IfSome told (λ a. (rest : List LogStep) × (now ≡ Some (rest, a.1)) × (a.0 ≡ taken ++ rest))
  pub goes_on : (rest : List LogStep) (tail : Tail) → first_fault f (taken ++ rest) tail ≡ log_fault vars state line ended rest tail
