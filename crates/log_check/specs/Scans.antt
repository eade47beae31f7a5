-- How a checker sees a clause, and how it goes through the literals of a step.
use Rattle.std.specs.Prelude.{◌≡◌, ℕ, ◌<◌, Bool, ◌&&◌, ◌||◌, not, nat_eq, nat_lt, List, Option, Some, None, if◌then◌else◌, ⊤}
use Rattle.std.specs.List.{list_any}
use Rattle.cnf_base.specs.declared.literal.Lit.{Lit}
use Rattle.cnf_base.specs.Literals.{variable, negation, same_lit, has_lit}
use Rattle.cnf_base.specs.Units.{Look, Falsified, OneOpen, Loose}
use Rattle.cnf_base.specs.Logs.{LogState, LogStep, step_fault, after_step}
use Rattle.log_check.specs.declared.hints.Sight.{Sight}
use Rattle.log_check.specs.declared.hints.Sight.TheVariants as sight

-- the look that a value of the code is
abbrev pub look_is : Sight → Look
look_is sight.False = Falsified
look_is (sight.Unit l) = OneOpen l
look_is sight.Loose = Loose

-- the open literal, where there is one, is below the number of variables
abbrev pub IsBelow : ℕ → Sight → Type 0
IsBelow vars sight.False = ⊤
IsBelow vars (sight.Unit l) = variable l < vars
IsBelow vars sight.Loose = ⊤

-- the one open literal so far, with one that is not false: none where these are two
abbrev pub with_open : Option Lit → Lit → Option (Option Lit)
with_open None l = Some (Some l)
with_open (Some m) l = if same_lit m l then Some (Some m) else None

-- the one open literal so far, with one literal more
abbrev pub open_then : List Lit → Option Lit → Lit → Option (Option Lit)
open_then trues only l = if has_lit trues (negation l) then Some only else with_open only l

-- some literal of the list is of this literal's variable
abbrev pub has_var : List Lit → Lit → Bool
has_var seen l = list_any (λ m. nat_eq (variable l) (variable m)) seen

-- a literal is below the number of variables, and none that is true is of its variable
abbrev pub is_fresh : ℕ → List Lit → Lit → Bool
is_fresh vars trues l = nat_lt (variable l) vars && not (has_lit trues l || has_lit trues (negation l))

-- what became of a step: the reason why it does not pass, or else the state after it
pub record Judges (vars : ℕ) (state : LogState) (step : LogStep) (after : LogState) (why : Option ℕ) : Type 0 where
  pub reason : why ≡ step_fault vars state step
  pub taken : why ≡ None → after ≡ after_step state step
