-- What unit steps over the formula alone force.
use Rattle.std.specs.Prelude.{Result, Ok, Err, IfOk}
use Rattle.std.proofs.Common.{ℕ, ◌≤◌, List, Option, ap, arith}
use Rattle.cnf_base.specs.Literals.{Cnf, values_of}
use Rattle.cnf_base.specs.Logs.{LogStep}
use Rattle.sat_core.specs.declared.outcome.Outcome.{Outcome}
use Rattle.sat_core.specs.declared.outcome.Outcome.TheVariants.{Model, Refuted, Spent}
use Rattle.sat_core.specs.declared.outcome.SolveRefused.{SolveRefused}
use Rattle.sat_core.specs.Outcomes.{IsTrueOutcome, StopsAtUnits}
use Rattle.sat_core.proofs.UnitLemmas.{lessons_forbid_units, units_refute}

-- where they make a clause false, there is no model and no lesson
pub stops_at_units : (f : Cnf) (budget : ℕ) (first now : Option (List LogStep)) (outcome : Outcome) → 1 ≤ budget → IsTrueOutcome f budget first now outcome → StopsAtUnits f outcome
stops_at_units f budget first now (Model values) some t u = absurd (units_refute f (values_of values) t.holds.0.satisfies u)
stops_at_units f budget first now (Refuted n) some t u = ap Refuted (t.holds.0.by_units.1 u)
stops_at_units f budget first now (Spent n) some t u = absurd (lessons_forbid_units f t.steps t.holds.0.lessons.each (let c = t.holds.0.lessons.count in let e = t.holds.1 in omega arith) u)

-- the same of a result
pub stops_where_ok : (f : Cnf) (budget : ℕ) (first now : Option (List LogStep)) (result : Result Outcome SolveRefused) → 1 ≤ budget → IfOk result (λ outcome. IsTrueOutcome f budget first now outcome) → IfOk result (StopsAtUnits f)
stops_where_ok f budget first now (Ok outcome) some t = stops_at_units f budget first now outcome some t
stops_where_ok f budget first now (Err e) some t = tt
