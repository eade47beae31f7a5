use Rattle.std.proofs.Common.{◌≡◌, Bool, drop}
use Rattle.las_base.specs.declared.Cell.{Cell}
use Rattle.grid_box.specs.PipeRules.{named_cells}
use Rattle.grid_box.specs.CellTests.{AnswersRules, breach_by}
use Rattle.grid_box.proofs.scan.first_breach.Given as goal

abbrev pub invariant-loop-number : goal.invariant-loop-number
invariant-loop-number g l =
    (keeps : g.row.R.Denot → Cell → Bool) → AnswersRules (goal.F-post g l.keeps) keeps
    → breach_by keeps (named_cells l.size) l.rules ≡ breach_by keeps (named_cells l.size) (drop l.number-index l.rules)
