use Rattle.std.proofs.Common.{◌≡◌, Bool, not, take, None}
use Rattle.std.specs.List.{find}
use Rattle.las_base.specs.declared.Cell.{Cell}
use Rattle.las_base.specs.Cells.{cells}
use Rattle.grid_box.specs.CellTests.{AnswersTest}
use Rattle.grid_box.proofs.scan.first_breaking.Given as goal

abbrev pub invariant-loop-number : goal.invariant-loop-number
invariant-loop-number g l = (test : Cell → Bool) → AnswersTest (goal.F-post g l.keeps l.rule) test → find (λ c. not (test c)) (take l.number (cells l.wide)) ≡ None
