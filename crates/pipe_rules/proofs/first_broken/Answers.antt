use Rattle.std.proofs.Common.{rules, ◌∙◌, ap, ◌∷◌, [], List, ℕ, Bool}
use Rattle.las_base.specs.declared.Cell.{Cell}
use Rattle.grid_box.specs.PipeRules.{named_cells}
use Rattle.grid_box.specs.CellTests.{breach_by}
use Rattle.pipe_rules.specs.declared.Rule.{Rule}
use Rattle.pipe_rules.specs.declared.Rule.TheVariants.{StaysInBox, PortPipe, ForbiddenEmpty, YCube, NoDeadEnd, NoThreeAxes}
use Rattle.pipe_rules.specs.Rules.{keeps}
use Rattle.pipe_rules.proofs.first_broken.Goals as goal

pub returns : goal.returns
returns c =
    let rule : Rule → Cell → Bool = λ r. keeps r c.args.job.now c.args.diagram.now in
    let table : List (ℕ × Rule) = (1, StaysInBox) ∷ (2, PortPipe) ∷ (3, ForbiddenEmpty) ∷ (4, YCube) ∷ (5, NoDeadEnd) ∷ (6, NoThreeAxes) ∷ [] in
    let found = c.first_breach.ensures rule (λ r cell answer near given. search rules) in
    found ∙ ap (λ s. breach_by rule (named_cells s) table) (c.size.ensures.size ∙ c.requires)
