use Rattle.std.proofs.Common.{rules, ◌∙◌, ap, ◌∷◌, [], List, ℕ, Bool, slice_index_or}
use Rattle.las_base.specs.declared.Cell.{Cell}
use Rattle.las_base.specs.declared.Pauli.{Pauli}
use Rattle.grid_box.specs.PipeRules.{named_cells}
use Rattle.grid_box.specs.CellTests.{breach_by}
use Rattle.grid_box.specs.Surfaces.{sheets_of}
use Rattle.surface_rules.specs.declared.Rule.{Rule}
use Rattle.surface_rules.specs.declared.Rule.TheVariants.{PortsSpell, YSheetsMatch, SheetsJoin}
use Rattle.surface_rules.specs.Rules.{keeps}
use Rattle.surface_rules.proofs.first_bad_sheet.Goals as goal

pub returns : goal.returns
returns c =
    let word : List Pauli = slice_index_or c.args.job.now.flows c.args.flow [] in
    let rule : Rule → Cell → Bool = λ r. keeps r c.args.job.now c.args.diagram.now (sheets_of c.args.sheets.now c.args.flow) word in
    let table : List (ℕ × Rule) = (1, PortsSpell) ∷ (2, YSheetsMatch) ∷ (3, SheetsJoin) ∷ [] in
    let found = c.first_breach.ensures rule (λ r cell answer near given. search rules) in
    found ∙ ap (λ s. breach_by rule (named_cells s) table) (c.size.ensures.size ∙ c.requires.size)
