use Rattle.std.proofs.Common.{rules, ◌≡◌, true, refl, sym, ap, ◌∙◌}
use Rattle.std.specs.List.{list_all}
use Rattle.grid_box.specs.Drawings.{is_y}
use Rattle.grid_box.specs.Surfaces.{sheets_of}
use Rattle.surface_rules.specs.LegSheets.{leg_matches}
use Rattle.surface_rules.proofs.EndLemmas.{y_by_legs}
use Rattle.surface_rules.proofs.rules.y_sheets_match.Goals as goal

pub returns-else-not-is_y : goal.returns-else-not-is_y
returns-else-not-is_y c =
    let ss = sheets_of c.args.sheets.now c.args.flow in
    let y : is_y c.args.diagram.now c.args.cell ≡ true = search rules in
    c.match_on_y.ensures
    ∙ ap (list_all (leg_matches ss c.args.cell)) (c.deref.ensures.0 ∙ c.legs.ensures)
    ∙ sym (y_by_legs c.args.diagram.now c.args.cell ss c.args.job.now ∙ rw y refl)
