use Rattle.std.proofs.Common.{◌∙◌, sym}
use Rattle.las_top.proofs.SolutionLemmas.{valid_where, served}
use Rattle.las_top.proofs.zx.zx_of_lasre.Goals as goal

pub zx_text-requires-clause-valid : goal.zx_text-requires-clause-valid
zx_text-requires-clause-valid c =
    let l = c.args.lasre.now in
    valid_where l.job l.diagram c.requires.drawing_size (sym c.first_breach.ensures ∙ c.in_default.is)

pub zx_text-requires-clause-served : goal.zx_text-requires-clause-served
zx_text-requires-clause-served c =
    let l = c.args.lasre.now in
    served l.job l.diagram l.sheets (sym c.first_unserved.ensures ∙ c.in-None.is)
