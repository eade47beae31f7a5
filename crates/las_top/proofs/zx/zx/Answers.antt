use Rattle.std.proofs.Common.{◌∙◌, sym, ap}
use Rattle.lasre_codec.specs.Documents.{Lasre, lasre_as}
use Rattle.las_top.specs.Findings.{answer_by}
use Rattle.las_top.specs.Zx.{zx_of_lasre}
use Rattle.las_top.proofs.SolutionLemmas.{if_ok, read_exactly, shown_exactly, shown_obeys}
use Rattle.las_top.proofs.zx.zx.Goals as goal

pub returns-in-Ok-clause-exact : goal.returns-in-Ok-clause-exact
returns-in-Ok-clause-exact c =
    let l : Lasre = lasre_as c.in-Ok.lasre.job c.in-Ok.lasre.diagram c.in-Ok.lasre.sheets in
    if_ok c.zx_of_lasre.result c.zx_of_lasre.ensures (λ f is. read_exactly _ (answer_by f) (zx_of_lasre l) c.args.bytes.now l c.in-Ok.ensures.ok is (shown_exactly l c.in-Ok.ensures.fits))

pub returns-in-Ok-clause-shows : goal.returns-in-Ok-clause-shows
returns-in-Ok-clause-shows c =
    let l : Lasre = lasre_as c.in-Ok.lasre.job c.in-Ok.lasre.diagram c.in-Ok.lasre.sheets in
    if_ok c.zx_of_lasre.result c.zx_of_lasre.ensures (λ f is good.
    let k = shown_obeys l c.in-Ok.ensures.fits (sym (ap (λ a. a.status) is) ∙ good) in
    record { lasre = l; given = c.in-Ok.ensures.ok; valid = k.0; labelled = k.1 })
