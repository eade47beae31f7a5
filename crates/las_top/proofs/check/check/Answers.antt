use Rattle.std.proofs.Common.{◌∙◌, codes, sym, ap}
use Rattle.grid_box.specs.PipeRules.{IsValid}
use Rattle.lasre_codec.specs.Documents.{Lasre, lasre_as}
use Rattle.las_top.specs.Answers.{no_with, yes_with}
use Rattle.las_top.specs.Check.{answer_to_breach, broken_line}
use Rattle.las_top.proofs.SolutionLemmas.{checked_exactly, read_exactly}
use Rattle.las_top.proofs.check.check.Goals as goal

pub returns-in-Some-clause-exact : goal.returns-in-Some-clause-exact
returns-in-Some-clause-exact c =
    let l : Lasre = lasre_as c.in-Ok.document.job c.in-Ok.document.diagram c.in-Ok.document.sheets in
    read_exactly (λ x. IsValid x.task x.drawing) (no_with (broken_line c.in-Some.broken)) _ c.args.bytes.now l c.in-Ok.ensures.ok (ap answer_to_breach (sym c.in-Some.is ∙ c.first_breach.ensures)) (checked_exactly l c.in-Ok.ensures.fits)

pub returns-in-Ok-clause-exact : goal.returns-in-Ok-clause-exact
returns-in-Ok-clause-exact c =
    let l : Lasre = lasre_as c.in-Ok.document.job c.in-Ok.document.diagram c.in-Ok.document.sheets in
    read_exactly (λ x. IsValid x.task x.drawing) (yes_with (codes "valid\n")) _ c.args.bytes.now l c.in-Ok.ensures.ok (ap answer_to_breach (sym c.in-None.is ∙ c.first_breach.ensures)) (checked_exactly l c.in-Ok.ensures.fits)
