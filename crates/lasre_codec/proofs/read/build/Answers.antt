use Rattle.std.proofs.Common.{◌∙◌, sym, ap, length}
use Rattle.serde_json.specs.View.{view}
use Rattle.las_base.specs.Cells.{volume}
use Rattle.lasre_codec.specs.Members.{tested}
use Rattle.lasre_codec.specs.Entries.{first_bad, drawing_in, surfaces_in}
use Rattle.lasre_codec.specs.Kept.{entries_kept}
use Rattle.lasre_codec.proofs.ReadLemmas.{given_bad, given_shown, shown_fits}
use Rattle.lasre_codec.proofs.read.build.Goals as goal

pub returns-in-Some-first_bad-clause-err : goal.returns-in-Some-first_bad-clause-err
returns-in-Some-first_bad-clause-err c = λ other.
    given_bad (view c.args.value.now) c.args.job c.args.grids.now c.requires c.in-Some-first_bad.refusal (sym c.wrong_length.ensures ∙ c.in_default.is) (ap (λ n. first_bad (entries_kept c.args.grids.now) n tested) (sym (c.volume.ensures ∙ ap volume c.size-size.ensures.size)) ∙ sym c.first_bad.ensures ∙ c.in-Some-first_bad.is)

pub returns-clause-ok : goal.returns-clause-ok
returns-clause-ok c =
    let es = entries_kept c.args.grids.now in
    let good = ap (λ n. first_bad es n tested) (sym (c.volume.ensures ∙ ap volume c.size-size.ensures.size)) ∙ sym c.first_bad.ensures ∙ c.in_default-first_bad.is in
    let drawing = c.in_ok-diagram.ensures.shown ∙ ap (drawing_in es) c.size-size.ensures.size in
    let surfaces = c.in_ok-sheets.ensures.shown ∙ ap (λ s. surfaces_in es s (length c.flows.result.now)) c.size-size.ensures.size ∙ ap (λ fs. surfaces_in es c.args.job.size (length fs)) c.flows.ensures.flows in
    given_shown (view c.args.value.now) c.args.job c.args.grids.now c.requires c.in_ok-diagram.diagram c.in_ok-sheets.sheets (sym c.wrong_length.ensures ∙ c.in_default.is) good drawing surfaces

pub returns-clause-fits : goal.returns-clause-fits
returns-clause-fits c =
    let es = entries_kept c.args.grids.now in
    let drawing = c.in_ok-diagram.ensures.shown ∙ ap (drawing_in es) c.size-size.ensures.size in
    let surfaces = c.in_ok-sheets.ensures.shown ∙ ap (λ s. surfaces_in es s (length c.flows.result.now)) c.size-size.ensures.size ∙ ap (λ fs. surfaces_in es c.args.job.size (length fs)) c.flows.ensures.flows in
    shown_fits es c.args.job c.in_ok-diagram.diagram c.in_ok-sheets.sheets c.size-size.ensures.kept c.in_ok-diagram.ensures.drawn c.in_ok-sheets.ensures.kept drawing surfaces
