use Rattle.std.proofs.Common.{◌∙◌, sym}
use Rattle.std.proofs.lemmas.Result.{err_from_is_err_and}
use Rattle.serde_json.specs.View.{view}
use Rattle.lasre_codec.proofs.ReadLemmas.{misshapen_is_refused, job_given}
use Rattle.lasre_codec.proofs.read.read_value.Goals as goal

pub returns-in_err-grids-clause-err : goal.returns-in_err-grids-clause-err
returns-in_err-grids-clause-err c =
    let p = err_from_is_err_and c.from_residual.result c.from_residual.ensures.1 in
    rw (p.1, p.2) (λ other. misshapen_is_refused (view c.args.value.now) _ (sym c.is_object.ensures ∙ c.if-not-is_object.false) (sym c.missing.ensures ∙ c.in_default.is) (c.in_err-grids.ensures.err other))

pub returns-in-Ok-clause-ok : goal.returns-in-Ok-clause-ok
returns-in-Ok-clause-ok c =
    let given = job_given (view c.args.value.now) c.in-Ok.job (sym c.is_object.ensures ∙ c.if-not-is_object.false) (sym c.missing.ensures ∙ c.in_default.is) c.in_ok-grids.ensures.ok.0 c.in-Ok.ensures.ok in
    rw given c.build.ensures.ok

pub returns-in-Ok-clause-err : goal.returns-in-Ok-clause-err
returns-in-Ok-clause-err c =
    let given = job_given (view c.args.value.now) c.in-Ok.job (sym c.is_object.ensures ∙ c.if-not-is_object.false) (sym c.missing.ensures ∙ c.in_default.is) c.in_ok-grids.ensures.ok.0 c.in-Ok.ensures.ok in
    rw given c.build.ensures.err
