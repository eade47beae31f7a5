use Rattle.std.proofs.Common.{sym, ◌∙◌}
use Rattle.std.proofs.lemmas.Result.{err_from_is_err_and}
use Rattle.serde_json.specs.View.{view}
use Rattle.spec_codec.proofs.RefusedLemmas.{misshapen_is_refused}
use Rattle.spec_codec.proofs.read.spec_in.Goals as goal

pub returns-in_err-read_written-in-None-clause-err : goal.returns-in_err-read_written-in-None-clause-err
returns-in_err-read_written-in-None-clause-err c =
    let p = err_from_is_err_and c.from_residual.result c.from_residual.ensures.1 in
    rw (p.1, p.2) (λ other. misshapen_is_refused (view c.args.value.now) _ (sym c.is_object.ensures ∙ c.if-not-is_object.false) (sym c.missing.ensures ∙ c.in-None.is) (c.in_err-read_written-in-None.ensures.err other))
