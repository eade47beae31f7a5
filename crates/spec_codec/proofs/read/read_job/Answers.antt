use Rattle.std.proofs.lemmas.Result.{err_from_is_err_and}
use Rattle.serde_json.specs.View.{view}
use Rattle.spec_codec.proofs.RefusedLemmas.{job_misshapen_is_refused}
use Rattle.spec_codec.proofs.read.read_job.Goals as goal

pub returns-in_err-draft-clause-err : goal.returns-in_err-draft-clause-err
returns-in_err-draft-clause-err c =
    let p = err_from_is_err_and c.from_residual.result c.from_residual.ensures.1 in
    rw (p.1, p.2) (λ other. job_misshapen_is_refused (view c.args.value.now) _ (c.in_err-draft.ensures.err other))
