use Rattle.std.proofs.Common.{◌∙◌, ◌<◌, ◌≤◌, sym, ap, length, get_or, arith}
use Rattle.std.proofs.lemmas.Option.{slice_get-get_or}
use Rattle.las_base.specs.declared.Size.{Size}
use Rattle.las_spec.specs.Briefs.{job_of}
use Rattle.las_base.specs.Jobs.{same_job}
use Rattle.las_base.proofs.Same.{any_at}
use Rattle.las_top.proofs.AuditLemmas.{any_passed, any_none}
use Rattle.las_top.proofs.audit.is_listed.Goals as goal

-- any size, for a place that no list has
no_size : Size
no_size = record { i = 0; j = 0; k = 0 }

pub returns-then-same_job : goal.returns-then-same_job
returns-then-same_job c =
    let boxes = c.args.spec.now.boxes in
    let n = c.loop-number.number in
    let low : n < length boxes = omega (arith, c.loop-number-test.true, c.box_count-number-end.ensures) in
    let at = slice_get-get_or boxes n no_size low in
    sym (any_at (λ box. same_job (job_of c.args.spec.now box) c.args.other.now) boxes n (get_or boxes n no_size) at (ap (λ j. same_job j c.args.other.now) (sym (c.in_ok-job.ensures (get_or boxes n no_size) at)) ∙ sym c.same_job-in-loop-number.ensures ∙ c.if-same_job.true))

pub loop-number-preserved : goal.loop-number-preserved
loop-number-preserved c =
    let boxes = c.args.spec.now.boxes in
    let n = c.loop-number.number in
    let low : n < length boxes = omega (arith, c.loop-number-test.true, c.box_count-number-end.ensures) in
    let at = slice_get-get_or boxes n no_size low in
    any_passed (λ box. same_job (job_of c.args.spec.now box) c.args.other.now) boxes n (get_or boxes n no_size) c.loop-number.invariant at (ap (λ j. same_job j c.args.other.now) (sym (c.in_ok-job.ensures (get_or boxes n no_size) at)) ∙ sym c.same_job-in-loop-number.ensures ∙ c.if-same_job.false)

pub returns : goal.returns
returns c =
    let end : length c.args.spec.now.boxes ≤ c.loop-number.number = omega (arith, c.loop-number-test.false, c.box_count-number-end.ensures) in
    sym (any_none (λ box. same_job (job_of c.args.spec.now box) c.args.other.now) c.args.spec.now.boxes c.loop-number.number c.loop-number.invariant end)
