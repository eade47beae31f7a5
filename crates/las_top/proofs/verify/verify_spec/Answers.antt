use Rattle.std.proofs.Common.{◌≡◌, Some, slice_get, true}
use Rattle.las_spec.specs.Briefs.{job_of}
use Rattle.las_top.specs.Findings.{answer_by}
use Rattle.las_top.specs.Verify.{lists_box}
use Rattle.las_top.proofs.SolutionLemmas.{if_ok}
use Rattle.las_top.proofs.VerifyLemmas.{listed_here, listed_judged}
use Rattle.las_top.proofs.verify.verify_spec.Goals as goal

pub returns-in_ok-job-in-Some-clause-found : goal.returns-in_ok-job-in-Some-clause-found
returns-in_ok-job-in-Some-clause-found g c =
    let here : slice_get c.args.spec.now.boxes c.in-Some.number ≡ Some c.args.size = c.in-Some.ensures in
    let listed : lists_box c.args.size c.args.spec.now ≡ true = listed_here c.args.spec.now c.args.size c.in-Some.number here in
    if_ok c.judge_job-in-Some.result c.judge_job-in-Some.ensures.found (λ f a. listed_judged g.H.Shelf c.args.shelf.now (answer_by f) _ (job_of c.args.spec.now c.args.size) c.in_ok-job-in-Some.field-0 (lists_box c.args.size c.args.spec.now) listed (c.in_ok-job-in-Some.ensures c.args.size here) a)

pub returns-in_ok-job-in-Some-clause-asked : goal.returns-in_ok-job-in-Some-clause-asked
returns-in_ok-job-in-Some-clause-asked g c = λ e. listed_here c.args.spec.now c.args.size c.in-Some.number c.in-Some.ensures
