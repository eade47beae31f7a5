use Rattle.std.proofs.Common.{◌≡◌, ◌∙◌, ap}
use Rattle.box_sweep.specs.Lines.{log_name}
use Rattle.las_top.specs.Findings.{answer_by}
use Rattle.las_top.proofs.SolutionLemmas.{if_ok}
use Rattle.las_top.proofs.VerifyLemmas.{box_judged}
use Rattle.las_top.proofs.verify.judge_job.Goals as goal

pub returns-clause-found : goal.returns-clause-found
returns-clause-found g c =
    let name_is : c.deref.result.now ≡ log_name c.args.job.now.size = c.deref.ensures ∙ c.in_ok-name.ensures.name ∙ ap log_name c.size.ensures.size in
    if_ok c.judge_file.result c.judge_file.ensures.found (λ f a. box_judged g.H.Shelf c.args.shelf.now (answer_by f) c.args.job.now c.in_ok-formula.formula c.deref.result.now c.size.ensures.kept c.in_ok-formula.ensures.formula name_is a)
