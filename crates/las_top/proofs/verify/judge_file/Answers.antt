use Rattle.las_top.specs.Findings.{answer_by}
use Rattle.las_top.proofs.SolutionLemmas.{if_ok}
use Rattle.las_top.proofs.VerifyLemmas.{log_judged}
use Rattle.las_top.proofs.verify.judge_file.Goals as goal

pub returns-in-Ok-Some-clause-found : goal.returns-in-Ok-Some-clause-found
returns-in-Ok-Some-clause-found g c =
    let present = rw c.in-Ok-Some.field-0-is at c.in-Ok-Some.ensures.found in
    let there = rw c.in-Ok-Some.field-0-is at c.in-Ok-Some.ensures.told in
    let named = rw c.in-Ok-Some.field-0-is at c.in-Ok-Some.ensures.name in
    if_ok c.judge_log.result c.judge_log.ensures.found (λ f s. log_judged g.H.Shelf c.args.shelf.now (answer_by f) c.args.formula.now c.args.name.now c.in-Ok-Some.log c.find_log.new.shelf present there named c.in-Ok-Some.ensures.files s)
