use Rattle.std.proofs.Common.{◌∙◌, ◌<◌, ◌≤◌, sym, ap, length, arith}
use Rattle.las_top.proofs.AuditLemmas.{unserved_here, served_here, all_served}
use Rattle.las_top.proofs.audit.first_unserved.Goals as goal

pub returns-in-Some : goal.returns-in-Some
returns-in-Some c =
    let l = c.args.lasre.now in
    let low : c.loop-flow.flow < length l.job.flows = omega (arith, c.loop-flow-test.true, ap length c.flows-flow-end.ensures.flows) in
    unserved_here l.job l.diagram l.sheets l.job.flows c.loop-flow.flow c.in-Some.broken low c.loop-flow.invariant (sym c.first_bad_sheet.ensures ∙ c.in-Some.is)

pub loop-flow-preserved : goal.loop-flow-preserved
loop-flow-preserved c =
    let l = c.args.lasre.now in
    let low : c.loop-flow.flow < length l.job.flows = omega (arith, c.loop-flow-test.true, ap length c.flows-flow-end.ensures.flows) in
    served_here l.job l.diagram l.sheets l.job.flows c.loop-flow.flow low c.loop-flow.invariant (sym c.first_bad_sheet.ensures ∙ c.in_default.is)

pub returns : goal.returns
returns c =
    let l = c.args.lasre.now in
    let end : length l.job.flows ≤ c.loop-flow.flow = omega (arith, c.loop-flow-test.false, ap length c.flows-flow-end.ensures.flows) in
    all_served l.job l.diagram l.sheets l.job.flows c.loop-flow.flow end c.loop-flow.invariant
