use Rattle.las_top.proofs.ZxLemmas.{AreWritten}
use Rattle.las_top.proofs.zx.push_flows.Given as goal

abbrev pub invariant-loop-flow : goal.invariant-loop-flow
invariant-loop-flow l = AreWritten l.lasre.diagram l.lasre.sheets l.lasre.job.flows l.flow l.fn.text.items l.text.items
