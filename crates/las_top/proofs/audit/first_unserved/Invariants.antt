use Rattle.std.proofs.Common.{◌≡◌, drop}
use Rattle.las_top.specs.Audit.{first_unserved}
use Rattle.las_top.proofs.audit.first_unserved.Given as goal

abbrev pub invariant-loop-flow : goal.invariant-loop-flow
invariant-loop-flow l = first_unserved l.lasre.job l.lasre.diagram l.lasre.sheets 0 l.lasre.job.flows ≡ first_unserved l.lasre.job l.lasre.diagram l.lasre.sheets l.flow (drop l.flow l.lasre.job.flows)
