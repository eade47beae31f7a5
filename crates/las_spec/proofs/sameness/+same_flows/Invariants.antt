use Rattle.std.proofs.Common.{length}
use Rattle.las_spec.proofs.sameness.+same_flows.Given as goal

abbrev pub decreases-same_flows : goal.decreases-same_flows
decreases-same_flows l = length l.flows.now
