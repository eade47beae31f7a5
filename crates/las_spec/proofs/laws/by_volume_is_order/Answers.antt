use Rattle.las_spec.proofs.laws.by_volume_is_order.Goals as goal
use Rattle.las_spec.proofs.OrderLemmas.{by_volume_is_order as law}

pub returns : goal.returns
returns c = law
