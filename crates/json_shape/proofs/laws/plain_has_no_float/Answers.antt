use Rattle.json_shape.proofs.Printed.{no_float}
use Rattle.json_shape.proofs.laws.plain_has_no_float.Goals as goal

pub returns : goal.returns
returns c = no_float
