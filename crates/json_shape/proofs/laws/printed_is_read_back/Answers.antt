use Rattle.json_shape.proofs.Printed.{printed_back}
use Rattle.json_shape.proofs.laws.printed_is_read_back.Goals as goal

pub returns : goal.returns
returns c = printed_back
