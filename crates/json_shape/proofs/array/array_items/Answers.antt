use Rattle.serde_json.specs.View.{view}
use Rattle.json_shape.proofs.ArrayLemmas.{array_items-some}
use Rattle.json_shape.proofs.array.array_items.Goals as goal

pub returns : goal.returns
returns c = array_items-some (view c.args.value.now) c.in_ok-as_array.field-0.now.items c.as_slice.result.now c.in_ok-as_array.ensures c.as_slice.ensures.value
