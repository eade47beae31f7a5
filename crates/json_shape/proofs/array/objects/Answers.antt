use Rattle.std.proofs.Common.{refl}
use Rattle.serde_json.specs.View.{view}
use Rattle.json_shape.proofs.ArrayLemmas.{objects-some, objects-none, all-so, all-not}
use Rattle.json_shape.proofs.array.objects.Goals as goal

pub returns-then-are_objects : goal.returns-then-are_objects
returns-then-are_objects c = objects-some (view c.args.value.now) c.in_ok-items.items.now c.in_ok-items.ensures (all-so c.in_ok-items.items.now (c.if-are_objects.ensures.0 refl))

pub returns-else-are_objects : goal.returns-else-are_objects
returns-else-are_objects c = objects-none (view c.args.value.now) c.in_ok-items.items.now c.in_ok-items.ensures (all-not c.in_ok-items.items.now c.if-are_objects.ensures.1)
