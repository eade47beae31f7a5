use Rattle.std.proofs.Common.{◌≡◌, map, take}
use Rattle.serde_json.specs.View.{view}
use Rattle.spec_codec.specs.Texts.{size_value}
use Rattle.spec_codec.proofs.text.box_values.Given as goal

abbrev pub invariant-loop-number : goal.invariant-loop-number
invariant-loop-number l = map view l.values.items ≡ map size_value (take l.number l.spec.boxes)
