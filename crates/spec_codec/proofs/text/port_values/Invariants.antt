use Rattle.std.proofs.Common.{◌≡◌, map, take}
use Rattle.serde_json.specs.View.{view}
use Rattle.spec_codec.specs.Texts.{port_value}
use Rattle.spec_codec.proofs.text.port_values.Given as goal

abbrev pub invariant-loop-port : goal.invariant-loop-port
invariant-loop-port l = map view l.values.items ≡ map port_value (take l.port-index l.ports)
