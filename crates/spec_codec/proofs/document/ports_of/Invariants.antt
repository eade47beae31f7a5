use Rattle.json_shape.proofs.EachLemmas.{IsOnTheWay}
use Rattle.spec_codec.specs.Documents.{port_in}
use Rattle.spec_codec.proofs.document.ports_of.Given as goal

abbrev pub invariant-loop-value : goal.invariant-loop-value
invariant-loop-value l = IsOnTheWay port_in l.values l.value-index l.ports.items
