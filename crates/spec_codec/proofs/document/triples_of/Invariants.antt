use Rattle.json_shape.proofs.EachLemmas.{IsOnTheWay}
use Rattle.json_shape.specs.Numbers.{triple}
use Rattle.spec_codec.proofs.document.triples_of.Given as goal

abbrev pub invariant-loop-value : goal.invariant-loop-value
invariant-loop-value l = IsOnTheWay triple l.values l.value-index l.triples.items
