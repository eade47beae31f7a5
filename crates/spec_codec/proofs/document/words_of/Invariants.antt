use Rattle.std.proofs.Common.{map}
use Rattle.json_shape.proofs.EachLemmas.{IsOnTheWay}
use Rattle.spec_codec.specs.Documents.{word_in}
use Rattle.spec_codec.proofs.document.words_of.Given as goal

abbrev pub invariant-loop-value : goal.invariant-loop-value
invariant-loop-value l = IsOnTheWay word_in l.values l.value-index (map (λ w. w.items) l.words.items)
