use Rattle.std.proofs.Common.{◌≡◌, map, take}
use Rattle.serde_json.specs.View.{view}
use Rattle.spec_codec.specs.Texts.{word_value}
use Rattle.spec_codec.proofs.text.word_values.Given as goal

abbrev pub invariant-loop-word : goal.invariant-loop-word
invariant-loop-word l = map view l.values.items ≡ map word_value (take l.word-index l.words)
