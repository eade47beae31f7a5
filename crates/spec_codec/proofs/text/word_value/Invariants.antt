use Rattle.std.proofs.Common.{◌≡◌, map, take, string_bytes}
use Rattle.las_spec.specs.Texts.{letter_of}
use Rattle.spec_codec.proofs.text.word_value.Given as goal

abbrev pub invariant-loop-letter : goal.invariant-loop-letter
invariant-loop-letter l = string_bytes l.text ≡ map letter_of (take l.letter-index l.letter-items)
