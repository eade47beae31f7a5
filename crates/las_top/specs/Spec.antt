-- What `spec` answers to a document.
use Rattle.std.specs.Prelude.{ℕ, List, Result, Ok, Err}
use Rattle.las_spec.specs.declared.refusal.SpecRefused.{SpecRefused}
use Rattle.las_spec.specs.Briefs.{Brief}
use Rattle.spec_codec.specs.Readings.{spec_of}
use Rattle.las_spec.specs.Texts.{refusal_text}
use Rattle.spec_codec.specs.Texts.{spec_text_of}
use Rattle.las_top.specs.Answers.{Answer, yes_with, refused}

-- what is answered to a specification, or to its first refusal
abbrev pub answer_to_spec : Result Brief SpecRefused → Answer
answer_to_spec (Ok b) = yes_with (spec_text_of b)
answer_to_spec (Err r) = refused (refusal_text r)

-- what `spec` answers to a document: its normal form, or the first refusal
abbrev pub spec_answer : List ℕ → Answer
spec_answer bytes = answer_to_spec (spec_of bytes)
