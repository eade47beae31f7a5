use Rattle.std.proofs.Common.{[], ◌∷◌, ◌++◌, ap, ◌∙◌}
use Rattle.serde_json.specs.Written.{has_float, compact_text}
use Rattle.json_shape.proofs.Printed.{no_float}
use Rattle.spec_codec.specs.Readings.{spec_of}
use Rattle.spec_codec.specs.Texts.{spec_value}
use Rattle.spec_codec.proofs.SpecValues.{spec_plain}
use Rattle.spec_codec.proofs.ReadBackLemmas.{text_is_read_back}
use Rattle.spec_codec.proofs.text.spec_text.Goals as goal

pub returns-clause-text : goal.returns-clause-text
returns-clause-text c =
    let none = ap has_float c.in_ok-spec_value.ensures.value ∙ no_float (spec_value c.args.spec.now) (spec_plain c.args.spec.now c.in_ok-spec_value.ensures.kept) in
    c.in_ok-push.ensures.items ∙ ap (λ text. text ++ 10 ∷ []) (c.in_ok-text.ensures.text none ∙ ap compact_text c.in_ok-spec_value.ensures.value)

pub returns-clause-read_back : goal.returns-clause-read_back
returns-clause-read_back c = ap spec_of (returns-clause-text c) ∙ text_is_read_back c.args.spec.now c.in_ok-spec_value.ensures.kept
