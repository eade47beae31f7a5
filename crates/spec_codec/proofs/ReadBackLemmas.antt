-- What is printed is read back.
use Rattle.std.proofs.Common.{ap, ◌∙◌}
use Rattle.spec_codec.specs.Readings.{spec_by, spec_of}
use Rattle.spec_codec.specs.Texts.{spec_value, TextIsReadBack}
use Rattle.spec_codec.proofs.Members.{value_gives}
use Rattle.las_spec.proofs.Lawful.{boxes_within, writes_give}
use Rattle.json_shape.proofs.Printed.{printed_back}
use Rattle.spec_codec.proofs.SpecValues.{spec_plain, spec_shallow}

pub text_is_read_back : TextIsReadBack
unfolding spec_of
text_is_read_back b h = ap spec_by (printed_back (spec_value b) (spec_plain b h) (spec_shallow b)) ∙ value_gives b h (boxes_within b h) ∙ writes_give b h
