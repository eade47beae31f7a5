-- The first member that has not its shape is what a document is refused for.
use Rattle.std.proofs.Common.{◌≡◌, true, Option, Some, None, Err, ap}
use Rattle.std.specs.Prelude.{option_map}
use Rattle.serde_json.specs.Data.{Data}
use Rattle.json_shape.specs.Arrays.{is_object}
use Rattle.las_spec.specs.declared.refusal.Field.{Field}
use Rattle.las_spec.specs.declared.refusal.SpecRefused.{SpecRefused}
use Rattle.las_spec.specs.declared.refusal.SpecRefused.TheVariants.{Shape}
use Rattle.las_spec.specs.Written.{Written}
use Rattle.spec_codec.specs.Documents.{missing_in, misshapen_in, written_in}
use Rattle.spec_codec.specs.Readings.{given_by, spec_in, job_by, job_in, job_misshapen_in, job_written_in}

shape_given : (o : Option Field) (w : Option Written) (e : SpecRefused) → option_map Shape o ≡ Some e → given_by None o w ≡ Err e
shape_given None w e is = absurd (cc)
shape_given (Some f) w e is = let same : Shape f ≡ e = cc in ap Err same

pub misshapen_is_refused : (d : Data) (e : SpecRefused) → is_object d ≡ true → missing_in d ≡ None → option_map Shape (misshapen_in d) ≡ Some e → spec_in d ≡ Err e
misshapen_is_refused d e object none is = rw (object, none) (shape_given (misshapen_in d) (written_in d) e is)

job_shape : (o : Option Field) (w : Option Written) (e : SpecRefused) → option_map Shape o ≡ Some e → job_by o w ≡ Err e
job_shape None w e is = absurd (cc)
job_shape (Some f) w e is = let same : Shape f ≡ e = cc in ap Err same

pub job_misshapen_is_refused : (d : Data) (e : SpecRefused) → option_map Shape (job_misshapen_in d) ≡ Some e → job_in d ≡ Err e
unfolding job_in
job_misshapen_is_refused d e is = job_shape (job_misshapen_in d) (job_written_in d) e is
