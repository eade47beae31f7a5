-- What a document gives: a specification or a job, or the first refusal.
use Rattle.std.specs.Prelude.{ℕ, List, [], ◌∷◌, Option, Some, None, Result, Err, if◌then◌else◌, not}
use Rattle.std.specs.List.{find}
use Rattle.std.specs.Option.{option_and_then}
use Rattle.serde_json.specs.Data.{Data}
use Rattle.json_shape.specs.Arrays.{is_object}
use Rattle.json_shape.specs.Documents.{json_of}
use Rattle.las_base.specs.Jobs.{Task}
use Rattle.las_spec.specs.declared.refusal.Field.{Field}
use Rattle.las_spec.specs.declared.refusal.Field.TheVariants.{MaxI, MaxJ, MaxK, Optional, ForbiddenCubes, Ports, Stabilizers}
use Rattle.las_spec.specs.declared.refusal.SpecRefused.{SpecRefused}
use Rattle.las_spec.specs.declared.refusal.SpecRefused.TheVariants.{NotJson, NotObject, Missing, Shape}
use Rattle.las_spec.specs.Written.{Written}
use Rattle.las_spec.specs.Briefs.{Brief, spec_given, job_given}
use Rattle.spec_codec.specs.Documents.{size_in, ports_in, words_in, forbidden_in, written_of, has_shape, missing_in, misshapen_in, written_in}

-- what a value gives, by the first member that is absent, the first that has not its shape, and what is written
abbrev pub given_by : Option Field → Option Field → Option Written → Result Brief SpecRefused
given_by (Some f) _ _ = Err (Missing f)
given_by None (Some f) _ = Err (Shape f)
given_by None None None = Err NotObject
given_by None None (Some w) = spec_given w

-- what a value gives
abbrev pub spec_in : Data → Result Brief SpecRefused
spec_in d = if is_object d then given_by (missing_in d) (misshapen_in d) (written_in d) else Err NotObject

-- what a document gives, by its value
abbrev pub spec_by : Option Data → Result Brief SpecRefused
spec_by None = Err NotJson
spec_by (Some d) = spec_in d

-- what a document gives: a specification, or the first refusal
unfoldable pub spec_of : List ℕ → Result Brief SpecRefused
spec_of bytes = spec_by (json_of bytes)

-- ---- a job alone, in a document that has more members

-- the members of a job, in the order of their names
abbrev pub job_fields : List Field
job_fields = MaxI ∷ MaxJ ∷ MaxK ∷ Optional ∷ ForbiddenCubes ∷ Ports ∷ Stabilizers ∷ []

-- the first of them that has not its shape
abbrev pub job_misshapen_in : Data → Option Field
job_misshapen_in d = find (λ f. not (has_shape d f)) job_fields

-- what a value writes of a job, which has no boxes
unfoldable pub job_written_in : Data → Option Written
job_written_in d = option_and_then (λ size. written_of size (ports_in d) (words_in d) (forbidden_in d) (Some [])) (size_in d)

-- a job, by the first member that has not its shape, and what is written
abbrev pub job_by : Option Field → Option Written → Result Task SpecRefused
job_by (Some f) _ = Err (Shape f)
job_by None None = Err NotObject
job_by None (Some w) = job_given w

-- the job that a value gives, or the first refusal: of a member's shape, or of the table without its rows on boxes
unfoldable pub job_in : Data → Result Task SpecRefused
job_in d = job_by (job_misshapen_in d) (job_written_in d)
