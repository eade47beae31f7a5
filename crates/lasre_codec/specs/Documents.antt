-- What a document of a diagram gives: a job, a diagram and sheets, or the first refusal.
use Rattle.std.specs.Prelude.{◌≡◌, ℕ, Bool, false, ◌&&◌, not, List, [], ◌∷◌, map, length, Option, Some, None, Result, Ok, Err, option_map, is_none, is_some, if◌then◌else◌}
use Rattle.std.specs.List.{find, filter}
use Rattle.std.specs.Option.{option_map_or, option_or}
use Rattle.serde_json.specs.Data.{Data}
use Rattle.serde_json.specs.Find.{get}
use Rattle.json_shape.specs.Arrays.{is_object}
use Rattle.json_shape.specs.Documents.{json_of}
use Rattle.json_shape.specs.Grids.{has_lengths}
use Rattle.las_base.specs.Jobs.{Task, IsTask}
use Rattle.las_base.specs.Cells.{volume}
use Rattle.grid_box.specs.Drawings.{Drawing, IsDrawing, pipe_at}
use Rattle.grid_box.specs.Surfaces.{Surfaces, IsSurfaces, surfaces_of}
use Rattle.las_spec.specs.declared.refusal.SpecRefused.{SpecRefused}
use Rattle.las_spec.specs.declared.refusal.SpecRefused.TheVariants as spec
use Rattle.spec_codec.specs.Readings.{job_in}
use Rattle.lasre_codec.specs.declared.member.Member.{Member}
use Rattle.lasre_codec.specs.declared.refusal.LasreRefused.{LasreRefused}
use Rattle.lasre_codec.specs.declared.refusal.LasreRefused.TheVariants.{NotJson, NotObject, Missing, Shape, OfJob, Length, Memory}
use Rattle.lasre_codec.specs.Members.{member_name, member_of, members, grids, tested, is_needed, is_stack}
use Rattle.lasre_codec.specs.Entries.{entries_in, entries_of, first_bad, drawing_in, surfaces_in}

-- a job, a diagram, and the sheets of each flow
pub record Lasre : Type 0 where
  pub task : Task
  pub drawing : Drawing
  pub surfaces : Surfaces

-- what contracts see of these three
abbrev pub lasre_as : Task → Drawing → Surfaces → Lasre
lasre_as task drawing surfaces = record { task = task; drawing = drawing; surfaces = surfaces }

-- the diagram and the sheets are for the job: in a box of its size, with one list of sheets for each flow
pub record IsLasre (l : Lasre) : Type 0 where
  pub task : IsTask l.task
  pub drawing : IsDrawing l.drawing
  pub surfaces : IsSurfaces l.surfaces
  pub drawing_size : l.drawing.size ≡ l.task.size
  pub surfaces_size : l.surfaces.size ≡ l.task.size
  pub flows : length l.surfaces.flows ≡ length l.task.flows

-- the sheets without those of pipes that do not exist
abbrev pub of_pipes : Drawing → Surfaces → Surfaces
of_pipes d s = surfaces_of s.size (map (filter (λ x. is_some (pipe_at d x.axis x.cell))) s.flows)

-- the same job and diagram, without sheets of pipes that do not exist
abbrev pub without_absent : Lasre → Lasre
without_absent l = record l { surfaces = of_pipes l.drawing l.surfaces }

-- ---- refusals

-- the first needed member that is absent
abbrev pub missing_in : Data → Option Member
missing_in d = find (λ m. is_needed m && is_none (get (member_name m) d)) members

-- the first grid that has not its shape: arrays nested so deep, of any lengths, with whole numbers inside
abbrev pub misshapen_in : Data → Option Member
misshapen_in d = find (λ m. is_none (entries_in d m)) grids

-- the lengths of the arrays of a grid, from the outermost on
abbrev pub lengths_of : Task → Member → List ℕ
lengths_of t m = if is_stack m then length t.flows ∷ t.size.i ∷ t.size.j ∷ t.size.k ∷ [] else t.size.i ∷ t.size.j ∷ t.size.k ∷ []

-- a grid has the lengths that its job asks for
abbrev pub is_full : Task → Data → Member → Bool
is_full t d m = option_map_or (has_lengths (lengths_of t m)) (get (member_name m) d) false

-- the first grid with an array of a wrong length
abbrev pub wrong_length_in : Task → Data → Option Member
wrong_length_in t d = find (λ m. not (is_full t d m)) grids

-- the refusal of a job, in a document of a diagram
abbrev pub of_job : SpecRefused → LasreRefused
of_job (spec.Shape f) = Shape (member_of f)
of_job spec.Memory = Memory
of_job r = OfJob r

-- what grids show, for a job
abbrev pub shown_in : Task → Data → Lasre
shown_in t d = lasre_as t (drawing_in (entries_of d) t.size) (surfaces_in (entries_of d) t.size (length t.flows))

-- what is given, or the refusal where there is one
abbrev pub judged : Option LasreRefused → Lasre → Result Lasre LasreRefused
judged None l = Ok l
judged (Some r) l = Err r

-- what grids give, for a job: a refusal of a length, then of a value that is neither 0 nor 1
abbrev pub given_for : Task → Data → Result Lasre LasreRefused
given_for t d = judged (option_or (option_map Length (wrong_length_in t d)) (first_bad (entries_of d) (volume t.size) tested)) (shown_in t d)

-- what a value gives, by the first member that is absent, the first grid that has not its shape, and its job
abbrev pub given_by : Option Member → Option Member → Result Task SpecRefused → Data → Result Lasre LasreRefused
given_by (Some m) _ _ d = Err (Missing m)
given_by None (Some m) _ d = Err (Shape m)
given_by None None (Err r) d = Err (of_job r)
given_by None None (Ok t) d = given_for t d

-- what a value gives
unfoldable pub lasre_in : Data → Result Lasre LasreRefused
lasre_in d = if is_object d then given_by (missing_in d) (misshapen_in d) (job_in d) d else Err NotObject

-- what a document gives, by its value
abbrev pub lasre_by : Option Data → Result Lasre LasreRefused
lasre_by None = Err NotJson
lasre_by (Some d) = lasre_in d

-- what a document gives: a job, a diagram and sheets, or the first refusal
unfoldable pub lasre_of : List ℕ → Result Lasre LasreRefused
lasre_of bytes = lasre_by (json_of bytes)
