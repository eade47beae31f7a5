-- What the bytes of a document show: a diagram that is valid, and sheets of its own that serve.
use Rattle.std.specs.Prelude.{◌≡◌, ℕ, ◌<◌, Bool, true, List, [], length, IsOkAnd, slice_index_or}
use Rattle.std.specs.List.{list_any}
use Rattle.las_base.specs.Jobs.{Task, same_job}
use Rattle.grid_box.specs.PipeRules.{IsValid}
use Rattle.grid_box.specs.Sheets.{Serves}
use Rattle.grid_box.specs.Surfaces.{sheets_of}
use Rattle.las_spec.specs.Briefs.{Brief, job_of}
use Rattle.lasre_codec.specs.Documents.{Lasre, lasre_of}

-- the job is that of a listed box
abbrev pub is_listed : Brief → Task → Bool
is_listed b t = list_any (λ box. same_job (job_of b box) t) b.boxes

-- its own sheets serve every flow of the job
abbrev pub ServesEach : Lasre → Type 0
ServesEach l = (f : ℕ) → f < length l.task.flows → Serves l.task l.drawing (sheets_of l.surfaces f) (slice_index_or l.task.flows f [])

-- the document is read, and its diagram is valid for its job
abbrev pub ShowsValid : List ℕ → Type 0
ShowsValid bytes = IsOkAnd (lasre_of bytes) (λ l. IsValid l.task l.drawing)

-- and its own sheets serve every flow
abbrev pub ShowsServed : List ℕ → Type 0
ShowsServed bytes = IsOkAnd (lasre_of bytes) (λ l. IsValid l.task l.drawing × ServesEach l)

-- and its job is that of a listed box
abbrev pub ShowsListed : Brief → List ℕ → Type 0
ShowsListed b bytes = IsOkAnd (lasre_of bytes) (λ l. (is_listed b l.task ≡ true) × IsValid l.task l.drawing × ServesEach l)
