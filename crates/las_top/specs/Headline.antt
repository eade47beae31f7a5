-- The headline: what it is that a diagram solves a job, that none does, and that a document shows one. It speaks of no clause and no search, and of no sheet but of those whose labels `zx` prints.
use Rattle.std.specs.Prelude.{◌≡◌, ℕ, ◌<◌, List, [], length, Ok, slice_index_or}
use Rattle.std.specs.List.{AllByRecursion}
use Rattle.las_base.specs.Jobs.{Task}
use Rattle.grid_box.specs.Drawings.{Drawing, IsDrawing}
use Rattle.grid_box.specs.PipeRules.{IsValid}
use Rattle.grid_box.specs.Surfaces.{sheets_of}
use Rattle.lasre_codec.specs.Documents.{Lasre, lasre_of}
use Rattle.zx_graph.specs.Graphs.{zx_of}
use Rattle.zx_flow.specs.Flows.{HasFlow, Labelled}
use Rattle.sheet_flow.specs.FromSheets.{labels_from}

-- every rule of pipes and colours holds, with the ports that are asked for, and the diagram's ZX graph has each flow, up to sign
pub record Solves (t : Task) (d : Drawing) : Type 0 where
  pub valid : IsValid t d
  pub flows : AllByRecursion (HasFlow (zx_of t d)) t.flows

-- no diagram solves the job
abbrev pub NoneSolves : (Task → Drawing → Type 0) → Task → Type 0
NoneSolves Solved t = (d : Drawing) → IsDrawing d → Solved t d → ⊥

-- the document gives a diagram that solves its job
pub record HasSolution (bytes : List ℕ) : Type 0 where
  pub lasre : Lasre
  pub given : lasre_of bytes ≡ Ok lasre
  pub solves : Solves lasre.task lasre.drawing

-- the labels that the sheets of each flow give obey the rules for its word
abbrev pub AreLabelled : Lasre → Type 0
AreLabelled l =
    (f : ℕ) → f < length l.task.flows → Labelled (zx_of l.task l.drawing) (labels_from l.drawing (sheets_of l.surfaces f)) (slice_index_or l.task.flows f [])

-- the document gives a diagram that is valid, and sheets whose labels obey the rules for each flow
pub record ShowsFlows (bytes : List ℕ) : Type 0 where
  pub lasre : Lasre
  pub given : lasre_of bytes ≡ Ok lasre
  pub valid : IsValid lasre.task lasre.drawing
  pub labelled : AreLabelled lasre
