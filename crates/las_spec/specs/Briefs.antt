-- Specifications as contracts see them, and what is given by what is written.
use Rattle.std.specs.Prelude.{◌≡◌, ◌<◌, ◌≤◌, Bool, List, [], ◌∷◌, ◌++◌, map, length, Option, Some, None, Result, Ok, Err, IsTrue, if◌then◌else◌, not, ◌&&◌, true, filter}
use Rattle.std.specs.List.{list_all, list_any, filter_map}
use Rattle.las_base.specs.declared.Axis.{Axis}
use Rattle.las_base.specs.declared.Way.{Way}
use Rattle.las_base.specs.declared.Pauli.{Pauli}
use Rattle.las_base.specs.declared.Cell.{Cell}
use Rattle.las_base.specs.declared.Size.{Size}
use Rattle.las_base.specs.declared.Port.{Port}
use Rattle.las_base.specs.Cells.{holds, same_cell, same_size}
use Rattle.las_base.specs.Jobs.{Task, IsTask, most_boxes, task_of, within_limits}
use Rattle.las_spec.specs.declared.refusal.SpecRefused.{SpecRefused}
use Rattle.las_spec.specs.declared.draft.WrittenPort.{WrittenPort}
use Rattle.las_spec.specs.Written.{Written}
use Rattle.las_spec.specs.Refusals.{carried, job_refusal, refusal}

-- a specification: a job, and the boxes in which it is asked
pub record Brief : Type 0 where
  pub task : Task
  pub boxes : List Size

-- what contracts see of a specification
abbrev pub brief_of : Task → List Size → Brief
brief_of task boxes = record { task = task; boxes = boxes }

-- the elements once each, in the order in which they stand first, behind those that were seen
abbrev pub once : {A : Type 0} → (A → A → Bool) → List A → List A → List A
once same seen [] = seen
once same seen (x ∷ xs) = once same (if list_any (same x) seen then seen else seen ++ x ∷ []) xs

-- a port of its parts, where both are there
abbrev pub port_by : Cell → Option (Way × Axis) → Option Axis → Option Port
port_by place (Some d) (Some z) = Some (record { place = place; axis = d.1; way = d.0; z_axis = z })
port_by place _ _ = None

-- the port that is written
abbrev pub port_of : WrittenPort → Option Port
port_of p = port_by p.place p.direction p.z_axis

-- the letters that are there
abbrev pub letters_of : List (Option Pauli) → List Pauli
letters_of word = filter_map (λ o. o) word

-- the job that is written, where nothing is refused
abbrev pub task_written : Written → Task
task_written w = task_of w.size (filter_map port_of w.ports) (map letters_of w.words) (once same_cell [] w.forbidden)

-- the specification that is written, where nothing is refused
abbrev pub brief_written : Written → Brief
brief_written w = record { task = task_written w; boxes = once same_size [] w.boxes }

-- what is given, or the refusal where there is one
abbrev pub judged : {A : Type 0} → Option SpecRefused → A → Result A SpecRefused
judged None x = Ok x
judged (Some r) x = Err r

-- a job, or its first refusal
abbrev pub job_given : Written → Result Task SpecRefused
job_given w = judged (job_refusal w) (task_written w)

-- a specification, or its first refusal
abbrev pub spec_given : Written → Result Brief SpecRefused
spec_given w = judged (refusal w) (brief_written w)

-- a port carried to a box
abbrev pub port_carried : Size → Size → Port → Port
port_carried own box p = record p { place = carried own box p.place }

-- the job of a box: ports are carried to it, and forbidden cells outside it drop out
abbrev pub job_of : Brief → Size → Task
job_of b box = task_of box (map (port_carried b.task.size box) b.task.ports) b.task.flows (filter (holds box) b.task.forbidden)

-- no box stands twice
abbrev pub distinct_sizes : List Size → Bool
distinct_sizes [] = true
distinct_sizes (s ∷ ss) = not (list_any (same_size s) ss) && distinct_sizes ss

-- what every specification keeps: a job, as many boxes as there may be, within the limits, once each, and a job in each
pub record IsBrief (b : Brief) : Type 0 where
  pub task : IsTask b.task
  pub box_count : (0 < length b.boxes) × (length b.boxes ≤ most_boxes)
  pub box_sizes : IsTrue (list_all within_limits b.boxes)
  pub distinct_boxes : IsTrue (distinct_sizes b.boxes)
  pub box_jobs : (box : Size) → list_any (same_size box) b.boxes ≡ true → IsTask (job_of b box)
