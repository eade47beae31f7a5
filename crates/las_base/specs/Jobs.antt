-- What is asked of a diagram.
use Rattle.std.specs.Prelude.{ℕ, ◌<◌, ◌≤◌, Bool, true, false, ◌&&◌, not, nat_lt, nat_le, nat_eq, List, [], ◌∷◌, map, length, IsTrue}
use Rattle.std.specs.List.{list_all, list_any}
use Rattle.std.specs.Option.{option_map_or}
use Rattle.las_base.specs.declared.Cell.{Cell}
use Rattle.las_base.specs.declared.Size.{Size}
use Rattle.las_base.specs.declared.Port.{Port}
use Rattle.las_base.specs.declared.Pauli.{Pauli}
use Rattle.las_base.specs.Axes.{same_axis, same_way, same_pauli}
use Rattle.las_base.specs.Cells.{most_side, most_volume, volume, holds, low_cell, same_cell, same_size}

-- the most ports of a job
abbrev pub most_ports : ℕ
most_ports = 32

-- the most flows of a job
abbrev pub most_flows : ℕ
most_flows = 32

-- the most boxes in which one job is asked
abbrev pub most_boxes : ℕ
most_boxes = 64

-- a job: its size, its ports, a letter per port for each flow, and the cells that stay empty
pub record Task : Type 0 where
  pub size : Size
  pub ports : List Port
  pub flows : List (List Pauli)
  pub forbidden : List Cell

-- the port's pipe has its low cell in the box
abbrev pub port_fits : Size → Port → Bool
port_fits s p = option_map_or (holds s) (low_cell p.place p.axis p.way) false

-- the cell is the place of some port
abbrev pub is_port_place : Task → Cell → Bool
is_port_place t c = list_any (λ p. same_cell p.place c) t.ports

-- the cell must stay empty
abbrev pub is_forbidden : Task → Cell → Bool
is_forbidden t c = list_any (same_cell c) t.forbidden

-- each side is 1 to the longest, and the volume is within its limit
abbrev pub within_limits : Size → Bool
within_limits s =
    (nat_lt 0 s.i && nat_le s.i most_side) && ((nat_lt 0 s.j && nat_le s.j most_side) && ((nat_lt 0 s.k && nat_le s.k most_side) && nat_le (volume s) most_volume))

-- no cell stands twice
abbrev pub distinct_cells : List Cell → Bool
distinct_cells [] = true
distinct_cells (c ∷ cs) = not (list_any (same_cell c) cs) && distinct_cells cs

-- what every job keeps: sizes within limits, a z axis that is not the pipe's, distinct places, words as long as there are ports
pub record IsTask (t : Task) : Type 0 where
  pub size : IsTrue (within_limits t.size)
  pub port_count : (0 < length t.ports) × (length t.ports ≤ most_ports)
  pub z_axes : IsTrue (list_all (λ p. not (same_axis p.axis p.z_axis)) t.ports)
  pub places : IsTrue (list_all (port_fits t.size) t.ports)
  pub distinct_places : IsTrue (distinct_cells (map (λ p. p.place) t.ports))
  pub flow_count : (0 < length t.flows) × (length t.flows ≤ most_flows)
  pub words : IsTrue (list_all (λ w. nat_eq (length w) (length t.ports)) t.flows)
  pub forbidden : IsTrue (list_all (holds t.size) t.forbidden)
  pub distinct_forbidden : IsTrue (distinct_cells t.forbidden)

-- what contracts see of a job
abbrev pub task_of : Size → List Port → List (List Pauli) → List Cell → Task
task_of size ports flows forbidden = record { size = size; ports = ports; flows = flows; forbidden = forbidden }

-- ---- one job

-- the ports are one
abbrev pub same_port : Port → Port → Bool
same_port p q = same_cell p.place q.place && (same_axis p.axis q.axis && (same_way p.way q.way && same_axis p.z_axis q.z_axis))

-- the lists have as many elements, and each is the one of the other list
abbrev pub same_list : {X : Type 0} → (X → X → Bool) → List X → List X → Bool
same_list same [] [] = true
same_list same (x ∷ xs) (y ∷ ys) = same x y && same_list same xs ys
same_list same _ _ = false

-- each list has the cells of the other, in whatever order
abbrev pub same_cells : List Cell → List Cell → Bool
same_cells cs ds = list_all (λ c. list_any (same_cell c) ds) cs && list_all (λ d. list_any (same_cell d) cs) ds

-- the jobs are one, where their forbidden cells are taken as sets
abbrev pub same_job : Task → Task → Bool
same_job s t = same_size s.size t.size && (same_list same_port s.ports t.ports && (same_list (same_list same_pauli) s.flows t.flows && same_cells s.forbidden t.forbidden))
