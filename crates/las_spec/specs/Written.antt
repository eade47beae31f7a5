-- What is written in a specification, before it is judged.
use Rattle.std.specs.Prelude.{List, Option, Some, map}
use Rattle.las_base.specs.declared.Pauli.{Pauli}
use Rattle.las_base.specs.declared.Cell.{Cell}
use Rattle.las_base.specs.declared.Size.{Size}
use Rattle.las_base.specs.declared.Port.{Port}
use Rattle.las_spec.specs.declared.draft.WrittenPort.{WrittenPort}
use Rattle.las_spec.specs.declared.draft.Draft.{Draft}

-- a specification as it is written: a letter of a flow may be none that there is
pub record Written : Type 0 where
  pub size : Size
  pub ports : List WrittenPort
  pub words : List (List (Option Pauli))
  pub forbidden : List Cell
  pub boxes : List Size

-- a port is written like this
abbrev pub port_written : Port → WrittenPort
port_written p = record { place = p.place; direction = Some (p.way, p.axis); z_axis = Some p.z_axis }

-- what is written where ports and flows are given by their parts
abbrev pub written_by : Size → List Port → List (List Pauli) → List Cell → List Size → Written
written_by size ports flows forbidden boxes = record {
  size = size;
  ports = map port_written ports;
  words = map (map Some) flows;
  forbidden = forbidden;
  boxes = boxes;
}

-- what a draft writes
abbrev pub written_as : Draft → Written
written_as d = record { size = d.size; ports = d.ports.items; words = map (λ v. v.items) d.words.items; forbidden = d.forbidden.items; boxes = d.boxes.items }
