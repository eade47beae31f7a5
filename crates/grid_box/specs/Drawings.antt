-- Diagrams: pipes and Y cells (cells that hold a Y cube) in a box.
use Rattle.std.specs.Prelude.{Bool, true, false, ◌&&◌, ◌||◌, List, Option, if◌then◌else◌, IsTrue}
use Rattle.std.specs.List.{list_all, list_any, find}
use Rattle.std.specs.Option.{option_map}
use Rattle.las_base.specs.declared.Axis.{Axis}
use Rattle.las_base.specs.declared.Axis.TheVariants.{I, J, K}
use Rattle.las_base.specs.declared.Kind.{Kind}
use Rattle.las_base.specs.declared.Cell.{Cell}
use Rattle.las_base.specs.declared.Size.{Size}
use Rattle.las_base.specs.Axes.{same_axis, same_kind}
use Rattle.las_base.specs.Jobs.{within_limits}
use Rattle.las_base.specs.Cells.{holds, same_cell, cell_before, rises}

-- a pipe, with the kind at each end of the faces normal to the axis after its own
pub record Pipe : Type 0 where
  pub axis : Axis
  pub cell : Cell
  pub low : Kind
  pub high : Kind

-- a diagram: its pipes by axis and then low cell, and its Y cells in order
pub record Drawing : Type 0 where
  pub size : Size
  pub pipes : List Pipe
  pub y_cells : List Cell

-- the pipe is along the axis and has this low cell
abbrev pub is_pipe_at : Axis → Cell → Pipe → Bool
is_pipe_at a c p = same_axis p.axis a && same_cell p.cell c

-- the pipe along an axis with this low cell
abbrev pub pipe_at : Drawing → Axis → Cell → Option Pipe
pipe_at d a c = find (is_pipe_at a c) d.pipes

-- the kinds at the low and the high end of the pipe along an axis with this low cell
abbrev pub kinds_at : Drawing → Axis → Cell → Option (Kind × Kind)
kinds_at d a c = option_map (λ p. (p.low, p.high)) (pipe_at d a c)

-- the cell is a Y cell
abbrev pub is_y : Drawing → Cell → Bool
is_y d c = list_any (same_cell c) d.y_cells

-- the first axis stands before the second in the order I, J, K
abbrev pub axis_before : Axis → Axis → Bool
axis_before I J = true
axis_before I K = true
axis_before J K = true
axis_before _ _ = false

-- the first pipe stands before the second: by axis, then by low cell
abbrev pub pipe_before : Pipe → Pipe → Bool
pipe_before p q = if same_axis p.axis q.axis then cell_before p.cell q.cell else axis_before p.axis q.axis

-- faces keep their kind along I pipes and J pipes
abbrev pub has_lawful_kinds : Pipe → Bool
has_lawful_kinds p = same_axis p.axis K || same_kind p.low p.high

-- what every diagram keeps
pub record IsDrawing (d : Drawing) : Type 0 where
  pub size : IsTrue (within_limits d.size)
  pub in_box : IsTrue (list_all (λ p. holds d.size p.cell) d.pipes)
  pub kinds : IsTrue (list_all has_lawful_kinds d.pipes)
  pub pipe_order : IsTrue (rises pipe_before d.pipes)
  pub y_cells_in_box : IsTrue (list_all (holds d.size) d.y_cells)
  pub y_order : IsTrue (rises cell_before d.y_cells)

-- what contracts see of a diagram
abbrev pub drawing_of : Size → List Pipe → List Cell → Drawing
drawing_of size pipes y_cells = record { size = size; pipes = pipes; y_cells = y_cells }
