-- Values of the variables that show a diagram and its sheets.
use Rattle.std.specs.Prelude.{◌≡◌, ℕ, true, false, List, Some, is_some, slice_get}
use Rattle.las_base.specs.declared.Axis.{Axis}
use Rattle.las_base.specs.declared.Kind.{Kind}
use Rattle.las_base.specs.declared.Cell.{Cell}
use Rattle.las_base.specs.declared.Size.{Size}
use Rattle.las_base.specs.Axes.{same_kind, same_axis}
use Rattle.las_base.specs.Cells.{holds}
use Rattle.grid_box.specs.Drawings.{Drawing, pipe_at, is_y}
use Rattle.grid_box.specs.Legs.{Position, kind_at, end_of_way}
use Rattle.grid_box.specs.Sheets.{Sheet, spans}
use Rattle.grid_box.specs.Surfaces.{sheet_number}
use Rattle.cnf_base.specs.Literals.{Values}
use Rattle.cnf_table.specs.Variables.{diagram_var, sheet_var, exist_member, colour_member}
use Rattle.cnf_table.specs.Values.{pipe_passes}

-- the values of a box's variables are what the diagram says at each cell
pub record ShowsDiagram (s : Size) (d : Drawing) (v : Values) : Type 0 where
  pub y_cells : (c : Cell) → holds s c ≡ true → v (diagram_var s 0 c) ≡ is_y d c
  pub pipes : (a : Axis) (c : Cell) → holds s c ≡ true → v (diagram_var s (exist_member a) c) ≡ is_some (pipe_at d a c)
  pub colours : (p : Position) (c : Cell) → holds s c ≡ true → v (diagram_var s (colour_member p) c) ≡ pipe_passes (pipe_at d p.0 c) (λ q. same_kind (kind_at q (end_of_way p.1)) Kind.Z)

-- the values of the variables of a flow are what its sheets say at each cell
pub record ShowsSheets (s : Size) (d : Drawing) (flow : ℕ) (ss : List Sheet) (v : Values) : Type 0 where
  pub sheets : (a b : Axis) → same_axis a b ≡ false → (c : Cell) → holds s c ≡ true → v (sheet_var s flow (sheet_number a b) c) ≡ pipe_passes (pipe_at d a c) (λ p. spans ss p b)

-- the values show the diagram, and for each flow its sheets
pub record AreShown (s : Size) (d : Drawing) (sheets_by_flow : List (List Sheet)) (v : Values) : Type 0 where
  pub diagram : ShowsDiagram s d v
  pub sheets : (flow : ℕ) (ss : List Sheet) → slice_get sheets_by_flow flow ≡ Some ss → ShowsSheets s d flow ss v
