-- The diagram and the sheets that values show, as they are built.
use Rattle.std.specs.Prelude.{ℕ, ◌&&◌, not, Bool}
use Rattle.las_base.specs.declared.Axis.{Axis}
use Rattle.las_base.specs.declared.Way.TheVariants.{Plus, Minus}
use Rattle.las_base.specs.declared.Cell.{Cell}
use Rattle.las_base.specs.declared.Size.{Size}
use Rattle.las_base.specs.Axes.{kind_by, same_axis}
use Rattle.las_base.specs.Cells.{holds}
use Rattle.grid_box.specs.Drawings.{Drawing, Pipe}
use Rattle.grid_box.specs.LookUps.{IsBuilt}
use Rattle.grid_box.specs.Sheets.{Sheet}
use Rattle.grid_box.specs.Surfaces.{AreBuilt, Surfaces, sheet_number}
use Rattle.cnf_base.specs.Literals.{Values}
use Rattle.cnf_table.specs.Variables.{diagram_var, sheet_var, exist_member, colour_member}

-- by the values there is a pipe along the axis with this low cell
abbrev pub exists_by : Values → Size → Axis → Cell → Bool
exists_by v s a c = v (diagram_var s (exist_member a) c)

-- the pipe that the values show there
abbrev pub pipe_by : Values → Size → Axis → Cell → Pipe
pipe_by v s a c = record { axis = a; cell = c; low = kind_by (v (diagram_var s (colour_member (a, Plus)) c)); high = kind_by (v (diagram_var s (colour_member (a, Minus)) c)) }

-- by the values the cell is a Y cell
abbrev pub y_by : Values → Size → Cell → Bool
y_by v s c = v (diagram_var s 0 c)

-- by the values the pipe along the first axis with this low cell has the flow's sheet that spans the second
abbrev pub sheet_by : Values → Size → ℕ → Axis → Axis → Cell → Bool
sheet_by v s flow a b c = v (sheet_var s flow (sheet_number a b) c)

-- by the values the flow has the sheet, in the box
abbrev pub shows_sheet : Values → Size → ℕ → Sheet → Bool
shows_sheet v s flow x = not (same_axis x.axis x.span) && (holds s x.cell && sheet_by v s flow x.axis x.span x.cell)

-- the diagram that the values show
abbrev pub IsDecoded : Values → Size → Drawing → Type 0
IsDecoded v s d = IsBuilt (exists_by v s) (pipe_by v s) (y_by v s) s d

-- the sheets that the values show of the first n flows, of so many
abbrev pub AreDecoded : Values → Size → ℕ → ℕ → Surfaces → Type 0
AreDecoded v s flow_count n new = AreBuilt (shows_sheet v s) s flow_count n new
