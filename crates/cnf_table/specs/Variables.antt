-- The variables of a job, and the literals by their meaning.
use Rattle.std.specs.Prelude.{ℕ, ◌+◌, ◌*◌, Bool, true, false, not, if◌then◌else◌}
use Rattle.las_base.specs.declared.Axis.{Axis}
use Rattle.las_base.specs.declared.Axis.TheVariants.{I, J, K}
use Rattle.las_base.specs.declared.Way.TheVariants.{Plus, Minus}
use Rattle.las_base.specs.declared.Cell.{Cell}
use Rattle.las_base.specs.declared.Size.{Size}
use Rattle.las_base.specs.Axes.{same_axis, next_axis}
use Rattle.las_base.specs.Cells.{volume, index}
use Rattle.las_base.specs.Jobs.{Task}
use Rattle.grid_box.specs.Legs.{Position}
use Rattle.grid_box.specs.Surfaces.{sheet_number}
use Rattle.cnf_base.specs.declared.literal.Lit.{Lit}
use Rattle.cnf_base.specs.Literals.{plain, negated}
use Rattle.cnf_table.specs.Layouts.{plan_of, plan_vars}
use Rattle.cnf_table.specs.Positions.{low_of}

-- the variable of a diagram's member at a cell. Member 0 is the Y cells, then come the pipes and the colours
abbrev pub diagram_var : Size → ℕ → Cell → ℕ
diagram_var s member c = member * volume s + index s c

-- the variable of a member of a flow's sheets at a cell, after the eight of the diagram
abbrev pub sheet_var : Size → ℕ → ℕ → Cell → ℕ
sheet_var s flow member c = (8 + (6 * flow + member)) * volume s + index s c

-- the member that says that a pipe exists
abbrev pub exist_member : Axis → ℕ
exist_member I = 1
exist_member J = 2
exist_member K = 3

-- the member of a pipe's colour at a position. A K pipe has one at each end
abbrev pub colour_member : Position → ℕ
colour_member (I, w) = 4
colour_member (J, w) = 5
colour_member (K, Plus) = 6
colour_member (K, Minus) = 7

-- the number of variables of a job
abbrev pub var_count : Task → ℕ
var_count t = plan_vars (plan_of t)

-- the literal of a variable by its sign
abbrev pub literal : Bool → ℕ → Lit
literal true v = plain v
literal false v = negated v

-- the literal that says whether a cell is a Y cell
abbrev pub y_literal : Size → Cell → Bool → Lit
y_literal s c sign = literal sign (diagram_var s 0 c)

-- the variable that says that a pipe stands at a position
abbrev pub pipe_var_at : Size → Cell → Position → ℕ
pipe_var_at s c p = diagram_var s (exist_member p.0) (low_of c p)

-- the literal that says whether a pipe stands at a position
abbrev pub pipe_literal : Size → Cell → Position → Bool → Lit
pipe_literal s c p sign = literal sign (pipe_var_at s c p)

-- the variable of the colour that the pipe at a position has there
abbrev pub colour_var_at : Size → Cell → Position → ℕ
colour_var_at s c p = diagram_var s (colour_member p) (low_of c p)

-- the literal that says whether the faces normal to an axis are of kind Z there. The colour itself says it of the axis after the pipe's
abbrev pub kind_literal : Size → Cell → Position → Axis → Bool → Lit
kind_literal s c p b sign = literal (if same_axis b (next_axis p.0) then sign else not sign) (colour_var_at s c p)

-- the variable of the sheet that spans an axis, of the pipe at a position
abbrev pub sheet_var_at : Size → ℕ → Cell → Position → Axis → ℕ
sheet_var_at s flow c p b = sheet_var s flow (sheet_number p.0 b) (low_of c p)

-- the literal that says whether the pipe at a position has the sheet
abbrev pub sheet_literal : Size → ℕ → Cell → Position → Axis → Bool → Lit
sheet_literal s flow c p b sign = literal sign (sheet_var_at s flow c p b)
