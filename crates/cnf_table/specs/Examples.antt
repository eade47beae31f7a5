-- Worked clauses and values.
use Rattle.std.specs.Prelude.{◌≡◌, List, [], ◌∷◌, Some, true, false, length, slice_get}
use Rattle.las_base.specs.declared.Axis.TheVariants.{I, J, K}
use Rattle.las_base.specs.declared.Way.TheVariants.{Minus}
use Rattle.las_base.specs.declared.Kind.{Kind}
use Rattle.las_base.specs.declared.Pauli.{Pauli}
use Rattle.las_base.specs.Jobs.{Task}
use Rattle.grid_box.specs.Sheets.{Sheet}
use Rattle.grid_box.specs.Examples.{at, port, sheet, wire, one_pipe, column, two_pipes}
use Rattle.cnf_base.specs.Literals.{plain, negated, all_true, values_of}
use Rattle.cnf_table.specs.Clauses.{clause_table, box_clauses, port_clauses, y_cube_clauses, dead_end_clauses, three_axes_clauses, colour_clauses, port_colour_clauses, absent_colour_clauses, absent_sheet_clauses, letter_clauses, y_sheet_clauses, joint_clauses}
use Rattle.cnf_table.specs.Values.{values}

-- the clauses of a wire, and how many each group has
abbrev pub WireHas33Clauses : Type 0
WireHas33Clauses = ((clause_table (wire J J)).vars ≡ 20) × (length (clause_table (wire J J)).clauses ≡ 33)
    × (length (box_clauses (wire J J)) ≡ 2) × (length (port_clauses (wire J J)) ≡ 5) × (length (port_colour_clauses (wire J J)) ≡ 2)
    × (length (absent_colour_clauses (wire J J)) ≡ 4) × (length (absent_sheet_clauses (wire J J) 0) ≡ 6) × (length (letter_clauses (wire J J) 0 (Pauli.X ∷ Pauli.X ∷ [])) ≡ 4)

-- the first clauses of a wire: no pipe along I, none along J, and the port's pipe
abbrev pub WireBeginsWithItsBox : Type 0
WireBeginsWithItsBox = (slice_get (clause_table (wire J J)).clauses 0 ≡ Some (negated 1 ∷ []))
    × (slice_get (clause_table (wire J J)).clauses 1 ≡ Some (negated 2 ∷ []))
    × (slice_get (clause_table (wire J J)).clauses 2 ≡ Some (plain 3 ∷ []))

-- the sheets of a wire, by its flows
abbrev pub wire_sheets : List (List Sheet)
wire_sheets = (sheet K (at 0 0 0) I ∷ []) ∷ (sheet K (at 0 0 0) J ∷ []) ∷ []

-- the wire's one diagram, with its sheets, satisfies its clauses
abbrev pub WireSatisfies : Type 0
WireSatisfies = all_true (values_of (values one_pipe wire_sheets)) (clause_table (wire J J)).clauses ≡ true

-- of its variables the numbers 3, 12 and 19 alone are true: the pipe, and the sheet of each flow
abbrev pub WireValues : Type 0
WireValues = values one_pipe wire_sheets ≡ false ∷ false ∷ false ∷ true ∷ false ∷ false ∷ false ∷ false ∷ false ∷ false ∷ false ∷ false ∷ true ∷ false ∷ false ∷ false ∷ false ∷ false ∷ false ∷ true ∷ []

-- a port over one cell, with the letter Y
abbrev pub one_y : Task
one_y = record { size = record { i = 1; j = 1; k = 1 }; ports = port (at 0 0 1) K Minus J ∷ []; flows = (Pauli.Y ∷ []) ∷ []; forbidden = [] }

-- the clauses of that job, and how many each group has
abbrev pub YPortHas43Clauses : Type 0
YPortHas43Clauses = ((clause_table one_y).vars ≡ 14) × (length (clause_table one_y).clauses ≡ 43)
    × (length (box_clauses one_y) ≡ 2) × (length (port_clauses one_y) ≡ 1) × (length (y_cube_clauses one_y) ≡ 3) × (length (dead_end_clauses one_y) ≡ 3)
    × (length (three_axes_clauses one_y) ≡ 1) × (length (colour_clauses one_y) ≡ 6) × (length (port_colour_clauses one_y) ≡ 1) × (length (absent_colour_clauses one_y) ≡ 4)
    × (length (absent_sheet_clauses one_y 0) ≡ 6) × (length (letter_clauses one_y 0 (Pauli.Y ∷ [])) ≡ 2) × (length (y_sheet_clauses one_y 0) ≡ 2) × (length (joint_clauses one_y 0) ≡ 12)

-- a wire whose flows ask for X at one port and Z at the other
abbrev pub crossed : Task
crossed = record {
  size = record { i = 1; j = 1; k = 1 };
  ports = (wire J J).ports;
  flows = (Pauli.X ∷ Pauli.Z ∷ []) ∷ (Pauli.Z ∷ Pauli.X ∷ []) ∷ [];
  forbidden = [];
}

-- its letters contradict one another: a sheet must be there, and must not
abbrev pub CrossedWireContradicts : Type 0
CrossedWireContradicts = (length (clause_table crossed).clauses ≡ 33)
    × (slice_get (clause_table crossed).clauses 19 ≡ Some (negated 13 ∷ []))
    × (slice_get (clause_table crossed).clauses 21 ≡ Some (plain 13 ∷ []))
    × (slice_get (clause_table crossed).clauses 22 ≡ Some (negated 12 ∷ []))

-- a sheet that spans I in both pipes of a column
abbrev pub straight_sheets : List (List Sheet)
straight_sheets = (sheet K (at 0 0 0) I ∷ sheet K (at 0 0 1) I ∷ []) ∷ []

-- the valid column satisfies its clauses
abbrev pub ColumnSatisfies : Type 0
ColumnSatisfies = all_true (values_of (values (two_pipes Kind.X Kind.X Kind.X Kind.X) straight_sheets)) (clause_table (column [])).clauses ≡ true

-- columns that break a rule of colours, or use a forbidden cell, do not
abbrev pub BrokenColumnsFail : Type 0
BrokenColumnsFail = (all_true (values_of (values (two_pipes Kind.X Kind.Z Kind.X Kind.X) straight_sheets)) (clause_table (column [])).clauses ≡ false)
    × (all_true (values_of (values (two_pipes Kind.Z Kind.Z Kind.Z Kind.Z) straight_sheets)) (clause_table (column [])).clauses ≡ false)
    × (all_true (values_of (values (two_pipes Kind.X Kind.X Kind.X Kind.X) straight_sheets)) (clause_table (column (at 0 0 1 ∷ []))).clauses ≡ false)

-- one port at the side of a column of three cells, with the letter Z
abbrev pub side_port : Task
side_port = record { size = record { i = 1; j = 1; k = 3 }; ports = port (at 0 1 1) J Minus I ∷ []; flows = (Pauli.Z ∷ []) ∷ []; forbidden = [] }

-- one port over two by two cells, whose flows ask for Y and for X
abbrev pub two_letters : Task
two_letters = record { size = record { i = 2; j = 1; k = 2 }; ports = port (at 0 0 2) K Minus J ∷ []; flows = (Pauli.Y ∷ []) ∷ (Pauli.X ∷ []) ∷ []; forbidden = [] }

-- how many variables and clauses these have
abbrev pub SizesAreKnown : Type 0
SizesAreKnown = ((clause_table side_port).vars ≡ 42) × (length (clause_table side_port).clauses ≡ 167)
    × ((clause_table two_letters).vars ≡ 80) × (length (clause_table two_letters).clauses ≡ 392)
