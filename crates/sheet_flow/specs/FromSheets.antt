-- Labels from sheets, and sheets from labels.
use Rattle.std.specs.Prelude.{◌≡◌, ◌↔◌, Bool, List, [], ◌∷◌, ◌++◌, map, if◌then◌else◌, cond, length}
use Rattle.std.specs.List.{zip, flat_map}
use Rattle.las_base.specs.declared.Axis.{Axis}
use Rattle.las_base.specs.declared.Kind.{Kind}
use Rattle.las_base.specs.declared.End.{End}
use Rattle.las_base.specs.declared.Pauli.{Pauli}
use Rattle.las_base.specs.declared.Cell.{Cell}
use Rattle.las_base.specs.Axes.{next_axis, same_kind, has_part, pauli}
use Rattle.las_base.specs.Jobs.{Task, IsTask}
use Rattle.grid_box.specs.Drawings.{Pipe, Drawing, IsDrawing}
use Rattle.grid_box.specs.Legs.{kind_at}
use Rattle.grid_box.specs.PipeRules.{IsValid}
use Rattle.grid_box.specs.Sheets.{Sheet, HasSheets, Serves}
use Rattle.grid_box.specs.Surfaces.{has_sheet}
use Rattle.zx_graph.specs.Graphs.{zx_of}
use Rattle.zx_flow.specs.Flows.{Labelled, HasFlow}
use Rattle.zx_flow.specs.Labels.{Label}

-- the axis that a pipe's sheet of a kind spans, at an end where the faces normal to the axis after the pipe's have the kind `there`
abbrev pub spanned_by : Kind → Axis → Kind → Axis
spanned_by k axis there = if same_kind there k then next_axis axis else next_axis (next_axis axis)

-- the sheet of a kind at such an end, of the pipe along an axis with this low cell
abbrev pub sheet_of_kind : Kind → Axis → Cell → Kind → Sheet
sheet_of_kind k axis cell there = record { axis = axis; cell = cell; span = spanned_by k axis there }

-- the Pauli at such an end: it has the X part where the sheet of kind X is listed, and the Z part where that of kind Z is
abbrev pub pauli_there : List Sheet → Axis → Cell → Kind → Pauli
pauli_there ss axis cell there = pauli (has_sheet ss (sheet_of_kind Kind.X axis cell there)) (has_sheet ss (sheet_of_kind Kind.Z axis cell there))

-- the Pauli at an end of a pipe
abbrev pub pauli_at : List Sheet → Pipe → End → Pauli
pauli_at ss p e = pauli_there ss p.axis p.cell (kind_at p e)

-- the Paulis at both ends of a pipe
abbrev pub label_of : List Sheet → Pipe → Label
label_of ss p = (pauli_at ss p End.Low, pauli_at ss p End.High)

-- the labels that sheets give, one for each pipe
abbrev pub labels_from : Drawing → List Sheet → List Label
labels_from d ss = map (label_of ss) d.pipes

-- a list of one sheet, or of none
abbrev pub listed_if : Bool → Sheet → List Sheet
listed_if b s = cond b (s ∷ []) []

-- the axis that a pipe's sheet of a kind spans at an end
abbrev pub axis_of_kind : Kind → Pipe → End → Axis
axis_of_kind k p e = spanned_by k p.axis (kind_at p e)

-- the sheets of a pipe that a label gives: those of the kinds of which the Pauli at the low end has a part
abbrev pub sheets_of_pipe : Pipe × Label → List Sheet
sheets_of_pipe x =
    listed_if (has_part Kind.X x.1.0) (record { axis = x.0.axis; cell = x.0.cell; span = axis_of_kind Kind.X x.0 End.Low })
    ++ listed_if (has_part Kind.Z x.1.0) (record { axis = x.0.axis; cell = x.0.cell; span = axis_of_kind Kind.Z x.0 End.Low })

-- the sheets that labels give, pipe by pipe
abbrev pub sheets_from : Drawing → List Label → List Sheet
sheets_from d ls = flat_map sheets_of_pipe (zip d.pipes ls)

-- for every job, valid diagram and word: there are sheets that serve the flow exactly where the diagram's graph has it
abbrev pub SheetsAreFlows : Type 0
SheetsAreFlows = (t : Task) (d : Drawing) (word : List Pauli) → IsTask t → IsDrawing d → IsValid t d → length word ≡ length t.ports → HasSheets t d word ↔ HasFlow (zx_of t d) word

-- sheets that serve a flow give labels that obey the rules for its word
abbrev pub SheetsGiveLabels : Type 0
SheetsGiveLabels = (t : Task) (d : Drawing) (ss : List Sheet) (word : List Pauli) → IsTask t → IsDrawing d → IsValid t d → length word ≡ length t.ports → Serves t d ss word → Labelled (zx_of t d) (labels_from d ss) word

-- labels that obey the rules for a word give sheets that serve the flow
abbrev pub LabelsGiveSheets : Type 0
LabelsGiveSheets = (t : Task) (d : Drawing) (ls : List Label) (word : List Pauli) → IsTask t → IsDrawing d → IsValid t d → length word ≡ length t.ports → Labelled (zx_of t d) ls word → Serves t d (sheets_from d ls) word
