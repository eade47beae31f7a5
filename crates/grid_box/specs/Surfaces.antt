-- The sheets of several flows, as contracts see them.
use Rattle.std.specs.Prelude.{◌≡◌, ℕ, ◌≤◌, Bool, ◌&&◌, ◌||◌, nat_eq, nat_lt, List, [], ◌∷◌, map, length, slice_index_or, if◌then◌else◌, IsTrue, All}
use Rattle.std.specs.List.{list_any, filter, flat_map}
use Rattle.las_base.specs.declared.Axis.{Axis}
use Rattle.las_base.specs.declared.Axis.TheVariants.{I, J, K}
use Rattle.las_base.specs.declared.Cell.{Cell}
use Rattle.las_base.specs.declared.Size.{Size}
use Rattle.las_base.specs.Axes.{same_axis}
use Rattle.las_base.specs.Cells.{cells, holds}
use Rattle.las_base.specs.Jobs.{most_flows, within_limits}
use Rattle.grid_box.specs.Sheets.{Sheet, same_sheet}

-- the axes along which a pipe may lie, each with the axes that its sheets may span
abbrev pub sheet_axes : List (Axis × Axis)
sheet_axes = (I, J) ∷ (I, K) ∷ (J, I) ∷ (J, K) ∷ (K, I) ∷ (K, J) ∷ []

-- the place of the axis of a pipe and of the one that its sheet spans among these
abbrev pub sheet_number : Axis → Axis → ℕ
sheet_number I J = 0
sheet_number I _ = 1
sheet_number J I = 2
sheet_number J _ = 3
sheet_number K I = 4
sheet_number K _ = 5

-- the sheets that a box has room for: by these axes, then by low cell
abbrev pub all_sheets : Size → List Sheet
all_sheets s = flat_map (λ a. map (λ c. record { axis = a.0; cell = c; span = a.1 }) (cells s)) sheet_axes

-- the sheet is listed
abbrev pub has_sheet : List Sheet → Sheet → Bool
has_sheet ss x = list_any (same_sheet x) ss

-- the sheets of a box that a test lets through, in their order
abbrev pub sheets_by : Size → (Sheet → Bool) → List Sheet
sheets_by s test = filter test (all_sheets s)

-- a box, and for each flow the list of its sheets
pub record Surfaces : Type 0 where
  pub size : Size
  pub flows : List (List Sheet)

-- what contracts see of sheets
abbrev pub surfaces_of : Size → List (List Sheet) → Surfaces
surfaces_of size flows = record { size = size; flows = flows }

-- the sheets of the flow with this number
abbrev pub sheets_of : Surfaces → ℕ → List Sheet
sheets_of s flow = slice_index_or s.flows flow []

-- the list has sheets of the box alone, in their order, each once
abbrev pub AreInOrder : Size → List Sheet → Type 0
AreInOrder s ss = ss ≡ sheets_by s (has_sheet ss)

-- what all sheets keep: a box within limits, no more flows than a job may have, and the sheets of each in order
pub record IsSurfaces (s : Surfaces) : Type 0 where
  pub limits : IsTrue (within_limits s.size)
  pub count : length s.flows ≤ most_flows
  pub order : All (AreInOrder s.size) s.flows

-- the new sheets have this one in this flow where it is put on, and not where it is put off, and else those of the old
abbrev pub PutsSheet : Surfaces → Surfaces → ℕ → Sheet → Bool → Type 0
PutsSheet old new flow x on =
    (f : ℕ) (y : Sheet) → has_sheet (sheets_of new f) y ≡ (if nat_eq f flow && same_sheet x y then on else has_sheet (sheets_of old f) y)

-- the new sheets have in this flow each sheet that passes, and else those of the old
abbrev pub PutsFlow : ℕ → (Sheet → Bool) → Surfaces → Surfaces → Type 0
PutsFlow flow shows old new = (f : ℕ) (x : Sheet) → has_sheet (sheets_of new f) x ≡ ((nat_eq f flow && shows x) || has_sheet (sheets_of old f) x)

-- the sheet is of a pipe along the first axis, and spans the second
abbrev pub is_along : Axis → Axis → Sheet → Bool
is_along a b x = same_axis a x.axis && same_axis b x.span

-- the new sheets have in this flow a sheet of these axes at each cell of the box that passes, and else those of the old
abbrev pub PutsSheets : Size → ℕ → Axis → Axis → (Cell → Bool) → Surfaces → Surfaces → Type 0
PutsSheets s flow a b test old new = PutsFlow flow (λ x. is_along a b x && (holds s x.cell && test x.cell)) old new

-- sheets of a box that are, in each of the first n flows of so many, those that pass
pub record AreBuilt (shows : ℕ → Sheet → Bool) (s : Size) (flow_count n : ℕ) (new : Surfaces) : Type 0 where
  pub kept : IsSurfaces new
  pub size : new.size ≡ s
  pub count : length new.flows ≡ flow_count
  pub sheets : (f : ℕ) (x : Sheet) → has_sheet (sheets_of new f) x ≡ (nat_lt f n && shows f x)

-- sheets in order are told by what is listed
abbrev pub SheetsTell : Type 0
SheetsTell = (s t : Surfaces) → IsSurfaces s → IsSurfaces t → s.size ≡ t.size → length s.flows ≡ length t.flows
    → ((f : ℕ) (x : Sheet) → has_sheet (sheets_of s f) x ≡ has_sheet (sheets_of t f) x) → s ≡ t
