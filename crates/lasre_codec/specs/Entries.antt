-- The entries of a document's grids, and the diagram and the sheets that they show.
use Rattle.std.specs.Prelude.{ℕ, ◌*◌, ◌%◌, Bool, true, false, ◌&&◌, not, List, [], ◌∷◌, map, length, take, drop, Option, Some, None, option_map, option_and_then, if◌then◌else◌, slice_get}
use Rattle.std.specs.List.{find}
use Rattle.std.specs.Option.{option_map_or, option_or}
use Rattle.serde_json.specs.Data.{Data}
use Rattle.serde_json.specs.Find.{get}
use Rattle.json_shape.specs.declared.grid.Entry.{Entry}
use Rattle.json_shape.specs.declared.grid.Entry.TheVariants.{One, Other}
use Rattle.json_shape.specs.Grids.{entries}
use Rattle.las_base.specs.declared.Axis.{Axis}
use Rattle.las_base.specs.declared.Kind.{Kind}
use Rattle.las_base.specs.declared.End.TheVariants.{Low, High}
use Rattle.las_base.specs.declared.Cell.{Cell}
use Rattle.las_base.specs.declared.Size.{Size}
use Rattle.las_base.specs.Cells.{holds, volume, index, numbers_from}
use Rattle.las_base.specs.Axes.{kind_by}
use Rattle.grid_box.specs.Drawings.{Drawing}
use Rattle.grid_box.specs.LookUps.{drawing_by}
use Rattle.grid_box.specs.Sheets.{Sheet}
use Rattle.grid_box.specs.Surfaces.{Surfaces, sheets_by, surfaces_of}
use Rattle.lasre_codec.specs.declared.member.Member.{Member}
use Rattle.lasre_codec.specs.declared.member.Member.TheVariants.{NodeY}
use Rattle.lasre_codec.specs.declared.refusal.LasreRefused.{LasreRefused}
use Rattle.lasre_codec.specs.declared.refusal.LasreRefused.TheVariants.{Bit}
use Rattle.lasre_codec.specs.Members.{member_name, is_grid, is_stack, pipes_along, colours_of, sheets_along, axis_told}

-- how deep the arrays of a grid nest
abbrev pub nesting_of : Member → ℕ
nesting_of m = if is_stack m then 4 else 3

-- the entries of a grid, arrays within arrays in their order: none where it has not its shape
abbrev pub entries_in : Data → Member → Option (List Entry)
entries_in d m = option_and_then (entries (nesting_of m)) (get (member_name m) d)

-- the entries, and none where there is no list of them
abbrev pub or_none : Option (List Entry) → List Entry
or_none (Some es) = es
or_none None = []

-- the entries of each grid of a value. Other members have none
abbrev pub entries_of : Data → Member → List Entry
entries_of d m = if is_grid m then or_none (entries_in d m) else []

-- ---- entries

-- the entry is 1
abbrev pub is_one : Entry → Bool
is_one One = true
is_one _ = false

-- the entry is 0 or 1
abbrev pub is_bit : Entry → Bool
is_bit Other = false
is_bit _ = true

-- the entry at a place is 1
abbrev pub is_one_at : List Entry → ℕ → Bool
is_one_at es place = option_map_or is_one (slice_get es place) false

-- the entry at a place is 0 or 1
abbrev pub is_bit_at : List Entry → ℕ → Bool
is_bit_at es place = option_map_or is_bit (slice_get es place) false

-- the entry of a cell is 1. Cells stand in their order
abbrev pub is_one_of : Size → List Entry → Cell → Bool
is_one_of s es c = is_one_at es (index s c)

-- the cell is in the box, and its entry is 1
abbrev pub marks : Size → List Entry → Cell → Bool
marks s es c = holds s c && is_one_of s es c

-- the entries of a flow, in those of all flows one after another
abbrev pub flow_part : Size → ℕ → List Entry → List Entry
flow_part s flow es = take (volume s) (drop (flow * volume s) es)

-- ---- what counts

-- the value at a place counts: a colour or a sheet where its pipe exists, and every other value
abbrev pub counts_at : (Member → List Entry) → ℕ → Member → ℕ → Bool
counts_at es cells m place = option_map_or (λ a. is_one_at (es (pipes_along a)) (place % cells)) (axis_told m) true

-- the value at a place counts, and is neither 0 nor 1
abbrev pub is_bad_at : (Member → List Entry) → ℕ → Member → ℕ → Bool
is_bad_at es cells m place = counts_at es cells m place && not (is_bit_at (es m) place)

-- the first such place of a grid, in a box of so many cells
abbrev pub bad_place : (Member → List Entry) → ℕ → Member → Option ℕ
bad_place es cells m = find (is_bad_at es cells m) (numbers_from 0 (length (es m)))

-- the first such place among these grids
abbrev pub first_bad : (Member → List Entry) → ℕ → List Member → Option LasreRefused
first_bad es cells [] = None
first_bad es cells (m ∷ ms) = option_or (option_map (Bit m) (bad_place es cells m)) (first_bad es cells ms)

-- ---- what is shown

-- the kinds of the pipe along an axis with this low cell, where it exists
abbrev pub kinds_in : (Member → List Entry) → Size → Axis → Cell → Option (Kind × Kind)
kinds_in es s a c =
    if marks s (es (pipes_along a)) c then Some (kind_by (marks s (es (colours_of a Low)) c), kind_by (marks s (es (colours_of a High)) c)) else None

-- the diagram that the entries show
abbrev pub drawing_in : (Member → List Entry) → Size → Drawing
drawing_in es s = drawing_by s (kinds_in es s) (marks s (es NodeY))

-- the entries show a sheet of a flow, of a pipe that exists
abbrev pub shows_sheet : (Member → List Entry) → Size → ℕ → Sheet → Bool
shows_sheet es s flow x = marks s (es (pipes_along x.axis)) x.cell && marks s (flow_part s flow (es (sheets_along x.axis x.span))) x.cell

-- the sheets that the entries show, for so many flows
abbrev pub surfaces_in : (Member → List Entry) → Size → ℕ → Surfaces
surfaces_in es s flows = surfaces_of s (map (λ f. sheets_by s (shows_sheet es s f)) (numbers_from 0 flows))
