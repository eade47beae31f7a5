-- Sheets as they are kept: a bit for each flow, each pair of axes and each low cell.
use Rattle.std.specs.Prelude.{◌≡◌, ℕ, ◌+◌, ◌*◌, ◌≤◌, Bool, false, List, map, length, IsTrue, slice_index_or}
use Rattle.las_base.specs.declared.Size.{Size}
use Rattle.las_base.specs.Cells.{volume, index, numbers_from}
use Rattle.las_base.specs.Jobs.{most_flows, within_limits}
use Rattle.grid_box.specs.Sheets.{Sheet}
use Rattle.grid_box.specs.Surfaces.{Surfaces, sheet_number, surfaces_of, sheets_by}

-- where the bit of a flow's sheet stands: by flow, then by these axes, then by cell
abbrev pub bit_number : Size → ℕ → Sheet → ℕ
bit_number s flow x = (flow * 6 + sheet_number x.axis x.span) * volume s + index s x.cell

-- the bit of a flow's sheet
abbrev pub sheet_bit : Size → List Bool → ℕ → Sheet → Bool
sheet_bit s bits flow x = slice_index_or bits (bit_number s flow x) false

-- the sheets that bits stand for
abbrev pub surfaces_by : Size → ℕ → List Bool → Surfaces
surfaces_by s flow_count bits = surfaces_of s (map (λ f. sheets_by s (sheet_bit s bits f)) (numbers_from 0 flow_count))

-- bits that stand for sheets
pub record AreKept (s : Size) (flow_count : ℕ) (bits : List Bool) : Type 0 where
  pub limits : IsTrue (within_limits s)
  pub few : flow_count ≤ most_flows
  pub bit_count : length bits ≡ flow_count * (6 * volume s)
