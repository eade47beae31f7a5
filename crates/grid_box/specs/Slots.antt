-- A drawing as it is kept: a slot for each axis and cell, and a bit for each cell.
use Rattle.std.specs.Prelude.{◌≡◌, ℕ, ◌+◌, ◌*◌, Bool, true, false, List, length, Option, None, IsTrue, slice_index_or}
use Rattle.las_base.specs.declared.Axis.{Axis}
use Rattle.las_base.specs.declared.Axis.TheVariants.{I, J, K}
use Rattle.las_base.specs.declared.Kind.{Kind}
use Rattle.las_base.specs.declared.Cell.{Cell}
use Rattle.las_base.specs.declared.Size.{Size}
use Rattle.las_base.specs.Cells.{holds, volume, index}
use Rattle.las_base.specs.Jobs.{within_limits}
use Rattle.grid_box.specs.LookUps.{kinds_are_lawful}

-- what stands of a pipe at its place: its kinds, where there is one
abbrev pub Slot : Type 0
Slot = Option (Kind × Kind)

-- an axis by its number
abbrev pub axis_number : Axis → ℕ
axis_number I = 0
axis_number J = 1
axis_number K = 2

-- where the slot of an axis and a cell stands: by axis, then by cell
abbrev pub slot_number : Size → Axis → Cell → ℕ
slot_number s a c = axis_number a * volume s + index s c

-- what the slot of an axis and a cell holds
abbrev pub slot_at : Size → List Slot → Axis → Cell → Slot
slot_at s slots a c = slice_index_or slots (slot_number s a c) None

-- the bit of a cell
abbrev pub bit_at : Size → List Bool → Cell → Bool
bit_at s bits c = slice_index_or bits (index s c) false

-- slots and bits that stand for a drawing
pub record IsKept (s : Size) (slots : List Slot) (bits : List Bool) : Type 0 where
  pub limits : IsTrue (within_limits s)
  pub slot_count : length slots ≡ 3 * volume s
  pub bit_count : length bits ≡ volume s
  pub kinds : (a : Axis) (c : Cell) → holds s c ≡ true → kinds_are_lawful a (slot_at s slots a c) ≡ true
