-- Cells in a box.
use Rattle.std.specs.Prelude.{◌≡◌, ℕ, suc, zero, ◌+◌, ◌-◌, ◌*◌, ◌≤◌, Bool, true, ◌&&◌, nat_lt, nat_eq, List, [], ◌∷◌, map, Option, Some, None, slice_get, if◌then◌else◌, IsTrue}
use Rattle.std.specs.List.{flat_map, list_all, list_any}
use Rattle.las_base.specs.declared.Axis.{Axis}
use Rattle.las_base.specs.declared.Axis.TheVariants.{I, J, K}
use Rattle.las_base.specs.declared.Way.{Way}
use Rattle.las_base.specs.declared.Way.TheVariants.{Plus, Minus}
use Rattle.las_base.specs.declared.Cell.{Cell}
use Rattle.las_base.specs.declared.Size.{Size}

-- the longest side of a box
abbrev pub most_side : ℕ
most_side = 32

-- the most cells of a box
abbrev pub most_volume : ℕ
most_volume = 512

-- a cell's coordinate along an axis
abbrev pub coordinate : Cell → Axis → ℕ
coordinate c I = c.i
coordinate c J = c.j
coordinate c K = c.k

-- a box's side along an axis
abbrev pub side : Size → Axis → ℕ
side s I = s.i
side s J = s.j
side s K = s.k

-- how many cells a box has
abbrev pub volume : Size → ℕ
volume s = s.i * s.j * s.k

-- the cell is in the box
abbrev pub holds : Size → Cell → Bool
holds s c = nat_lt c.i s.i && (nat_lt c.j s.j && nat_lt c.k s.k)

-- the box is on the grid: each side is one more at most than the longest, as that of a widened box is
abbrev pub FitsOnGrid : Size → Type 0
FitsOnGrid s = (s.i ≤ most_side + 1) × (s.j ≤ most_side + 1) × (s.k ≤ most_side + 1)

-- the box with one cell more on each far side: it has every cell at which a pipe of the box ends
abbrev pub widened : Size → Size
widened s = record { i = s.i + 1; j = s.j + 1; k = s.k + 1 }

-- the cell is on the grid: it is one of the widest box, or one step beyond its far faces
abbrev pub IsOnGrid : Cell → Type 0
IsOnGrid c = (c.i ≤ most_side) × (c.j ≤ most_side) × (c.k ≤ most_side)

-- where a cell of the box stands in the order of cells
abbrev pub index : Size → Cell → ℕ
index s c = (c.i * s.j + c.j) * s.k + c.k

-- the cells are one
abbrev pub same_cell : Cell → Cell → Bool
same_cell a b = nat_eq a.i b.i && (nat_eq a.j b.j && nat_eq a.k b.k)

-- the sizes are one
abbrev pub same_size : Size → Size → Bool
same_size s t = nat_eq s.i t.i && (nat_eq s.j t.j && nat_eq s.k t.k)

-- the first cell stands before the second: by i, then j, then k
abbrev pub cell_before : Cell → Cell → Bool
cell_before a b =
    if nat_eq a.i b.i then (if nat_eq a.j b.j then nat_lt a.k b.k else nat_lt a.j b.j) else nat_lt a.i b.i

-- the cell with one coordinate given anew
abbrev pub with_coordinate : Cell → Axis → ℕ → Cell
with_coordinate c I n = record c { i = n }
with_coordinate c J n = record c { j = n }
with_coordinate c K n = record c { k = n }

-- the cell one up along an axis
abbrev pub above : Axis → Cell → Cell
above a c = with_coordinate c a (coordinate c a + 1)

-- the cell one down along an axis, where there is one
abbrev pub below : Axis → Cell → Option Cell
below a c = if nat_eq (coordinate c a) 0 then None else Some (with_coordinate c a (coordinate c a - 1))

-- the cell one step along an axis, where there is one
abbrev pub stepped : Cell → Axis → Way → Option Cell
stepped c a Plus = Some (above a c)
stepped c a Minus = below a c

-- the low cell of the pipe that stands at a cell, along an axis and this way: at Minus it is one down
abbrev pub low_cell : Cell → Axis → Way → Option Cell
low_cell c a Plus = Some c
low_cell c a Minus = below a c

-- so many numbers, from a first one on
abbrev pub numbers_from : ℕ → ℕ → List ℕ
numbers_from first zero = []
numbers_from first (suc n) = first ∷ numbers_from (suc first) n

-- each element stands before all that follow
abbrev pub rises : {X : Type 0} → (X → X → Bool) → List X → Bool
rises before [] = true
rises before (x ∷ xs) = list_all (before x) xs && rises before xs

-- the cells of a box in their order
abbrev pub cells : Size → List Cell
cells s =
    flat_map (λ i. flat_map (λ j. map (λ k. record { i = i; j = j; k = k }) (numbers_from 0 s.k)) (numbers_from 0 s.j)) (numbers_from 0 s.i)

-- a cell of the box stands at its index
abbrev pub AllIndexed : Type 0
AllIndexed = (s : Size) (c : Cell) → IsTrue (holds s c) → slice_get (cells s) (index s c) ≡ Some c

-- the cells of a box stand in order
abbrev pub AllRise : Type 0
AllRise = (s : Size) → rises cell_before (cells s) ≡ true

-- the list of cells has a cell exactly where the box holds it
abbrev pub ListedIsHeld : Type 0
ListedIsHeld = (s : Size) (c : Cell) → list_any (same_cell c) (cells s) ≡ holds s c
