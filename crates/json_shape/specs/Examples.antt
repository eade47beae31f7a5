-- Worked grids.
use Rattle.std.specs.Prelude.{◌≡◌, ℕ, [], ◌∷◌, true, false, Float, Some, None}
use Rattle.serde_json.specs.Data.{Data, unsigned, float, number, array, no_items, item}
use Rattle.json_shape.specs.declared.grid.Entry.TheVariants.{Zero, One, Other}
use Rattle.json_shape.specs.Grids.{entries, has_lengths}

-- a whole number as a value
abbrev pub whole : ℕ → Data
whole n = number (unsigned n)

-- an array of one value
abbrev pub one : Data → Data
one d = array (item d no_items)

-- an array of two values
abbrev pub two : Data → Data → Data
two d e = array (item d (item e no_items))

-- [[[0, 1]], [[2, 0]]]
abbrev pub box : Data
box = two (one (two (whole 0) (whole 1))) (one (two (whole 2) (whole 0)))

-- [[[0, 1]], [[1]]]
abbrev pub ragged : Data
ragged = two (one (two (whole 0) (whole 1))) (one (one (whole 1)))

-- the four entries of a box of 2 × 1 × 2 stand in order
abbrev pub BoxHasFourEntries : Type 0
BoxHasFourEntries = (has_lengths (2 ∷ 1 ∷ 2 ∷ []) box ≡ true) × (entries 3 box ≡ Some (Zero ∷ One ∷ Other ∷ Zero ∷ []))

-- a ragged grid has entries, and is no box
abbrev pub RaggedHasEntries : Type 0
RaggedHasEntries = (has_lengths (2 ∷ 1 ∷ 2 ∷ []) ragged ≡ false) × (entries 3 ragged ≡ Some (Zero ∷ One ∷ One ∷ []))

-- with a float inside, and at another depth, there are no entries
abbrev pub FloatHasNoEntries : Type 0
FloatHasNoEntries = ((x : Float) → entries 1 (two (whole 0) (number (float x))) ≡ None) × (entries 2 box ≡ None) × (entries 4 box ≡ None)
