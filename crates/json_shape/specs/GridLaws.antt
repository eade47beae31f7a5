-- How many entries a grid has, and where each stands among them.
use Rattle.std.specs.Prelude.{◌≡◌, ℕ, ◌+◌, ◌*◌, ◌<◌, List, [], ◌∷◌, length, slice_get, true, Option, Some, option_and_then}
use Rattle.serde_json.specs.Data.{Data}
use Rattle.serde_json.specs.Find.{at}
use Rattle.json_shape.specs.declared.grid.Entry.{Entry}
use Rattle.json_shape.specs.Grids.{entry, entries, has_lengths}

-- the product of the lengths
abbrev pub product : List ℕ → ℕ
product [] = 1
product (n ∷ ns) = n * product ns

-- each index is below its length
abbrev pub AreBelow : List ℕ → List ℕ → Type 0
AreBelow [] [] = Unit {0}
AreBelow (i ∷ is) (n ∷ ns) = (i < n) × AreBelow is ns
AreBelow _ _ = ⊥

-- the place of these indexes, where the last counts fastest
abbrev pub place : List ℕ → List ℕ → ℕ
place (i ∷ is) (n ∷ ns) = i * product ns + place is ns
place _ _ = 0

-- the value at these indexes, the outermost array's first
abbrev pub at_path : List ℕ → Data → Option Data
at_path [] d = Some d
at_path (i ∷ is) d = option_and_then (at_path is) (at i d)

-- the entry at these indexes
abbrev pub grid_entry : List ℕ → Data → Option Entry
grid_entry is d = option_and_then entry (at_path is d)

-- a grid of these lengths has as many entries as their product
abbrev pub GridsAreFull : Type 0
GridsAreFull = (ns : List ℕ) (d : Data) (es : List Entry) → has_lengths ns d ≡ true → entries (length ns) d ≡ Some es → length es ≡ product ns

-- in a grid of these lengths the entry at some indexes is the one at their place
abbrev pub EntriesAreInPlace : Type 0
EntriesAreInPlace = (is ns : List ℕ) (d : Data) (es : List Entry) → has_lengths ns d ≡ true → entries (length ns) d ≡ Some es → AreBelow is ns
    → slice_get es (place is ns) ≡ grid_entry is d

-- a grid three arrays deep has a · b · c entries
abbrev pub BoxesAreFull : Type 0
BoxesAreFull = (a b c : ℕ) (d : Data) (es : List Entry) → has_lengths (a ∷ b ∷ c ∷ []) d ≡ true → entries 3 d ≡ Some es → length es ≡ a * b * c

-- in it the entry at i, j, k stands at (i · b + j) · c + k
abbrev pub BoxesAreInPlace : Type 0
BoxesAreInPlace = (a b c i j k : ℕ) (d : Data) (es : List Entry) → has_lengths (a ∷ b ∷ c ∷ []) d ≡ true → entries 3 d ≡ Some es → i < a → j < b → k < c
    → slice_get es ((i * b + j) * c + k) ≡ grid_entry (i ∷ j ∷ k ∷ []) d

-- a grid four arrays deep has n · a · b · c entries
abbrev pub StacksAreFull : Type 0
StacksAreFull = (n a b c : ℕ) (d : Data) (es : List Entry) → has_lengths (n ∷ a ∷ b ∷ c ∷ []) d ≡ true → entries 4 d ≡ Some es → length es ≡ n * a * b * c

-- in it the entry at m, i, j, k stands at ((m · a + i) · b + j) · c + k
abbrev pub StacksAreInPlace : Type 0
StacksAreInPlace = (n a b c m i j k : ℕ) (d : Data) (es : List Entry) → has_lengths (n ∷ a ∷ b ∷ c ∷ []) d ≡ true → entries 4 d ≡ Some es → m < n → i < a → j < b → k < c
    → slice_get es (((m * a + i) * b + j) * c + k) ≡ grid_entry (m ∷ i ∷ j ∷ k ∷ []) d
