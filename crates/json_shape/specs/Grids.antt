-- Grids: arrays in arrays, with whole numbers inside.
use Rattle.std.specs.Prelude.{◌≡◌, ℕ, zero, suc, ◌==◌, ◌&&◌, ℤ, pos, negsuc, List, [], ◌∷◌, ◌++◌, length, Bool, true, false, if◌then◌else◌, Option, Some, None, option_map, option_and_then}
use Rattle.std.specs.List.{list_all}
use Rattle.serde_json.specs.Data.{Data}
use Rattle.serde_json.specs.Find.{as_number, as_integer}
use Rattle.json_shape.specs.Arrays.{array_items, each}
use Rattle.json_shape.specs.declared.grid.Entry.{Entry}
use Rattle.json_shape.specs.declared.grid.Entry.TheVariants.{Zero, One, Other}

-- what a whole number says
abbrev pub entry_of : ℤ → Entry
entry_of (pos n) = if n == 0 then Zero else (if n == 1 then One else Other)
entry_of (negsuc n) = Other

-- the entry of a value: none where it is no whole number
abbrev pub entry : Data → Option Entry
entry d = option_map entry_of (option_and_then as_integer (as_number d))

-- the lists, one after another
abbrev pub joined : {A : Type 0} → List (List A) → List A
joined [] = []
joined (xs ∷ xss) = xs ++ joined xss

-- the entries of a grid nested n arrays deep, in order
unfoldable pub entries : ℕ → Data → Option (List Entry)
entries zero d = option_map (λ e. e ∷ []) (entry d)
entries (suc n) d = option_map joined (option_and_then (each (entries n)) (array_items d))

-- new is old with the grid's entries at its end
abbrev pub AppendsEntries : ℕ → Data → List Entry → List Entry → Type 0
AppendsEntries n d old new = (xs : List Entry) × (entries n d ≡ Some xs) × (new ≡ old ++ xs)

-- so many values, and f holds of each
abbrev pub all_of : ℕ → (Data → Bool) → Option (List Data) → Bool
all_of n f None = false
all_of n f (Some ds) = (length ds == n) && list_all f ds

-- arrays in arrays, of these lengths from the outermost on
unfoldable pub has_lengths : List ℕ → Data → Bool
has_lengths [] d = true
has_lengths (n ∷ ns) d = all_of n (has_lengths ns) (array_items d)
