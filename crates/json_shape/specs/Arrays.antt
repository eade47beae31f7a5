-- Arrays and what stands in them.
use Rattle.std.specs.Prelude.{List, [], ◌∷◌, Bool, if◌then◌else◌, is_some, Option, Some, None, option_map, option_and_then}
use Rattle.std.specs.List.{list_all}
use Rattle.serde_json.specs.Data.{Data, Items, no_items, item}
use Rattle.serde_json.specs.Find.{as_array, as_object}

-- items as a list
abbrev pub list_of : Items → List Data
list_of no_items = []
list_of (item d ds) = d ∷ list_of ds

-- the items of an array
abbrev pub array_items : Data → Option (List Data)
array_items d = option_map list_of (as_array d)

-- the value is an object
abbrev pub is_object : Data → Bool
is_object d = is_some (as_object d)

-- the values, where each is an object
abbrev pub if_objects : List Data → Option (List Data)
if_objects ds = if list_all is_object ds then Some ds else None

-- the items of an array of objects
abbrev pub objects : Data → Option (List Data)
objects d = option_and_then if_objects (array_items d)

-- what f reads from each value, in order: none where it reads nothing from one
abbrev pub each : {A : Type 0} → (Data → Option A) → List Data → Option (List A)
each f [] = Some []
each f (d ∷ ds) = option_and_then (λ x. option_map (λ xs. x ∷ xs) (each f ds)) (f d)
