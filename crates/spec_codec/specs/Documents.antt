-- What a document's value writes, member by member.
use Rattle.std.specs.Prelude.{ℕ, ◌==◌, Bool, true, not, List, [], ◌∷◌, map, codes, chars, Option, Some, None, option_map, option_and_then, is_some, is_none, if◌then◌else◌}
use Rattle.std.specs.List.{find}
use Rattle.std.specs.Option.{option_map_or}
use Rattle.serde_json.specs.Data.{Data}
use Rattle.serde_json.specs.Find.{get, as_str}
use Rattle.json_shape.specs.Arrays.{array_items, each, is_object, objects}
use Rattle.json_shape.specs.Numbers.{triple, whole_member}
use Rattle.las_base.specs.declared.Axis.{Axis}
use Rattle.las_base.specs.declared.Axis.TheVariants.{I, J, K}
use Rattle.las_base.specs.declared.Way.{Way}
use Rattle.las_base.specs.declared.Way.TheVariants.{Plus, Minus}
use Rattle.las_base.specs.declared.Pauli.{Pauli}
use Rattle.las_base.specs.declared.Cell.{Cell}
use Rattle.las_base.specs.declared.Size.{Size}
use Rattle.las_spec.specs.declared.refusal.Field.{Field}
use Rattle.las_spec.specs.declared.refusal.Field.TheVariants.{MaxI, MaxJ, MaxK, Ports, Stabilizers, Optional, ForbiddenCubes, Boxes}
use Rattle.las_spec.specs.declared.draft.WrittenPort.{WrittenPort}
use Rattle.las_spec.specs.Written.{Written}
use Rattle.las_spec.specs.Texts.{field_name}

-- ---- letters and numbers

-- the axis of a letter: I, J or K
abbrev pub axis_letter : ℕ → Option Axis
axis_letter n = if n == 73 then Some I else (if n == 74 then Some J else (if n == 75 then Some K else None))

-- the way of a sign: + or -
abbrev pub way_sign : ℕ → Option Way
way_sign n = if n == 43 then Some Plus else (if n == 45 then Some Minus else None)

-- an axis as it is written: its letter
abbrev pub axis_text : List ℕ → Option Axis
axis_text (n ∷ []) = axis_letter n
axis_text _ = None

-- a direction as it is written: a sign and the letter of an axis
abbrev pub direction_text : List ℕ → Option (Way × Axis)
direction_text (s ∷ n ∷ []) = option_and_then (λ w. option_map (λ a. (w, a)) (axis_letter n)) (way_sign s)
direction_text _ = None

-- the Pauli of a character: X, Y, Z, and One for the full stop
abbrev pub pauli_letter : ℕ → Option Pauli
pauli_letter n = if n == 88 then Some Pauli.X else (if n == 89 then Some Pauli.Y else (if n == 90 then Some Pauli.Z else (if n == 46 then Some Pauli.One else None)))

-- a flow as it is written, a letter for each character of its text
abbrev pub word_of : List ℕ → List (Option Pauli)
word_of text = map pauli_letter (chars text)

-- the cell of three numbers
abbrev pub cell_of : ℕ × ℕ × ℕ → Cell
cell_of n = record { i = n.0; j = n.1; k = n.2 }

-- the size of three numbers
abbrev pub size_of : ℕ × ℕ × ℕ → Size
size_of n = record { i = n.0; j = n.1; k = n.2 }

-- ---- members

-- three sides as a size, where all are there
abbrev pub sides : Option ℕ → Option ℕ → Option ℕ → Option Size
sides (Some i) (Some j) (Some k) = Some (record { i = i; j = j; k = k })
sides _ _ _ = None

-- the three sides
abbrev pub size_in : Data → Option Size
size_in d = sides (whole_member (codes "max_i") d) (whole_member (codes "max_j") d) (whole_member (codes "max_k") d)

-- a port of its three members, where all have their shapes
abbrev pub made_port : Option (ℕ × ℕ × ℕ) → Option (List ℕ) → Option (List ℕ) → Option WrittenPort
made_port (Some place) (Some direction) (Some z) = Some (record { place = cell_of place; direction = direction_text direction; z_axis = axis_text z })
made_port _ _ _ = None

-- the port that an object writes
abbrev pub port_in : Data → Option WrittenPort
port_in d =
    made_port (option_and_then triple (get (codes "location") d)) (option_and_then as_str (get (codes "direction") d)) (option_and_then as_str (get (codes "z_basis_direction") d))

-- the ports: an array of objects, each with its three members
abbrev pub ports_in : Data → Option (List WrittenPort)
ports_in d = option_and_then (each port_in) (option_and_then objects (get (codes "ports") d))

-- the flow that a text writes
abbrev pub word_in : Data → Option (List (Option Pauli))
word_in d = option_map word_of (as_str d)

-- the flows: an array of texts
abbrev pub words_in : Data → Option (List (List (Option Pauli)))
words_in d = option_and_then (each word_in) (option_and_then array_items (get (codes "stabilizers") d))

-- an array of arrays of three numbers
abbrev pub triples : Data → Option (List (ℕ × ℕ × ℕ))
triples d = option_and_then (each triple) (array_items d)

-- the forbidden cells of the options: none where they list none
abbrev pub cubes_in : Data → Option (List Cell)
cubes_in options = option_map_or (λ cubes. option_map (map cell_of) (triples cubes)) (get (codes "forbidden_cubes") options) (Some [])

-- the forbidden cells: none where there are no options
abbrev pub forbidden_in : Data → Option (List Cell)
forbidden_in d = option_map_or cubes_in (get (codes "optional") d) (Some [])

-- the boxes: the specification's own size where none are listed
abbrev pub boxes_in : Size → Data → Option (List Size)
boxes_in own d = option_map_or (λ boxes. option_map (map size_of) (triples boxes)) (get (codes "boxes") d) (Some (own ∷ []))

-- ---- what is absent, and what has not its shape

-- the members that are needed, in their order
abbrev pub needed : List Field
needed = MaxI ∷ MaxJ ∷ MaxK ∷ Ports ∷ Stabilizers ∷ []

-- the first needed member that is absent
abbrev pub missing_in : Data → Option Field
missing_in d = find (λ f. is_none (get (field_name f) d)) needed

-- all members that are read, in their order
abbrev pub fields : List Field
fields = MaxI ∷ MaxJ ∷ MaxK ∷ Ports ∷ Stabilizers ∷ Optional ∷ ForbiddenCubes ∷ Boxes ∷ []

-- the member has its shape. Options are an object, where they are there
abbrev pub has_shape : Data → Field → Bool
has_shape d MaxI = is_some (whole_member (codes "max_i") d)
has_shape d MaxJ = is_some (whole_member (codes "max_j") d)
has_shape d MaxK = is_some (whole_member (codes "max_k") d)
has_shape d Ports = is_some (ports_in d)
has_shape d Stabilizers = is_some (words_in d)
has_shape d Optional = option_map_or is_object (get (codes "optional") d) true
has_shape d ForbiddenCubes = is_some (forbidden_in d)
has_shape d Boxes = is_some (boxes_in (record { i = 0; j = 0; k = 0 }) d)

-- the first member that has not its shape
abbrev pub misshapen_in : Data → Option Field
misshapen_in d = find (λ f. not (has_shape d f)) fields

-- a specification as it is written, of parts that are all there
abbrev pub written_of : Size → Option (List WrittenPort) → Option (List (List (Option Pauli))) → Option (List Cell) → Option (List Size) → Option Written
written_of size (Some ports) (Some words) (Some forbidden) (Some boxes) = Some (record { size = size; ports = ports; words = words; forbidden = forbidden; boxes = boxes })
written_of _ _ _ _ _ = None

-- what a value writes, where every member has its shape
unfoldable pub written_in : Data → Option Written
written_in d = option_and_then (λ size. written_of size (ports_in d) (words_in d) (forbidden_in d) (boxes_in size d)) (size_in d)
