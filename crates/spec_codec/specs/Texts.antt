-- The normal form of a specification.
use Rattle.std.specs.Prelude.{◌≡◌, Ok, Some, ℕ, List, [], ◌∷◌, ◌++◌, map, codes}
use Rattle.serde_json.specs.Data.{Data, unsigned, number, string, array, object, no_members, member}
use Rattle.serde_json.specs.Find.{get}
use Rattle.serde_json.specs.View.{items_of}
use Rattle.serde_json.specs.Written.{compact_text}
use Rattle.las_base.specs.declared.Axis.{Axis}
use Rattle.las_base.specs.declared.Axis.TheVariants.{I, J, K}
use Rattle.las_base.specs.declared.Way.{Way}
use Rattle.las_base.specs.declared.Way.TheVariants.{Plus, Minus}
use Rattle.las_base.specs.declared.Pauli.{Pauli}
use Rattle.las_base.specs.declared.Cell.{Cell}
use Rattle.las_base.specs.declared.Size.{Size}
use Rattle.las_base.specs.declared.Port.{Port}
use Rattle.las_base.specs.Jobs.{Task, IsTask}
use Rattle.las_spec.specs.Texts.{letter_of}
use Rattle.las_spec.specs.Briefs.{Brief, IsBrief}
use Rattle.spec_codec.specs.Readings.{spec_of, job_in}

-- a list of values as an array
abbrev pub array_of : List Data → Data
array_of ds = array (items_of ds)

-- a whole number as a value
abbrev pub whole_value : ℕ → Data
whole_value n = number (unsigned n)

-- a cell as a value: its three coordinates
abbrev pub cell_value : Cell → Data
cell_value c = array_of (whole_value c.i ∷ whole_value c.j ∷ whole_value c.k ∷ [])

-- a size as a value: its three sides
abbrev pub size_value : Size → Data
size_value s = array_of (whole_value s.i ∷ whole_value s.j ∷ whole_value s.k ∷ [])

-- an axis by its letter
abbrev pub axis_word : Axis → List ℕ
axis_word I = codes "I"
axis_word J = codes "J"
axis_word K = codes "K"

-- a direction by its sign and its letter
abbrev pub direction_word : Way → Axis → List ℕ
direction_word Plus a = codes "+" ++ axis_word a
direction_word Minus a = codes "-" ++ axis_word a

-- a port as a value
abbrev pub port_value : Port → Data
port_value p =
    object (member (codes "direction") (string (direction_word p.way p.axis)) (member (codes "location") (cell_value p.place) (member (codes "z_basis_direction") (string (axis_word p.z_axis)) no_members)))

-- a flow as a value: a text of its letters
abbrev pub word_value : List Pauli → Data
word_value word = string (map letter_of word)

-- the options: the forbidden cells alone
abbrev pub options_value : List Cell → Data
options_value forbidden = object (member (codes "forbidden_cubes") (array_of (map cell_value forbidden)) no_members)

-- a specification as a value, its members in the order of their names
unfoldable pub spec_value : Brief → Data
spec_value b =
    object (member (codes "boxes") (array_of (map size_value b.boxes))
    (member (codes "max_i") (whole_value b.task.size.i)
    (member (codes "max_j") (whole_value b.task.size.j)
    (member (codes "max_k") (whole_value b.task.size.k)
    (member (codes "optional") (options_value b.task.forbidden)
    (member (codes "ports") (array_of (map port_value b.task.ports))
    (member (codes "stabilizers") (array_of (map word_value b.task.flows)) no_members)))))))

-- the normal form: the compact text of the value, and a line feed
abbrev pub spec_text_of : Brief → List ℕ
spec_text_of b = compact_text (spec_value b) ++ 10 ∷ []

-- what is printed is read back
abbrev pub TextIsReadBack : Type 0
TextIsReadBack = (b : Brief) → IsBrief b → spec_of (spec_text_of b) ≡ Ok b

-- the value has the members of a job, as they are written
pub record HoldsJob (d : Data) (t : Task) : Type 0 where
  pub i : get (codes "max_i") d ≡ Some (whole_value t.size.i)
  pub j : get (codes "max_j") d ≡ Some (whole_value t.size.j)
  pub k : get (codes "max_k") d ≡ Some (whole_value t.size.k)
  pub optional : get (codes "optional") d ≡ Some (options_value t.forbidden)
  pub ports : get (codes "ports") d ≡ Some (array_of (map port_value t.ports))
  pub flows : get (codes "stabilizers") d ≡ Some (array_of (map word_value t.flows))

-- from such a value the job is read back
abbrev pub JobIsReadBack : Type 0
JobIsReadBack = (d : Data) (t : Task) → IsTask t → HoldsJob d t → job_in d ≡ Ok t
