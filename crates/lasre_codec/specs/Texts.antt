-- The text of a diagram with its job and its sheets, and the texts of refusals.
use Rattle.std.specs.Prelude.{◌≡◌, ℕ, Bool, false, ◌&&◌, List, [], ◌∷◌, ◌++◌, map, length, codes, Ok, is_some, if◌then◌else◌}
use Rattle.std.specs.Option.{option_map_or}
use Rattle.std.specs.Fmt.{decimal}
use Rattle.serde_json.specs.Data.{Data, object, Members, no_members, member}
use Rattle.serde_json.specs.Written.{compact_text}
use Rattle.las_base.specs.declared.Axis.{Axis}
use Rattle.las_base.specs.declared.Axis.TheVariants.{I, J, K}
use Rattle.las_base.specs.declared.Kind.{Kind}
use Rattle.las_base.specs.declared.Cell.{Cell}
use Rattle.las_base.specs.declared.Size.{Size}
use Rattle.las_base.specs.Axes.{same_kind}
use Rattle.las_base.specs.Cells.{numbers_from}
use Rattle.grid_box.specs.Drawings.{kinds_at, is_y}
use Rattle.grid_box.specs.Surfaces.{has_sheet, sheets_of}
use Rattle.spec_codec.specs.Texts.{array_of, whole_value, options_value, port_value, word_value}
use Rattle.las_spec.specs.Texts as spec
use Rattle.lasre_codec.specs.declared.member.Member.{Member}
use Rattle.lasre_codec.specs.declared.member.Member.TheVariants.{ColorI, ColorJ, ColorKM, ColorKP, CorrIJ, CorrIK, CorrJI, CorrJK, CorrKI, CorrKJ, ExistI, ExistJ, ExistK, MaxI, MaxJ, MaxK, Optional, Ports, Stabilizers}
use Rattle.lasre_codec.specs.declared.refusal.LasreRefused.{LasreRefused}
use Rattle.lasre_codec.specs.declared.refusal.LasreRefused.TheVariants.{NotJson, NotObject, Missing, Shape, OfJob, Length, Bit, Memory}
use Rattle.lasre_codec.specs.Members.{member_name, members, is_stack}
use Rattle.lasre_codec.specs.Documents.{Lasre, IsLasre, without_absent, lasre_of}

-- ---- grids

-- a bit as a value
abbrev pub bit_value : Bool → Data
bit_value b = whole_value (if b then 1 else 0)

-- the bits of the cells with this i and this j as a value
abbrev pub row_value : Size → (Cell → Bool) → ℕ → ℕ → Data
row_value s bit i j = array_of (map (λ k. bit_value (bit (record { i = i; j = j; k = k }))) (numbers_from 0 s.k))

-- the bits of the cells with this i as a value: rows by j
abbrev pub plane_value : Size → (Cell → Bool) → ℕ → Data
plane_value s bit i = array_of (map (row_value s bit i) (numbers_from 0 s.j))

-- the bits of a box as a value: planes by i
abbrev pub grid_value : Size → (Cell → Bool) → Data
grid_value s bit = array_of (map (plane_value s bit) (numbers_from 0 s.i))

-- the pipe along an axis exists
abbrev pub exists_at : Lasre → Axis → Cell → Bool
exists_at l a c = is_some (kinds_at l.drawing a c)

-- it exists, and the kind at its low end is Z
abbrev pub is_z_low : Lasre → Axis → Cell → Bool
is_z_low l a c = option_map_or (λ k. same_kind k.0 Kind.Z) (kinds_at l.drawing a c) false

-- it exists, and the kind at its high end is Z
abbrev pub is_z_high : Lasre → Axis → Cell → Bool
is_z_high l a c = option_map_or (λ k. same_kind k.1 Kind.Z) (kinds_at l.drawing a c) false

-- it exists, and has the flow's sheet that spans another axis
abbrev pub has_corr : Lasre → Axis → Axis → ℕ → Cell → Bool
has_corr l a b flow c = exists_at l a c && has_sheet (sheets_of l.surfaces flow) (record { axis = a; cell = c; span = b })

-- the bit of a grid at a flow and a cell. Only sheets differ from flow to flow
abbrev pub bit_of : Lasre → Member → ℕ → Cell → Bool
bit_of l ColorI flow = is_z_low l I
bit_of l ColorJ flow = is_z_low l J
bit_of l ColorKM flow = is_z_low l K
bit_of l ColorKP flow = is_z_high l K
bit_of l CorrIJ flow = has_corr l I J flow
bit_of l CorrIK flow = has_corr l I K flow
bit_of l CorrJI flow = has_corr l J I flow
bit_of l CorrJK flow = has_corr l J K flow
bit_of l CorrKI flow = has_corr l K I flow
bit_of l CorrKJ flow = has_corr l K J flow
bit_of l ExistI flow = exists_at l I
bit_of l ExistJ flow = exists_at l J
bit_of l ExistK flow = exists_at l K
bit_of l _ flow = is_y l.drawing

-- for each flow a grid of its sheets
abbrev pub stack_value : Lasre → Member → Data
stack_value l m = array_of (map (λ f. grid_value l.task.size (bit_of l m f)) (numbers_from 0 (length l.task.flows)))

-- a grid of a diagram, or for each flow a grid of its sheets
abbrev pub bits_value : Lasre → Member → Data
bits_value l m =
    if is_stack m then stack_value l m else grid_value l.task.size (bit_of l m 0)

-- ---- the document

-- the value of a member
abbrev pub member_value : Lasre → Member → Data
member_value l MaxI = whole_value l.task.size.i
member_value l MaxJ = whole_value l.task.size.j
member_value l MaxK = whole_value l.task.size.k
member_value l Optional = options_value l.task.forbidden
member_value l Ports = array_of (map port_value l.task.ports)
member_value l Stabilizers = array_of (map word_value l.task.flows)
member_value l m = bits_value l m

-- these members with their values
abbrev pub members_by : Lasre → List Member → Members
members_by l [] = no_members
members_by l (m ∷ ms) = member (member_name m) (member_value l m) (members_by l ms)

-- a job, a diagram and sheets as a value
unfoldable pub lasre_value : Lasre → Data
lasre_value l = object (members_by l members)

-- their text: the compact text of the value, and a line feed
abbrev pub lasre_text_of : Lasre → List ℕ
lasre_text_of l = compact_text (lasre_value l) ++ 10 ∷ []

-- what is written is read back, without sheets of pipes that do not exist
abbrev pub TextIsReadBack : Type 0
TextIsReadBack = (l : Lasre) → IsLasre l → lasre_of (lasre_text_of l) ≡ Ok (without_absent l)

-- ---- refusals

-- the text of a refusal
abbrev pub refusal_text : LasreRefused → List ℕ
refusal_text NotJson = codes "not json"
refusal_text NotObject = codes "not an object"
refusal_text (Missing m) = codes "missing " ++ member_name m
refusal_text (Shape m) = codes "shape " ++ member_name m
refusal_text (OfJob r) = spec.refusal_text r
refusal_text (Length m) = codes "length " ++ member_name m
refusal_text (Bit m place) = codes "bit " ++ (member_name m ++ (codes " " ++ decimal place))
refusal_text Memory = codes "memory"
