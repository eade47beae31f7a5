-- The names of members, the texts of refusals, and the character of a Pauli.
use Rattle.std.specs.Prelude.{ℕ, List, ◌++◌, codes}
use Rattle.std.specs.Fmt.{decimal}
use Rattle.las_base.specs.declared.Pauli.{Pauli}
use Rattle.las_spec.specs.declared.refusal.Field.{Field}
use Rattle.las_spec.specs.declared.refusal.Field.TheVariants.{MaxI, MaxJ, MaxK, Ports, Stabilizers, Optional, ForbiddenCubes, Boxes}
use Rattle.las_spec.specs.declared.refusal.SpecRefused.{SpecRefused}
use Rattle.las_spec.specs.declared.refusal.SpecRefused.TheVariants.{NotJson, NotObject, Missing, Shape, SizeOut, PortCount, PortWay, PortBasis, PortPlace, PortTwice, FlowCount, FlowLength, FlowLetter, ForbiddenPlace, BoxCount, BoxSize, BoxPort, Memory}

-- the character of a Pauli
abbrev pub letter_of : Pauli → ℕ
letter_of Pauli.One = 46
letter_of Pauli.X = 88
letter_of Pauli.Y = 89
letter_of Pauli.Z = 90

-- the name of a member
abbrev pub field_name : Field → List ℕ
field_name MaxI = codes "max_i"
field_name MaxJ = codes "max_j"
field_name MaxK = codes "max_k"
field_name Ports = codes "ports"
field_name Stabilizers = codes "stabilizers"
field_name Optional = codes "optional"
field_name ForbiddenCubes = codes "forbidden_cubes"
field_name Boxes = codes "boxes"

-- the text of a refusal
abbrev pub refusal_text : SpecRefused → List ℕ
refusal_text NotJson = codes "not json"
refusal_text NotObject = codes "not an object"
refusal_text (Missing f) = codes "missing " ++ field_name f
refusal_text (Shape f) = codes "shape " ++ field_name f
refusal_text SizeOut = codes "size"
refusal_text PortCount = codes "port count"
refusal_text (PortWay n) = codes "port " ++ (decimal n ++ codes " direction")
refusal_text (PortBasis n) = codes "port " ++ (decimal n ++ codes " basis")
refusal_text (PortPlace n) = codes "port " ++ (decimal n ++ codes " place")
refusal_text (PortTwice n m) = codes "port " ++ (decimal m ++ (codes " repeats " ++ decimal n))
refusal_text FlowCount = codes "flow count"
refusal_text (FlowLength n) = codes "flow " ++ (decimal n ++ codes " length")
refusal_text (FlowLetter n p) = codes "flow " ++ (decimal n ++ (codes " letter " ++ decimal p))
refusal_text (ForbiddenPlace n) = codes "forbidden " ++ (decimal n ++ codes " place")
refusal_text BoxCount = codes "box count"
refusal_text (BoxSize n) = codes "box " ++ (decimal n ++ codes " size")
refusal_text (BoxPort n p) = codes "box " ++ (decimal n ++ (codes " port " ++ decimal p))
refusal_text Memory = codes "memory"
