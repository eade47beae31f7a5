-- The members of a document of a diagram, as one table.
use Rattle.std.specs.Prelude.{ℕ, Bool, true, false, List, [], ◌∷◌, ◌++◌, codes, Option, Some, None}
use Rattle.las_base.specs.declared.Axis.{Axis}
use Rattle.las_base.specs.declared.Axis.TheVariants.{I, J, K}
use Rattle.las_base.specs.declared.End.{End}
use Rattle.las_base.specs.declared.End.TheVariants.{Low, High}
use Rattle.las_spec.specs.declared.refusal.Field.{Field}
use Rattle.lasre_codec.specs.declared.member.Member.{Member}
use Rattle.lasre_codec.specs.declared.member.Member.TheVariants.{ColorI, ColorJ, ColorKM, ColorKP, CorrIJ, CorrIK, CorrJI, CorrJK, CorrKI, CorrKJ, ExistI, ExistJ, ExistK, NodeY, MaxI, MaxJ, MaxK, Optional, Ports, Stabilizers}

-- the name of a member
abbrev pub member_name : Member → List ℕ
member_name ColorI = codes "ColorI"
member_name ColorJ = codes "ColorJ"
member_name ColorKM = codes "ColorKM"
member_name ColorKP = codes "ColorKP"
member_name CorrIJ = codes "CorrIJ"
member_name CorrIK = codes "CorrIK"
member_name CorrJI = codes "CorrJI"
member_name CorrJK = codes "CorrJK"
member_name CorrKI = codes "CorrKI"
member_name CorrKJ = codes "CorrKJ"
member_name ExistI = codes "ExistI"
member_name ExistJ = codes "ExistJ"
member_name ExistK = codes "ExistK"
member_name NodeY = codes "NodeY"
member_name MaxI = codes "max_i"
member_name MaxJ = codes "max_j"
member_name MaxK = codes "max_k"
member_name Optional = codes "optional"
member_name Ports = codes "ports"
member_name Stabilizers = codes "stabilizers"

-- where a member stands in the order of names, from 0 on
abbrev pub member_number : Member → ℕ
member_number ColorI = 0
member_number ColorJ = 1
member_number ColorKM = 2
member_number ColorKP = 3
member_number CorrIJ = 4
member_number CorrIK = 5
member_number CorrJI = 6
member_number CorrJK = 7
member_number CorrKI = 8
member_number CorrKJ = 9
member_number ExistI = 10
member_number ExistJ = 11
member_number ExistK = 12
member_number NodeY = 13
member_number MaxI = 14
member_number MaxJ = 15
member_number MaxK = 16
member_number Optional = 17
member_number Ports = 18
member_number Stabilizers = 19

-- the grids, in the order of their names
abbrev pub grids : List Member
grids = ColorI ∷ ColorJ ∷ ColorKM ∷ ColorKP ∷ CorrIJ ∷ CorrIK ∷ CorrJI ∷ CorrJK ∷ CorrKI ∷ CorrKJ ∷ ExistI ∷ ExistJ ∷ ExistK ∷ NodeY ∷ []

-- the member is a grid
abbrev pub is_grid : Member → Bool
is_grid MaxI = false
is_grid MaxJ = false
is_grid MaxK = false
is_grid Optional = false
is_grid Ports = false
is_grid Stabilizers = false
is_grid _ = true

-- all members, in the order of their names
abbrev pub members : List Member
members = grids ++ MaxI ∷ MaxJ ∷ MaxK ∷ Optional ∷ Ports ∷ Stabilizers ∷ []

-- the member is needed: only the options may be absent
abbrev pub is_needed : Member → Bool
is_needed Optional = false
is_needed _ = true

-- the grids, in the order in which their entries are tested
abbrev pub tested : List Member
tested = NodeY ∷ ExistI ∷ ExistJ ∷ ExistK ∷ ColorI ∷ ColorJ ∷ ColorKM ∷ ColorKP ∷ CorrIJ ∷ CorrIK ∷ CorrJI ∷ CorrJK ∷ CorrKI ∷ CorrKJ ∷ []

-- the grid of the pipes along an axis: 1 where one exists
abbrev pub pipes_along : Axis → Member
pipes_along I = ExistI
pipes_along J = ExistJ
pipes_along K = ExistK

-- the grid of the colours of the pipes along an axis, at one end
abbrev pub colours_of : Axis → End → Member
colours_of I e = ColorI
colours_of J e = ColorJ
colours_of K Low = ColorKM
colours_of K High = ColorKP

-- the grid of the sheets of the pipes along an axis that span another
abbrev pub sheets_along : Axis → Axis → Member
sheets_along I J = CorrIJ
sheets_along I _ = CorrIK
sheets_along J I = CorrJI
sheets_along J _ = CorrJK
sheets_along K I = CorrKI
sheets_along K _ = CorrKJ

-- a grid of sheets has one grid for each flow
abbrev pub is_stack : Member → Bool
is_stack CorrIJ = true
is_stack CorrIK = true
is_stack CorrJI = true
is_stack CorrJK = true
is_stack CorrKI = true
is_stack CorrKJ = true
is_stack _ = false

-- the axis of the pipes whose colours or sheets the grid tells: its values count where these exist
abbrev pub axis_told : Member → Option Axis
axis_told ColorI = Some I
axis_told ColorJ = Some J
axis_told ColorKM = Some K
axis_told ColorKP = Some K
axis_told CorrIJ = Some I
axis_told CorrIK = Some I
axis_told CorrJI = Some J
axis_told CorrJK = Some J
axis_told CorrKI = Some K
axis_told CorrKJ = Some K
axis_told _ = None

-- the member of a job as a member of the document. Forbidden cells stand in the options
abbrev pub member_of : Field → Member
member_of Field.MaxI = MaxI
member_of Field.MaxJ = MaxJ
member_of Field.MaxK = MaxK
member_of Field.Ports = Ports
member_of Field.Stabilizers = Stabilizers
member_of Field.Optional = Optional
member_of Field.ForbiddenCubes = Optional
member_of Field.Boxes = Optional
