-- The refusals of a specification as it is written, as one table in their order.
use Rattle.std.specs.Prelude.{ℕ, suc, Bool, true, false, ◌&&◌, not, nat_le, nat_eq, List, [], ◌∷◌, ◌++◌, map, length, Option, Some, None, option_map, is_none, if◌then◌else◌, position}
use Rattle.std.specs.List.{list_any}
use Rattle.std.specs.Option.{option_or, option_map_or}
use Rattle.las_base.specs.declared.Pauli.{Pauli}
use Rattle.las_base.specs.declared.Cell.{Cell}
use Rattle.las_base.specs.declared.Size.{Size}
use Rattle.las_base.specs.Axes.{same_axis}
use Rattle.las_base.specs.Cells.{holds, same_cell, low_cell}
use Rattle.las_base.specs.Jobs.{most_boxes, most_flows, most_ports, within_limits}
use Rattle.las_spec.specs.declared.refusal.SpecRefused.{SpecRefused}
use Rattle.las_spec.specs.declared.refusal.SpecRefused.TheVariants.{SizeOut, PortCount, PortWay, PortBasis, PortPlace, PortTwice, FlowCount, FlowLength, FlowLetter, ForbiddenPlace, BoxCount, BoxSize, BoxPort}
use Rattle.las_spec.specs.declared.draft.WrittenPort.{WrittenPort}
use Rattle.las_spec.specs.Written.{Written}

-- the first of them that is there
abbrev pub first_of : {A : Type 0} → List (Option A) → Option A
first_of [] = None
first_of (o ∷ os) = option_or o (first_of os)

-- the refusal, where the test fails
abbrev pub unless : Bool → SpecRefused → Option SpecRefused
unless true refusal = None
unless false refusal = Some refusal

-- the number is from 1 to a bound
abbrev pub is_count : ℕ → ℕ → Bool
is_count most n = nat_le 1 n && nat_le n most

-- ---- ports

-- the z axis is none that there is, or is the port's own axis
abbrev pub has_bad_basis : WrittenPort → Bool
has_bad_basis p = option_map_or (λ z. option_map_or (λ d. same_axis d.1 z) p.direction false) p.z_axis true

-- the low cell of the port's pipe is in the box, for a port at this place
abbrev pub fits_at : Size → WrittenPort → Cell → Bool
fits_at s p c = option_map_or (λ d. option_map_or (holds s) (low_cell c d.1 d.0) false) p.direction false

-- the first place in a list at which a cell stands that stood before, with the place where it stood first
abbrev pub first_repeat : List Cell → ℕ → List Cell → Option (ℕ × ℕ)
first_repeat before m [] = None
first_repeat before m (c ∷ cs) = option_or (option_map (λ n. (m, n)) (position (same_cell c) before)) (first_repeat (before ++ c ∷ []) (suc m) cs)

-- ---- flows

-- the first letter of a flow that is none that there is, with the flow's number
abbrev pub first_bad_letter : ℕ → List (List (Option Pauli)) → Option (ℕ × ℕ)
first_bad_letter n [] = None
first_bad_letter n (word ∷ words) = option_or (option_map (λ p. (n, p)) (position is_none word)) (first_bad_letter (suc n) words)

-- ---- boxes

-- a coordinate that equals the specification's own side becomes the box's side
abbrev pub carried_coordinate : ℕ → ℕ → ℕ → ℕ
carried_coordinate own side n = if nat_eq n own then side else n

-- a place carried to a box
abbrev pub carried : Size → Size → Cell → Cell
carried own box c = record { i = carried_coordinate own.i box.i c.i; j = carried_coordinate own.j box.j c.j; k = carried_coordinate own.k box.k c.k }

-- the first port whose carried place is not in order for the box, or is that of a port before it
abbrev pub first_bad_port : Size → Size → List Cell → ℕ → List WrittenPort → Option ℕ
first_bad_port own box before n [] = None
first_bad_port own box before n (p ∷ ps) =
    let c = carried own box p.place in
    if fits_at box p c && not (list_any (same_cell c) before) then first_bad_port own box (before ++ c ∷ []) (suc n) ps else Some n

-- the first box with such a port
abbrev pub first_bad_box : Size → List WrittenPort → ℕ → List Size → Option (ℕ × ℕ)
first_bad_box own ports n [] = None
first_bad_box own ports n (box ∷ boxes) = option_or (option_map (λ p. (n, p)) (first_bad_port own box [] 0 ports)) (first_bad_box own ports (suc n) boxes)

-- ---- the table

-- what ports may be refused for, in order
abbrev pub port_refusals : Size → List WrittenPort → List (Option SpecRefused)
port_refusals s ports =
    unless (is_count most_ports (length ports)) PortCount
    ∷ option_map PortWay (position (λ p. is_none p.direction) ports)
    ∷ option_map PortBasis (position has_bad_basis ports)
    ∷ option_map PortPlace (position (λ p. not (fits_at s p p.place)) ports)
    ∷ option_map (λ x. PortTwice x.1 x.0) (first_repeat [] 0 (map (λ p. p.place) ports))
    ∷ []

-- what flows may be refused for, in order, beside so many ports
abbrev pub flow_refusals : ℕ → List (List (Option Pauli)) → List (Option SpecRefused)
flow_refusals ports words =
    unless (is_count most_flows (length words)) FlowCount
    ∷ option_map FlowLength (position (λ word. not (nat_eq (length word) ports)) words)
    ∷ option_map (λ x. FlowLetter x.0 x.1) (first_bad_letter 0 words)
    ∷ []

-- what a job may be refused for, in order
abbrev pub job_refusals : Written → List (Option SpecRefused)
job_refusals w =
    unless (within_limits w.size) SizeOut
    ∷ first_of (port_refusals w.size w.ports)
    ∷ first_of (flow_refusals (length w.ports) w.words)
    ∷ option_map ForbiddenPlace (position (λ c. not (holds w.size c)) w.forbidden)
    ∷ []

-- what its boxes may be refused for, in order
abbrev pub box_refusals : Written → List (Option SpecRefused)
box_refusals w =
    unless (is_count most_boxes (length w.boxes)) BoxCount
    ∷ option_map BoxSize (position (λ box. not (within_limits box)) w.boxes)
    ∷ option_map (λ x. BoxPort x.0 x.1) (first_bad_box w.size w.ports 0 w.boxes)
    ∷ []

-- the first refusal of a job
unfoldable pub job_refusal : Written → Option SpecRefused
job_refusal w = first_of (job_refusals w)

-- the first refusal of a specification: those of a job come first
unfoldable pub refusal : Written → Option SpecRefused
refusal w = option_or (job_refusal w) (first_of (box_refusals w))
