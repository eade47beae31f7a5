-- The rules of pipes and colours, each as a test of the cell that it names.
use Rattle.std.specs.Prelude.{◌≡◌, Bool, true, false, ◌&&◌, ◌||◌, not, nat_eq, List, [], ◌∷◌, IsTrue, is_some, length}
use Rattle.std.specs.List.{list_all}
use Rattle.las_base.specs.declared.Axis.{Axis}
use Rattle.las_base.specs.declared.Axis.TheVariants.{I, J, K}
use Rattle.las_base.specs.declared.Kind.{Kind}
use Rattle.las_base.specs.declared.End.{End}
use Rattle.las_base.specs.declared.Cell.{Cell}
use Rattle.las_base.specs.declared.Size.{Size}
use Rattle.las_base.specs.declared.Port.{Port}
use Rattle.las_base.specs.Axes.{same_axis, same_kind, axes}
use Rattle.las_base.specs.Cells.{holds, same_cell, above, cells, widened}
use Rattle.las_base.specs.Jobs.{Task, is_port_place, is_forbidden}
use Rattle.grid_box.specs.declared.Leg.{Leg}
use Rattle.grid_box.specs.Drawings.{Drawing, pipe_at, is_y}
use Rattle.grid_box.specs.Legs.{legs, along, has_leg_along, kinds_on, kind_on, end_of_way}

-- the ends are one
abbrev pub same_end : End → End → Bool
same_end End.Low End.Low = true
same_end End.High End.High = true
same_end _ _ = false

-- the list has one element, and it passes
abbrev pub is_only : {X : Type 0} → (X → Bool) → List X → Bool
is_only test (x ∷ []) = test x
is_only test _ = false

-- the list is empty
abbrev pub is_bare : {X : Type 0} → List X → Bool
is_bare [] = true
is_bare (_ ∷ _) = false

-- `p implies q` of tests
infixr 5 ◌==>◌
abbrev pub ◌==>◌ : Bool → Bool → Bool
true ==> q = q
false ==> q = true

-- what holds of each port whose place is the cell
abbrev pub for_ports_at : Task → Cell → (Port → Bool) → Bool
for_ports_at t c test = list_all (λ p. same_cell p.place c ==> test p) t.ports

-- the leg is the end of the port's pipe
abbrev pub is_port_leg : Port → Leg → Bool
is_port_leg p l = same_axis l.axis p.axis && same_end l.which (end_of_way p.way)

-- V1: the high cell of each pipe is in the box or is a port's place
abbrev pub stays_in_box : Task → Drawing → Cell → Bool
stays_in_box t d c = list_all (λ p. same_cell p.cell c ==> (holds t.size (above p.axis c) || is_port_place t (above p.axis c))) d.pipes

-- V2: a port's place has the port's pipe as its one leg, and is no Y cell
abbrev pub has_port_pipe : Task → Drawing → Cell → Bool
has_port_pipe t d c = for_ports_at t c (λ p. is_only (is_port_leg p) (legs d c) && not (is_y d c))

-- V3: a forbidden cell has no leg and is no Y cell
abbrev pub leaves_forbidden_empty : Task → Drawing → Cell → Bool
leaves_forbidden_empty t d c = is_forbidden t c ==> (is_bare (legs d c) && not (is_y d c))

-- V4: a Y cube has one leg, and it is along K
abbrev pub y_cube_has_one_k_leg : Task → Drawing → Cell → Bool
y_cube_has_one_k_leg t d c = is_y d c ==> is_only (along K) (legs d c)

-- V5: a cell that is no port's place and no Y cell does not have exactly one leg
abbrev pub is_no_dead_end : Task → Drawing → Cell → Bool
is_no_dead_end t d c = is_port_place t c || (is_y d c || not (nat_eq (length (legs d c)) 1))

-- V6: no cell has legs on three axes
abbrev pub has_no_three_axes : Task → Drawing → Cell → Bool
has_no_three_axes t d c = not (list_all (has_leg_along (legs d c)) axes)

-- all are of the kind
abbrev pub all_kind : Kind → List Kind → Bool
all_kind k ks = list_all (same_kind k) ks

-- all are of one kind
abbrev pub all_one_kind : List Kind → Bool
all_one_kind [] = true
all_one_kind (k ∷ ks) = all_kind k ks

-- V7: legs at one cell have the same kind on each axis that is normal to both
abbrev pub colours_match : Task → Drawing → Cell → Bool
colours_match t d c = list_all (λ b. all_one_kind (kinds_on b (legs d c))) axes

-- V8: a port's leg has kind Z on the port's z axis
abbrev pub port_shows_z : Task → Drawing → Cell → Bool
port_shows_z t d c = for_ports_at t c (λ p. list_all (λ l. is_port_leg p l ==> same_kind (kind_on l p.z_axis) Kind.Z) (legs d c))

-- the cells of a box, and those one step beyond its far faces: the cells that can have legs
abbrev pub named_cells : Size → List Cell
named_cells s = cells (widened s)

-- a test passes at each cell that a rule can name
abbrev pub everywhere : Task → (Cell → Bool) → Bool
everywhere t test = list_all test (named_cells t.size)

-- a diagram that is drawn by the rules, for a job
pub record IsValid (t : Task) (d : Drawing) : Type 0 where
  pub size : d.size ≡ t.size
  pub in_box : IsTrue (everywhere t (stays_in_box t d))
  pub ports : IsTrue (everywhere t (has_port_pipe t d))
  pub forbidden : IsTrue (everywhere t (leaves_forbidden_empty t d))
  pub y_cells : IsTrue (everywhere t (y_cube_has_one_k_leg t d))
  pub dead_ends : IsTrue (everywhere t (is_no_dead_end t d))
  pub axes : IsTrue (everywhere t (has_no_three_axes t d))
  pub colours : IsTrue (everywhere t (colours_match t d))
  pub port_colours : IsTrue (everywhere t (port_shows_z t d))

-- what the first rule asks of the pipe along one axis
abbrev pub stays_along : Task → Drawing → Axis → Cell → Bool
stays_along t d a c = is_some (pipe_at d a c) ==> (holds t.size (above a c) || is_port_place t (above a c))

-- the first rule can be tested axis by axis
abbrev pub StaysByAxes : Type 0
StaysByAxes = (t : Task) (d : Drawing) (c : Cell) → stays_in_box t d c ≡ (stays_along t d I c && (stays_along t d J c && stays_along t d K c))
