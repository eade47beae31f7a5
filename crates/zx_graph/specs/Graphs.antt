-- The ZX graph of a diagram: a node for each cell with legs, an edge for each pipe.
use Rattle.std.specs.Prelude.{◌≡◌, ℕ, ◌+◌, ◌^◌, ◌<◌, Bool, not, List, [], ◌∷◌, map, length, Option, Some, None, if◌then◌else◌}
use Rattle.std.specs.List.{filter, find, slice_get}
use Rattle.std.specs.Option.{option_map}
use Rattle.las_base.specs.declared.Axis.{Axis}
use Rattle.las_base.specs.declared.Kind.{Kind}
use Rattle.las_base.specs.declared.Cell.{Cell}
use Rattle.las_base.specs.Axes.{axes, same_kind}
use Rattle.las_base.specs.Cells.{same_cell, above}
use Rattle.las_base.specs.Jobs.{Task, is_port_place}
use Rattle.grid_box.specs.declared.Leg.{Leg}
use Rattle.grid_box.specs.Drawings.{Pipe, Drawing, IsDrawing, pipe_at, is_y}
use Rattle.grid_box.specs.Legs.{legs, kind_on, has_leg_along}
use Rattle.grid_box.specs.PipeRules.{is_bare, named_cells}
use Rattle.zx_graph.specs.declared.nodes.NodeSort.{NodeSort}
use Rattle.zx_graph.specs.declared.nodes.Node.{Node}
use Rattle.zx_graph.specs.declared.graph.Edge.{Edge}

-- a graph: its nodes and its edges, each by its number
pub record Graph : Type 0 where
  pub nodes : List Node
  pub edges : List Edge

-- how many elements stand before the first that passes
abbrev pub first_index : {X : Type 0} → (X → Bool) → List X → ℕ
first_index test [] = 0
first_index test (x ∷ xs) = if test x then 0 else first_index test xs + 1

-- the first axis with no leg
abbrev pub free_axis : List Leg → Option Axis
free_axis ls = find (λ a. not (has_leg_along ls a)) axes

-- a leg's kind on an axis. Where there is no axis it is X, which no valid diagram asks for
abbrev pub kind_on_free : Leg → Option Axis → Kind
kind_on_free l None = Kind.X
kind_on_free l (Some a) = kind_on l a

-- the kind of a spider: that of its first leg on the first axis with no leg, on which all legs of a valid diagram agree
abbrev pub spider_kind : List Leg → Kind
spider_kind [] = Kind.X
spider_kind (l ∷ ls) = kind_on_free l (free_axis (l ∷ ls))

-- the number of the port at a cell
abbrev pub port_number : Task → Cell → ℕ
port_number t c = first_index (λ p. same_cell p.place c) t.ports

-- what stands at a cell: a port, a Y end or a spider
abbrev pub sort_at : Task → Drawing → Cell → NodeSort
sort_at t d c = if is_port_place t c then NodeSort.Port (port_number t c) else (if is_y d c then NodeSort.YEnd else NodeSort.Spider (spider_kind (legs d c)))

-- the cell has legs
abbrev pub is_legged : Drawing → Cell → Bool
is_legged d c = not (is_bare (legs d c))

-- the cells with legs, in order
abbrev pub node_cells : Drawing → List Cell
node_cells d = filter (is_legged d) (named_cells d.size)

-- the node of a cell, where it has legs
abbrev pub node_at : Task → Drawing → Cell → Option Node
node_at t d c = if is_bare (legs d c) then None else Some (record { cell = c; sort = sort_at t d c })

-- the nodes, in the order of their cells
abbrev pub nodes_of : Task → Drawing → List Node
nodes_of t d = map (λ c. record { cell = c; sort = sort_at t d c }) (node_cells d)

-- the number of a cell's node: how many cells with legs stand before it
abbrev pub node_number : Drawing → Cell → ℕ
node_number d c = first_index (same_cell c) (node_cells d)

-- the edge of a pipe: a Hadamard edge where the kinds at its ends differ
abbrev pub edge_of : Drawing → Pipe → Edge
edge_of d p = record { low = node_number d p.cell; high = node_number d (above p.axis p.cell); had = not (same_kind p.low p.high) }

-- the ZX graph of a diagram: its nodes, and an edge for each pipe in the order of pipes
abbrev pub zx_of : Task → Drawing → Graph
zx_of t d = record { nodes = nodes_of t d; edges = map (edge_of d) d.pipes }

-- what contracts see of a graph
abbrev pub graph_by : List Node → List Edge → Graph
graph_by nodes edges = record { nodes = nodes; edges = edges }

-- nodes and edges are few enough to be numbered in 32 bits
pub record IsNumbered (g : Graph) : Type 0 where
  pub nodes : length g.nodes < 2 ^ 32
  pub edges : length g.edges < 2 ^ 32

-- the node with this number stands for this cell
abbrev pub stands_for : List Node → ℕ → Cell → Type 0
stands_for ns n c = option_map (λ x. x.cell) (slice_get ns n) ≡ Some c

-- a pipe's edge stands between the nodes of its low and its high cell
abbrev pub EdgesJoinTheirCells : Type 0
EdgesJoinTheirCells = (t : Task) (d : Drawing) (a : Axis) (c : Cell) (p : Pipe) → IsDrawing d → pipe_at d a c ≡ Some p
    → stands_for (nodes_of t d) (edge_of d p).low p.cell × stands_for (nodes_of t d) (edge_of d p).high (above p.axis p.cell)
