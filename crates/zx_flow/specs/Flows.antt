-- Labellings of a graph by Paulis at both ends of each edge.
use Rattle.std.specs.Prelude.{◌≡◌, ◌↔◌, position, ℕ, suc, Bool, true, false, ◌&&◌, not, nat_eq, List, [], ◌∷◌, ◌++◌, map, Option, Some, None, IsTrue, length, cond}
use Rattle.std.specs.List.{list_all, zip, flat_map, enumerate_from}
use Rattle.las_base.specs.declared.Kind.{Kind}
use Rattle.las_base.specs.declared.Pauli.{Pauli}
use Rattle.las_base.specs.Axes.{has_part, swapped, other_kind, same_kind, same_pauli}
use Rattle.grid_box.specs.PipeRules.{◌==>◌}
use Rattle.grid_box.specs.Sheets.{agree, is_odd, all_or_none}
use Rattle.zx_graph.specs.declared.nodes.NodeSort.{NodeSort}
use Rattle.zx_graph.specs.declared.graph.Edge.{Edge}
use Rattle.zx_flow.specs.declared.BadLabel.{BadLabel}
use Rattle.zx_graph.specs.Graphs.{Graph}
use Rattle.zx_flow.specs.Labels.{Label}

-- the Paulis at the ends that stand at a node
abbrev pub at_ends : ℕ → Edge × Label → List Pauli
at_ends n x = cond (nat_eq x.0.low n) (x.1.0 ∷ []) [] ++ cond (nat_eq x.0.high n) (x.1.1 ∷ []) []

-- the Paulis at all ends that stand at a node
abbrev pub labels_at : Graph → List Label → ℕ → List Pauli
labels_at g ls n = flat_map (at_ends n) (zip g.edges ls)

-- F1. the ends of a plain edge are equal, and those of a Hadamard edge have X and Z exchanged
abbrev pub keeps_edge : Edge × Label → Bool
keeps_edge x = same_pauli x.1.1 (cond x.0.had (swapped x.1.0) x.1.0)

-- F1, edge by edge
abbrev pub keeps_edges : Graph → List Label → List Bool
keeps_edges g ls = map keeps_edge (zip g.edges ls)

-- the node is the port of a number
abbrev pub is_port : ℕ → NodeSort → Bool
is_port p (NodeSort.Port q) = nat_eq p q
is_port p NodeSort.YEnd = false
is_port p (NodeSort.Spider k) = false

-- the node is a Y end
abbrev pub is_y_end : NodeSort → Bool
is_y_end NodeSort.YEnd = true
is_y_end (NodeSort.Port q) = false
is_y_end (NodeSort.Spider k) = false

-- the node is a spider of the kind
abbrev pub is_spider : Kind → NodeSort → Bool
is_spider k (NodeSort.Spider j) = same_kind j k
is_spider k (NodeSort.Port q) = false
is_spider k NodeSort.YEnd = false

-- every test passed
abbrev pub all_pass : List Bool → Bool
all_pass bs = list_all (λ b. b) bs

-- what holds of the labels at each node of a sort, node by node
abbrev pub at_nodes : Graph → List Label → (NodeSort → Bool) → (List Pauli → Bool) → List Bool
at_nodes g ls sort test = map (λ x. sort x.1.sort ==> test (labels_at g ls x.0)) (enumerate_from 0 g.nodes)

-- F2, port by port: at a port stands the word's letter
abbrev pub keeps_ports : Graph → List Label → List Pauli → List Bool
keeps_ports g ls word = map (λ x. all_pass (at_nodes g ls (is_port x.0) (list_all (same_pauli x.1)))) (enumerate_from 0 word)

-- One or Y: it has both parts or none
abbrev pub is_one_or_y : Pauli → Bool
is_one_or_y p = agree (has_part Kind.X p) (has_part Kind.Z p)

-- F3, node by node: at a Y end stands One or Y
abbrev pub keeps_y_ends : Graph → List Label → List Bool
keeps_y_ends g ls = at_nodes g ls is_y_end (list_all is_one_or_y)

-- a spider of a kind may have these at its legs: the parts of the other kind are in all or in none, and those of its own are even in number
abbrev pub is_kept_by : Kind → List Pauli → Bool
is_kept_by k ps = all_or_none (map (has_part (other_kind k)) ps) && not (is_odd (map (has_part k) ps))

-- F4 for Z spiders and F5 for X spiders, node by node
abbrev pub keeps_spiders : Kind → Graph → List Label → List Bool
keeps_spiders k g ls = at_nodes g ls (is_spider k) (is_kept_by k)

-- the labels, one for each edge, obey the rules F1 to F5 for a word with a letter for each port
pub record Labelled (g : Graph) (ls : List Label) (word : List Pauli) : Type 0 where
  pub one_each : length ls ≡ length g.edges
  pub edges : IsTrue (all_pass (keeps_edges g ls))
  pub ports : IsTrue (all_pass (keeps_ports g ls word))
  pub y_ends : IsTrue (all_pass (keeps_y_ends g ls))
  pub z_spiders : IsTrue (all_pass (keeps_spiders Kind.Z g ls))
  pub x_spiders : IsTrue (all_pass (keeps_spiders Kind.X g ls))

-- the graph has the flow of a word: some labels obey the rules for it
abbrev pub HasFlow : Graph → List Pauli → Type 0
HasFlow g word = (ls : List Label) × Labelled g ls word

-- the rule with its place, where there is one
abbrev pub or_later : Option ℕ → ℕ → Option BadLabel → Option BadLabel
or_later (Some place) rule later = Some (record { rule = rule; place = place })
or_later None rule later = later

-- the first rule with a place that fails, and its first such place
abbrev pub first_failing : ℕ → List (List Bool) → Option BadLabel
first_failing rule [] = None
first_failing rule (bs ∷ rest) = or_later (position not bs) rule (first_failing (suc rule) rest)

-- the first breach of F1 to F5, by rule and then by the number of an edge, a port or a node
abbrev pub bad_label : Graph → List Label → List Pauli → Option BadLabel
bad_label g ls word =
    first_failing 1 (keeps_edges g ls ∷ keeps_ports g ls word ∷ keeps_y_ends g ls ∷ keeps_spiders Kind.Z g ls ∷ keeps_spiders Kind.X g ls ∷ [])

-- there is no breach exactly where the labels obey the rules
abbrev pub NoBadLabelIsLabelled : Type 0
NoBadLabelIsLabelled = (g : Graph) (ls : List Label) (word : List Pauli) → length ls ≡ length g.edges → (bad_label g ls word ≡ None) ↔ Labelled g ls word
