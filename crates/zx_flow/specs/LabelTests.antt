-- The tests of labels as the code makes them.
use Rattle.std.specs.Prelude.{ℕ, Bool, not, nat_eq, List, map}
use Rattle.std.specs.List.{list_all}
use Rattle.las_base.specs.declared.Kind.{Kind}
use Rattle.las_base.specs.declared.Pauli.{Pauli}
use Rattle.las_base.specs.Axes.{has_part, same_pauli}
use Rattle.grid_box.specs.PipeRules.{◌==>◌}
use Rattle.grid_box.specs.Sheets.{agree, is_odd}
use Rattle.zx_graph.specs.declared.nodes.NodeSort.{NodeSort}
use Rattle.zx_graph.specs.declared.nodes.Node.{Node}
use Rattle.zx_graph.specs.declared.graph.Edge.{Edge}
use Rattle.zx_graph.specs.Graphs.{Graph}
use Rattle.zx_flow.specs.declared.ends.Asked.{Asked}
use Rattle.zx_flow.specs.declared.ends.Asked.TheVariants.{Letter, OneOrY, Part, NoPart}
use Rattle.zx_flow.specs.declared.rules.NodeRule.{NodeRule}
use Rattle.zx_flow.specs.declared.rules.NodeRule.TheVariants as rule
use Rattle.zx_flow.specs.Labels.{Label}
use Rattle.zx_flow.specs.Flows.{is_one_or_y, at_ends, labels_at, is_port, is_y_end, is_spider, is_kept_by}

-- a Pauli passes what is asked of it
abbrev pub passes : Asked → Pauli → Bool
passes (Letter letter) p = same_pauli letter p
passes OneOrY p = is_one_or_y p
passes (Part k) p = has_part k p
passes (NoPart k) p = not (has_part k p)

-- an end passes, where it stands at the node
abbrev pub end_passes : Asked → ℕ → ℕ → Pauli → Bool
end_passes asked node at p = nat_eq at node ==> passes asked p

-- whether the ends at a node have an odd number of parts of a kind, with those of one edge more
abbrev pub edge_is_odd : Kind → ℕ → Bool → Edge × Label → Bool
edge_is_odd k node odd x = not (agree odd (is_odd (map (has_part k) (at_ends node x))))

-- the rule speaks of nodes of this sort
abbrev pub is_of_sort : NodeRule → NodeSort → Bool
is_of_sort (rule.Port port letter) = is_port port
is_of_sort rule.YEnd = is_y_end
is_of_sort (rule.Spider k) = is_spider k

-- the labels at a node pass what the rule asks
abbrev pub labels_pass : NodeRule → List Pauli → Bool
labels_pass (rule.Port port letter) = list_all (same_pauli letter)
labels_pass rule.YEnd = list_all is_one_or_y
labels_pass (rule.Spider k) = is_kept_by k

-- a node keeps the rule
abbrev pub keeps_node : NodeRule → Graph → List Label → ℕ × Node → Bool
keeps_node r g ls x = is_of_sort r x.1.sort ==> labels_pass r (labels_at g ls x.0)
