-- Sheets that serve give labels that obey the rules.
use Rattle.std.proofs.Common.{◌≡◌, ℕ, suc, ◌+◌, Bool, true, not, List, [], ◌∷◌, map, Some, refl, sym, ap, ◌∙◌, arith}
use Rattle.std.specs.List.{list_all, slice_get, enumerate_from}
use Rattle.std.proofs.lemmas.Bool.{and_from}
use Rattle.std.proofs.lemmas.List.{length-map}
use Rattle.las_base.specs.declared.Kind.{Kind}
use Rattle.las_base.specs.declared.Pauli.{Pauli}
use Rattle.las_base.specs.declared.Cell.{Cell}
use Rattle.las_base.specs.Axes.{has_part, same_pauli}
use Rattle.las_base.specs.Cells.{cell_before}
use Rattle.las_base.proofs.Rising.{filter_all}
use Rattle.las_base.proofs.Lists.{filter_passes}
use Rattle.grid_box.specs.Legs.{legs}
use Rattle.grid_box.specs.PipeRules.{is_bare, named_cells, everywhere, has_port_pipe, y_cube_has_one_k_leg, has_no_three_axes, colours_match, port_shows_z}
use Rattle.grid_box.specs.Sheets.{agree, sheets_join_at, y_sheets_match, ports_spell}
use Rattle.zx_graph.specs.Graphs.{zx_of, node_cells, edge_of}
use Rattle.zx_flow.specs.Flows.{all_pass, at_nodes, is_port, is_y_end, is_spider, is_kept_by}
use Rattle.sheet_flow.specs.FromSheets.{pauli_at, labels_from, SheetsGiveLabels}
use Rattle.zx_graph.proofs.NumberLemmas.{at_all}
use Rattle.sheet_flow.proofs.NodeLabels.{nodes_pass, edges_pass, labelled}
use Rattle.sheet_flow.proofs.AtCells.{spider_passes, y_passes, port_passes}

each_letter : (test : ℕ × Pauli → Bool) (first : ℕ) (word : List Pauli) → ((q : ℕ) (letter : Pauli) → slice_get word q ≡ Some letter → test (first + q, letter) ≡ true) → all_pass (map test (enumerate_from first word)) ≡ true
each_letter test first [] h = refl
each_letter test first (x ∷ xs) h =
    let z : first + 0 ≡ first = omega arith in
    and_from (test (first, x)) (all_pass (map test (enumerate_from (first + 1) xs))) (sym (ap (λ k. test (k, x)) z) ∙ h 0 x refl)
    (each_letter test (first + 1) xs (λ n y e. let s : first + 1 + n ≡ first + suc n = omega arith in ap (λ k. test (k, y)) s ∙ h (suc n) y e))

pub sheets_give_labels : SheetsGiveLabels
sheets_give_labels t d ss word task drawn valid long serves =
    record {
      one_each = length-map d.pipes (labelled (pauli_at ss)) ∙ sym (length-map d.pipes (edge_of d));
      edges = edges_pass d ss d.pipes;
      ports = each_letter (λ x. all_pass (at_nodes (zx_of t d) (labels_from d ss) (is_port x.0) (list_all (same_pauli x.1)))) 0 word
          (λ q letter e.
          let z : 0 + q ≡ q = omega arith in
          ap (λ k. all_pass (at_nodes (zx_of t d) (labels_from d ss) (is_port k) (list_all (same_pauli letter)))) z
          ∙ nodes_pass t d (pauli_at ss) (is_port q) (list_all (same_pauli letter)) drawn.pipe_order
          (λ n c k. port_passes t d ss word q letter c task.z_axes e (rule (has_port_pipe t d) valid.ports n c k) (rule (port_shows_z t d) valid.port_colours n c k) (rule (ports_spell t d ss word) serves.letters n c k)));
      y_ends = nodes_pass t d (pauli_at ss) is_y_end (list_all (λ p. agree (has_part Kind.X p) (has_part Kind.Z p))) drawn.pipe_order
          (λ n c k. y_passes t d ss c (rule (y_cube_has_one_k_leg t d) valid.y_cells n c k) (rule (y_sheets_match t d ss) serves.y_cells n c k));
      z_spiders = spiders Kind.Z;
      x_spiders = spiders Kind.X;
    }
  where
    legged : Cell → Bool
    legged c = not (is_bare (legs d c))

    rule : (test : Cell → Bool) → everywhere t test ≡ true → (n : ℕ) (c : Cell) → slice_get (node_cells d) n ≡ Some c → test c ≡ true
    rule test e n c k = at_all test (node_cells d) n c (filter_all cell_before legged test (named_cells d.size) (ap (λ s. list_all test (named_cells s)) valid.size ∙ e)) k

    spiders : (kind : Kind) → all_pass (at_nodes (zx_of t d) (labels_from d ss) (is_spider kind) (is_kept_by kind)) ≡ true
    spiders kind =
        nodes_pass t d (pauli_at ss) (is_spider kind) (is_kept_by kind) drawn.pipe_order
        (λ n c k. spider_passes t d ss kind c (at_all legged (node_cells d) n c (filter_passes legged (named_cells d.size)) k) (rule (has_no_three_axes t d) valid.axes n c k) (rule (colours_match t d) valid.colours n c k) (rule (sheets_join_at t d ss) serves.joints n c k))
