-- The numbers that an edge has are those of the nodes at its pipe's cells.
use Rattle.std.proofs.Common.{◌≡◌, ℕ, zero, suc, ◌+◌, Bool, true, false, cond, ◌||◌, List, [], ◌∷◌, Some, refl, sym, ap, ap₂, ◌∙◌, subst, add-one}
use Rattle.std.specs.List.{filter, list_any, slice_get}
use Rattle.std.specs.Option.{option_map}
use Rattle.std.proofs.lemmas.Option.{slice_get-map}
use Rattle.las_base.specs.declared.Cell.{Cell}
use Rattle.las_base.specs.Cells.{same_cell, above, widened, index, holds}
use Rattle.las_base.specs.Jobs.{Task}
use Rattle.las_base.proofs.Blocks.{all_indexed}
use Rattle.las_base.proofs.Same.{same_cell-is, same_cell-refl}
use Rattle.las_base.proofs.Widened.{held_wide, held_above}
use Rattle.grid_box.specs.Drawings.{Drawing}
use Rattle.grid_box.specs.PipeRules.{named_cells}
use Rattle.grid_box.proofs.LegLemmas.{found_at}
use Rattle.zx_graph.specs.declared.nodes.Node.{Node}
use Rattle.zx_graph.specs.Graphs.{first_index, is_legged, node_cells, nodes_of, node_number, sort_at, stands_for, EdgesJoinTheirCells}
use Rattle.zx_graph.proofs.LegLemmas.{legged_low, legged_high}
use Rattle.zx_graph.proofs.PipeLemmas.{pipe_held}

-- a cell that is kept stands among those kept
kept_stands : (keep : Cell → Bool) (cs : List Cell) (n : ℕ) (c : Cell) → slice_get cs n ≡ Some c → keep c ≡ true → list_any (same_cell c) (filter keep cs) ≡ true
kept_stands keep [] n c e k = absurd (cc)
kept_stands keep (x ∷ xs) zero c e k =
    let is : x ≡ c = cc in
    ap (λ b. list_any (same_cell c) (cond b (x ∷ filter keep xs) (filter keep xs))) (ap keep is ∙ k)
    ∙ ap (λ b. b || list_any (same_cell c) (filter keep xs)) (ap (same_cell c) is ∙ same_cell-refl c)
kept_stands keep (x ∷ xs) (suc n) c e k = by_keep (keep x) (kept_stands keep xs n c e k)
  where
    or_true : (b : Bool) → (b || true) ≡ true
    or_true true = refl
    or_true false = refl

    by_keep : (b : Bool) → list_any (same_cell c) (filter keep xs) ≡ true → list_any (same_cell c) (cond b (x ∷ filter keep xs) (filter keep xs)) ≡ true
    by_keep true ih = ap (λ b. same_cell c x || b) ih ∙ or_true (same_cell c x)
    by_keep false ih = ih

-- a cell that stands in a list stands where it is first found
at_first : (cs : List Cell) (c : Cell) → list_any (same_cell c) cs ≡ true → slice_get cs (first_index (same_cell c) cs) ≡ Some c
at_first [] c e = absurd (cc)
at_first (x ∷ xs) c e = by_test (same_cell c x) refl e (at_first xs c)
  where
    by_test : (b : Bool) → same_cell c x ≡ b → (b || list_any (same_cell c) xs) ≡ true → (list_any (same_cell c) xs ≡ true → slice_get xs (first_index (same_cell c) xs) ≡ Some c) → slice_get (x ∷ xs) (cond b 0 (first_index (same_cell c) xs + 1)) ≡ Some c
    by_test true is e later = ap Some (sym (same_cell-is c x is))
    by_test false is e later = rw add-one (later e)

module _ (t : Task) (d : Drawing) where
  -- the node with the number of a cell with legs stands for this cell
  node_stands : (c : Cell) → holds (widened d.size) c ≡ true → is_legged d c ≡ true → stands_for (nodes_of t d) (node_number d c) c
  node_stands c held legged =
      let there : slice_get (node_cells d) (node_number d c) ≡ Some c = at_first (node_cells d) c (kept_stands (is_legged d) (named_cells d.size) (index (widened d.size) c) c (all_indexed (widened d.size) c held) legged) in
      let node : Cell → Node = λ x. record { cell = x; sort = sort_at t d x } in
      ap (option_map (λ x. x.cell)) (slice_get-map node (node_cells d) (node_number d c) ∙ ap (option_map node) there)

pub edges_join_their_cells : EdgesJoinTheirCells
edges_join_their_cells t d a c p are e =
    let at = found_at d a c p e in
    let held : holds d.size c ≡ true = pipe_held d are a c p e in
    let low : stands_for (nodes_of t d) (node_number d c) c = node_stands t d c (held_wide d.size c held) (legged_low d a c p e) in
    let high : stands_for (nodes_of t d) (node_number d (above a c)) (above a c) = node_stands t d (above a c) (held_above d.size a c held) (legged_high d a c p e) in (
      subst (λ x. stands_for (nodes_of t d) (node_number d x) x) (sym at.1) low,
      subst (λ x. stands_for (nodes_of t d) (node_number d x) x) (ap₂ above (sym at.0) (sym at.1)) high,
    )
