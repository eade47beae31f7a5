-- The number of a node, by its cell.
use Rattle.std.proofs.Common.{◌≡◌, ℕ, zero, suc, ◌+◌, Bool, true, false, cond, not, nat_eq, List, [], ◌∷◌, Some, refl, sym, ap, ◌∙◌, arith, inl, inr}
use Rattle.std.specs.List.{list_all, slice_get}
use Rattle.std.proofs.lemmas.Bool.{and_parts, cases_Bool, both_ways, ne_eqb, eq-eqb, eqb-true, false_from_ne_true}
use Rattle.las_base.specs.declared.Cell.{Cell}
use Rattle.las_base.specs.Cells.{same_cell, cell_before, rises}
use Rattle.las_base.proofs.Rising.{all_rise, rises-filter}
use Rattle.grid_box.specs.Drawings.{Drawing}
use Rattle.grid_box.specs.Legs.{legs}
use Rattle.grid_box.specs.PipeRules.{is_bare, named_cells}
use Rattle.grid_box.proofs.ScanLemmas.{same_cell-is, not_before_itself}
use Rattle.zx_graph.specs.Graphs.{first_index, node_cells, node_number}
use Rattle.zx_graph.proofs.NumberLemmas.{at_all}

-- a cell is not the same as one after it
apart : (x c : Cell) → cell_before x c ≡ true → same_cell x c ≡ false
apart x c b = false_from_ne_true (same_cell x c) (λ e. both_ways (cell_before x c) (ap (cell_before x) (sym (same_cell-is x c e)) ∙ not_before_itself x) b)

-- in an ordered list a cell's place is the number of the cell that it is
pub place_is : (cs : List Cell) (n : ℕ) (c y : Cell) → rises cell_before cs ≡ true → slice_get cs n ≡ Some c → nat_eq (first_index (same_cell y) cs) n ≡ same_cell y c
place_is [] n c y up e = cc
place_is (x ∷ xs) zero c y up e =
    let is : x ≡ c = cc in
    at (same_cell y x) refl is
  where
    at : (b : Bool) → same_cell y x ≡ b → x ≡ c → nat_eq (cond b 0 (first_index (same_cell y) xs + 1)) 0 ≡ same_cell y c
    at true d is = sym (ap (same_cell y) (sym is) ∙ d)
    at false d is = ne_eqb (first_index (same_cell y) xs + 1) 0 (λ h. let w : first_index (same_cell y) xs + 1 ≡ 0 = h in omega arith) ∙ sym (ap (same_cell y) (sym is) ∙ d)
place_is (x ∷ xs) (suc n) c y up e =
    let parts = and_parts (list_all (cell_before x) xs) (rises cell_before xs) up in
    at (same_cell y x) refl (at_all (cell_before x) xs n c parts.0 e) (place_is xs n c y parts.1 e)
  where
    at : (b : Bool) → same_cell y x ≡ b → cell_before x c ≡ true → nat_eq (first_index (same_cell y) xs) n ≡ same_cell y c → nat_eq (cond b 0 (first_index (same_cell y) xs + 1)) (suc n) ≡ same_cell y c
    at true d before ih =
        let is : y ≡ x = same_cell-is y x d in
        ne_eqb 0 (suc n) (λ h. let w : 0 ≡ suc n = h in omega arith) ∙ sym (ap (λ z. same_cell z c) is ∙ apart x c before)
    at false d before ih = more (first_index (same_cell y) xs) n ∙ ih
      where
        more : (k m : ℕ) → nat_eq (k + 1) (suc m) ≡ nat_eq k m
        more k m = elim (cases_Bool (nat_eq k m)) as (λ _. nat_eq (k + 1) (suc m) ≡ nat_eq k m) [ inl h ↦ (let w : k ≡ m = eqb-true k m h in eq-eqb (k + 1) (suc m) (omega arith) ∙ sym h) | inr h ↦ ne_eqb (k + 1) (suc m) (λ g. let w : k + 1 ≡ suc m = g in both_ways (nat_eq k m) h (eq-eqb k m (omega arith))) ∙ sym h ]

-- the number of a cell's node
pub node_number_is : (d : Drawing) (n : ℕ) (c y : Cell) → slice_get (node_cells d) n ≡ Some c → nat_eq (node_number d y) n ≡ same_cell y c
node_number_is d n c y e = place_is (node_cells d) n c y (rises-filter cell_before (λ c. not (is_bare (legs d c))) (named_cells d.size) (all_rise (record { i = d.size.i + 1; j = d.size.j + 1; k = d.size.k + 1 }))) e
