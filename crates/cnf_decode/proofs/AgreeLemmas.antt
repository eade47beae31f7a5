-- Values that show a diagram with its sheets are the values of these.
use Rattle.std.proofs.Common.{◌≡◌, ℕ, zero, suc, ◌+◌, ◌*◌, ◌/◌, ◌%◌, ◌<◌, Bool, true, false, List, [], ◌∷◌, ◌++◌, map, length, get_or, Some, slice_get, refl, sym, ap, ap₂, ◌∙◌, arith}
use Rattle.std.specs.List.{flat_map}
use Rattle.std.proofs.lemmas.List.{length-map, length-append}
use Rattle.std.proofs.lemmas.Nat.{div-add-mod', div_below, mod_below}
use Rattle.std.proofs.lemmas.Option.{slice_get-get_or}
use Rattle.las_base.specs.declared.Axis.{Axis}
use Rattle.las_base.specs.declared.Axis.TheVariants.{I, J, K}
use Rattle.las_base.specs.declared.Way.TheVariants.{Plus, Minus}
use Rattle.las_base.specs.declared.Cell.{Cell}
use Rattle.las_base.specs.declared.Size.{Size}
use Rattle.las_base.specs.Axes.{same_axis}
use Rattle.las_base.specs.Cells.{holds, index, cells, volume}
use Rattle.las_base.proofs.Blocks.{all_cells}
use Rattle.las_base.proofs.Indices.{cell_at, cell_at_held, index-cell_at}
use Rattle.grid_box.specs.Drawings.{Drawing, IsDrawing}
use Rattle.grid_box.specs.Sheets.{Sheet}
use Rattle.grid_box.specs.Surfaces.{sheet_number}
use Rattle.cnf_base.specs.Literals.{Values, values_of}
use Rattle.cnf_table.specs.Values.{members, sheet_members, values}
use Rattle.cnf_table.specs.Shown.{AreShown}
use Rattle.cnf_table.proofs.TableLemmas.{values_show}

same_list : (xs ys : List Bool) → length xs ≡ length ys → ((n : ℕ) → n < length xs → values_of xs n ≡ values_of ys n) → xs ≡ ys
same_list [] [] long same = refl
same_list [] (y ∷ ys) long same = absurd (omega arith)
same_list (x ∷ xs) [] long same = absurd (omega arith)
same_list (x ∷ xs) (y ∷ ys) long same = ap₂ (λ z zs. z ∷ zs) (same 0 (omega arith)) (same_list xs ys (omega arith) (λ n low. same (suc n) (omega arith)))

length-rows : {X Y : Type 0} (f : X → List Y) (w : ℕ) → ((x : X) → length (f x) ≡ w) → (xs : List X) → length (flat_map f xs) ≡ length xs * w
length-rows f w wide [] = omega arith
length-rows f w wide (x ∷ xs) = length-append (f x) (flat_map f xs) ∙ omega (arith, wide x, length-rows f w wide xs)

length-values : (d : Drawing) (sss : List (List Sheet)) → length (values d sss) ≡ (8 + 6 * length sss) * volume d.size
unfolding values
length-values d sss =
    length-rows (λ g. map g (cells d.size)) (volume d.size) (λ g. length-map (cells d.size) g ∙ all_cells d.size) (members d ++ flat_map (sheet_members d) sss)
    ∙ ap (λ n. n * volume d.size) (length-append (members d) (flat_map (sheet_members d) sss) ∙ ap (λ n. 8 + n) (length-rows (sheet_members d) 6 (λ ss. refl) sss) ∙ rows)
  where
    rows : 8 + length sss * 6 ≡ 8 + 6 * length sss
    rows = omega arith

-- the axes of a sheet by the number of its member
sheet_of : (j : ℕ) → j < 6 → (a : Axis) × (b : Axis) × (same_axis a b ≡ false) × (sheet_number a b ≡ j)
sheet_of zero low = (I, J, refl, refl)
sheet_of (suc zero) low = (I, K, refl, refl)
sheet_of (suc (suc zero)) low = (J, I, refl, refl)
sheet_of (suc (suc (suc zero))) low = (J, K, refl, refl)
sheet_of (suc (suc (suc (suc zero)))) low = (K, I, refl, refl)
sheet_of (suc (suc (suc (suc (suc zero))))) low = (K, J, refl, refl)
sheet_of (suc (suc (suc (suc (suc (suc j)))))) low = absurd (omega arith)

module _ (s : Size) (d : Drawing) (sss : List (List Sheet)) (v w : Values) (one : AreShown s d sss v) (other : AreShown s d sss w) where
  by_member : (m : ℕ) (c : Cell) → holds s c ≡ true → m < 8 + 6 * length sss → v (m * volume s + index s c) ≡ w (m * volume s + index s c)
  by_member zero c h low = one.diagram.y_cells c h ∙ sym (other.diagram.y_cells c h)
  by_member (suc zero) c h low = one.diagram.pipes I c h ∙ sym (other.diagram.pipes I c h)
  by_member (suc (suc zero)) c h low = one.diagram.pipes J c h ∙ sym (other.diagram.pipes J c h)
  by_member (suc (suc (suc zero))) c h low = one.diagram.pipes K c h ∙ sym (other.diagram.pipes K c h)
  by_member (suc (suc (suc (suc zero)))) c h low = one.diagram.colours (I, Plus) c h ∙ sym (other.diagram.colours (I, Plus) c h)
  by_member (suc (suc (suc (suc (suc zero))))) c h low = one.diagram.colours (J, Plus) c h ∙ sym (other.diagram.colours (J, Plus) c h)
  by_member (suc (suc (suc (suc (suc (suc zero)))))) c h low = one.diagram.colours (K, Plus) c h ∙ sym (other.diagram.colours (K, Plus) c h)
  by_member (suc (suc (suc (suc (suc (suc (suc zero))))))) c h low = one.diagram.colours (K, Minus) c h ∙ sym (other.diagram.colours (K, Minus) c h)
  by_member (suc (suc (suc (suc (suc (suc (suc (suc k)))))))) c h low =
      let x = sheet_of (k % 6) (omega arith) in
      let flow_low : k / 6 < length sss = omega arith in
      let there : slice_get sss (k / 6) ≡ Some (get_or sss (k / 6) []) = slice_get-get_or sss (k / 6) [] flow_low in
      let member : 8 + (6 * (k / 6) + k % 6) ≡ suc (suc (suc (suc (suc (suc (suc (suc k))))))) = omega arith in
      let number : 8 + (6 * (k / 6) + sheet_number x.0 x.1) ≡ suc (suc (suc (suc (suc (suc (suc (suc k))))))) = ap (λ j. 8 + (6 * (k / 6) + j)) x.3 ∙ member in
      ap (λ n. v (n * volume s + index s c)) (sym number)
      ∙ (one.sheets (k / 6) (get_or sss (k / 6) []) there).sheets x.0 x.1 x.2 c h
      ∙ sym ((other.sheets (k / 6) (get_or sss (k / 6) []) there).sheets x.0 x.1 x.2 c h)
      ∙ ap (λ n. w (n * volume s + index s c)) number

  -- values that show the same agree at each variable
  agree_at : (n : ℕ) → n < (8 + 6 * length sss) * volume s → v n ≡ w n
  agree_at n low =
      let some : 0 < volume s = room (volume s) low in
      let row : n / volume s < 8 + 6 * length sss = div_below n (volume s) (8 + 6 * length sss) some low in
      let rest : n % volume s < volume s = mod_below n (volume s) some in
      let whole : n / volume s * volume s + index s (cell_at s (n % volume s)) ≡ n = ap (λ r. n / volume s * volume s + r) (index-cell_at s (n % volume s)) ∙ div-add-mod' n (volume s) in
      ap v (sym whole) ∙ by_member (n / volume s) (cell_at s (n % volume s)) (cell_at_held s (n % volume s) rest) row ∙ ap w whole
    where
      room : (k : ℕ) → n < (8 + 6 * length sss) * k → 0 < k
      room zero l = absurd (omega arith)
      room (suc k) l = omega arith

-- the list of such values is that of the diagram and its sheets
pub shown_are_values : (d : Drawing) (sss : List (List Sheet)) (bs : List Bool) → IsDrawing d → length bs ≡ (8 + 6 * length sss) * volume d.size → AreShown d.size d sss (values_of bs) → values d sss ≡ bs
shown_are_values d sss bs drawn long shown =
    same_list (values d sss) bs (length-values d sss ∙ sym long)
    (λ n low. agree_at d.size d sss (values_of (values d sss)) (values_of bs) (values_show d sss drawn) shown n (rw (length-values d sss) at low))
