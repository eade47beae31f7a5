-- What the values say at a cell, and what the diagram says there.
use Rattle.std.proofs.Common.{◌≡◌, ℕ, Bool, true, false, cond, ◌&&◌, ◌||◌, List, [], ◌∷◌, map, Option, Some, None, ◌⊎◌, inl, inr, refl, sym, ap, ◌∙◌}
use Rattle.std.specs.List.{list_all, list_any, filter, filter_map, cons_option}
use Rattle.std.specs.Option.{option_map, option_and_then, option_map_or, is_some}
use Rattle.std.proofs.lemmas.Bool.{and_parts, both_ways}
use Rattle.las_base.specs.declared.Axis.{Axis}
use Rattle.las_base.specs.declared.Kind.{Kind}
use Rattle.las_base.specs.declared.Cell.{Cell}
use Rattle.las_base.specs.declared.Size.{Size}
use Rattle.las_base.specs.Axes.{same_axis, same_kind, kind_by}
use Rattle.las_base.specs.Cells.{holds, low_cell, same_cell}
use Rattle.las_base.proofs.Same.{same_cell-is, kind_by-same}
use Rattle.las_base.proofs.Lists.{all_found}
use Rattle.grid_box.specs.declared.Leg.{Leg}
use Rattle.grid_box.specs.Drawings.{Pipe, Drawing, IsDrawing, pipe_at, is_pipe_at, is_y}
use Rattle.grid_box.specs.Legs.{Position, PipeEnd, positions, pipe_end_at, pipe_ends, legs, leg_of, kind_at, end_of_way}
use Rattle.grid_box.specs.Sheets.{Sheet, spans}
use Rattle.grid_box.proofs.LegLemmas.{found_at, map-filter_map}
use Rattle.cnf_base.specs.Literals.{Values}
use Rattle.cnf_table.specs.Positions.{low_of, exists_in}
use Rattle.cnf_table.specs.Variables.{pipe_var_at, colour_var_at, sheet_var_at}
use Rattle.cnf_table.specs.Values.{pipe_passes}
use Rattle.cnf_table.specs.Shown.{ShowsDiagram, ShowsSheets}
use Rattle.cnf_table.proofs.CellLemmas.{low_case}

-- a pipe of the diagram stands at the position
abbrev pub stands : Drawing → Cell → Position → Bool
stands d c p = is_some (pipe_end_at d c p)

-- the leg at a position, by whether its colour is Z
abbrev pub leg_by : (Position → Bool) → Position → Leg
leg_by z p = record { axis = p.0; which = end_of_way p.1; kind_next = kind_by (z p) }

is_some-map : {X Y : Type 0} (f : X → Y) (o : Option X) → is_some (option_map f o) ≡ is_some o
is_some-map f None = refl
is_some-map f (Some x) = refl

none_listed : (g : Cell → Bool) (c : Cell) (xs : List Cell) → list_all g xs ≡ true → g c ≡ false → list_any (same_cell c) xs ≡ false
none_listed g c [] all out = refl
none_listed g c (x ∷ xs) all out =
    let p = and_parts (g x) (list_all g xs) all in
    by_test (same_cell c x) refl p.0 (none_listed g c xs p.1 out)
  where
    by_test : (b : Bool) → same_cell c x ≡ b → g x ≡ true → list_any (same_cell c) xs ≡ false → (b || list_any (same_cell c) xs) ≡ false
    by_test true t h ih = absurd (both_ways (g x) (ap g (sym (same_cell-is c x t)) ∙ out) h)
    by_test false t h ih = ih

filter_map-cond : {X Y : Type 0} (f : X → Bool) (g : X → Y) (xs : List X) → filter_map (λ x. cond (f x) (Some (g x)) None) xs ≡ map g (filter f xs)
filter_map-cond f g [] = refl
filter_map-cond f g (x ∷ xs) = by_test (f x) (filter_map-cond f g xs)
  where
    by_test : (b : Bool) → filter_map (λ x. cond (f x) (Some (g x)) None) xs ≡ map g (filter f xs) → cons_option (cond b (Some (g x)) None) (filter_map (λ x. cond (f x) (Some (g x)) None) xs) ≡ map g (cond b (x ∷ filter f xs) (filter f xs))
    by_test true ih = ap (λ ys. g x ∷ ys) ih
    by_test false ih = ih

-- the end that stands at a position is that of the pipe with the position's low cell
pub end_told : (d : Drawing) (c : Cell) (p : Position) (e : PipeEnd) → pipe_end_at d c p ≡ Some e → (low_cell c p.0 p.1 ≡ Some (low_of c p)) × (pipe_at d p.0 (low_of c p) ≡ Some e.pipe) × (e.which ≡ end_of_way p.1)
end_told d c p e f = by_low (low_case c p) f
  where
    end_of : Pipe → PipeEnd
    end_of q = record { pipe = q; which = end_of_way p.1 }

    by_pipe : low_cell c p.0 p.1 ≡ Some (low_of c p) → (o : Option Pipe) → pipe_at d p.0 (low_of c p) ≡ o → option_map (λ q. let x : PipeEnd = record { pipe = q; which = end_of_way p.1 } in x) o ≡ Some e → (low_cell c p.0 p.1 ≡ Some (low_of c p)) × (pipe_at d p.0 (low_of c p) ≡ Some e.pipe) × (e.which ≡ end_of_way p.1)
    by_pipe low None h g = absurd (cc)
    by_pipe low (Some q) h g =
        let same : (let x : PipeEnd = record { pipe = q; which = end_of_way p.1 } in x) ≡ e = cc in
        (low, h ∙ ap (λ x. Some x.pipe) same, sym (ap (λ x. x.which) same))

    by_low : (low_cell c p.0 p.1 ≡ None) ⊎ (low_cell c p.0 p.1 ≡ Some (low_of c p)) → option_map (λ q. let x : PipeEnd = record { pipe = q; which = end_of_way p.1 } in x) (option_and_then (pipe_at d p.0) (low_cell c p.0 p.1)) ≡ Some e → (low_cell c p.0 p.1 ≡ Some (low_of c p)) × (pipe_at d p.0 (low_of c p) ≡ Some e.pipe) × (e.which ≡ end_of_way p.1)
    by_low (inl none) g = let h = rw none at g in absurd (cc)
    by_low (inr low) g = by_pipe low (pipe_at d p.0 (low_of c p)) refl (rw low at g)

module _ (d : Drawing) (c : Cell) {X : Type 0} (f : PipeEnd → X) (g : Position → X) (same : (p : Position) (e : PipeEnd) → pipe_end_at d c p ≡ Some e → f e ≡ g p) where
  -- what is told of each pipe that stands at a cell, by positions
  pub ends_are : map f (pipe_ends d c) ≡ map g (filter (stands d c) positions)
  ends_are = map-filter_map (pipe_end_at d c) f positions ∙ (λ i. filter_map (λ p. at p i) positions) ∙ filter_map-cond (stands d c) g positions
    where
      by_end : (p : Position) (o : Option PipeEnd) → pipe_end_at d c p ≡ o → option_map f o ≡ cond (is_some o) (Some (g p)) None
      by_end p None h = refl
      by_end p (Some e) h = ap Some (same p e h)

      at : (p : Position) → option_map f (pipe_end_at d c p) ≡ cond (stands d c p) (Some (g p)) None
      at p = by_end p (pipe_end_at d c p) refl

module _ (s : Size) (d : Drawing) (v : Values) (drawn : IsDrawing d) (size : d.size ≡ s) where
  pub pipe_held : (a : Axis) (x : Cell) (p : Pipe) → pipe_at d a x ≡ Some p → holds s x ≡ true
  pipe_held a x p e =
      ap (holds s) (sym (found_at d a x p e).1) ∙ ap (λ z. holds z p.cell) (sym size) ∙ all_found (λ q. holds d.size q.cell) (is_pipe_at a x) d.pipes p drawn.in_box e

  pub pipe_outside : (a : Axis) (x : Cell) → holds s x ≡ false → pipe_at d a x ≡ None
  pipe_outside a x out = by_pipe (pipe_at d a x) refl
    where
      by_pipe : (o : Option Pipe) → pipe_at d a x ≡ o → o ≡ None
      by_pipe None e = refl
      by_pipe (Some p) e = absurd (both_ways (holds s x) out (pipe_held a x p e))

  pub y_outside : (c : Cell) → holds s c ≡ false → is_y d c ≡ false
  y_outside c out = none_listed (holds d.size) c d.y_cells drawn.y_cells_in_box (ap (λ z. holds z c) size ∙ out)

  module _ (shows : ShowsDiagram s d v) where
    -- a pipe at a position, by the values and by the diagram
    pub stands_is : (c : Cell) (p : Position) → (exists_in s c p && v (pipe_var_at s c p)) ≡ stands d c p
    stands_is c p = by_low (low_cell c p.0 p.1) (low_case c p)
      where
        end_of : Pipe → PipeEnd
        end_of q = record { pipe = q; which = end_of_way p.1 }

        by_box : (b : Bool) → holds s (low_of c p) ≡ b → (b && v (pipe_var_at s c p)) ≡ is_some (option_map (λ q. let x : PipeEnd = record { pipe = q; which = end_of_way p.1 } in x) (pipe_at d p.0 (low_of c p)))
        by_box true h = shows.pipes p.0 (low_of c p) h ∙ sym (is_some-map (λ q. let x : PipeEnd = record { pipe = q; which = end_of_way p.1 } in x) (pipe_at d p.0 (low_of c p)))
        by_box false h = sym (ap (λ o. is_some (option_map (λ q. let x : PipeEnd = record { pipe = q; which = end_of_way p.1 } in x) o)) (pipe_outside p.0 (low_of c p) h))

        by_low : (o : Option Cell) → (o ≡ None) ⊎ (o ≡ Some (low_of c p)) → (option_map_or (holds s) o false && v (pipe_var_at s c p)) ≡ is_some (option_map (λ q. let x : PipeEnd = record { pipe = q; which = end_of_way p.1 } in x) (option_and_then (pipe_at d p.0) o))
        by_low o (inl e) = rw e refl
        by_low o (inr e) = rw e (by_box (holds s (low_of c p)) refl)

    leg_is : (c : Cell) (p : Position) (e : PipeEnd) → pipe_end_at d c p ≡ Some e → leg_of e ≡ leg_by (λ q. v (colour_var_at s c q)) p
    leg_is c p e f =
        let told = end_told d c p e f in
        let at = found_at d p.0 (low_of c p) e.pipe told.1 in
        let held : holds s (low_of c p) ≡ true = pipe_held p.0 (low_of c p) e.pipe told.1 in
        let colour : v (colour_var_at s c p) ≡ same_kind (kind_at e.pipe (end_of_way p.1)) Kind.Z =
        shows.colours p (low_of c p) held ∙ ap (λ o. pipe_passes o (λ q. same_kind (kind_at q (end_of_way p.1)) Kind.Z)) told.1 in
        let kind : kind_at e.pipe e.which ≡ kind_by (v (colour_var_at s c p)) =
        ap (kind_at e.pipe) told.2 ∙ sym (kind_by-same (kind_at e.pipe (end_of_way p.1))) ∙ ap kind_by (sym colour) in
        λ i. record { axis = at.0 i; which = told.2 i; kind_next = kind i }

    -- the legs of a cell, by positions
    pub legs_are : (c : Cell) → legs d c ≡ map (leg_by (λ q. v (colour_var_at s c q))) (filter (stands d c) positions)
    legs_are c = ends_are d c leg_of (leg_by (λ q. v (colour_var_at s c q))) (leg_is c)

    module _ (flow : ℕ) (ss : List Sheet) (sheets : ShowsSheets s d flow ss v) where
      -- the sheet of a pipe that stands at a position
      pub span_is : (c : Cell) (b : Axis) (p : Position) (e : PipeEnd) → pipe_end_at d c p ≡ Some e → same_axis p.0 b ≡ false → spans ss e.pipe b ≡ v (sheet_var_at s flow c p b)
      span_is c b p e f other =
          let told = end_told d c p e f in
          let held : holds s (low_of c p) ≡ true = pipe_held p.0 (low_of c p) e.pipe told.1 in
          sym (sheets.sheets p.0 b other (low_of c p) held ∙ ap (λ o. pipe_passes o (λ q. spans ss q b)) told.1)

      -- where no pipe stands there is no sheet
      pub sheet_stands : (c : Cell) (b : Axis) (p : Position) → same_axis p.0 b ≡ false → (exists_in s c p && v (sheet_var_at s flow c p b)) ≡ (stands d c p && v (sheet_var_at s flow c p b))
      sheet_stands c b p other = by_low (low_cell c p.0 p.1) refl (low_case c p) (stands_is c p)
        where
          by_pipe : (o : Option Pipe) → v (pipe_var_at s c p) ≡ is_some o → v (sheet_var_at s flow c p b) ≡ pipe_passes o (λ q. spans ss q b) → v (sheet_var_at s flow c p b) ≡ (v (pipe_var_at s c p) && v (sheet_var_at s flow c p b))
          by_pipe None e f = rw (e, f) refl
          by_pipe (Some q) e f = rw e refl

          by_box : (h : Bool) → holds s (low_of c p) ≡ h → (h && v (pipe_var_at s c p)) ≡ stands d c p → (h && v (sheet_var_at s flow c p b)) ≡ (stands d c p && v (sheet_var_at s flow c p b))
          by_box true h is = by_pipe (pipe_at d p.0 (low_of c p)) (shows.pipes p.0 (low_of c p) h) (sheets.sheets p.0 b other (low_of c p) h) ∙ ap (λ x. x && v (sheet_var_at s flow c p b)) is
          by_box false h is = ap (λ x. x && v (sheet_var_at s flow c p b)) is

          by_low : (o : Option Cell) → low_cell c p.0 p.1 ≡ o → (o ≡ None) ⊎ (o ≡ Some (low_of c p)) → (option_map_or (holds s) o false && v (pipe_var_at s c p)) ≡ stands d c p → (option_map_or (holds s) o false && v (sheet_var_at s flow c p b)) ≡ (stands d c p && v (sheet_var_at s flow c p b))
          by_low None low (inl e) is = ap (λ x. x && v (sheet_var_at s flow c p b)) is
          by_low (Some x) low (inl e) is = absurd (cc)
          by_low None low (inr e) is = absurd (cc)
          by_low (Some x) low (inr e) is = let same : x ≡ low_of c p = cc in by_box (holds s x) (ap (holds s) (sym same)) is
