-- The values of a diagram and its sheets show them.
use Rattle.std.proofs.Common.{◌≡◌, ℕ, zero, suc, ◌+◌, ◌*◌, ◌<◌, Bool, true, false, ◌||◌, List, [], ◌∷◌, ◌++◌, map, length, Option, Some, None, is_some, refl, sym, ap, ◌∙◌, arith}
use Rattle.std.specs.List.{flat_map, slice_get}
use Rattle.std.proofs.lemmas.List.{length-map}
use Rattle.std.specs.Option.{unwrap_or}
use Rattle.las_base.specs.declared.Axis.{Axis}
use Rattle.las_base.specs.declared.Axis.TheVariants.{I, J, K}
use Rattle.las_base.specs.declared.Way.{Way}
use Rattle.las_base.specs.declared.Way.TheVariants.{Plus, Minus}
use Rattle.las_base.specs.declared.Kind.{Kind}
use Rattle.las_base.specs.declared.Cell.{Cell}
use Rattle.las_base.specs.Axes.{same_axis, same_kind}
use Rattle.las_base.specs.Cells.{holds, index, cells, volume}
use Rattle.las_base.proofs.Blocks.{all_indexed, all_cells, slice_get-left, slice_get-right}
use Rattle.las_base.proofs.Indices.{index_below}
use Rattle.las_base.proofs.Lists.{all_found}
use Rattle.grid_box.specs.Drawings.{Pipe, Drawing, IsDrawing, pipe_at, is_pipe_at, is_y, has_lawful_kinds}
use Rattle.grid_box.specs.Legs.{kind_at, end_of_way}
use Rattle.grid_box.specs.Sheets.{Sheet, spans}
use Rattle.grid_box.specs.Surfaces.{sheet_number}
use Rattle.grid_box.proofs.LegLemmas.{found_at}
use Rattle.grid_box.proofs.SheetBitLemmas.{sheet_number-below}
use Rattle.cnf_base.specs.Literals.{values_of}
use Rattle.cnf_table.specs.Variables.{diagram_var, exist_member, colour_member}
use Rattle.cnf_table.specs.Values.{pipe_passes, members, sheet_members, values}
use Rattle.cnf_table.specs.Shown.{ShowsDiagram, ShowsSheets}

module _ {X A : Type 0} (f : X → List A) (w : ℕ) (wide : (x : X) → length (f x) ≡ w) where
  -- the element at a row and a column, where the rows come from a list
  at_block : (xs : List X) (m r : ℕ) (x : X) → slice_get xs m ≡ Some x → r < w → slice_get (flat_map f xs) (m * w + r) ≡ slice_get (f x) r
  at_block [] m r x e l = absurd (cc)
  at_block (y ∷ ys) zero r x e l =
      let is : y ≡ x = cc in
      let n : zero * w + r ≡ r = omega arith in
      ap (slice_get (f y ++ flat_map f ys)) n ∙ slice_get-left (f y) (flat_map f ys) r (omega (arith, wide y)) ∙ ap (λ z. slice_get (f z) r) is
  at_block (y ∷ ys) (suc m) r x e l =
      slice_get-right (f y) (flat_map f ys) (suc m * w + r) (m * w + r) (omega (arith, wide y)) ∙ at_block ys m r x e l

at_mapped : {X Y : Type 0} (f : X → Y) (xs : List X) (n : ℕ) (x : X) → slice_get xs n ≡ Some x → slice_get (map f xs) n ≡ Some (f x)
at_mapped f [] n x e = absurd (cc)
at_mapped f (y ∷ ys) zero x e = let is : y ≡ x = cc in ap (λ z. Some (f z)) is
at_mapped f (y ∷ ys) (suc n) x e = at_mapped f ys n x e

in_front : {X : Type 0} (xs ys : List X) (m : ℕ) (x : X) → slice_get xs m ≡ Some x → slice_get (xs ++ ys) m ≡ Some x
in_front [] ys m x e = absurd (cc)
in_front (y ∷ zs) ys zero x e = e
in_front (y ∷ zs) ys (suc m) x e = in_front zs ys m x e

module _ (d : Drawing) (sheets_by_flow : List (List Sheet)) where
  -- a member of the diagram or of a flow, at a cell of the box
  member_at : (m : ℕ) (f : Cell → Bool) (c : Cell) → slice_get (members d ++ flat_map (sheet_members d) sheets_by_flow) m ≡ Some f → holds d.size c ≡ true → values_of (values d sheets_by_flow) (m * volume d.size + index d.size c) ≡ f c
  unfolding values
  member_at m f c e h =
      ap (λ o. unwrap_or o false)
      (at_block (λ g. map g (cells d.size)) (volume d.size) (λ g. length-map (cells d.size) g ∙ all_cells d.size) (members d ++ flat_map (sheet_members d) sheets_by_flow) m (index d.size c) f e (index_below d.size c h)
      ∙ at_mapped f (cells d.size) (index d.size c) c (all_indexed d.size c h))

  diagram_at : (m : ℕ) (f : Cell → Bool) (c : Cell) → slice_get (members d) m ≡ Some f → holds d.size c ≡ true → values_of (values d sheets_by_flow) (diagram_var d.size m c) ≡ f c
  diagram_at m f c e h = member_at m f c (in_front (members d) (flat_map (sheet_members d) sheets_by_flow) m f e) h

  exist_at : (a : Axis) → slice_get (members d) (exist_member a) ≡ Some (λ c. is_some (pipe_at d a c))
  exist_at I = refl
  exist_at J = refl
  exist_at K = refl

  sheet_at : (ss : List Sheet) (a b : Axis) → same_axis a b ≡ false → slice_get (sheet_members d ss) (sheet_number a b) ≡ Some (λ c. pipe_passes (pipe_at d a c) (λ p. spans ss p b))
  sheet_at ss I I e = absurd (cc)
  sheet_at ss J J e = absurd (cc)
  sheet_at ss K K e = absurd (cc)
  sheet_at ss I J e = refl
  sheet_at ss I K e = refl
  sheet_at ss J I e = refl
  sheet_at ss J K e = refl
  sheet_at ss K I e = refl
  sheet_at ss K J e = refl

  same_kind-is : (k l : Kind) → same_kind k l ≡ true → k ≡ l
  same_kind-is Kind.X Kind.X e = refl
  same_kind-is Kind.Z Kind.Z e = refl
  same_kind-is Kind.X Kind.Z e = cc
  same_kind-is Kind.Z Kind.X e = cc

  -- the low and the high end of an I pipe or a J pipe have one colour
  one_colour : IsDrawing d → (a : Axis) (c : Cell) → same_axis a K ≡ false → pipe_passes (pipe_at d a c) (λ q. same_kind q.low Kind.Z) ≡ pipe_passes (pipe_at d a c) (λ q. same_kind q.high Kind.Z)
  one_colour drawn a c other = by_pipe (pipe_at d a c) refl
    where
      by_pipe : (o : Option Pipe) → pipe_at d a c ≡ o → pipe_passes o (λ q. same_kind q.low Kind.Z) ≡ pipe_passes o (λ q. same_kind q.high Kind.Z)
      by_pipe None e = refl
      by_pipe (Some q) e =
          let lawful : has_lawful_kinds q ≡ true = all_found has_lawful_kinds (is_pipe_at a c) d.pipes q drawn.kinds e in
          let along : same_axis q.axis K ≡ false = ap (λ x. same_axis x K) (found_at d a c q e).0 ∙ other in
          let same : same_kind q.low q.high ≡ true = ap (λ b. b || same_kind q.low q.high) (sym along) ∙ lawful in
          ap (λ k. same_kind k Kind.Z) (same_kind-is q.low q.high same)

  pub shows_diagram : IsDrawing d → ShowsDiagram d.size d (values_of (values d sheets_by_flow))
  shows_diagram drawn = record {
    y_cells = λ c h. diagram_at 0 (is_y d) c refl h;
    pipes = λ a c h. diagram_at (exist_member a) (λ y. is_some (pipe_at d a y)) c (exist_at a) h;
    colours = λ p c h. colour p.0 p.1 c h;
  }
    where
      colour : (a : Axis) (w : Way) (c : Cell) → holds d.size c ≡ true → values_of (values d sheets_by_flow) (diagram_var d.size (colour_member (a, w)) c) ≡ pipe_passes (pipe_at d a c) (λ q. same_kind (kind_at q (end_of_way w)) Kind.Z)
      colour I Plus c h = diagram_at 4 (λ y. pipe_passes (pipe_at d I y) (λ q. same_kind q.low Kind.Z)) c refl h
      colour I Minus c h = diagram_at 4 (λ y. pipe_passes (pipe_at d I y) (λ q. same_kind q.low Kind.Z)) c refl h ∙ one_colour drawn I c refl
      colour J Plus c h = diagram_at 5 (λ y. pipe_passes (pipe_at d J y) (λ q. same_kind q.low Kind.Z)) c refl h
      colour J Minus c h = diagram_at 5 (λ y. pipe_passes (pipe_at d J y) (λ q. same_kind q.low Kind.Z)) c refl h ∙ one_colour drawn J c refl
      colour K Plus c h = diagram_at 6 (λ y. pipe_passes (pipe_at d K y) (λ q. same_kind q.low Kind.Z)) c refl h
      colour K Minus c h = diagram_at 7 (λ y. pipe_passes (pipe_at d K y) (λ q. same_kind q.high Kind.Z)) c refl h

  pub shows_sheets : (flow : ℕ) (ss : List Sheet) → slice_get sheets_by_flow flow ≡ Some ss → ShowsSheets d.size d flow ss (values_of (values d sheets_by_flow))
  shows_sheets flow ss e = record {
    sheets = λ a b other c h.
        let n : flow * 6 + sheet_number a b ≡ 6 * flow + sheet_number a b = omega arith in
        let there : slice_get (flat_map (sheet_members d) sheets_by_flow) (flow * 6 + sheet_number a b) ≡ Some (λ c. pipe_passes (pipe_at d a c) (λ p. spans ss p b)) =
        at_block (sheet_members d) 6 (λ x. refl) sheets_by_flow flow (sheet_number a b) ss e (sheet_number-below a b) ∙ sheet_at ss a b other in
        member_at (8 + (6 * flow + sheet_number a b)) (λ c. pipe_passes (pipe_at d a c) (λ p. spans ss p b)) c
        (slice_get-right (members d) (flat_map (sheet_members d) sheets_by_flow) (8 + (6 * flow + sheet_number a b)) (6 * flow + sheet_number a b) refl ∙ ap (slice_get (flat_map (sheet_members d) sheets_by_flow)) (sym n) ∙ there)
        h;
  }
