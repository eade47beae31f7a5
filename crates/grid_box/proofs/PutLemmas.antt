-- Pipes, Y cells and sheets that are put one after another, cell by cell.
use Rattle.std.proofs.Common.{◌≡◌, ℕ, zero, suc, ◌+◌, ◌<◌, ◌≤◌, Bool, true, false, cond, ◌&&◌, ◌||◌, nat_lt, nat_eq, ◌⊎◌, inl, inr, List, [], replicate, Some, None, refl, sym, ap, ◌∙◌, arith, add-one}
use Rattle.std.specs.Prelude.{slice_index_or}
use Rattle.std.specs.List.{list_any, find}
use Rattle.std.proofs.lemmas.Bool.{cases_Bool, lt-ltb, le-ltb, ltb-true, ltb-false, eqb-true, eqb-false}
use Rattle.std.proofs.Math.Bool.{and-false, or-false}
use Rattle.las_base.specs.declared.Axis.{Axis}
use Rattle.las_base.specs.declared.Axis.TheVariants.{I, J, K}
use Rattle.las_base.specs.declared.Cell.{Cell}
use Rattle.las_base.specs.declared.Size.{Size}
use Rattle.las_base.specs.Axes.{same_axis}
use Rattle.las_base.specs.Cells.{holds, volume, index, same_cell}
use Rattle.las_base.proofs.Same.{same_cell-is, same_cell-sym}
use Rattle.las_base.proofs.Passing.{passed, passed_none, passed_more, passed_same, passed_all}
use Rattle.grid_box.specs.Drawings.{Pipe, Drawing, IsDrawing, drawing_of, is_pipe_at, pipe_at, is_y}
use Rattle.grid_box.specs.LookUps.{IsBuilt, PutsPipes, PutsY, PutsYCells}
use Rattle.grid_box.specs.Sheets.{Sheet}
use Rattle.grid_box.specs.Surfaces.{Surfaces, PutsFlow, PutsSheet, PutsSheets, has_sheet, is_along, sheets_of, surfaces_of}

-- ---- pipes

-- the pipes of the first n cells are put
abbrev pub PutsSomePipes : Size → ℕ → Axis → (Cell → Bool) → (Cell → Pipe) → Drawing → Drawing → Type 0
PutsSomePipes s n axis exist made old new = (a : Axis) (c : Cell) → pipe_at new a c ≡ cond (same_axis axis a && passed s n exist c) (Some (made c)) (pipe_at old a c)

module _ (s : Size) (axis : Axis) (exist : Cell → Bool) (made : Cell → Pipe) where
  pub no_pipes : (d : Drawing) → PutsSomePipes s 0 axis exist made d d
  no_pipes d a c = rw (passed_none s exist c, and-false (same_axis axis a)) refl

  pub pipe_put : (n : ℕ) (cell : Cell) (old mid new : Drawing) → exist cell ≡ true → holds s cell ≡ true → index s cell ≡ n → PutsSomePipes s n axis exist made old mid
      → ((a : Axis) (c : Cell) → pipe_at new a c ≡ cond (same_axis axis a && same_cell cell c) (Some (made cell)) (pipe_at mid a c)) → PutsSomePipes s (n + 1) axis exist made old new
  pipe_put n cell old mid new one held at before puts a c =
      rw (add-one, passed_more s exist n cell held at c, one) (puts a c ∙ rw (before a c) (by_tests (same_axis axis a) (same_cell cell c) refl))
    where
      by_tests : (t u : Bool) → same_cell cell c ≡ u → cond (t && u) (Some (made cell)) (cond (t && passed s n exist c) (Some (made c)) (pipe_at old a c)) ≡ cond (t && cond u true (passed s n exist c)) (Some (made c)) (pipe_at old a c)
      by_tests false u w = refl
      by_tests true true w = ap (λ d. Some (made d)) (same_cell-is cell c w)
      by_tests true false w = refl

  pub no_pipe_put : (n : ℕ) (cell : Cell) (old mid : Drawing) → exist cell ≡ false → holds s cell ≡ true → index s cell ≡ n → PutsSomePipes s n axis exist made old mid → PutsSomePipes s (n + 1) axis exist made old mid
  no_pipe_put n cell old mid none held at before a c = rw (add-one, passed_same s exist n cell held at none c) (before a c)

  pub pipes_put : (n : ℕ) (old new : Drawing) → volume s ≤ n → PutsSomePipes s n axis exist made old new → PutsPipes s axis exist made old new
  pipes_put n old new end before a c = before a c ∙ ap (λ b. cond (same_axis axis a && b) (Some (made c)) (pipe_at old a c)) (passed_all s exist n end c)

-- ---- Y cells

abbrev pub PutsSomeY : Size → ℕ → (Cell → Bool) → Drawing → Drawing → Type 0
PutsSomeY s n test old new = (c : Cell) → is_y new c ≡ (passed s n test c || is_y old c)

module _ (s : Size) (test : Cell → Bool) where
  pub no_y : (d : Drawing) → PutsSomeY s 0 test d d
  no_y d c = rw (passed_none s test c) refl

  pub y_put : (n : ℕ) (cell : Cell) (old mid new : Drawing) → test cell ≡ true → holds s cell ≡ true → index s cell ≡ n → PutsSomeY s n test old mid → PutsY mid new cell → PutsSomeY s (n + 1) test old new
  y_put n cell old mid new one held at before puts c =
      rw (add-one, passed_more s test n cell held at c, one) (puts c ∙ rw (same_cell-sym c cell, before c) (by_test (same_cell cell c)))
    where
      by_test : (u : Bool) → (u || (passed s n test c || is_y old c)) ≡ (cond u true (passed s n test c) || is_y old c)
      by_test true = refl
      by_test false = refl

  pub no_y_put : (n : ℕ) (cell : Cell) (old mid : Drawing) → test cell ≡ false → holds s cell ≡ true → index s cell ≡ n → PutsSomeY s n test old mid → PutsSomeY s (n + 1) test old mid
  no_y_put n cell old mid none held at before c = rw (add-one, passed_same s test n cell held at none c) (before c)

  pub ys_put : (n : ℕ) (old new : Drawing) → volume s ≤ n → PutsSomeY s n test old new → PutsYCells s test old new
  ys_put n old new end before c = before c ∙ ap (λ b. b || is_y old c) (passed_all s test n end c)

-- ---- sheets

-- the sheets of the first n cells are put
abbrev pub PutsSomeSheets : Size → ℕ → ℕ → Axis → Axis → (Cell → Bool) → Surfaces → Surfaces → Type 0
PutsSomeSheets s n flow a b test old new =
    (f : ℕ) (x : Sheet) → has_sheet (sheets_of new f) x ≡ ((nat_eq f flow && (is_along a b x && passed s n test x.cell)) || has_sheet (sheets_of old f) x)

module _ (s : Size) (flow : ℕ) (a b : Axis) (test : Cell → Bool) where
  pub no_sheets : (d : Surfaces) → PutsSomeSheets s 0 flow a b test d d
  no_sheets d f x = rw (passed_none s test x.cell, and-false (is_along a b x), and-false (nat_eq f flow)) refl

  pub sheet_put : (n : ℕ) (cell : Cell) (old mid new : Surfaces) → test cell ≡ true → holds s cell ≡ true → index s cell ≡ n → PutsSomeSheets s n flow a b test old mid → PutsSheet mid new flow (record { axis = a; cell = cell; span = b }) true → PutsSomeSheets s (n + 1) flow a b test old new
  sheet_put n cell old mid new both held at before puts f x =
      rw (add-one, passed_more s test n cell held at x.cell, both)
      (puts f x ∙ rw (before f x) (table (nat_eq f flow) (same_axis a x.axis) (same_cell cell x.cell) (same_axis b x.span) (passed s n test x.cell) (has_sheet (sheets_of old f) x)))
    where
      table : (e sa sc sb p o : Bool) → cond (e && (sa && (sc && sb))) true ((e && ((sa && sb) && p)) || o) ≡ ((e && ((sa && sb) && cond sc true p)) || o)
      table false sa sc sb p o = refl
      table true false sc sb p o = refl
      table true true true true p o = refl
      table true true true false p o = refl
      table true true false sb p o = refl

  pub no_sheet_put : (n : ℕ) (cell : Cell) (old mid : Surfaces) → test cell ≡ false → holds s cell ≡ true → index s cell ≡ n → PutsSomeSheets s n flow a b test old mid → PutsSomeSheets s (n + 1) flow a b test old mid
  no_sheet_put n cell old mid none held at before f x = rw (add-one, passed_same s test n cell held at none x.cell) (before f x)

  pub sheets_put : (n : ℕ) (old new : Surfaces) → volume s ≤ n → PutsSomeSheets s n flow a b test old new → PutsSheets s flow a b test old new
  sheets_put n old new end before f x = before f x ∙ ap (λ m. (nat_eq f flow && (is_along a b x && m)) || has_sheet (sheets_of old f) x) (passed_all s test n end x.cell)

-- ---- the diagram

module _ (exist : Axis → Cell → Bool) (made : Axis → Cell → Pipe) (y : Cell → Bool) (s : Size) where
  -- Y cells, and then the pipes along each axis
  pub puts_build : (d0 d1 d2 d3 d4 : Drawing) → d0 ≡ drawing_of s [] [] → PutsYCells s y d0 d1 → d1.pipes ≡ d0.pipes
      → PutsPipes s I (exist I) (made I) d1 d2 → d2.y_cells ≡ d1.y_cells → PutsPipes s J (exist J) (made J) d2 d3 → d3.y_cells ≡ d2.y_cells → PutsPipes s K (exist K) (made K) d3 d4 → d4.y_cells ≡ d3.y_cells
      → d4.size ≡ s → IsDrawing d4 → IsBuilt exist made y s d4
  puts_build d0 d1 d2 d3 d4 empty ys same_pipes along_i same_i along_j same_j along_k same_k size drawn = record {
    drawn = drawn;
    size = size;
    pipes = pipes;
    y_cells = λ c. ap (list_any (same_cell c)) (same_k ∙ same_j ∙ same_i) ∙ ys c ∙ ap (λ d. (holds s c && y c) || is_y d c) empty ∙ or-false (holds s c && y c);
  }
    where
      before : (a : Axis) (c : Cell) → pipe_at d1 a c ≡ None
      before a c = ap (find (is_pipe_at a c)) (same_pipes ∙ ap (λ d. d.pipes) empty)

      pipes : (a : Axis) (c : Cell) → pipe_at d4 a c ≡ cond (holds s c && exist a c) (Some (made a c)) None
      pipes I c = along_k I c ∙ along_j I c ∙ along_i I c ∙ ap (cond (holds s c && exist I c) (Some (made I c))) (before I c)
      pipes J c = along_k J c ∙ along_j J c ∙ ap (cond (holds s c && exist J c) (Some (made J c))) (along_i J c ∙ before J c)
      pipes K c = along_k K c ∙ ap (cond (holds s c && exist K c) (Some (made K c))) (along_j K c ∙ along_i K c ∙ before K c)

-- ---- all flows

empty_flows : (n f : ℕ) → slice_index_or (replicate {A = List Sheet} n []) f [] ≡ []
empty_flows zero f = refl
empty_flows (suc n) zero = refl
empty_flows (suc n) (suc f) = empty_flows n f

module _ (shows : ℕ → Sheet → Bool) where
  pub no_flows : (z : Size) (n : ℕ) (d : Surfaces) → d ≡ surfaces_of z (replicate n []) → (f : ℕ) (x : Sheet) → has_sheet (sheets_of d f) x ≡ (nat_lt f 0 && shows f x)
  no_flows z n d empty f x =
      ap (λ e. has_sheet (sheets_of e f) x) empty ∙ ap (λ ss. has_sheet ss x) (empty_flows n f) ∙ sym (ap (λ b. b && shows f x) (le-ltb f 0 (omega arith)))

  pub flow_put : (n : ℕ) (mid new : Surfaces) → ((f : ℕ) (x : Sheet) → has_sheet (sheets_of mid f) x ≡ (nat_lt f n && shows f x)) → PutsFlow n (shows n) mid new → (f : ℕ) (x : Sheet) → has_sheet (sheets_of new f) x ≡ (nat_lt f (n + 1) && shows f x)
  flow_put n mid new before puts f x =
      puts f x ∙ rw (before f x, add-one) (by_flow (nat_eq f n) refl)
    where
      other : nat_eq f n ≡ false → nat_lt f n ≡ nat_lt f (suc n)
      other e = by_test (cases_Bool (nat_lt f n))
        where
          by_test : (nat_lt f n ≡ true) ⊎ (nat_lt f n ≡ false) → nat_lt f n ≡ nat_lt f (suc n)
          by_test (inl t) = let low : f < n = ltb-true f n t in t ∙ sym (lt-ltb f (suc n) (omega arith))
          by_test (inr t) = let high : n ≤ f = ltb-false f n t in t ∙ sym (le-ltb f (suc n) (omega (arith, eqb-false f n e)))

      by_flow : (b : Bool) → nat_eq f n ≡ b → ((b && shows n x) || (nat_lt f n && shows f x)) ≡ (nat_lt f (suc n) && shows f x)
      by_flow true e =
          let same : f ≡ n = eqb-true f n e in
          rw (same, lt-ltb n (suc n) (omega arith), le-ltb n n (omega arith)) (or-false (shows n x))
      by_flow false e = ap (λ b. b && shows f x) (other e)
