-- What look-ups give is a drawing.
use Rattle.std.proofs.Common.{◌≡◌, Bool, true, false, List, [], ◌∷◌, ◌++◌, Option, Some, None, refl, sym, ap, ◌∙◌, append-nil}
use Rattle.std.specs.List.{list_all, cons_option}
use Rattle.std.proofs.lemmas.Bool.{and_parts, and_from}
use Rattle.std.proofs.lemmas.List.Folds.{list_all-append}
use Rattle.las_base.specs.declared.Axis.{Axis}
use Rattle.las_base.specs.declared.Axis.TheVariants.{I, J, K}
use Rattle.las_base.specs.declared.Kind.{Kind}
use Rattle.las_base.specs.declared.Cell.{Cell}
use Rattle.las_base.specs.declared.Size.{Size}
use Rattle.las_base.specs.Axes.{same_axis}
use Rattle.las_base.specs.Cells.{cells, holds, cell_before, rises}
use Rattle.las_base.specs.Jobs.{within_limits}
use Rattle.las_base.proofs.Same.{same_axis-refl}
use Rattle.las_base.proofs.Blocks.{all_held}
use Rattle.las_base.proofs.Rising.{rises_join, filter_all, rises-filter, all_rise}
use Rattle.grid_box.specs.Drawings.{Pipe, IsDrawing, has_lawful_kinds, pipe_before, axis_before}
use Rattle.grid_box.specs.LookUps.{pipe_of, pipes_along, drawing_by, kinds_are_lawful}

-- a test of each pipe along an axis, by what is known of its cell and its kinds
pub all-pipes_along : (test : Pipe → Bool) (good : Cell → Bool) (a : Axis) (kinds : Cell → Option (Kind × Kind)) (cs : List Cell) → list_all good cs ≡ true → ((x : Cell) (k : Kind × Kind) → good x ≡ true → kinds x ≡ Some k → test (record { axis = a; cell = x; low = k.0; high = k.1 }) ≡ true) → list_all test (pipes_along a kinds cs) ≡ true
all-pipes_along test good a kinds [] h each = refl
all-pipes_along test good a kinds (x ∷ xs) h each =
    let p = and_parts (good x) (list_all good xs) h in
    at (kinds x) refl p.0 (all-pipes_along test good a kinds xs p.1 each)
  where
    at : (k : Option (Kind × Kind)) → kinds x ≡ k → good x ≡ true → list_all test (pipes_along a kinds xs) ≡ true → list_all test (cons_option (pipe_of a x k) (pipes_along a kinds xs)) ≡ true
    at None e g ih = ih
    at (Some k) e g ih = and_from (test (record { axis = a; cell = x; low = k.0; high = k.1 })) (list_all test (pipes_along a kinds xs)) (each x k g e) ih

-- pipes along one axis stand in the order of their cells
rises-pipes_along : (a : Axis) (kinds : Cell → Option (Kind × Kind)) (cs : List Cell) → rises cell_before cs ≡ true → rises pipe_before (pipes_along a kinds cs) ≡ true
rises-pipes_along a kinds [] h = refl
rises-pipes_along a kinds (x ∷ xs) h =
    let p = and_parts (list_all (cell_before x) xs) (rises cell_before xs) h in
    at (kinds x) p.0 (rises-pipes_along a kinds xs p.1)
  where
    at : (k : Option (Kind × Kind)) → list_all (cell_before x) xs ≡ true → rises pipe_before (pipes_along a kinds xs) ≡ true → rises pipe_before (cons_option (pipe_of a x k) (pipes_along a kinds xs)) ≡ true
    at None first ih = ih
    at (Some k) first ih =
        let p : Pipe = record { axis = a; cell = x; low = k.0; high = k.1 } in
        and_from (list_all (pipe_before p) (pipes_along a kinds xs)) (rises pipe_before (pipes_along a kinds xs)) (all-pipes_along (pipe_before p) (cell_before x) a kinds xs first (λ y m g e. rw (same_axis-refl a) g)) ih

module _ (s : Size) (kinds : Axis → Cell → Option (Kind × Kind)) where
  abbrev part : Axis → List Pipe
  part a = pipes_along a (kinds a) (cells s)

  held : list_all (holds s) (cells s) ≡ true
  held = all_held (holds s) s (λ c h. h)

  -- each pipe along an axis stands before each along a later one
  apart : (a b : Axis) → same_axis a b ≡ false → axis_before a b ≡ true → list_all (λ p. list_all (pipe_before p) (part b)) (part a) ≡ true
  apart a b other before =
      all-pipes_along (λ p. list_all (pipe_before p) (part b)) (holds s) a (kinds a) (cells s) held (λ x k g e. all-pipes_along (pipe_before (record { axis = a; cell = x; low = k.0; high = k.1 })) (holds s) b (kinds b) (cells s) held (λ y m h f. rw other before))

  part_rises : (a : Axis) → rises pipe_before (part a) ≡ true
  part_rises a = rises-pipes_along a (kinds a) (cells s) (all_rise s)

  all_three : (test : Pipe → Bool) → ((a : Axis) → list_all test (part a) ≡ true) → list_all test (part I ++ (part J ++ (part K ++ []))) ≡ true
  all_three test each =
      rw (append-nil (part K)) (list_all-append test (part I) (part J ++ part K) ∙ and_from (list_all test (part I)) (list_all test (part J ++ part K)) (each I) (list_all-append test (part J) (part K) ∙ and_from (list_all test (part J)) (list_all test (part K)) (each J) (each K)))

  later_rise : rises pipe_before (part J ++ part K) ≡ true
  later_rise = rises_join pipe_before (part J) (part K) (part_rises J) (part_rises K) (apart J K refl refl)

  -- a test of each pair, for a list of two parts
  both_parts : (xs ys zs : List Pipe) → list_all (λ p. list_all (pipe_before p) ys) xs ≡ true → list_all (λ p. list_all (pipe_before p) zs) xs ≡ true → list_all (λ p. list_all (pipe_before p) (ys ++ zs)) xs ≡ true
  both_parts [] ys zs g h = refl
  both_parts (x ∷ xs) ys zs g h =
      let p = and_parts (list_all (pipe_before x) ys) (list_all (λ p. list_all (pipe_before p) ys) xs) g in
      let q = and_parts (list_all (pipe_before x) zs) (list_all (λ p. list_all (pipe_before p) zs) xs) h in
      and_from (list_all (pipe_before x) (ys ++ zs)) (list_all (λ p. list_all (pipe_before p) (ys ++ zs)) xs) (list_all-append (pipe_before x) ys zs ∙ and_from (list_all (pipe_before x) ys) (list_all (pipe_before x) zs) p.0 q.0) (both_parts xs ys zs p.1 q.1)

  all_rise_three : rises pipe_before (part I ++ (part J ++ (part K ++ []))) ≡ true
  all_rise_three =
      rw (append-nil (part K)) (rises_join pipe_before (part I) (part J ++ part K) (part_rises I) later_rise (both_parts (part I) (part J) (part K) (apart I J refl refl) (apart I K refl refl)))

  pub drawn : (y : Cell → Bool) → within_limits s ≡ true → ((a : Axis) (c : Cell) → holds s c ≡ true → kinds_are_lawful a (kinds a c) ≡ true) → IsDrawing (drawing_by s kinds y)
  drawn y limits lawful = record {
    size = limits;
    in_box = all_three (λ p. holds s p.cell) (λ a. all-pipes_along (λ p. holds s p.cell) (holds s) a (kinds a) (cells s) held (λ x k g e. g));
    kinds = all_three has_lawful_kinds (λ a. all-pipes_along has_lawful_kinds (holds s) a (kinds a) (cells s) held (λ x k g e. sym (ap (kinds_are_lawful a) e) ∙ lawful a x g));
    pipe_order = all_rise_three;
    y_cells_in_box = filter_all cell_before y (holds s) (cells s) held;
    y_order = rises-filter cell_before y (cells s) (all_rise s);
  }
