-- What is looked up in a drawing that look-ups give.
use Rattle.std.proofs.Common.{◌≡◌, Bool, true, false, cond, ◌&&◌, ◌||◌, List, [], ◌∷◌, ◌++◌, Option, Some, None, refl, sym, ap, ◌∙◌}
use Rattle.std.specs.List.{find, filter, list_any, cons_option}
use Rattle.std.specs.Option.{option_or}
use Rattle.std.proofs.lemmas.List.Folds.{find-append}
use Rattle.std.proofs.Math.Bool.{and-false}
use Rattle.las_base.specs.declared.Axis.{Axis}
use Rattle.las_base.specs.declared.Axis.TheVariants.{I, J, K}
use Rattle.las_base.specs.declared.Kind.{Kind}
use Rattle.las_base.specs.declared.Cell.{Cell}
use Rattle.las_base.specs.declared.Size.{Size}
use Rattle.las_base.specs.Axes.{same_axis}
use Rattle.las_base.specs.Cells.{same_cell, cells, holds}
use Rattle.las_base.proofs.Same.{same_cell-is, same_cell-sym, same_axis-refl, listed_is_held}
use Rattle.grid_box.specs.Drawings.{Pipe, is_pipe_at, pipe_at, is_y}
use Rattle.grid_box.specs.LookUps.{pipe_of, pipes_along, drawing_by}

cond_none : {X : Type 0} (b : Bool) → cond b None (let n : Option X = None in n) ≡ None
cond_none true = refl
cond_none false = refl

find-pipes_along : (a : Axis) (c : Cell) (kinds : Cell → Option (Kind × Kind)) (cs : List Cell) → find (is_pipe_at a c) (pipes_along a kinds cs) ≡ cond (list_any (same_cell c) cs) (pipe_of a c (kinds c)) None
find-pipes_along a c kinds [] = refl
find-pipes_along a c kinds (x ∷ xs) = at (same_cell x c) refl (kinds x) refl (find-pipes_along a c kinds xs)
  where
    at : (t : Bool) → same_cell x c ≡ t → (k : Option (Kind × Kind)) → kinds x ≡ k → find (is_pipe_at a c) (pipes_along a kinds xs) ≡ cond (list_any (same_cell c) xs) (pipe_of a c (kinds c)) None
        → find (is_pipe_at a c) (cons_option (pipe_of a x k) (pipes_along a kinds xs)) ≡ cond (same_cell c x || list_any (same_cell c) xs) (pipe_of a c (kinds c)) None
    at true t (Some k) e ih =
        let same : x ≡ c = same_cell-is x c t in
        let k_is : kinds c ≡ Some k = ap kinds (sym same) ∙ e in
        rw (same_axis-refl a, t, same_cell-sym c x, t, k_is) (ap (λ y. Some (record { axis = a; cell = y; low = k.0; high = k.1 })) same)
    at true t None e ih =
        let same : x ≡ c = same_cell-is x c t in
        let k_is : kinds c ≡ None = ap kinds (sym same) ∙ e in
        rw (same_cell-sym c x, t) (ih ∙ rw k_is (cond_none (list_any (same_cell c) xs)))
    at false t (Some k) e ih = rw (same_axis-refl a, t, same_cell-sym c x, t) ih
    at false t None e ih = rw (same_cell-sym c x, t) ih

find-other_axis : (a b : Axis) (c : Cell) (kinds : Cell → Option (Kind × Kind)) (cs : List Cell) → same_axis b a ≡ false → find (is_pipe_at a c) (pipes_along b kinds cs) ≡ None
find-other_axis a b c kinds [] e = refl
find-other_axis a b c kinds (x ∷ xs) e = at (kinds x) (find-other_axis a b c kinds xs e)
  where
    at : (k : Option (Kind × Kind)) → find (is_pipe_at a c) (pipes_along b kinds xs) ≡ None → find (is_pipe_at a c) (cons_option (pipe_of b x k) (pipes_along b kinds xs)) ≡ None
    at None ih = ih
    at (Some k) ih = rw e ih

option_or-none : {X : Type 0} (o : Option X) → option_or o None ≡ o
option_or-none None = refl
option_or-none (Some x) = refl

find-three : {X : Type 0} (p : X → Bool) (xs ys zs : List X) → find p (xs ++ (ys ++ (zs ++ []))) ≡ option_or (find p xs) (option_or (find p ys) (find p zs))
find-three p xs ys zs =
    find-append p xs (ys ++ (zs ++ [])) ∙ ap (option_or (find p xs)) (find-append p ys (zs ++ []) ∙ ap (option_or (find p ys)) (find-append p zs [] ∙ option_or-none (find p zs)))

-- the pipe at a cell of the box is the one that the look-up of kinds gives
pub pipe_at-drawing_by : (s : Size) (kinds : Axis → Cell → Option (Kind × Kind)) (y : Cell → Bool) (a : Axis) (c : Cell) → pipe_at (drawing_by s kinds y) a c ≡ cond (holds s c) (pipe_of a c (kinds a c)) None
pipe_at-drawing_by s kinds y a c = by_axis a ∙ ap (λ b. cond b (pipe_of a c (kinds a c)) None) (listed_is_held s c)
  where
    part : Axis → List Pipe
    part b = pipes_along b (kinds b) (cells s)

    by_axis : (b : Axis) → find (is_pipe_at b c) (part I ++ (part J ++ (part K ++ []))) ≡ cond (list_any (same_cell c) (cells s)) (pipe_of b c (kinds b c)) None
    by_axis I = find-three (is_pipe_at I c) (part I) (part J) (part K) ∙ rw (find-other_axis I J c (kinds J) (cells s) refl, find-other_axis I K c (kinds K) (cells s) refl) (option_or-none (find (is_pipe_at I c) (part I)) ∙ find-pipes_along I c (kinds I) (cells s))
    by_axis J = find-three (is_pipe_at J c) (part I) (part J) (part K) ∙ rw (find-other_axis J I c (kinds I) (cells s) refl, find-other_axis J K c (kinds K) (cells s) refl) (option_or-none (find (is_pipe_at J c) (part J)) ∙ find-pipes_along J c (kinds J) (cells s))
    by_axis K = find-three (is_pipe_at K c) (part I) (part J) (part K) ∙ rw (find-other_axis K I c (kinds I) (cells s) refl, find-other_axis K J c (kinds J) (cells s) refl) (find-pipes_along K c (kinds K) (cells s))

any-filter : (y : Cell → Bool) (c : Cell) (cs : List Cell) → list_any (same_cell c) (filter y cs) ≡ (list_any (same_cell c) cs && y c)
any-filter y c [] = refl
any-filter y c (x ∷ xs) = at (same_cell c x) refl (y x) refl (any-filter y c xs)
  where
    at : (t : Bool) → same_cell c x ≡ t → (b : Bool) → y x ≡ b → list_any (same_cell c) (filter y xs) ≡ (list_any (same_cell c) xs && y c)
        → list_any (same_cell c) (cond b (x ∷ filter y xs) (filter y xs)) ≡ ((same_cell c x || list_any (same_cell c) xs) && y c)
    at true t true e ih = let y_is : y c ≡ true = ap y (same_cell-is c x t) ∙ e in rw (t, y_is) refl
    at true t false e ih = let y_is : y c ≡ false = ap y (same_cell-is c x t) ∙ e in rw t (ih ∙ rw y_is (and-false (list_any (same_cell c) xs)))
    at false t true e ih = rw t ih
    at false t false e ih = rw t ih

-- a cell of the box is a Y cell where the test passes
pub is_y-drawing_by : (s : Size) (kinds : Axis → Cell → Option (Kind × Kind)) (y : Cell → Bool) (c : Cell) → is_y (drawing_by s kinds y) c ≡ (holds s c && y c)
is_y-drawing_by s kinds y c = any-filter y c (cells s) ∙ ap (λ b. b && y c) (listed_is_held s c)
