-- Which sheets labels list, place by place.
use Rattle.std.proofs.Common.{◌≡◌, ℕ, zero, suc, Bool, true, false, cond, ◌&&◌, ◌||◌, not, List, [], ◌∷◌, Some, None, refl, sym, ap, ap₂, ◌∙◌, subst}
use Rattle.std.specs.List.{list_all, list_any, zip, flat_map, find, slice_get}
use Rattle.std.proofs.lemmas.Bool.{and_parts, or_from}
use Rattle.std.proofs.lemmas.List.Folds.{list_any-append}
use Rattle.las_base.specs.declared.Axis.{Axis}
use Rattle.las_base.specs.declared.Axis.TheVariants.{I, J, K}
use Rattle.las_base.specs.declared.Kind.{Kind}
use Rattle.las_base.specs.declared.Cell.{Cell}
use Rattle.las_base.specs.Axes.{same_axis, has_part}
use Rattle.las_base.specs.Cells.{same_cell, rises}
use Rattle.las_base.proofs.Same.{same_cell-sym, same_axis-is}
use Rattle.grid_box.specs.Drawings.{Pipe, is_pipe_at, pipe_before}
use Rattle.grid_box.specs.Sheets.{same_sheet, spans}
use Rattle.grid_box.specs.Surfaces.{has_sheet}
use Rattle.zx_flow.specs.Labels.{Label}
use Rattle.sheet_flow.specs.FromSheets.{spanned_by, sheets_of_pipe}
use Rattle.sheet_flow.specs.Puts.{shows}
use Rattle.zx_graph.proofs.NumberLemmas.{at_all}
use Rattle.sheet_flow.proofs.LabelSheets.{sheet_at, listed, in_label, spans_first, spans_later}

pub same_axis-sym : (a b : Axis) → same_axis a b ≡ same_axis b a
same_axis-sym I I = refl
same_axis-sym I J = refl
same_axis-sym I K = refl
same_axis-sym J I = refl
same_axis-sym J J = refl
same_axis-sym J K = refl
same_axis-sym K I = refl
same_axis-sym K J = refl
same_axis-sym K K = refl

-- a sheet does not span the pipe's own axis
own_apart : (k : Kind) (a : Axis) (there : Kind) → same_axis a (spanned_by k a there) ≡ false
own_apart Kind.X I Kind.X = refl
own_apart Kind.X I Kind.Z = refl
own_apart Kind.X J Kind.X = refl
own_apart Kind.X J Kind.Z = refl
own_apart Kind.X K Kind.X = refl
own_apart Kind.X K Kind.Z = refl
own_apart Kind.Z I Kind.X = refl
own_apart Kind.Z I Kind.Z = refl
own_apart Kind.Z J Kind.X = refl
own_apart Kind.Z J Kind.Z = refl
own_apart Kind.Z K Kind.X = refl
own_apart Kind.Z K Kind.Z = refl

-- of the sheets of the two kinds one spans each other axis
pub one_of_two : (a : Axis) (there : Kind) (b : Axis) → same_axis a b ≡ false → same_axis (spanned_by Kind.X a there) b ≡ not (same_axis (spanned_by Kind.Z a there) b)
one_of_two I there I h = absurd (cc)
one_of_two I Kind.X J h = refl
one_of_two I Kind.Z J h = refl
one_of_two I Kind.X K h = refl
one_of_two I Kind.Z K h = refl
one_of_two J Kind.X I h = refl
one_of_two J Kind.Z I h = refl
one_of_two J there J h = absurd (cc)
one_of_two J Kind.X K h = refl
one_of_two J Kind.Z K h = refl
one_of_two K Kind.X I h = refl
one_of_two K Kind.Z I h = refl
one_of_two K Kind.X J h = refl
one_of_two K Kind.Z J h = refl
one_of_two K there K h = absurd (cc)

-- what a label lists is what its Pauli at the low end shows
listed_shows : (p : Pipe) (l : Label) (b : Axis) → listed p l b ≡ shows p.axis p.low l.0 b
listed_shows p l b =
    ap₂ (λ u v. (has_part Kind.X l.0 && u) || (has_part Kind.Z l.0 && v)) (same_axis-sym b (spanned_by Kind.X p.axis p.low)) (same_axis-sym b (spanned_by Kind.Z p.axis p.low))

-- a pipe's sheets are those of its label
pub has_listed : (ps : List Pipe) (ls : List Label) (k : ℕ) (p : Pipe) (l : Label) (b : Axis) → rises pipe_before ps ≡ true → slice_get ps k ≡ Some p → slice_get ls k ≡ Some l → has_sheet (flat_map sheets_of_pipe (zip ps ls)) (sheet_at p.axis p.cell b) ≡ shows p.axis p.low l.0 b
has_listed [] ls k p l b up e f = absurd (cc)
has_listed (q ∷ qs) [] k p l b up e f = absurd (cc)
has_listed (q ∷ qs) (m ∷ ms) zero p l b up e f =
    let parts = and_parts (list_all (pipe_before q) qs) (rises pipe_before qs) up in
    let pipe : q ≡ p = cc in
    let label : m ≡ l = cc in
    subst (λ z. spans (flat_map sheets_of_pipe (zip (q ∷ qs) (m ∷ ms))) z b ≡ shows z.axis z.low m.0 b) pipe (spans_first q m qs ms b parts.0 ∙ listed_shows q m b) ∙ ap (λ z. shows p.axis p.low z.0 b) label
has_listed (q ∷ qs) (m ∷ ms) (suc k) p l b up e f =
    let parts = and_parts (list_all (pipe_before q) qs) (rises pipe_before qs) up in
    spans_later q p m qs ms b (at_all (pipe_before q) qs k p parts.0 e) ∙ has_listed qs ms k p l b parts.1 e f

-- where there is no pipe nothing is listed
pub has_absent : (ps : List Pipe) (ls : List Label) (a : Axis) (c : Cell) (b : Axis) → find (is_pipe_at a c) ps ≡ None → has_sheet (flat_map sheets_of_pipe (zip ps ls)) (sheet_at a c b) ≡ false
has_absent [] [] a c b e = refl
has_absent [] (l ∷ ls) a c b e = refl
has_absent (p ∷ ps) [] a c b e = refl
has_absent (p ∷ ps) (l ∷ ls) a c b e = by_place (is_pipe_at a c p) refl e (has_absent ps ls a c b)
  where
    by_place : (t : Bool) → is_pipe_at a c p ≡ t → cond t (Some p) (find (is_pipe_at a c) ps) ≡ None → (find (is_pipe_at a c) ps ≡ None → has_sheet (flat_map sheets_of_pipe (zip ps ls)) (sheet_at a c b) ≡ false) → has_sheet (flat_map sheets_of_pipe (zip (p ∷ ps) (l ∷ ls))) (sheet_at a c b) ≡ false
    by_place true t g later = absurd (cc)
    by_place false t g later =
        let other : (same_axis a p.axis && same_cell c p.cell) ≡ false = ap₂ (λ u v. u && v) (same_axis-sym a p.axis) (same_cell-sym c p.cell) ∙ t in
        list_any-append (same_sheet (sheet_at a c b)) (sheets_of_pipe (p, l)) (flat_map sheets_of_pipe (zip ps ls))
        ∙ or_from (list_any (same_sheet (sheet_at a c b)) (sheets_of_pipe (p, l))) (list_any (same_sheet (sheet_at a c b)) (flat_map sheets_of_pipe (zip ps ls)))
        (in_label p l a c b ∙ ap (λ u. u && listed p l b) other) (later g)

none_own : (p : Pipe) (l : Label) (a : Axis) (c : Cell) (b : Axis) → same_axis a b ≡ true → ((same_axis a p.axis && same_cell c p.cell) && listed p l b) ≡ false
none_own p l a c b own = by_axis (same_axis a p.axis) refl (same_cell c p.cell)
  where
    no_part : (x z : Bool) → ((x && false) || (z && false)) ≡ false
    no_part true true = refl
    no_part true false = refl
    no_part false true = refl
    no_part false false = refl

    never : (t u : Bool) → u ≡ false → (t && u) ≡ false
    never true u e = e
    never false u e = refl

    by_axis : (g : Bool) → same_axis a p.axis ≡ g → (h : Bool) → ((g && h) && listed p l b) ≡ false
    by_axis false g h = refl
    by_axis true g h =
        let along : b ≡ p.axis = sym (same_axis-is a b own) ∙ same_axis-is a p.axis g in
        never h (listed p l b) (ap (λ z. listed p l z) along ∙ ap₂ (λ u v. (has_part Kind.X l.0 && u) || (has_part Kind.Z l.0 && v)) (own_apart Kind.X p.axis p.low) (own_apart Kind.Z p.axis p.low) ∙ no_part (has_part Kind.X l.0) (has_part Kind.Z l.0))

-- no sheet that spans its pipe's own axis is listed
pub has_no_own : (ps : List Pipe) (ls : List Label) (a : Axis) (c : Cell) (b : Axis) → same_axis a b ≡ true → has_sheet (flat_map sheets_of_pipe (zip ps ls)) (sheet_at a c b) ≡ false
has_no_own [] [] a c b e = refl
has_no_own [] (l ∷ ls) a c b e = refl
has_no_own (p ∷ ps) [] a c b e = refl
has_no_own (p ∷ ps) (l ∷ ls) a c b e =
    list_any-append (same_sheet (sheet_at a c b)) (sheets_of_pipe (p, l)) (flat_map sheets_of_pipe (zip ps ls))
    ∙ or_from (list_any (same_sheet (sheet_at a c b)) (sheets_of_pipe (p, l))) (list_any (same_sheet (sheet_at a c b)) (flat_map sheets_of_pipe (zip ps ls)))
    (in_label p l a c b ∙ none_own p l a c b e) (has_no_own ps ls a c b e)
