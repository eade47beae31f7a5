-- Sheets along each pair of axes, put one after another, are those of a flow.
use Rattle.std.proofs.Common.{◌≡◌, ℕ, Bool, true, false, ◌&&◌, ◌||◌, not, nat_eq, refl}
use Rattle.las_base.specs.declared.Axis.{Axis}
use Rattle.las_base.specs.declared.Axis.TheVariants.{I, J, K}
use Rattle.las_base.specs.declared.Cell.{Cell}
use Rattle.las_base.specs.declared.Size.{Size}
use Rattle.las_base.specs.Axes.{same_axis}
use Rattle.las_base.specs.Cells.{holds}
use Rattle.grid_box.specs.Surfaces.{PutsFlow, PutsSheets, Surfaces, has_sheet, sheets_of}
use Rattle.cnf_base.specs.Literals.{Values}
use Rattle.cnf_decode.specs.Building.{sheet_by, shows_sheet}

module _ (v : Values) (s : Size) where
  pub laid_in_turn : (flow : ℕ) (d0 d1 d2 d3 d4 d5 d6 : Surfaces) → PutsSheets s flow I J (sheet_by v s flow I J) d0 d1 → PutsSheets s flow I K (sheet_by v s flow I K) d1 d2 → PutsSheets s flow J I (sheet_by v s flow J I) d2 d3
      → PutsSheets s flow J K (sheet_by v s flow J K) d3 d4 → PutsSheets s flow K I (sheet_by v s flow K I) d4 d5 → PutsSheets s flow K J (sheet_by v s flow K J) d5 d6 → PutsFlow flow (shows_sheet v s flow) d0 d6
  laid_in_turn flow d0 d1 d2 d3 d4 d5 d6 p1 p2 p3 p4 p5 p6 f x = by_axes x.axis x.cell x.span
    where
      by_axes : (a : Axis) (c : Cell) (b : Axis) → has_sheet (sheets_of d6 f) (record { axis = a; cell = c; span = b }) ≡ ((nat_eq f flow && (not (same_axis a b) && (holds s c && sheet_by v s flow a b c))) || has_sheet (sheets_of d0 f) (record { axis = a; cell = c; span = b }))
      by_axes a c b = rw (p6 f (record { axis = a; cell = c; span = b }), p5 f (record { axis = a; cell = c; span = b }), p4 f (record { axis = a; cell = c; span = b }), p3 f (record { axis = a; cell = c; span = b }), p2 f (record { axis = a; cell = c; span = b }), p1 f (record { axis = a; cell = c; span = b }))
          (table (nat_eq f flow) a b (holds s c) (λ x y. sheet_by v s flow x y c) (has_sheet (sheets_of d0 f) (record { axis = a; cell = c; span = b })))
        where
          table : (e : Bool) (a b : Axis) (h : Bool) (t : Axis → Axis → Bool) (r : Bool)
              → ((e && ((same_axis K a && same_axis J b) && (h && t K J))) || ((e && ((same_axis K a && same_axis I b) && (h && t K I))) || ((e && ((same_axis J a && same_axis K b) && (h && t J K))) || ((e && ((same_axis J a && same_axis I b) && (h && t J I))) || ((e && ((same_axis I a && same_axis K b) && (h && t I K))) || ((e && ((same_axis I a && same_axis J b) && (h && t I J))) || r))))))
              ≡ ((e && (not (same_axis a b) && (h && t a b))) || r)
          table false a b h t r = refl
          table true I I h t r = refl
          table true J J h t r = refl
          table true K K h t r = refl
          table true I J h t r = refl
          table true I K h t r = refl
          table true J I h t r = refl
          table true J K h t r = refl
          table true K I h t r = refl
          table true K J h t r = refl
