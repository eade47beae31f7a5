-- Cells of the widened box.
use Rattle.std.proofs.Common.{◌≡◌, true, ◌&&◌, subst}
use Rattle.std.specs.List.{list_all}
use Rattle.std.proofs.lemmas.Bool.{and_from}
use Rattle.las_base.specs.declared.Size.{Size}
use Rattle.las_base.specs.Cells.{holds, widened, above}
use Rattle.las_base.specs.Jobs.{port_fits}
use Rattle.las_base.proofs.Lists.{all_more}
use Rattle.las_base.proofs.Widened.{held_wide, held_above, place_named}
use Rattle.grid_box.specs.Drawings.{Pipe}
use Rattle.grid_box.specs.Reach.{EndsAreNamed}

ends : (s : Size) (p : Pipe) → holds s p.cell ≡ true → (holds (widened s) p.cell && holds (widened s) (above p.axis p.cell)) ≡ true
ends s p h = and_from (holds (widened s) p.cell) (holds (widened s) (above p.axis p.cell)) (held_wide s p.cell h) (held_above s p.axis p.cell h)

pub ends_are_named : EndsAreNamed
ends_are_named t d task drawn same =
    let in_box : list_all (λ p. holds t.size p.cell) d.pipes ≡ true = subst (λ s. list_all (λ p. holds s p.cell) d.pipes ≡ true) same drawn.in_box in
    let ys : list_all (holds t.size) d.y_cells ≡ true = subst (λ s. list_all (holds s) d.y_cells ≡ true) same drawn.y_cells_in_box in (
      all_more (λ p. holds t.size p.cell) (λ p. holds (widened t.size) p.cell && holds (widened t.size) (above p.axis p.cell)) (ends t.size) d.pipes in_box,
      all_more (port_fits t.size) (λ p. holds (widened t.size) p.place) (place_named t.size) t.ports task.places,
      all_more (holds t.size) (holds (widened t.size)) (held_wide t.size) t.forbidden task.forbidden,
      all_more (holds t.size) (holds (widened t.size)) (held_wide t.size) d.y_cells ys,
    )
