-- The cells that a rule can name are all that it can speak of.
use Rattle.std.specs.Prelude.{◌≡◌, ◌&&◌, true}
use Rattle.std.specs.List.{list_all}
use Rattle.las_base.specs.Cells.{holds, widened, above}
use Rattle.las_base.specs.Jobs.{Task, IsTask}
use Rattle.grid_box.specs.Drawings.{Drawing, IsDrawing}

-- both ends of each pipe, each port's place, each forbidden cell and each Y cell are cells of the widened box
abbrev pub EndsAreNamed : Type 0
EndsAreNamed = (t : Task) (d : Drawing) → IsTask t → IsDrawing d → d.size ≡ t.size
    → (list_all (λ p. holds (widened t.size) p.cell && holds (widened t.size) (above p.axis p.cell)) d.pipes ≡ true)
    × (list_all (λ p. holds (widened t.size) p.place) t.ports ≡ true)
    × (list_all (holds (widened t.size)) t.forbidden ≡ true)
    × (list_all (holds (widened t.size)) d.y_cells ≡ true)
