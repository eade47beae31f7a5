-- Sheets without a breach serve their flow.
use Rattle.std.specs.Prelude.{◌≡◌, ◌↔◌, List, None}
use Rattle.las_base.specs.declared.Pauli.{Pauli}
use Rattle.las_base.specs.Jobs.{Task}
use Rattle.grid_box.specs.Drawings.{Drawing}
use Rattle.grid_box.specs.Sheets.{Sheet, Serves, sheet_breach}

-- there is no breach of a rule of sheets exactly where the sheets serve the flow
abbrev pub NoBreachServes : Type 0
NoBreachServes = (t : Task) (d : Drawing) (ss : List Sheet) (word : List Pauli) → (sheet_breach t d ss word ≡ None) ↔ Serves t d ss word
