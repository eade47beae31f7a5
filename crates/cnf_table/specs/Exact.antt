-- What the clause table says: that the diagram is valid, and that its sheets serve each flow.
use Rattle.std.specs.Prelude.{◌≡◌, ◌↔◌, true, List, length}
use Rattle.std.specs.List.{AllZip}
use Rattle.las_base.specs.Jobs.{Task, IsTask}
use Rattle.grid_box.specs.Drawings.{Drawing, IsDrawing}
use Rattle.grid_box.specs.PipeRules.{IsValid}
use Rattle.grid_box.specs.Sheets.{Sheet, Serves}
use Rattle.cnf_base.specs.Literals.{Values, all_true, values_of}
use Rattle.cnf_table.specs.Clauses.{clause_table}
use Rattle.cnf_table.specs.Values.{values}
use Rattle.cnf_table.specs.Shown.{AreShown}

-- values that show a diagram and its sheets make the clauses true exactly where the diagram is valid and the sheets serve every flow
abbrev pub ShownIsExact : Type 0
ShownIsExact = (t : Task) (d : Drawing) (sheets_by_flow : List (List Sheet)) (v : Values) → IsTask t → IsDrawing d → d.size ≡ t.size → length sheets_by_flow ≡ length t.flows → AreShown t.size d sheets_by_flow v → (all_true v (clause_table t).clauses ≡ true) ↔ (IsValid t d × AllZip (Serves t d) sheets_by_flow t.flows)

-- so do the values of a diagram with its sheets
abbrev pub TableIsExact : Type 0
TableIsExact = (t : Task) (d : Drawing) (sheets_by_flow : List (List Sheet)) → IsTask t → IsDrawing d → d.size ≡ t.size → length sheets_by_flow ≡ length t.flows → (all_true (values_of (values d sheets_by_flow)) (clause_table t).clauses ≡ true) ↔ (IsValid t d × AllZip (Serves t d) sheets_by_flow t.flows)
