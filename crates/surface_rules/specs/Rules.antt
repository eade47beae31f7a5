-- The rules of sheets by their names in the code.
use Rattle.std.specs.Prelude.{Bool, List}
use Rattle.las_base.specs.declared.Cell.{Cell}
use Rattle.las_base.specs.declared.Pauli.{Pauli}
use Rattle.las_base.specs.Jobs.{Task}
use Rattle.grid_box.specs.Drawings.{Drawing}
use Rattle.grid_box.specs.Sheets.{Sheet, ports_spell, y_sheets_match, sheets_join_at}
use Rattle.surface_rules.specs.declared.Rule.{Rule}
use Rattle.surface_rules.specs.declared.Rule.TheVariants.{PortsSpell, YSheetsMatch, SheetsJoin}

-- a rule holds at a cell
abbrev pub keeps : Rule → Task → Drawing → List Sheet → List Pauli → Cell → Bool
keeps PortsSpell t d ss word = ports_spell t d ss word
keeps YSheetsMatch t d ss word = y_sheets_match t d ss
keeps SheetsJoin t d ss word = sheets_join_at t d ss
