-- The rules of colours by their names in the code.
use Rattle.std.specs.Prelude.{Bool}
use Rattle.las_base.specs.declared.Cell.{Cell}
use Rattle.las_base.specs.Jobs.{Task}
use Rattle.grid_box.specs.Drawings.{Drawing}
use Rattle.grid_box.specs.PipeRules.{colours_match, port_shows_z}
use Rattle.colour_rules.specs.declared.Rule.{Rule}
use Rattle.colour_rules.specs.declared.Rule.TheVariants.{ColoursMatch, PortShowsZ}

-- a rule holds at a cell
abbrev pub keeps : Rule → Task → Drawing → Cell → Bool
keeps ColoursMatch = colours_match
keeps PortShowsZ = port_shows_z
