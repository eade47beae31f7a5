-- The rules of pipes by their names in the code.
use Rattle.std.specs.Prelude.{Bool}
use Rattle.las_base.specs.declared.Cell.{Cell}
use Rattle.las_base.specs.Jobs.{Task}
use Rattle.grid_box.specs.Drawings.{Drawing}
use Rattle.grid_box.specs.PipeRules.{stays_in_box, has_port_pipe, leaves_forbidden_empty, y_cube_has_one_k_leg, is_no_dead_end, has_no_three_axes}
use Rattle.pipe_rules.specs.declared.Rule.{Rule}
use Rattle.pipe_rules.specs.declared.Rule.TheVariants.{StaysInBox, PortPipe, ForbiddenEmpty, YCube, NoDeadEnd, NoThreeAxes}

-- a rule holds at a cell
abbrev pub keeps : Rule → Task → Drawing → Cell → Bool
keeps StaysInBox = stays_in_box
keeps PortPipe = has_port_pipe
keeps ForbiddenEmpty = leaves_forbidden_empty
keeps YCube = y_cube_has_one_k_leg
keeps NoDeadEnd = is_no_dead_end
keeps NoThreeAxes = has_no_three_axes
