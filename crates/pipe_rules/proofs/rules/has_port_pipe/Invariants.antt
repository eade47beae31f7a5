use Rattle.std.proofs.Common.{◌≡◌, take, true, not, ◌&&◌}
use Rattle.std.specs.List.{list_all}
use Rattle.las_base.specs.Cells.{same_cell}
use Rattle.grid_box.specs.Drawings.{is_y}
use Rattle.grid_box.specs.Legs.{legs}
use Rattle.grid_box.specs.PipeRules.{◌==>◌, is_only, is_port_leg}
use Rattle.pipe_rules.proofs.rules.has_port_pipe.Given as goal

abbrev pub invariant-loop-port : goal.invariant-loop-port
invariant-loop-port l =
    list_all (λ p. same_cell p.place l.cell ==> (is_only (is_port_leg p) (legs l.diagram l.cell) && not (is_y l.diagram l.cell))) (take l.port-index l.port-items) ≡ true
