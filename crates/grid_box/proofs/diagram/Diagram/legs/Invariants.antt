use Rattle.std.proofs.Common.{◌≡◌, ◌≤◌, take, length}
use Rattle.std.specs.List.{filter_map}
use Rattle.grid_box.proofs.LegLemmas.{leg_in}
use Rattle.grid_box.proofs.diagram.Diagram.legs.Given as goal

abbrev pub invariant-loop-axis : goal.invariant-loop-axis
invariant-loop-axis l = record {
  found : l.legs.items ≡ filter_map (leg_in l.self l.cell) (take l.axis-index l.axis-items);
  few : length l.legs.items ≤ l.axis-index;
}
