use Rattle.std.proofs.Common.{◌≡◌}
use Rattle.grid_box.specs.Drawings.{IsDrawing}
use Rattle.cnf_base.specs.Literals.{values_of}
use Rattle.cnf_decode.specs.Building.{y_by}
use Rattle.grid_box.proofs.PutLemmas.{PutsSomeY}
use Rattle.cnf_decode.proofs.decoding.draw_y_cells.Given as goal

abbrev pub invariant-loop-number : goal.invariant-loop-number
invariant-loop-number l = record {
  y_cells : PutsSomeY l.layout.size l.number (y_by (values_of l.values) l.layout.size) l.fn.diagram l.diagram;
  pipes : l.diagram.pipes ≡ l.fn.diagram.pipes;
  size : l.diagram.size ≡ l.layout.size;
  drawn : IsDrawing l.diagram;
}
