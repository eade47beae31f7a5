use Rattle.std.proofs.Common.{◌≡◌}
use Rattle.grid_box.specs.Drawings.{IsDrawing}
use Rattle.cnf_base.specs.Literals.{values_of}
use Rattle.cnf_decode.specs.Building.{exists_by, pipe_by}
use Rattle.grid_box.proofs.PutLemmas.{PutsSomePipes}
use Rattle.cnf_decode.proofs.decoding.draw_pipes_along.Given as goal

abbrev pub invariant-loop-number : goal.invariant-loop-number
invariant-loop-number l = record {
  pipes : PutsSomePipes l.layout.size l.number l.axis (exists_by (values_of l.values) l.layout.size l.axis) (pipe_by (values_of l.values) l.layout.size l.axis) l.fn.diagram l.diagram;
  y_cells : l.diagram.y_cells ≡ l.fn.diagram.y_cells;
  size : l.diagram.size ≡ l.layout.size;
  drawn : IsDrawing l.diagram;
}
