use Rattle.std.proofs.Common.{◌≡◌}
use Rattle.grid_box.specs.Drawings.{IsDrawing}
use Rattle.grid_box.proofs.PutLemmas.{PutsSomePipes}
use Rattle.lasre_codec.specs.Entries.{is_one_of}
use Rattle.lasre_codec.specs.Puts.{pipe_marked}
use Rattle.lasre_codec.proofs.build.put_pipes.Given as goal

abbrev pub invariant-loop-number : goal.invariant-loop-number
invariant-loop-number l = record {
  pipes : PutsSomePipes l.size l.number l.axis (is_one_of l.size l.exist) (pipe_marked l.size l.axis l.low l.high) l.fn.diagram l.diagram;
  y_cells : l.diagram.y_cells ≡ l.fn.diagram.y_cells;
  size : l.diagram.size ≡ l.size;
  drawn : IsDrawing l.diagram;
}
