use Rattle.std.proofs.Common.{◌≡◌}
use Rattle.grid_box.specs.Drawings.{IsDrawing}
use Rattle.grid_box.proofs.PutLemmas.{PutsSomeY}
use Rattle.lasre_codec.specs.Entries.{is_one_of}
use Rattle.lasre_codec.proofs.build.put_y_cells.Given as goal

abbrev pub invariant-loop-number : goal.invariant-loop-number
invariant-loop-number l = record {
  y_cells : PutsSomeY l.size l.number (is_one_of l.size l.entries) l.fn.diagram l.diagram;
  pipes : l.diagram.pipes ≡ l.fn.diagram.pipes;
  size : l.diagram.size ≡ l.size;
  drawn : IsDrawing l.diagram;
}
