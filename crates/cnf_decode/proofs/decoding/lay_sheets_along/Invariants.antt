use Rattle.std.proofs.Common.{◌≡◌, length}
use Rattle.grid_box.specs.Surfaces.{IsSurfaces}
use Rattle.cnf_base.specs.Literals.{values_of}
use Rattle.cnf_decode.specs.Building.{sheet_by}
use Rattle.grid_box.proofs.PutLemmas.{PutsSomeSheets}
use Rattle.cnf_decode.proofs.decoding.lay_sheets_along.Given as goal

abbrev pub invariant-loop-number : goal.invariant-loop-number
invariant-loop-number l = record {
  sheets : PutsSomeSheets l.layout.size l.number l.flow l.axes.0 l.axes.1 (sheet_by (values_of l.values) l.layout.size l.flow l.axes.0 l.axes.1) l.fn.sheets l.sheets;
  size : l.sheets.size ≡ l.layout.size;
  count : length l.sheets.flows ≡ length l.fn.sheets.flows;
  kept : IsSurfaces l.sheets;
}
