use Rattle.std.proofs.Common.{◌≡◌, length}
use Rattle.grid_box.specs.Surfaces.{IsSurfaces}
use Rattle.grid_box.proofs.PutLemmas.{PutsSomeSheets}
use Rattle.lasre_codec.specs.Entries.{flow_part}
use Rattle.lasre_codec.specs.Puts.{is_one_in_both}
use Rattle.lasre_codec.proofs.sheets.put_sheets.Given as goal

abbrev pub invariant-loop-number : goal.invariant-loop-number
invariant-loop-number l = record {
  sheets : PutsSomeSheets l.size l.number l.flow l.axis l.span (is_one_in_both l.size l.exist (flow_part l.size l.flow l.corr)) l.fn.sheets l.sheets;
  size : l.sheets.size ≡ l.fn.sheets.size;
  count : length l.sheets.flows ≡ length l.fn.sheets.flows;
  kept : IsSurfaces l.sheets;
}
