use Rattle.std.proofs.Common.{◌≡◌, length, take}
use Rattle.grid_box.specs.Surfaces.{IsSurfaces, sheet_axes}
use Rattle.lasre_codec.specs.Kept.{entries_kept}
use Rattle.lasre_codec.specs.Puts.{PutsAxes}
use Rattle.lasre_codec.proofs.sheets.put_flow.Given as goal

abbrev pub invariant-loop-axis : goal.invariant-loop-axis
invariant-loop-axis l = record {
  sheets : PutsAxes (entries_kept l.grids) l.fn.sheets.size l.flow (take l.axis-index sheet_axes) l.fn.sheets l.sheets;
  size : l.sheets.size ≡ l.fn.sheets.size;
  count : length l.sheets.flows ≡ length l.fn.sheets.flows;
  kept : IsSurfaces l.sheets;
}
