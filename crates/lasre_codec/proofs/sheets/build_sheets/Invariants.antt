use Rattle.grid_box.specs.Surfaces.{AreBuilt}
use Rattle.lasre_codec.specs.Kept.{entries_kept}
use Rattle.lasre_codec.proofs.PutLemmas.{shows_of_axes}
use Rattle.lasre_codec.proofs.sheets.build_sheets.Given as goal

abbrev pub invariant-loop-flow : goal.invariant-loop-flow
invariant-loop-flow l = AreBuilt (shows_of_axes (entries_kept l.grids) l.fn.size) l.fn.size l.flows l.flow l.sheets
