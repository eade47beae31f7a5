use Rattle.std.proofs.Common.{◌≡◌, [], drop}
use Rattle.las_base.specs.Cells.{same_cell}
use Rattle.las_spec.specs.Briefs.{once}
use Rattle.las_spec.proofs.make.cells_once.Given as goal

abbrev pub invariant-loop-cell : goal.invariant-loop-cell
invariant-loop-cell l = once same_cell [] l.cells ≡ once same_cell l.seen.keys (drop l.cell-index l.cells)
