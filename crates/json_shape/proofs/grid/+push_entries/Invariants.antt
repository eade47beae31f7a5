use Rattle.std.proofs.Common.{◌-◌}
use Rattle.json_shape.proofs.GridLemmas.{IsJoining}
use Rattle.json_shape.proofs.grid.+push_entries.Given as goal

abbrev pub decreases-push_entries : goal.decreases-push_entries
decreases-push_entries l = l.depth

abbrev pub invariant-loop-item : goal.invariant-loop-item
invariant-loop-item l = IsJoining (l.depth - 1) l.items l.item-index l.fn.out.items l.out.items
