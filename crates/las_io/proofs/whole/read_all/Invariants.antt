use Rattle.std.proofs.Common.{◌≡◌, ◌+◌, ◌-◌, ◌≤◌, vec_len}
use Rattle.las_io.specs.Moves.{Gives}
use Rattle.las_io.proofs.whole.read_all.Given as goal

abbrev pub invariant-loop-all : goal.invariant-loop-all
invariant-loop-all g l = record {
  within : vec_len l.all ≤ l.limit + 1;
  room : 1 ≤ vec_len l.piece;
  came : Gives g.S.Source.left g.S.Source.given l.fn.src l.src l.all.items;
  faults : g.S.Source.faults l.src ≡ g.S.Source.faults l.fn.src;
}

abbrev pub decreases-loop-all : goal.decreases-loop-all
decreases-loop-all g l = (l.limit + 1) - vec_len l.all
