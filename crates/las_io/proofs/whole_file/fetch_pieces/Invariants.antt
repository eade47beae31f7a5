use Rattle.std.proofs.Common.{◌≡◌, ◌+◌, ◌-◌, ◌≤◌, length, vec_len}
use Rattle.las_io.proofs.Fetched.{IsUnderWay}
use Rattle.las_io.proofs.whole_file.fetch_pieces.Given as goal

abbrev pub invariant-loop-all : goal.invariant-loop-all
invariant-loop-all g l = record {
  within : vec_len l.all ≤ l.limit + 1;
  room : 1 ≤ length l.piece;
  so_far : IsUnderWay g.H.Shelf.files g.H.Shelf.begun_name g.H.Shelf.finds g.H.Shelf.given l.name l.fn.shelf l.shelf l.all.items;
  faults : g.H.Shelf.faults l.shelf ≡ g.H.Shelf.faults l.fn.shelf;
}

abbrev pub decreases-loop-all : goal.decreases-loop-all
decreases-loop-all g l = (l.limit + 1) - vec_len l.all
