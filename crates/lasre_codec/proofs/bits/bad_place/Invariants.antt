use Rattle.std.proofs.Common.{◌≡◌, take, None}
use Rattle.std.specs.List.{find}
use Rattle.las_base.specs.Cells.{numbers_from}
use Rattle.lasre_codec.specs.Entries.{is_bad_at}
use Rattle.lasre_codec.specs.Kept.{entries_kept}
use Rattle.lasre_codec.proofs.bits.bad_place.Given as goal

abbrev pub invariant-loop-place : goal.invariant-loop-place
invariant-loop-place l = find (is_bad_at (entries_kept l.grids) l.cells l.member) (take l.place (numbers_from 0 l.place-end)) ≡ None
