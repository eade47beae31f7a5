use Rattle.std.proofs.Common.{◌≡◌, drop}
use Rattle.lasre_codec.specs.Members.{tested}
use Rattle.lasre_codec.specs.Entries.{first_bad}
use Rattle.lasre_codec.specs.Kept.{entries_kept}
use Rattle.lasre_codec.proofs.bits.first_bad.Given as goal

abbrev pub invariant-loop-member : goal.invariant-loop-member
invariant-loop-member l = first_bad (entries_kept l.grids) l.cells tested ≡ first_bad (entries_kept l.grids) l.cells (drop l.member-index tested)
