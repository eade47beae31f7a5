use Rattle.serde_json.specs.View.{view}
use Rattle.lasre_codec.specs.Members.{grids}
use Rattle.lasre_codec.proofs.KeptLemmas.{AreRead}
use Rattle.lasre_codec.proofs.entries.read_grids.Given as goal

abbrev pub invariant-loop-member : goal.invariant-loop-member
invariant-loop-member l = AreRead (view l.value) grids l.member-index l.grids.items
