use Rattle.std.proofs.Common.{sym, ◌∙◌}
use Rattle.lasre_codec.specs.Members.{tested}
use Rattle.lasre_codec.specs.Kept.{entries_kept}
use Rattle.lasre_codec.proofs.BitLemmas.{bad_here, good_here, all_good}
use Rattle.lasre_codec.proofs.bits.first_bad.Goals as goal

pub returns-in-Some : goal.returns-in-Some
returns-in-Some c =
    bad_here (entries_kept c.args.grids.now) c.args.cells tested c.loop-member.member-index _ c.in-Some.place c.loop-member-test.true c.loop-member.invariant (sym c.bad_place.ensures ∙ c.in-Some.is)

pub loop-member-preserved : goal.loop-member-preserved
loop-member-preserved c =
    good_here (entries_kept c.args.grids.now) c.args.cells tested c.loop-member.member-index _ c.loop-member-test.true c.loop-member.invariant (sym c.bad_place.ensures ∙ c.in_default.is)

pub returns : goal.returns
returns c = all_good (entries_kept c.args.grids.now) c.args.cells tested c.loop-member.member-index c.loop-member-test.false c.loop-member.invariant
