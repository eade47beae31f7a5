use Rattle.std.proofs.Common.{sym, ap, ◌∙◌}
use Rattle.std.specs.Prelude.{option_map}
use Rattle.serde_json.specs.View.{view}
use Rattle.lasre_codec.specs.Members.{grids}
use Rattle.lasre_codec.specs.declared.refusal.LasreRefused.TheVariants.{Shape}
use Rattle.lasre_codec.proofs.KeptLemmas.{reading_begins, reading_goes_on, reading_breaks, reading_ends}
use Rattle.lasre_codec.proofs.entries.read_grids.Goals as goal

pub loop-member-init : goal.loop-member-init
loop-member-init c = rw c.new-grids.ensures.items (reading_begins (view c.args.value.now) grids)

pub returns-in-None-clause-err : goal.returns-in-None-clause-err
returns-in-None-clause-err c = λ other.
    ap (option_map Shape) (reading_breaks (view c.args.value.now) grids c.loop-member.member-index _ c.loop-member.grids.items c.loop-member-test.true (sym c.in_ok-entries.ensures ∙ ap (option_map (λ v. v.items)) c.in-None.is) c.loop-member.invariant)

pub loop-member-preserved : goal.loop-member-preserved
loop-member-preserved c =
    reading_goes_on (view c.args.value.now) grids c.loop-member.member-index _ c.loop-member.grids.items c.push.new.self.items c.in-Some.entries c.loop-member-test.true (sym c.in_ok-entries.ensures ∙ ap (option_map (λ v. v.items)) c.in-Some.is) c.in_ok-push-in-Some.ensures.items c.loop-member.invariant

pub returns-clause-ok : goal.returns-clause-ok
returns-clause-ok c = reading_ends (view c.args.value.now) c.loop-member.member-index c.loop-member.grids.items c.loop-member-test.false c.loop-member.invariant
