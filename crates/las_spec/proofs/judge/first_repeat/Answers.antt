use Rattle.std.proofs.Common.{sym, ◌∙◌}
use Rattle.las_spec.proofs.TableLemmas.{repeats_here, repeats_none}
use Rattle.las_spec.proofs.judge.first_repeat.Goals as goal

pub returns-in-Some : goal.returns-in-Some
returns-in-Some c = repeats_here c.args.ports.now c.loop-m.m c.in-Some.n _ c.loop-m-test.true c.loop-m.invariant (sym c.first_at.ensures ∙ c.in-Some.is)

pub loop-m-preserved : goal.loop-m-preserved
loop-m-preserved c = repeats_none c.args.ports.now c.loop-m.m _ c.loop-m-test.true c.loop-m.invariant (sym c.first_at.ensures ∙ c.in_default.is)
