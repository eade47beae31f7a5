use Rattle.std.proofs.Common.{sym, ◌∙◌}
use Rattle.las_spec.proofs.TableLemmas.{bad_box_here, bad_box_none}
use Rattle.las_spec.proofs.judge.first_bad_box.Goals as goal

pub returns-in-Some : goal.returns-in-Some
returns-in-Some c = bad_box_here c.args.own c.args.ports.now c.args.boxes.now c.loop-n.n c.in-Some.p _ c.loop-n-test.true c.loop-n.invariant (sym c.first_bad_port.ensures ∙ c.in-Some.is)

pub loop-n-preserved : goal.loop-n-preserved
loop-n-preserved c = bad_box_none c.args.own c.args.ports.now c.args.boxes.now c.loop-n.n _ c.loop-n-test.true c.loop-n.invariant (sym c.first_bad_port.ensures ∙ c.in_default.is)
