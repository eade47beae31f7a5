use Rattle.std.proofs.Common.{sym, ◌∙◌}
use Rattle.las_spec.proofs.TableLemmas.{bad_port_here, bad_port_none}
use Rattle.las_spec.proofs.judge.first_bad_port.Goals as goal

pub returns-then-not-keeps_order : goal.returns-then-not-keeps_order
returns-then-not-keeps_order c = bad_port_here c.args.own c.args.size c.args.ports.now c.loop-n.n _ c.loop-n-test.true c.loop-n.invariant (sym c.keeps_order.ensures ∙ c.if-not-keeps_order.true)

pub loop-n-preserved : goal.loop-n-preserved
loop-n-preserved c = bad_port_none c.args.own c.args.size c.args.ports.now c.loop-n.n _ c.loop-n-test.true c.loop-n.invariant (sym c.keeps_order.ensures ∙ c.if-not-keeps_order.false)
