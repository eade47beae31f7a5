use Rattle.std.proofs.Common.{sym, ◌∙◌}
use Rattle.json_shape.proofs.EachLemmas.{way_goes_on, way_breaks, way_ends}
use Rattle.spec_codec.specs.Documents.{port_in}
use Rattle.spec_codec.proofs.document.ports_of.Goals as goal

pub returns-in-None : goal.returns-in-None
returns-in-None c = sym (way_breaks port_in c.args.values.now c.loop-value.value-index c.value-item.result c.loop-value.ports.items c.loop-value.invariant c.loop-value-test.true c.value-item.is (sym c.read_port.ensures ∙ c.in-None.is))

pub loop-value-preserved : goal.loop-value-preserved
loop-value-preserved c = way_goes_on port_in c.args.values.now c.loop-value.value-index c.value-item.result c.loop-value.ports.items c.push.new.self.items c.in-Some.port c.loop-value.invariant c.loop-value-test.true c.value-item.is (sym c.read_port.ensures ∙ c.in-Some.is) c.in_ok-push-in-Some.ensures.items

pub returns : goal.returns
returns c = sym (way_ends port_in c.args.values.now c.loop-value.value-index c.loop-value.ports.items c.loop-value.invariant c.loop-value-test.false)
