use Rattle.std.proofs.Common.{sym, ◌∙◌}
use Rattle.json_shape.proofs.EachLemmas.{way_goes_on, way_breaks, way_ends}
use Rattle.json_shape.specs.Numbers.{triple}
use Rattle.spec_codec.proofs.document.triples_of.Goals as goal

pub returns-in-None : goal.returns-in-None
returns-in-None c = sym (way_breaks triple c.args.values.now c.loop-value.value-index c.value-item.result c.loop-value.triples.items c.loop-value.invariant c.loop-value-test.true c.value-item.is (sym c.triple.ensures ∙ c.in-None.is))

pub loop-value-preserved : goal.loop-value-preserved
loop-value-preserved c = way_goes_on triple c.args.values.now c.loop-value.value-index c.value-item.result c.loop-value.triples.items c.push.new.self.items c.in-Some.numbers c.loop-value.invariant c.loop-value-test.true c.value-item.is (sym c.triple.ensures ∙ c.in-Some.is) c.in_ok-push-in-Some.ensures.items

pub returns : goal.returns
returns c = sym (way_ends triple c.args.values.now c.loop-value.value-index c.loop-value.triples.items c.loop-value.invariant c.loop-value-test.false)
