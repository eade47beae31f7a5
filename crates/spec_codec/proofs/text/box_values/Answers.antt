use Rattle.std.proofs.Common.{arith, length, ◌≤◌, ap, ◌∙◌}
use Rattle.serde_json.specs.Data.{array}
use Rattle.serde_json.specs.View.{items_of}
use Rattle.serde_json.proofs.Views.{view-Array}
use Rattle.spec_codec.proofs.TextLemmas.{box_put, boxes_put}
use Rattle.spec_codec.proofs.text.box_values.Goals as goal

pub loop-number-preserved : goal.loop-number-preserved
loop-number-preserved c =
    box_put c.args.spec.now.boxes c.loop-number.number c.box_at.result c.loop-number.values.items c.push.new.self.items c.in_ok-size_value.field-0 c.loop-number.invariant c.box_at.ensures.listed c.in_ok-size_value.ensures c.in_ok-push.ensures.items

pub returns : goal.returns
returns c =
    let all : length c.args.spec.now.boxes ≤ c.loop-number.number = omega (arith, c.box_count-number-end.ensures, c.loop-number-test.false) in
    view-Array c.loop-number.values ∙ ap (λ ds. array (items_of ds)) (boxes_put c.args.spec.now.boxes c.loop-number.number c.loop-number.values.items c.loop-number.invariant all)
