use Rattle.std.proofs.Common.{◌∙◌, ◌≤◌, sym, ap, length, Some, arith}
use Rattle.las_base.specs.Cells.{same_size}
use Rattle.las_base.proofs.Same.{same_size-is}
use Rattle.las_top.proofs.AuditLemmas.{any_passed, any_none}
use Rattle.las_top.proofs.verify.number_of.Goals as goal

pub returns-then-same_size : goal.returns-then-same_size
returns-then-same_size c = c.box_at.ensures.listed ∙ ap Some (sym (same_size-is c.args.size c.box_at.result (sym c.same_size.ensures ∙ c.if-same_size.true)))

pub loop-number-preserved : goal.loop-number-preserved
loop-number-preserved c = any_passed (same_size c.args.size) c.args.spec.now.boxes c.loop-number.number c.box_at.result c.loop-number.invariant c.box_at.ensures.listed (sym c.same_size.ensures ∙ c.if-same_size.false)

pub returns : goal.returns
returns c =
    let end : length c.args.spec.now.boxes ≤ c.loop-number.number = omega (arith, c.loop-number-test.false, c.box_count-number-end.ensures) in
    any_none (same_size c.args.size) c.args.spec.now.boxes c.loop-number.number c.loop-number.invariant end
