use Rattle.std.proofs.Common.{arith, sym, ◌∙◌, ◌∷◌, [], ap, length, length-append}
use Rattle.grid_box.specs.Legs.{positions}
use Rattle.grid_box.proofs.LegLemmas.{leg_pushed, leg_passed}
use Rattle.grid_box.proofs.diagram.Diagram.legs.Goals as goal
use Rattle.grid_box.proofs.diagram.Diagram.legs.Goals.{in-Some, in_default}

pub loop-axis-preserved : goal.loop-axis-preserved
loop-axis-preserved c = elim c.match-leg_at.branch [
  | in-Some w ↦ record {
    found = ap (λ v. v.items) w.legs-is ∙ w.push.ensures.items ∙ leg_pushed c.args.self.now c.args.cell positions c.loop-axis.axis-index _ c.loop-axis.legs.items w.in-Some.leg c.loop-axis-test.true (sym c.leg_at.ensures ∙ w.in-Some.is) c.loop-axis.invariant.found;
    few = omega (arith, ap length (ap (λ v. v.items) w.legs-is ∙ w.push.ensures.items), length-append c.loop-axis.legs.items (w.in-Some.leg ∷ []), c.loop-axis.invariant.few);
  }
  | in_default w ↦ record {
    found = ap (λ v. v.items) w.legs-is ∙ leg_passed c.args.self.now c.args.cell positions c.loop-axis.axis-index _ c.loop-axis.legs.items c.loop-axis-test.true (sym c.leg_at.ensures ∙ w.in_default.is) c.loop-axis.invariant.found;
    few = omega (arith, ap (λ v. length v.items) w.legs-is, c.loop-axis.invariant.few);
  }
]
