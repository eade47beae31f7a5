use Rattle.std.proofs.Common.{sym, ◌∙◌}
use Rattle.grid_box.proofs.LegLemmas.{leg_at_minus, leg_at_plus}
use Rattle.grid_box.proofs.diagram.Diagram.leg_at.Goals as goal

pub returns-in_ok-high-in-Minus : goal.returns-in_ok-high-in-Minus
returns-in_ok-high-in-Minus c =
    rw c.in-Minus.is (sym (leg_at_minus c.args.self.now c.args.axis c.args.cell c.in_ok-step-in-Minus.field-0 (c.in_ok-high-in-Minus.field-0-0, c.in_ok-high-in-Minus.high) (sym c.step.ensures ∙ c.in_ok-step-in-Minus.was) (sym c.pipe.ensures ∙ c.in_ok-high-in-Minus.was)))

pub returns-in_ok-low-in-Plus : goal.returns-in_ok-low-in-Plus
returns-in_ok-low-in-Plus c =
    rw c.in-Plus.is (sym (leg_at_plus c.args.self.now c.args.axis c.args.cell (c.in_ok-low-in-Plus.low, c.in_ok-low-in-Plus.field-0-1) (sym c.pipe-in-Plus.ensures ∙ c.in_ok-low-in-Plus.was)))
