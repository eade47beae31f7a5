use Rattle.std.proofs.Common.{codes, rules}
use Rattle.las_base.proofs.Sides.{sides_are_text}
use Rattle.box_sweep.specs.Lines.{box_line}
use Rattle.box_sweep.proofs.report.box_text.Goals as goal

pub returns-in-Found : goal.returns-in-Found
unfolding box_line
returns-in-Found c = rw (c.in-Found.is, ← c.size-size.ensures.size) (let law = sides_are_text c.size-size.result (codes " found\n") in search (rules))

pub returns-in-Undecided : goal.returns-in-Undecided
unfolding box_line
returns-in-Undecided c = rw (c.in-Undecided.is, ← c.size-size.ensures.size) (search (rules, sides_are_text))
