use Rattle.watch_lists.proofs.trail.Trail.turn_open.Given as goal

abbrev pub ghost-go_over : goal.ghost-go_over
ghost-go_over g a = g.attached
