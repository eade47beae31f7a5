use Rattle.conflict_learn.proofs.tests.four_clauses_teach_a_unit.Goals as goal

pub hold_four-requires-clause-fits : goal.hold_four-requires-clause-fits
hold_four-requires-clause-fits g c = c.in_ok-trail.ensures.fits _
