use Rattle.watch_lists.proofs.tests.four_clauses_come_to_a_conflict.Goals as goal

pub put_two-requires-clause-fits : goal.put_two-requires-clause-fits
put_two-requires-clause-fits g c = c.in_ok-trail.ensures.fits _
