use Rattle.watch_lists.proofs.tests.marked_clauses_leave.Goals as goal

pub put_two-requires-clause-fits : goal.put_two-requires-clause-fits
put_two-requires-clause-fits g c = c.in_ok-trail.ensures.fits _
