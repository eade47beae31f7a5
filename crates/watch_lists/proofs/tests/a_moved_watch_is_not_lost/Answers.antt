use Rattle.watch_lists.proofs.tests.a_moved_watch_is_not_lost.Goals as goal

pub put_three-requires-clause-fits : goal.put_three-requires-clause-fits
put_three-requires-clause-fits g c = c.in_ok-trail.ensures.fits _

pub decide-requires-3-clause-fits : goal.decide-requires-3-clause-fits
decide-requires-3-clause-fits g c = c.back_to.ensures.fits _ c.decide-2.ensures.fits
