use Rattle.watch_lists.proofs.tests.a_long_chain_is_walked.Goals as goal

pub put_chain-requires-clause-fits : goal.put_chain-requires-clause-fits
put_chain-requires-clause-fits g c = c.in_ok-trail.ensures.fits _
