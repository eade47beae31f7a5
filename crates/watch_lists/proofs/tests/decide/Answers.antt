use Rattle.watch_lists.proofs.tests.decide.Goals as goal

pub propagate-requires-2 : goal.propagate-requires-2
propagate-requires-2 c = c.decide.ensures.fits _ c.propagate.ensures.fits
