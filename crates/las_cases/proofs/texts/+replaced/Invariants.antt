use Rattle.las_cases.proofs.texts.+replaced.Given as goal

abbrev pub decreases-replaced : goal.decreases-replaced
decreases-replaced l = l.depth
