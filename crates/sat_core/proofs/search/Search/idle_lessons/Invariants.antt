use Rattle.clause_arena.specs.Words.{clauses_in}
use Rattle.sat_core.proofs.ChosenLemmas.{IsFinding}
use Rattle.sat_core.proofs.search.Search.idle_lessons.Given as goal

abbrev pub invariant-loop-r : goal.invariant-loop-r
invariant-loop-r l = IsFinding l.formula l.self.trail (clauses_in l.self.arena) l.refs l.r-index l.idle.items l.lessons
