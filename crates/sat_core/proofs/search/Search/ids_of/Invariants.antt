use Rattle.std.proofs.Common.{◌≡◌, take}
use Rattle.clause_arena.specs.Words.{clauses_in}
use Rattle.sat_core.specs.Reducing.{ids_in, places_of}
use Rattle.sat_core.proofs.search.Search.ids_of.Given as goal

abbrev pub invariant-loop-r : goal.invariant-loop-r
invariant-loop-r l = l.ids.items ≡ ids_in (clauses_in l.self.arena) (places_of (take l.r-index l.clauses))
