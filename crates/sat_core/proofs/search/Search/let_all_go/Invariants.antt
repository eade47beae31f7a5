use Rattle.sat_core.specs.Reducing.{places_of}
use Rattle.sat_core.proofs.GoLemmas.{IsLettingGo}
use Rattle.sat_core.proofs.search.Search.let_all_go.Given as goal

abbrev pub invariant-loop-r : goal.invariant-loop-r
invariant-loop-r l = IsLettingGo l.fn.self l.self (places_of l.gone) l.r-index
