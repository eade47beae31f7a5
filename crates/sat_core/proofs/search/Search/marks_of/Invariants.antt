use Rattle.std.proofs.Common.{length}
use Rattle.sat_core.specs.Reducing.{places_of}
use Rattle.sat_core.proofs.MarkLemmas.{Marking}
use Rattle.sat_core.proofs.search.Search.marks_of.Given as goal

abbrev pub invariant-loop-r : goal.invariant-loop-r
invariant-loop-r l = Marking l.marks.items (length l.initial.marks.items) (places_of l.clauses) l.r-index
