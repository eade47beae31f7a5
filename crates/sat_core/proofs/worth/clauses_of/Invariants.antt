use Rattle.std.proofs.Common.{◌≡◌, take}
use Rattle.sat_core.specs.Reducing.{clauses_of}
use Rattle.sat_core.proofs.worth.clauses_of.Given as goal

abbrev pub invariant-loop-lesson : goal.invariant-loop-lesson
invariant-loop-lesson l = l.clauses.items ≡ clauses_of (take l.lesson-index l.idle)
