use Rattle.std.proofs.Common.{◌≡◌, drop}
use Rattle.las_spec.specs.Refusals.{first_bad_box}
use Rattle.las_spec.proofs.judge.first_bad_box.Given as goal

abbrev pub invariant-loop-n : goal.invariant-loop-n
invariant-loop-n l = first_bad_box l.own l.ports 0 l.boxes ≡ first_bad_box l.own l.ports l.n (drop l.n l.boxes)
