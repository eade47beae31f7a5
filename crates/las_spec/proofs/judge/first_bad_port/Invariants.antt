use Rattle.std.proofs.Common.{◌≡◌, [], take, drop}
use Rattle.las_spec.specs.Refusals.{first_bad_port}
use Rattle.las_spec.proofs.TableLemmas.{carried_places}
use Rattle.las_spec.proofs.judge.first_bad_port.Given as goal

abbrev pub invariant-loop-n : goal.invariant-loop-n
invariant-loop-n l = first_bad_port l.own l.size [] 0 l.ports ≡ first_bad_port l.own l.size (carried_places l.own l.size (take l.n l.ports)) l.n (drop l.n l.ports)
