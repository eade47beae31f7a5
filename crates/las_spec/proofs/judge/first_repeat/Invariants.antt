use Rattle.std.proofs.Common.{◌≡◌, [], take, drop}
use Rattle.las_spec.specs.Refusals.{first_repeat}
use Rattle.las_spec.proofs.TableLemmas.{places_of}
use Rattle.las_spec.proofs.judge.first_repeat.Given as goal

abbrev pub invariant-loop-m : goal.invariant-loop-m
invariant-loop-m l = first_repeat [] 0 (places_of l.ports) ≡ first_repeat (places_of (take l.m l.ports)) l.m (places_of (drop l.m l.ports))
