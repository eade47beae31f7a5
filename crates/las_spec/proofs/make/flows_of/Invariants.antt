use Rattle.std.proofs.Common.{◌≡◌, map, take}
use Rattle.las_spec.specs.Briefs.{letters_of}
use Rattle.las_spec.proofs.make.flows_of.Given as goal

abbrev pub invariant-loop-word : goal.invariant-loop-word
invariant-loop-word l = l.flows.items ≡ map letters_of (map (λ w. w.items) (take l.word-index l.words))
