use Rattle.std.proofs.Common.{◌≡◌, map, take, Some}
use Rattle.las_spec.proofs.make.words_written.Given as goal

abbrev pub invariant-loop-flow : goal.invariant-loop-flow
invariant-loop-flow l = map (λ w. w.items) l.words.items ≡ map (map Some) (take l.flow-index l.flows)
