use Rattle.std.proofs.Common.{◌≡◌, drop}
use Rattle.las_spec.specs.Refusals.{first_bad_letter}
use Rattle.las_spec.proofs.TableLemmas.{letters_in}
use Rattle.las_spec.proofs.judge.first_bad_letter.Given as goal

abbrev pub invariant-loop-n : goal.invariant-loop-n
invariant-loop-n l = first_bad_letter 0 (letters_in l.words) ≡ first_bad_letter l.n (letters_in (drop l.n l.words))
