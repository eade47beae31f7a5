use Rattle.std.proofs.Common.{sym, ap, ◌∙◌, position, is_none}
use Rattle.las_spec.proofs.TableLemmas.{bad_letter_here, bad_letter_none}
use Rattle.las_spec.proofs.judge.first_bad_letter.Goals as goal

pub returns-in-Some : goal.returns-in-Some
returns-in-Some c = bad_letter_here c.args.words.now c.loop-n.n c.in-Some.p c.index-words-n.result c.loop-n-test.true c.index-words-n.is c.loop-n.invariant (ap (position is_none) (sym c.deref.ensures.value) ∙ sym c.first_none.ensures ∙ c.in-Some.is)

pub loop-n-preserved : goal.loop-n-preserved
loop-n-preserved c = bad_letter_none c.args.words.now c.loop-n.n c.index-words-n.result c.loop-n-test.true c.index-words-n.is c.loop-n.invariant (ap (position is_none) (sym c.deref.ensures.value) ∙ sym c.first_none.ensures ∙ c.in_default.is)
