use Rattle.std.proofs.Common.{Some, inl, inr}
use Rattle.las_top.proofs.FaultLemmas.{none_rose}
use Rattle.las_top.proofs.run.run_las.Goals as goal

pub returns-in-Ok-clause-answer : goal.returns-in-Ok-clause-answer
returns-in-Ok-clause-answer g c = λ is. record {
  command = Some c.in-Ok.command;
  asked = c.in-Ok.ensures.form;
  answered = c.obey.ensures.answer is;
}

pub returns-in-Ok-clause-at_sink : goal.returns-in-Ok-clause-at_sink
returns-in-Ok-clause-at_sink g c = λ is. record {
  command = Some c.in-Ok.command;
  asked = c.in-Ok.ensures.form;
  left = c.obey.ensures.at_sink is;
}

pub returns-in-Ok-clause-at_shelf : goal.returns-in-Ok-clause-at_shelf
returns-in-Ok-clause-at_shelf g c = λ is. record {
  command = Some c.in-Ok.command;
  asked = c.in-Ok.ensures.form;
  left = c.obey.ensures.at_shelf is;
}

pub returns-in-Ok-clause-at_memory : goal.returns-in-Ok-clause-at_memory
returns-in-Ok-clause-at_memory g c = λ is. elim (c.obey.ensures.at_memory is) [
  | inl untouched ↦ inl untouched
  | inr left ↦ inr (record {
    command = Some c.in-Ok.command;
    asked = c.in-Ok.ensures.form;
    left = left;
  })
]

pub returns-in-Ok-clause-told : goal.returns-in-Ok-clause-told
returns-in-Ok-clause-told g c = record {
  of_source = c.obey.ensures.source_told;
  of_out = c.obey.ensures.out_told;
  of_err = c.obey.ensures.err_told;
  of_shelf = c.obey.ensures.shelf_told;
  one_sink = c.obey.ensures.one_sink;
}

pub returns-in-Ok-clause-no_fault : goal.returns-in-Ok-clause-no_fault
returns-in-Ok-clause-no_fault g c = none_rose _ _ _ (returns-in-Ok-clause-told g c)
