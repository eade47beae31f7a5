use Rattle.las_top.proofs.FlowLemmas.{broken_in_flows, swept_in_flows}
use Rattle.las_top.proofs.sweep.sweep_spec.Goals as goal

pub returns-in-Ok-clause-swept : goal.returns-in-Ok-clause-swept
returns-in-Ok-clause-swept g c = λ is. record {
  end = c.in-Ok.ending;
  swept = swept_in_flows _ _ _ _ _ _ _ _ _ c.size.ensures.kept c.in-Ok.ensures.swept;
  status_is = c.status_by.ensures;
}

pub returns-in-Err-WriteFault-clause-broken_off : goal.returns-in-Err-WriteFault-clause-broken_off
returns-in-Err-WriteFault-clause-broken_off g c = λ is. broken_in_flows _ _ _ _ _ _ _ _ c.size.ensures.kept c.in-Err-WriteFault.ensures.broken_off

pub returns-in-Err-ShelfFault-clause-broken_off : goal.returns-in-Err-ShelfFault-clause-broken_off
returns-in-Err-ShelfFault-clause-broken_off g c = λ is. broken_in_flows _ _ _ _ _ _ _ _ c.size.ensures.kept c.in-Err-ShelfFault.ensures.broken_off

pub returns-in-Err-Memory-clause-broken_off : goal.returns-in-Err-Memory-clause-broken_off
returns-in-Err-Memory-clause-broken_off g c = λ is. broken_in_flows _ _ _ _ _ _ _ _ c.size.ensures.kept c.in-Err-Memory.ensures.broken_off
