use Rattle.std.proofs.Common.{rules, arith, refl, ℕ, take, ◌++◌, length-append, length-take}
use Rattle.las_io.proofs.Given.{nothing_came, none_more, more_came, no_byte_came, all_was_left}
use Rattle.las_io.proofs.Rises.{read_well, rose_through, stays}
use Rattle.las_io.proofs.whole.read_all.Goals as goal

pub loop-all-init : goal.loop-all-init
loop-all-init g c = record {
  within = search rules;
  room = search rules;
  came = nothing_came _ _ _ _ c.new-all.ensures.items;
  faults = omega arith;
}

pub returns-in-Err-clause-read_fault : goal.returns-in-Err-clause-read_fault
returns-in-Err-clause-read_fault g c = λ _. rose_through _ _ _ (omega arith) c.in-Err.ensures.cause.failed

pub returns-in-Err-clause-rises : goal.returns-in-Err-clause-rises
returns-in-Err-clause-rises g c = λ _. refl

pub returns-in-Err-clause-before_fault : goal.returns-in-Err-clause-before_fault
returns-in-Err-clause-before_fault g c = λ _. record {
  bytes = c.loop-all.all.items;
  came = none_more _ _ _ _ _ _ c.loop-all.invariant.came c.in-Err.ensures.bytes c.in-Err.ensures.count;
  within = search rules;
}

pub returns-in-Err-clause-most : goal.returns-in-Err-clause-most
returns-in-Err-clause-most g c = record {
  bytes = c.loop-all.all.items;
  came = none_more _ _ _ _ _ _ c.loop-all.invariant.came c.in-Err.ensures.bytes c.in-Err.ensures.count;
  within = search rules;
}

pub returns-then-count-eq0-clause-all : goal.returns-then-count-eq0-clause-all
returns-then-count-eq0-clause-all g c = record {
  came = no_byte_came _ _ _ _ _ _ c.read.new.buf _ c.if-count-eq0.true c.loop-all.invariant.came c.in-Ok.ensures.bytes.0 c.in-Ok.ensures.count;
  end = search rules;
}

pub returns-then-count-eq0-clause-told : goal.returns-then-count-eq0-clause-told
returns-then-count-eq0-clause-told g c = all_was_left _ _ _ _ _ (record {
  came = no_byte_came _ _ _ _ _ _ c.read.new.buf _ c.if-count-eq0.true c.loop-all.invariant.came c.in-Ok.ensures.bytes.0 c.in-Ok.ensures.count;
  end = search rules;
})

pub returns-then-count-eq0-clause-most : goal.returns-then-count-eq0-clause-most
returns-then-count-eq0-clause-most g c = record {
  bytes = c.loop-all.all.items;
  came = no_byte_came _ _ _ _ _ _ c.read.new.buf _ c.if-count-eq0.true c.loop-all.invariant.came c.in-Ok.ensures.bytes.0 c.in-Ok.ensures.count;
  within = search rules;
}

pub loop-all-preserved : goal.loop-all-preserved
loop-all-preserved g c = record {
  within = omega (arith, c.in_ok-extend_from_slice.ensures.len, c.in-Ok.ensures.bound, length-take {A = ℕ});
  room = search rules;
  came = rw c.in_ok-extend_from_slice.ensures.items (more_came _ _ _ _ _ _ c.read.new.buf _ c.loop-all.invariant.came (omega (arith, c.in-Ok.ensures.bound)) c.in-Ok.ensures.bytes.0 c.in-Ok.ensures.count);
  faults = stays _ _ _ c.loop-all.invariant.faults c.in-Ok.ensures.cause.later (λ rose. read_well (c.in-Ok.ensures.cause.rises rose));
}

pub returns-in_err-extend_from_slice-clause-most : goal.returns-in_err-extend_from_slice-clause-most
returns-in_err-extend_from_slice-clause-most g c = record {
  bytes = c.loop-all.all.items ++ take c.in-Ok.count c.read.new.buf;
  came = more_came _ _ _ _ _ _ c.read.new.buf _ c.loop-all.invariant.came (omega (arith, c.in-Ok.ensures.bound)) c.in-Ok.ensures.bytes.0 c.in-Ok.ensures.count;
  within = omega (arith, c.in-Ok.ensures.bound, length-append {A = ℕ}, length-take {A = ℕ}, c.loop-all.all.ok.0);
}

pub returns-clause-too_long : goal.returns-clause-too_long
returns-clause-too_long g c = λ _. record {
  bytes = c.loop-all.all.items;
  came = c.loop-all.invariant.came;
  exact = omega (arith, c.loop-all.all.ok.0);
}
