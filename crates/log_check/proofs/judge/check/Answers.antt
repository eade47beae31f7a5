use Rattle.std.proofs.Common.{◌≡◌, ◌<◌, ◌∙◌, Ok, Err, Some, IfOk, OnSome, IfSome, is_err, sym, ap, refl, subst, arith}
use Rattle.std.proofs.lemmas.Result.{err_from_is_err_and}
use Rattle.las_io.proofs.Rises.{stays}
use Rattle.clause_log.specs.Steps.{Gives, step_is}
use Rattle.log_check.specs.Scans.{Judges}
use Rattle.log_check.specs.Answers.{end_is}
use Rattle.log_check.proofs.CheckLemmas.{accepted_refutes, at_a_bad_line, at_the_end, at_the_limit, begins, behind_the_end, given_well, no_memory, no_shelf, not_passed, one_taken}
use Rattle.log_check.proofs.judge.check.Goals as goal

pub returns-in_err-table-clause-answer : goal.returns-in_err-table-clause-answer
returns-in_err-table-clause-answer g c = let p = err_from_is_err_and c.from_residual.result c.from_residual.ensures.1 in rw (p.1, p.2) (no_memory c.args.f.now (g.T.Steps.ahead c.args.steps.now))

pub returns-in_err-marks-clause-answer : goal.returns-in_err-marks-clause-answer
returns-in_err-marks-clause-answer g c = let p = err_from_is_err_and c.from_residual-in_err-marks.result c.from_residual-in_err-marks.ensures.1 in rw (p.1, p.2) (no_memory c.args.f.now (g.T.Steps.ahead c.args.steps.now))

pub loop-step-init : goal.loop-step-init
loop-step-init g c =
    let marks = c.in_ok-marks.ensures in
    let vars : c.in_ok-table.table.vars ≡ c.args.f.now.vars = c.in_ok-table.ensures.vars in record {
      vars = vars;
      same = ap (λ m. m.vars) marks ∙ c.vars.ensures.count ∙ sym vars;
      none = ap (λ m. m.trail) marks;
      way = begins c.args.f.now (g.T.Steps.ahead c.args.steps.now) c.args.f.now.vars c.in_ok-table.table.state refl c.in_ok-table.ensures.state;
      room = let few = g.met.T.Steps.room_within c.args.steps.now in omega (arith, few);
      faults = omega arith;
      failed = c.requires;
      goes_on = g.met.T.Steps.goes_on_from_itself c.args.steps.now;
    }

pub returns-in-Ok-None-clause-answer : goal.returns-in-Ok-None-clause-answer
returns-in-Ok-None-clause-answer g c =
    rw c.at_end.ensures (at_the_end c.args.f.now (g.T.Steps.ahead c.args.steps.now) (g.T.Steps.ahead c.loop-step.steps) (g.T.Steps.ahead c.next.new.self) c.args.f.now.vars c.loop-step.table.state c.loop-step.line c.loop-step.ended c.loop-step.invariant.way
    (subst (λ r. IfSome (g.T.Steps.ahead c.loop-step.steps) (Gives r (g.T.Steps.ahead c.next.new.self))) (c.in-Ok-None.is ∙ ap Ok c.in-Ok-None.field-0-is) c.next.ensures.gives))

pub returns-in-Ok-None-clause-refuted : goal.returns-in-Ok-None-clause-refuted
returns-in-Ok-None-clause-refuted g c =
    let answer = at_the_end c.args.f.now (g.T.Steps.ahead c.args.steps.now) (g.T.Steps.ahead c.loop-step.steps) (g.T.Steps.ahead c.next.new.self) c.args.f.now.vars c.loop-step.table.state c.loop-step.line c.loop-step.ended c.loop-step.invariant.way
    (subst (λ r. IfSome (g.T.Steps.ahead c.loop-step.steps) (Gives r (g.T.Steps.ahead c.next.new.self))) (c.in-Ok-None.is ∙ ap Ok c.in-Ok-None.field-0-is) c.next.ensures.gives) in
    λ accepted. accepted_refutes c.args.f.now (g.T.Steps.ahead c.args.steps.now) (Ok (end_is c.loop-step.line c.loop-step.ended)) answer (ap Ok (sym c.at_end.ensures) ∙ accepted)

pub returns-in-Err-Malformed-clause-answer : goal.returns-in-Err-Malformed-clause-answer
returns-in-Err-Malformed-clause-answer g c = at_a_bad_line c.args.f.now (g.T.Steps.ahead c.args.steps.now) (g.T.Steps.ahead c.loop-step.steps) (g.T.Steps.ahead c.next.new.self) c.args.f.now.vars c.loop-step.table.state c.loop-step.line c.in-Err-Malformed.field-0-0 c.loop-step.ended c.loop-step.invariant.way
    (subst (λ r. IfSome (g.T.Steps.ahead c.loop-step.steps) (Gives r (g.T.Steps.ahead c.next.new.self))) (c.in-Err-Malformed.is ∙ ap Err c.in-Err-Malformed.field-0-is) c.next.ensures.gives)

pub returns-in-Err-TooLong-clause-answer : goal.returns-in-Err-TooLong-clause-answer
returns-in-Err-TooLong-clause-answer g c = at_the_limit c.args.f.now (g.T.Steps.ahead c.args.steps.now) (g.T.Steps.ahead c.loop-step.steps) (g.T.Steps.ahead c.next.new.self) c.args.f.now.vars c.loop-step.table.state c.loop-step.line c.loop-step.ended c.loop-step.invariant.way
    (subst (λ r. IfSome (g.T.Steps.ahead c.loop-step.steps) (Gives r (g.T.Steps.ahead c.next.new.self))) (c.in-Err-TooLong.is ∙ ap Err c.in-Err-TooLong.field-0-is) c.next.ensures.gives)

pub returns-in-Err-ShelfFault-clause-answer : goal.returns-in-Err-ShelfFault-clause-answer
returns-in-Err-ShelfFault-clause-answer g c = no_shelf c.args.f.now (g.T.Steps.ahead c.args.steps.now)

pub returns-in-Err-Memory-clause-answer : goal.returns-in-Err-Memory-clause-answer
returns-in-Err-Memory-clause-answer g c = no_memory c.args.f.now (g.T.Steps.ahead c.args.steps.now)

pub returns-then-ended-clause-answer : goal.returns-then-ended-clause-answer
returns-then-ended-clause-answer g c = behind_the_end c.args.f.now (g.T.Steps.ahead c.args.steps.now) (g.T.Steps.ahead c.loop-step.steps) (g.T.Steps.ahead c.next.new.self) c.args.f.now.vars c.loop-step.table.state c.loop-step.line c.loop-step.ended c.in-Ok-Some.step c.loop-step.invariant.way c.if-ended.true
    (subst (λ r. IfSome (g.T.Steps.ahead c.loop-step.steps) (Gives r (g.T.Steps.ahead c.next.new.self))) (c.in-Ok-Some.is ∙ ap Ok c.in-Ok-Some.field-0-is) c.next.ensures.gives)

pub returns-in_err-why-clause-answer : goal.returns-in_err-why-clause-answer
returns-in_err-why-clause-answer g c = let p = err_from_is_err_and c.from_residual-in_err-why.result c.from_residual-in_err-why.ensures.1 in rw (p.1, p.2) (no_memory c.args.f.now (g.T.Steps.ahead c.args.steps.now))

pub returns-in-Some-clause-answer : goal.returns-in-Some-clause-answer
returns-in-Some-clause-answer g c =
    let judged : Judges c.args.f.now.vars c.loop-step.table.state (step_is c.in-Ok-Some.step) c.take_step.new.table.state (Some c.in-Some.why) =
    subst (λ v. Judges v c.loop-step.table.state (step_is c.in-Ok-Some.step) c.take_step.new.table.state (Some c.in-Some.why)) c.loop-step.invariant.vars
    (subst (Judges c.loop-step.table.vars c.loop-step.table.state (step_is c.in-Ok-Some.step) c.take_step.new.table.state) c.in-Some.is c.in_ok-why.ensures.judged) in
    not_passed c.args.f.now (g.T.Steps.ahead c.args.steps.now) (g.T.Steps.ahead c.loop-step.steps) (g.T.Steps.ahead c.next.new.self) c.args.f.now.vars c.loop-step.table.state c.take_step.new.table.state c.loop-step.line c.in-Some.why c.loop-step.ended c.in-Ok-Some.step c.loop-step.invariant.way c.if-ended.false
    (subst (λ r. IfSome (g.T.Steps.ahead c.loop-step.steps) (Gives r (g.T.Steps.ahead c.next.new.self))) (c.in-Ok-Some.is ∙ ap Ok c.in-Ok-Some.field-0-is) c.next.ensures.gives) judged

pub loop-step-preserved-in-None : goal.loop-step-preserved-in-None
loop-step-preserved-in-None g c =
    let judged : Judges c.args.f.now.vars c.loop-step.table.state (step_is c.in-Ok-Some.step) c.take_step.new.table.state c.in_ok-why.field-0 =
    subst (λ v. Judges v c.loop-step.table.state (step_is c.in-Ok-Some.step) c.take_step.new.table.state c.in_ok-why.field-0) c.loop-step.invariant.vars c.in_ok-why.ensures.judged in
    let less : g.T.Steps.room c.next.new.self < g.T.Steps.room c.loop-step.steps =
    subst (λ r. IfOk r (λ step. OnSome step (g.T.Steps.room c.next.new.self < g.T.Steps.room c.loop-step.steps))) (c.in-Ok-Some.is ∙ ap Ok c.in-Ok-Some.field-0-is) c.next.ensures.room in record {
      vars = c.in_ok-why.ensures.vars ∙ c.loop-step.invariant.vars;
      same = c.in_ok-why.ensures.same ∙ c.loop-step.invariant.same ∙ sym c.in_ok-why.ensures.vars;
      none = c.in_ok-why.ensures.none;
      way = one_taken c.args.f.now (g.T.Steps.ahead c.args.steps.now) (g.T.Steps.ahead c.loop-step.steps) (g.T.Steps.ahead c.next.new.self) c.args.f.now.vars c.loop-step.table.state c.take_step.new.table.state c.loop-step.line c.loop-step.ended c.in-Ok-Some.step c.in_ok-why.field-0 c.is_last-ended.result c.loop-step.invariant.way c.if-ended.false
          (subst (λ r. IfSome (g.T.Steps.ahead c.loop-step.steps) (Gives r (g.T.Steps.ahead c.next.new.self))) (c.in-Ok-Some.is ∙ ap Ok c.in-Ok-Some.field-0-is) c.next.ensures.gives) judged c.in-None.is c.is_last-ended.ensures;
      room = omega (arith, less, c.loop-step.invariant.room);
      faults = stays _ _ _ c.loop-step.invariant.faults c.next.ensures.cause.later (λ rose. given_well _ _ c.in-Ok-Some.is (c.next.ensures.cause.rises rose));
      failed = c.next.ensures.failed ∙ ap is_err (c.in-Ok-Some.is ∙ ap Ok c.in-Ok-Some.field-0-is);
      goes_on = g.met.T.Steps.goes_on_through c.next.new.self c.loop-step.steps c.args.steps.now c.next.ensures.goes_on c.loop-step.invariant.goes_on;
    }

pub loop-step-preserved : goal.loop-step-preserved
loop-step-preserved g c =
    let judged : Judges c.args.f.now.vars c.loop-step.table.state (step_is c.in-Ok-Some.step) c.take_step.new.table.state c.in_ok-why.field-0 =
    subst (λ v. Judges v c.loop-step.table.state (step_is c.in-Ok-Some.step) c.take_step.new.table.state c.in_ok-why.field-0) c.loop-step.invariant.vars c.in_ok-why.ensures.judged in
    let less : g.T.Steps.room c.next.new.self < g.T.Steps.room c.loop-step.steps =
    subst (λ r. IfOk r (λ step. OnSome step (g.T.Steps.room c.next.new.self < g.T.Steps.room c.loop-step.steps))) (c.in-Ok-Some.is ∙ ap Ok c.in-Ok-Some.field-0-is) c.next.ensures.room in record {
      vars = c.in_ok-why.ensures.vars ∙ c.loop-step.invariant.vars;
      same = c.in_ok-why.ensures.same ∙ c.loop-step.invariant.same ∙ sym c.in_ok-why.ensures.vars;
      none = c.in_ok-why.ensures.none;
      way = one_taken c.args.f.now (g.T.Steps.ahead c.args.steps.now) (g.T.Steps.ahead c.loop-step.steps) (g.T.Steps.ahead c.next.new.self) c.args.f.now.vars c.loop-step.table.state c.take_step.new.table.state c.loop-step.line c.loop-step.ended c.in-Ok-Some.step c.in_ok-why.field-0 c.is_last-ended.result c.loop-step.invariant.way c.if-ended.false
          (subst (λ r. IfSome (g.T.Steps.ahead c.loop-step.steps) (Gives r (g.T.Steps.ahead c.next.new.self))) (c.in-Ok-Some.is ∙ ap Ok c.in-Ok-Some.field-0-is) c.next.ensures.gives) judged c.in-None.is c.is_last-ended.ensures;
      room = omega (arith, less, c.loop-step.invariant.room);
      faults = stays _ _ _ c.loop-step.invariant.faults c.next.ensures.cause.later (λ rose. given_well _ _ c.in-Ok-Some.is (c.next.ensures.cause.rises rose));
      failed = c.next.ensures.failed ∙ ap is_err (c.in-Ok-Some.is ∙ ap Ok c.in-Ok-Some.field-0-is);
      goes_on = g.met.T.Steps.goes_on_through c.next.new.self c.loop-step.steps c.args.steps.now c.next.ensures.goes_on c.loop-step.invariant.goes_on;
    }
