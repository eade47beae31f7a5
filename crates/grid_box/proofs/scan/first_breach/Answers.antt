use Rattle.std.proofs.Common.{rules, ◌∙◌, sym, refl}
use Rattle.grid_box.specs.PipeRules.{named_cells}
use Rattle.grid_box.proofs.BreachByLemmas.{broken_here, holds_here, all_hold}
use Rattle.grid_box.proofs.scan.first_breach.Goals as goal

pub loop-number-init : goal.loop-number-init
loop-number-init g c = λ keeps answers. refl

pub loop-number-preserved : goal.loop-number-preserved
loop-number-preserved g c = λ keeps answers.
    let r = c.loop-number-item.result in
    let found = c.first_breaking.ensures (keeps r.1) (λ cell answer. answers r.1 cell answer) in
    holds_here keeps (named_cells c.args.size) c.args.rules.now c.loop-number.number-index r c.loop-number-test.true c.loop-number-item.is (c.loop-number.invariant keeps answers) (sym found ∙ c.in_default.is)

pub returns-in-Some : goal.returns-in-Some
returns-in-Some g c = λ keeps answers.
    let r = c.loop-number-item.result in
    let found = c.first_breaking.ensures (keeps r.1) (λ cell answer. answers r.1 cell answer) in
    broken_here keeps (named_cells c.args.size) c.args.rules.now c.loop-number.number-index r c.in-Some.cell c.loop-number-test.true c.loop-number-item.is (c.loop-number.invariant keeps answers) (sym found ∙ c.in-Some.is)

pub returns : goal.returns
returns g c = λ keeps answers. all_hold keeps (named_cells c.args.size) c.args.rules.now c.loop-number.number-index c.loop-number-test.false (c.loop-number.invariant keeps answers)
