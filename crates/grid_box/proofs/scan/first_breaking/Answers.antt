use Rattle.std.proofs.Common.{rules, ◌∙◌, ◌≤◌, sym, ap, not, length, refl, arith}
use Rattle.std.specs.List.{find}
use Rattle.las_base.specs.Cells.{cells}
use Rattle.las_base.proofs.Blocks.{all_cells}
use Rattle.grid_box.proofs.FindLemmas.{found_next, passed_next, none_passed}
use Rattle.grid_box.proofs.scan.first_breaking.Goals as goal

pub loop-number-init : goal.loop-number-init
loop-number-init g c = λ test answers. refl

pub returns-then-not-keeps : goal.returns-then-not-keeps
returns-then-not-keeps g c = λ test answers.
    let answer = answers c.cell-cell.result c.keeps.result (search rules) c.keeps.ensures in
    let found = found_next (λ x. not (test x)) (cells c.widened-wide.result) c.loop-number.number c.cell-cell.result (c.loop-number.invariant test answers) c.cell-cell.ensures.listed (ap not (sym answer ∙ c.if-not-keeps.true)) in
    sym (ap (λ s. find (λ x. not (test x)) (cells s)) (sym c.widened-wide.ensures) ∙ found)

pub loop-number-preserved : goal.loop-number-preserved
loop-number-preserved g c = λ test answers.
    let answer = answers c.cell-cell.result c.keeps.result (search rules) c.keeps.ensures in
    passed_next (λ x. not (test x)) (cells c.widened-wide.result) c.loop-number.number c.cell-cell.result (c.loop-number.invariant test answers) c.cell-cell.ensures.listed (ap not (sym answer ∙ c.if-not-keeps.false))

pub returns : goal.returns
returns g c = λ test answers.
    let all : length (cells c.widened-wide.result) ≤ c.loop-number.number = omega (arith, all_cells c.widened-wide.result, c.volume-number-end.ensures) in
    sym (ap (λ s. find (λ x. not (test x)) (cells s)) (sym c.widened-wide.ensures) ∙ none_passed (λ x. not (test x)) (cells c.widened-wide.result) c.loop-number.number (c.loop-number.invariant test answers) all)
