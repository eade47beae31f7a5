use Rattle.std.proofs.Common.{◌≡◌, ◌∙◌, ◌+◌, ◌≤◌, length, Some, sym, ap, arith}
use Rattle.std.specs.List.{find}
use Rattle.las_base.specs.Cells.{numbers_from}
use Rattle.las_base.proofs.Blocks.{length-numbers_from}
use Rattle.grid_box.proofs.FindLemmas.{found_next, passed_next, none_passed}
use Rattle.lasre_codec.specs.Entries.{is_bad_at}
use Rattle.lasre_codec.specs.Kept.{entries_kept}
use Rattle.lasre_codec.proofs.BitLemmas.{number_at}
use Rattle.lasre_codec.proofs.bits.bad_place.Goals as goal

pub returns-then-is_bad_at : goal.returns-then-is_bad_at
returns-then-is_bad_at c =
    let test = is_bad_at (entries_kept c.args.grids.now) c.args.cells c.args.member in
    let count = length c.entries_of-place-end.result.now in
    let here : 0 + c.loop-place.place ≡ c.loop-place.place = omega arith in
    let at = number_at 0 count c.loop-place.place c.loop-place-test.true ∙ ap Some here in
    sym (ap (λ es. find test (numbers_from 0 (length es))) (sym c.entries_of-place-end.ensures) ∙ found_next test (numbers_from 0 count) c.loop-place.place c.loop-place.place c.loop-place.invariant at (sym c.is_bad_at.ensures ∙ c.if-is_bad_at.true))

pub loop-place-preserved : goal.loop-place-preserved
loop-place-preserved c =
    let test = is_bad_at (entries_kept c.args.grids.now) c.args.cells c.args.member in
    let count = length c.entries_of-place-end.result.now in
    let here : 0 + c.loop-place.place ≡ c.loop-place.place = omega arith in
    let at = number_at 0 count c.loop-place.place c.loop-place-test.true ∙ ap Some here in
    passed_next test (numbers_from 0 count) c.loop-place.place c.loop-place.place c.loop-place.invariant at (sym c.is_bad_at.ensures ∙ c.if-is_bad_at.false)

pub returns : goal.returns
returns c =
    let test = is_bad_at (entries_kept c.args.grids.now) c.args.cells c.args.member in
    let count = length c.entries_of-place-end.result.now in
    let all : length (numbers_from 0 count) ≤ c.loop-place.place = omega (arith, length-numbers_from 0 count, c.loop-place-test.false) in
    sym (ap (λ es. find test (numbers_from 0 (length es))) (sym c.entries_of-place-end.ensures) ∙ none_passed test (numbers_from 0 count) c.loop-place.place c.loop-place.invariant all)
