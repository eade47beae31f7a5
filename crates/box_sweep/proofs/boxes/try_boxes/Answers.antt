use Rattle.std.proofs.Common.{rules, ◌||◌, ◌<◌, ap, ◌∙◌, sym, subst, get_or, length}
use Rattle.las_io.proofs.Rises.{stays}
use Rattle.las_spec.specs.Boxes.{sweep_order}
use Rattle.box_sweep.specs.Words.{word_of}
use Rattle.box_sweep.proofs.Fronts.{at_error, went_well}
use Rattle.box_sweep.proofs.PartLemmas.{broken_between, broken_now}
use Rattle.box_sweep.proofs.SweepLemmas.{so_far_now, found_now, none_now}
use Rattle.box_sweep.proofs.OrderLemmas.{number_at}
use Rattle.box_sweep.proofs.boxes.try_boxes.Goals as goal

pub job_at-requires : goal.job_at-requires
job_at-requires g c =
    let within : c.loop-number.number-index < length (sweep_order c.args.spec.now.boxes) = subst (λ o. c.loop-number.number-index < length o) c.requires.order c.loop-number-test.true in
    subst (λ o. get_or o c.loop-number.number-index 0 < length c.args.spec.now.boxes) (sym c.requires.order) (number_at c.args.spec.now.boxes c.loop-number.number-index within)

pub returns-then-is_found-clause-tried : goal.returns-then-is_found-clause-tried
returns-then-is_found-clause-tried g c =
    let word = word_of c.in_ok-job.job c.in_ok-verdict.verdict in
    found_now c.args.spec.now c.args.budget c.args.order.now c.loop-number.number-index c.loop-number.undecided _ _ _ _ _ _ _ _ _ c.requires.order c.in_ok-job.job word c.ending_by.result c.size.result
    c.size-own.ensures.kept c.loop-number-test.true c.loop-number.invariant.so_far c.in_ok-job.ensures c.in_ok-verdict.ensures.tried (sym (c.is_found.ensures c.in_ok-job.job) ∙ c.if-is_found.true) c.ending_by.ensures c.size.ensures.size

pub loop-number-preserved : goal.loop-number-preserved
loop-number-preserved g c = record {
  so_far =
      let word = word_of c.in_ok-job.job c.in_ok-verdict.verdict in
      so_far_now c.args.spec.now c.args.budget c.args.order.now c.loop-number.number-index c.loop-number.undecided _ _ _ _ _ _ _ _ _ c.requires.order c.in_ok-job.job word (c.loop-number.undecided || c.is_undecided-undecided.result)
      c.size-own.ensures.kept c.loop-number-test.true c.loop-number.invariant.so_far c.in_ok-job.ensures c.in_ok-verdict.ensures.tried (sym (c.is_found.ensures c.in_ok-job.job) ∙ c.if-is_found.false) (ap (λ u. c.loop-number.undecided || u) (c.is_undecided-undecided.ensures c.in_ok-job.job));
  none_begun = search rules;
  out_stands = stays _ _ _ c.loop-number.invariant.out_stands c.in_ok-verdict.ensures.cause.out_later (λ rose. went_well _ _ (c.in_ok-verdict.ensures.cause.out_rises rose));
  err_stands = stays _ _ _ c.loop-number.invariant.err_stands c.in_ok-verdict.ensures.cause.err_later (λ rose. went_well _ _ (c.in_ok-verdict.ensures.cause.err_rises rose));
  shelf_stands = stays _ _ _ c.loop-number.invariant.shelf_stands c.in_ok-verdict.ensures.cause.shelf_later (λ rose. went_well _ _ (c.in_ok-verdict.ensures.cause.shelf_rises rose));
}

pub returns-clause-tried : goal.returns-clause-tried
returns-clause-tried g c =
    none_now c.args.spec.now c.args.budget c.args.order.now c.loop-number.number-index c.loop-number.undecided _ _ _ _ _ _ c.requires.order c.ending_by-2.result c.size-own.result
    c.loop-number-test.false c.loop-number.auto.number-index-end c.loop-number.invariant.so_far c.ending_by-2.ensures

pub returns-in_err-job-clause-broken_off : goal.returns-in_err-job-clause-broken_off
returns-in_err-job-clause-broken_off g c =
    at_error _ _ (broken_between c.args.spec.now c.args.budget c.loop-number.number-index c.loop-number.undecided _ _ _ _ _ _ c.loop-number.invariant.so_far)

pub returns-in_err-verdict-clause-broken_off : goal.returns-in_err-verdict-clause-broken_off
returns-in_err-verdict-clause-broken_off g c =
    at_error _ _ (broken_now c.args.spec.now c.args.budget c.args.order.now c.loop-number.number-index c.loop-number.undecided _ _ _ _ _ _ _ _ _ c.in_ok-job.job c.requires.order
    c.size-own.ensures.kept c.loop-number-test.true c.loop-number.invariant.so_far c.in_ok-job.ensures c.in_err-verdict.ensures.broken_off)
