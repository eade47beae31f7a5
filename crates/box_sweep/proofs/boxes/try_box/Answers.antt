use Rattle.std.proofs.Common.{inr}
use Rattle.box_sweep.specs.Lines.{box_line}
use Rattle.box_sweep.specs.Words.{word_of}
use Rattle.box_sweep.proofs.Fronts.{at_error, front_of_none}
use Rattle.box_sweep.proofs.boxes.try_box.Goals as goal

pub returns-in_err-print_found-clause-broken_off : goal.returns-in_err-print_found-clause-broken_off
returns-in_err-print_found-clause-broken_off g c =
    let word = word_of c.args.job.now c.in_ok-verdict.verdict in
    at_error _ _ (inr (record {
      word = word;
      is_true = c.in_ok-verdict.ensures.verdict;
      others_stay = c.in_ok-verdict.ensures.others;
      printed = c.print_found.ensures.front;
      said = front_of_none (g.E.Sink.held c.args.err.now) (box_line c.args.job.now.size word);
    }))
