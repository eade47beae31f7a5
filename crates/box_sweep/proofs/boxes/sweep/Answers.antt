use Rattle.box_sweep.proofs.Fronts.{at_error}
use Rattle.box_sweep.proofs.PartLemmas.{broken_at_end, broken_at_once}
use Rattle.box_sweep.proofs.boxes.sweep.Goals as goal

pub returns-in_err-order-clause-broken_off : goal.returns-in_err-order-clause-broken_off
returns-in_err-order-clause-broken_off g c =
    at_error _ _ (broken_at_once c.args.spec.now c.args.budget (g.H.Shelf.files c.args.shelf.now) (g.K.Sink.held c.args.out.now) (g.E.Sink.held c.args.err.now))

pub returns-in_err-say_ending-clause-broken_off : goal.returns-in_err-say_ending-clause-broken_off
returns-in_err-say_ending-clause-broken_off g c =
    at_error _ _ (broken_at_end c.args.spec.now c.args.budget _ _ _ _ _ _ _ c.in_ok-ending.ending c.in_ok-ending.last c.in_ok-ending.ensures.tried c.say_ending.ensures.front)
