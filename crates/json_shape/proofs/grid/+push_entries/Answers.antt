use Rattle.std.proofs.Common.{◌≡◌, ◌-◌, arith, rules, ap}
use Rattle.std.specs.Prelude.{Result, Err, IsErrOf}
use Rattle.std.proofs.lemmas.Result.{err_from_is_err_and}
use Rattle.serde_json.specs.View.{view}
use Rattle.json_shape.specs.declared.grid.Unread.{Unread}
use Rattle.json_shape.specs.declared.grid.Unread.TheVariants.{Shape}
use Rattle.json_shape.proofs.GridLemmas.{joining_goes_on, joining_breaks, joining_ends, entries_of_no_array}
use Rattle.json_shape.proofs.grid.+push_entries.Goals as goal

-- the error that a `?` hands on is the callee's
handed_on : {T U : Type 0} (r : Result T Unread) (e f : Unread) → (y : Unread) × (r ≡ Err y) × (y ≡ e) → r ≡ Err f → IsErrOf {T = U} (Err e) f
handed_on r e f p is = let (y, r_is, same) = p in let q : e ≡ f = cc in ap Err q

pub returns-in_err-push_entries-in-Some-clause-shape : goal.returns-in_err-push_entries-in-Some-clause-shape
returns-in_err-push_entries-in-Some-clause-shape t c is =
    let p = err_from_is_err_and c.from_residual.result c.from_residual.ensures.1 in
    joining_breaks c.args.depth (view c.args.value.now) c.in-Some.items.now c.loop-item.item-index c.item-item.result _ _ (omega arith) c.in-Some.ensures c.loop-item.invariant c.loop-item-test.true c.item-item.is
    (c.in_err-push_entries-in-Some.ensures.shape (handed_on c.from_residual.result _ Shape p is))

pub loop-item-preserved : goal.loop-item-preserved
loop-item-preserved t c =
    let appended = c.in_ok-push_entries-in-Some.ensures.ok in
    joining_goes_on (c.args.depth - 1) _ c.loop-item.item-index c.item-item.result _ c.loop-item.out.items _ appended.0 c.loop-item.invariant (search rules) c.item-item.is appended.1 appended.2

pub returns-after-loop-item-clause-ok : goal.returns-after-loop-item-clause-ok
returns-after-loop-item-clause-ok t c =
    joining_ends c.args.depth (view c.args.value.now) c.in-Some.items.now c.loop-item.item-index c.args.out.now.items c.loop-item.out.items (omega arith) c.in-Some.ensures c.loop-item.invariant (omega arith)

pub returns-in-None-clause-shape : goal.returns-in-None-clause-shape
returns-in-None-clause-shape t c e = entries_of_no_array c.args.depth (view c.args.value.now) (omega arith) c.in-None.ensures
