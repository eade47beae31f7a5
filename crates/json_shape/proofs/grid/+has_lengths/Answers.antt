use Rattle.std.proofs.Common.{◌∙◌, arith, sym}
use Rattle.serde_json.specs.View.{view}
use Rattle.json_shape.proofs.GridLemmas.{no_lengths, by_first, lengths_of_no_array, lengths_of_another, lengths_break, lengths_end}
use Rattle.json_shape.proofs.grid.+has_lengths.Goals as goal

pub returns-in_default : goal.returns-in_default
returns-in_default t c = no_lengths c.args.lengths.now (view c.args.value.now) (omega arith)

pub returns-then-items-length : goal.returns-then-items-length
returns-then-items-length t c =
    by_first c.args.lengths.now (view c.args.value.now) _ c.in-len1-up.len_at_least (lengths_of_another _ _ (view c.args.value.now) c.in-Some.items.now c.in-Some.ensures c.if-items-length.true)

pub returns-then-not-has_lengths : goal.returns-then-not-has_lengths
returns-then-not-has_lengths t c =
    by_first c.args.lengths.now (view c.args.value.now) _ c.in-len1-up.len_at_least
    (lengths_break _ _ (view c.args.value.now) c.in-Some.items.now c.loop-item.item-index c.item-item.result c.in-Some.ensures c.if-items-length.false c.loop-item.invariant c.loop-item-test.true c.item-item.is (sym c.has_lengths.ensures ∙ c.if-not-has_lengths.true))

pub returns-after-loop-item : goal.returns-after-loop-item
returns-after-loop-item t c =
    by_first c.args.lengths.now (view c.args.value.now) _ c.in-len1-up.len_at_least
    (lengths_end _ _ (view c.args.value.now) c.in-Some.items.now c.loop-item.item-index c.in-Some.ensures c.if-items-length.false c.loop-item.invariant c.loop-item-test.false)

pub returns-in-None : goal.returns-in-None
returns-in-None t c =
    by_first c.args.lengths.now (view c.args.value.now) _ c.in-len1-up.len_at_least (lengths_of_no_array _ _ (view c.args.value.now) c.in-None.ensures)
