use Rattle.std.proofs.Common.{◌∙◌, arith}
use Rattle.log_check.proofs.TableLemmas.{not_there, zero_is_none}
use Rattle.log_check.proofs.table.place_of.Goals as goal
use Rattle.log_check.proofs.table.place_of.Goals.{else-place-entries-via-then-place-entries+else-id_of-id-2, else-place-entries-via-else-place-entries}

pub returns-then-id-eq0 : goal.returns-then-id-eq0
returns-then-id-eq0 c = zero_is_none c.args.entries.now c.args.last c.args.id c.requires c.if-id-eq0.true

pub returns-else-place-entries : goal.returns-else-place-entries
returns-else-place-entries c =
    not_there c.args.entries.now c.args.last c.args.id c.first_not_below-place.result c.requires c.first_not_below-place.ensures.below c.first_not_below-place.ensures.rest
    (λ h is. elim c.else-place-entries.branch as (λ _. ⊥) [
      | else-place-entries-via-then-place-entries+else-id_of-id-2 w ↦ w.if-id_of-id-2.false (w.id_of-then-place-entries.ensures ∙ is)
      | else-place-entries-via-else-place-entries w ↦ absurd (omega (arith, h, w.if-place-entries.false))
    ])
