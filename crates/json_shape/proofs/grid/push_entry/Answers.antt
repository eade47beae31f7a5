use Rattle.std.proofs.Common.{[], ◌∷◌, sym, ap, ◌∙◌}
use Rattle.std.specs.Prelude.{option_map}
use Rattle.serde_json.specs.View.{view}
use Rattle.json_shape.proofs.GridLemmas.{entries_flat}
use Rattle.json_shape.proofs.grid.push_entry.Goals as goal

pub returns-in-None-clause-shape : goal.returns-in-None-clause-shape
returns-in-None-clause-shape c _ = entries_flat (view c.args.value.now) ∙ ap (option_map (λ e. e ∷ [])) (sym c.in-None.ensures)

pub returns-in_ok-push-in-Some-clause-ok : goal.returns-in_ok-push-in-Some-clause-ok
returns-in_ok-push-in-Some-clause-ok c =
    (c.in-Some.entry ∷ [], entries_flat (view c.args.value.now) ∙ ap (option_map (λ e. e ∷ [])) (sym c.in-Some.ensures), c.in_ok-push-in-Some.ensures.items)
