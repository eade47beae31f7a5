-- No breach means that every rule of sheets holds.
use Rattle.std.proofs.Common.{◌≡◌, not, Option, Some, None, refl}
use Rattle.std.specs.List.{find}
use Rattle.las_base.specs.declared.Cell.{Cell}
use Rattle.grid_box.specs.Breaches.{or_else}
use Rattle.grid_box.specs.PipeRules.{named_cells}
use Rattle.grid_box.specs.Sheets.{ports_spell, y_sheets_match, sheets_join_at}
use Rattle.grid_box.proofs.BreachLemmas.{none_fails, all_pass}
use Rattle.surface_rules.specs.Serving.{NoBreachServes}

three_none : (a b c : Option Cell) → or_else a 1 (or_else b 2 (or_else c 3 None)) ≡ None → (a ≡ None) × (b ≡ None) × (c ≡ None)
three_none (Some x) b c e = absurd (cc)
three_none None (Some x) c e = absurd (cc)
three_none None None (Some x) e = absurd (cc)
three_none None None None e = (refl, refl, refl)

three_from : (a b c : Option Cell) → a ≡ None → b ≡ None → c ≡ None → or_else a 1 (or_else b 2 (or_else c 3 None)) ≡ None
three_from a b c ea eb ec = rw (ea, eb, ec) refl

pub no_breach_serves : NoBreachServes
no_breach_serves t d ss word = (
  (λ e.
      let k = three_none (find (λ c. not (ports_spell t d ss word c)) (named_cells t.size)) (find (λ c. not (y_sheets_match t d ss c)) (named_cells t.size)) (find (λ c. not (sheets_join_at t d ss c)) (named_cells t.size)) e in
      record {
        letters = none_fails (ports_spell t d ss word) (named_cells t.size) k.0;
        y_cells = none_fails (y_sheets_match t d ss) (named_cells t.size) k.1;
        joints = none_fails (sheets_join_at t d ss) (named_cells t.size) k.2;
      }),
  (λ s.
      three_from (find (λ c. not (ports_spell t d ss word c)) (named_cells t.size)) (find (λ c. not (y_sheets_match t d ss c)) (named_cells t.size)) (find (λ c. not (sheets_join_at t d ss c)) (named_cells t.size))
      (all_pass (ports_spell t d ss word) (named_cells t.size) s.letters)
      (all_pass (y_sheets_match t d ss) (named_cells t.size) s.y_cells)
      (all_pass (sheets_join_at t d ss) (named_cells t.size) s.joints)),
)
