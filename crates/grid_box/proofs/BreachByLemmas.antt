-- The first breach of rules with their numbers, rule by rule.
use Rattle.std.proofs.Common.{◌≡◌, ℕ, ◌+◌, ◌<◌, ◌≤◌, Bool, not, List, length, drop, get_or, Option, Some, None, sym, ap, ◌∙◌, drop_of_length-le}
use Rattle.std.specs.List.{find}
use Rattle.std.proofs.lemmas.List.{at_drop_more}
use Rattle.las_base.specs.declared.Cell.{Cell}
use Rattle.grid_box.specs.Breaches.{or_else}
use Rattle.grid_box.specs.CellTests.{breach_by}

module _ {R : Type 0} (keeps : R → Cell → Bool) (named : List Cell) (rs : List (ℕ × R)) where
  -- the first cell that breaks a rule
  abbrev failing : R → Option Cell
  failing r = find (λ c. not (keeps r c)) named

  -- the rules from one on: that rule, and those behind it
  from_rule : (n : ℕ) (r : ℕ × R) → n < length rs → r ≡ get_or rs n r → breach_by keeps named (drop n rs) ≡ or_else (failing r.1) r.0 (breach_by keeps named (drop (n + 1) rs))
  from_rule n r h is = at_drop_more (breach_by keeps named) rs n r h ∙ ap (λ x. or_else (failing x.1) x.0 (breach_by keeps named (drop (n + 1) rs))) (sym is)

  -- the next rule is broken, and none before it
  pub broken_here : (n : ℕ) (r : ℕ × R) (cell : Cell) → n < length rs → r ≡ get_or rs n r → breach_by keeps named rs ≡ breach_by keeps named (drop n rs) → failing r.1 ≡ Some cell → Some (record { rule = r.0; cell = cell }) ≡ breach_by keeps named rs
  broken_here n r cell h is before found = sym (before ∙ from_rule n r h is ∙ ap (λ o. or_else o r.0 (breach_by keeps named (drop (n + 1) rs))) found)

  -- the next rule holds
  pub holds_here : (n : ℕ) (r : ℕ × R) → n < length rs → r ≡ get_or rs n r → breach_by keeps named rs ≡ breach_by keeps named (drop n rs) → failing r.1 ≡ None → breach_by keeps named rs ≡ breach_by keeps named (drop (n + 1) rs)
  holds_here n r h is before none = before ∙ from_rule n r h is ∙ ap (λ o. or_else o r.0 (breach_by keeps named (drop (n + 1) rs))) none

  -- every rule holds
  pub all_hold : (n : ℕ) → length rs ≤ n → breach_by keeps named rs ≡ breach_by keeps named (drop n rs) → None ≡ breach_by keeps named rs
  all_hold n h before = sym (before ∙ ap (breach_by keeps named) (drop_of_length-le rs {i = n} h))
