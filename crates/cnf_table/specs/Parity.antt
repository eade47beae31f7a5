-- What the clauses on parity say.
use Rattle.std.specs.Prelude.{◌≡◌, ℕ, ◌||◌, not, List, map}
use Rattle.grid_box.specs.Sheets.{is_odd}
use Rattle.cnf_base.specs.Literals.{Clause, Values, clause_true, all_true}
use Rattle.cnf_table.specs.Clauses.{even_clauses}

-- the clauses hold where the front is true or an even number of the variables is
abbrev pub ParityLaw : Type 0
ParityLaw = (v : Values) (front : Clause) (xs : List ℕ) → all_true v (even_clauses front xs) ≡ (clause_true v front || not (is_odd (map v xs)))
