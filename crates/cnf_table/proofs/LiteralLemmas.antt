-- The literals of the table under values.
use Rattle.std.proofs.Common.{◌≡◌, ℕ, Bool, true, false, not}
use Rattle.cnf_base.specs.Literals.{Values, lit_true}
use Rattle.cnf_base.proofs.LitLemmas.{lit_true-plain, lit_true-negated}
use Rattle.cnf_table.specs.Variables.{literal}

-- what a literal with this sign says of its variable's value
abbrev pub signed : Bool → Bool → Bool
signed true b = b
signed false b = not b

pub lit_true-literal : (v : Values) (sign : Bool) (x : ℕ) → lit_true v (literal sign x) ≡ signed sign (v x)
lit_true-literal v true x = lit_true-plain v x
lit_true-literal v false x = lit_true-negated v x
