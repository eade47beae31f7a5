-- The literals of a clause, lent to be written.
use Rattle.std.specs.Prelude.{◌≡◌, ℕ, true, List, length}
use Rattle.std.specs.Borrow.{MutBor, Fml, Array, Lends}
use Rattle.cnf_base.specs.declared.literal.Lit.{Lit}
use Rattle.cnf_base.specs.contracts.literal.Lit as lit
use Rattle.clause_arena.specs.contracts.arena.Arena.{the_row}
use Rattle.clause_arena.specs.Clauses.{is_live, lits_of, with_lits}
use Rattle.clause_arena.specs.Words.{Block, clauses_in, rewritten}

-- the arena ends with the clause's literals as they were left
abbrev pub LendsLits : MutBor Block → ℕ → MutBor (List Lit) → Fml
LendsLits s at r = Lends the_row (Array lit.the_row 0) s r (λ w. rewritten s.now at w)

-- other literals in a live clause, as many as it has, change that clause's literals and nothing else
abbrev pub LitsChanged : Type 0
LitsChanged = (b : Block) (r : ℕ) (lits : List Lit) → is_live (clauses_in b) r ≡ true → length lits ≡ length (lits_of (clauses_in b) r)
    → clauses_in (rewritten b r lits) ≡ with_lits (clauses_in b) r lits
