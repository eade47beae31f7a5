-- Literals that are true, as marks.
use Rattle.std.specs.Prelude.{◌≡◌, ℕ, ◌<◌, Bool, false, IsTrue, nat_lt, List, length, get_or}
use Rattle.std.specs.List.{list_all}
use Rattle.cnf_base.specs.declared.literal.Lit.{Lit}
use Rattle.cnf_base.specs.Literals.{has_lit}

-- how many variables there are, and the literals that are true in the order in which they became so
pub record Trues : Type 0 where
  pub vars : ℕ
  pub trail : List Lit

-- the literal of this number
abbrev pub numbered : ℕ → Lit
numbered n = record { 0 = n }

-- a literal is marked where it is on the trail, and the trail has no others
pub record IsMarked (marks : List Bool) (trail : List Lit) : Type 0 where
  pub each : (n : ℕ) → n < length marks → get_or marks n false ≡ has_lit trail (numbered n)
  pub within : IsTrue (list_all (λ l. nat_lt l.0 (length marks)) trail)
