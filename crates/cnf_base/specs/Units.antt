-- Unit steps: a clause whose literals are all false but one makes that one true.
use Rattle.cnf_base.specs.declared.literal.Lit.{Lit}
use Rattle.cnf_base.specs.Literals.{negation, same_lit, has_lit, Clause}
use Rattle.std.specs.Prelude.{◌≡◌, ◌⊎◌, Bool, true, false, not, List, [], ◌∷◌, ◌++◌, map, if◌then◌else◌, IsTrue, ⊤}
use Rattle.std.specs.List.{list_all, filter}

-- how a clause looks where the literals of a list are true: all of it false, one literal open, or more. Open is a literal that is not false: it may be true already
pub data Look : Type 0 where
  Falsified : Look
  OneOpen : Lit → Look
  Loose : Look

-- the literals that are not false
abbrev pub open_lits : List Lit → Clause → List Lit
open_lits trues c = filter (λ l. not (has_lit trues (negation l))) c

-- the look of a clause by its literals that are not false. One that is written twice counts once
abbrev pub look_of : List Lit → Look
look_of [] = Falsified
look_of (l ∷ ls) = if list_all (same_lit l) ls then OneOpen l else Loose

-- how a clause looks where these literals are true
abbrev pub look : List Lit → Clause → Look
look trues c = look_of (open_lits trues c)

-- some clause of the list has the literal as its one open one
abbrev pub UnitIn : List Clause → List Lit → Lit → Type 0
UnitIn cs trues l = (c : Clause) × (before : List Clause) × (after : List Clause) × (cs ≡ before ++ c ∷ after) × (look trues c ≡ OneOpen l)

-- some clause of the list is false
abbrev pub FalseIn : List Clause → List Lit → Type 0
FalseIn cs trues = (c : Clause) × (before : List Clause) × (after : List Clause) × (cs ≡ before ++ c ∷ after) × (look trues c ≡ Falsified)

-- the literals in their order are made true one after the other, from the literals that are true at first
abbrev pub IsChain : List Clause → List Lit → List Lit → Type 0
IsChain cs trues [] = ⊤
IsChain cs trues (l ∷ ls) = UnitIn cs trues l × IsChain cs (l ∷ trues) ls

-- what is true after a chain, the last first
abbrev pub after_chain : List Lit → List Lit → List Lit
after_chain trues [] = trues
after_chain trues (l ∷ ls) = after_chain (l ∷ trues) ls

-- a chain of unit steps makes the clause's first literal true or makes a clause false, from the negations of its others
abbrev pub IsAbsorbed : List Clause → Lit → List Lit → Type 0
IsAbsorbed cs l others =
    (ls : List Lit) × IsChain cs (map negation others) ls
    × (IsTrue (has_lit (after_chain (map negation others) ls) l) ⊎ FalseIn cs (after_chain (map negation others) ls))

-- what a closed list of true literals leaves of a clause: it is not false, and where one literal is left, that one is true
abbrev pub look_is_settled : List Lit → Look → Bool
look_is_settled trues Falsified = false
look_is_settled trues (OneOpen l) = has_lit trues l
look_is_settled trues Loose = true

-- the clause asks for no unit step, and is not false
abbrev pub is_settled : List Lit → Clause → Bool
is_settled trues c = look_is_settled trues (look trues c)

-- no unit step makes a clause false or a new literal true
abbrev pub IsClosed : List Clause → List Lit → Type 0
IsClosed cs trues = list_all (is_settled trues) cs ≡ true

-- what unit steps reach from literals of a closed list stays in it
abbrev pub ClosedHidesNothing : Type 0
ClosedHidesNothing = (cs : List Clause) (trues : List Lit) (l : Lit) (others : List Lit) → IsClosed cs trues → list_all (λ m. has_lit trues (negation m)) others ≡ true → has_lit trues l ≡ false → IsAbsorbed cs l others → ⊥
