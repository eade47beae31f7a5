-- Worked logs.
use Rattle.std.specs.Prelude.{◌≡◌, [], ◌∷◌, Some, None}
use Rattle.cnf_base.specs.Literals.{plain, negated, Cnf}
use Rattle.cnf_base.specs.Logs.{Add, Remove, LogEnd, first_fault}

-- all four clauses of two variables
abbrev pub two_variables : Cnf
two_variables = record {
  vars = 2;
  clauses = (plain 0 ∷ plain 1 ∷ []) ∷ (negated 0 ∷ plain 1 ∷ []) ∷ (plain 0 ∷ negated 1 ∷ []) ∷ (negated 0 ∷ negated 1 ∷ []) ∷ [];
}

-- two additions refute the four clauses
abbrev pub LogIsAccepted : Type 0
LogIsAccepted = first_fault two_variables (Add 5 (plain 0 ∷ []) (1 ∷ 3 ∷ []) ∷ Add 6 [] (5 ∷ 2 ∷ 4 ∷ []) ∷ []) LogEnd ≡ None

-- at the second hint of the first line two literals are not false
abbrev pub HintIsLoose : Type 0
HintIsLoose = first_fault two_variables (Add 5 (plain 0 ∷ []) (1 ∷ 2 ∷ []) ∷ Add 6 [] (5 ∷ 2 ∷ 4 ∷ []) ∷ []) LogEnd ≡ Some (1, 5)

-- the third line hints at a clause that the second removed
abbrev pub HintIsRemoved : Type 0
HintIsRemoved =
    first_fault two_variables (Add 5 (plain 0 ∷ []) (1 ∷ 3 ∷ []) ∷ Remove (2 ∷ []) ∷ Add 6 [] (5 ∷ 2 ∷ 4 ∷ []) ∷ []) LogEnd ≡ Some (3, 4)

-- the log ends without the empty clause
abbrev pub EmptyClauseIsMissing : Type 0
EmptyClauseIsMissing = first_fault two_variables (Add 5 (plain 0 ∷ []) (1 ∷ 3 ∷ []) ∷ []) LogEnd ≡ Some (2, 9)

-- two unit clauses against each other, as clauses 1 and 2, and one beside them
abbrev pub contradiction : Cnf
contradiction = record { vars = 3; clauses = (negated 0 ∷ []) ∷ (plain 0 ∷ []) ∷ (negated 1 ∷ []) ∷ [] }

-- a literal that a hint makes true may be made true again
abbrev pub HintMayRepeat : Type 0
HintMayRepeat = (first_fault contradiction (Add 4 [] (1 ∷ 2 ∷ []) ∷ []) LogEnd ≡ None) × (first_fault contradiction (Add 4 [] (1 ∷ 1 ∷ 2 ∷ []) ∷ []) LogEnd ≡ None)

-- faults by their reasons 2, 3, 4, 6, 7 and 8: an id that is not new, a variable that the formula lacks, an id that is not live (in a hint, and after its removal), a clause that is false before the last hint, hints that do not close, and a line behind the end
abbrev pub EachFaultHasItsReason : Type 0
EachFaultHasItsReason =
    (first_fault contradiction (Add 3 [] (1 ∷ 2 ∷ []) ∷ []) LogEnd ≡ Some (1, 2))
    × (first_fault contradiction (Add 4 (plain 3 ∷ []) (1 ∷ 2 ∷ []) ∷ []) LogEnd ≡ Some (1, 3))
    × (first_fault contradiction (Add 4 [] (9 ∷ 2 ∷ []) ∷ []) LogEnd ≡ Some (1, 4))
    × (first_fault contradiction (Remove (1 ∷ []) ∷ Add 4 [] (1 ∷ 2 ∷ []) ∷ []) LogEnd ≡ Some (2, 4))
    × (first_fault contradiction (Add 4 [] (1 ∷ 2 ∷ 3 ∷ []) ∷ []) LogEnd ≡ Some (1, 6))
    × (first_fault contradiction (Add 4 [] (1 ∷ []) ∷ []) LogEnd ≡ Some (1, 7))
    × (first_fault contradiction (Add 4 [] (1 ∷ 2 ∷ []) ∷ Remove [] ∷ []) LogEnd ≡ Some (2, 8))
