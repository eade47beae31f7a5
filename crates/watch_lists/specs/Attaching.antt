-- When a clause can be attached, and what that does to the trail.
use Rattle.std.specs.Prelude.{◌≡◌, ◌⊎◌, ℕ, ◌<◌, false, List, [], ◌∷◌, ◌++◌, length, Some, None, if◌then◌else◌}
use Rattle.cnf_base.specs.declared.literal.Lit.{Lit}
use Rattle.cnf_base.specs.Literals.{negation}
use Rattle.clause_arena.specs.declared.ClauseRef.{ClauseRef}
use Rattle.watch_lists.specs.declared.trail.Entry.{Entry}
use Rattle.watch_lists.specs.Entries.{entry, is_true, value_in, depth_of, entry_for}
use Rattle.watch_lists.specs.Rows.{lit_in}
use Rattle.watch_lists.specs.Walks.{AllFalseFrom}

-- the literal is false, and became so at the present level
abbrev pub IsFalseNow : List Entry → Lit → Type 0
IsFalseNow es l = (i : ℕ) × (i < length es) × ((entry es i).lit ≡ negation l) × ((entry es i).level ≡ depth_of es)

-- the first two literals are not false; or the first has no value, the second became false at the present
-- level, and the others are false
abbrev pub CanBeAttached : List Entry → List Lit → Type 0
CanBeAttached es ls =
    ((is_true es (negation (lit_in ls 0)) ≡ false) × (is_true es (negation (lit_in ls 1)) ≡ false))
    ⊎ ((value_in es (lit_in ls 0) ≡ None) × IsFalseNow es (lit_in ls 1) × AllFalseFrom es 2 ls)

-- the entries once a clause is attached: where its second literal is false, its first one is added
abbrev pub attached_entries : List Entry → List Lit → ClauseRef → List Entry
attached_entries es ls r = if is_true es (negation (lit_in ls 1)) then es ++ entry_for es (lit_in ls 0) (Some r) ∷ [] else es
