-- The live clauses of a checker, in one block of literals.
use Rattle.std.specs.Prelude.{◌≡◌, ℕ, zero, suc, ◌<◌, ◌≤◌, ◌^◌, false, IsTrue, List, [], ◌∷◌, length, slice_range, Option, Some, None, if◌then◌else◌, ⊤}
use Rattle.cnf_base.specs.declared.literal.Lit.{Lit}
use Rattle.cnf_base.specs.Literals.{Clause, are_below}
use Rattle.cnf_base.specs.Logs.{LogState}
use Rattle.log_check.specs.declared.table.Entry.{Entry}

-- a number of variables, and the state of a log over them
pub record Live : Type 0 where
  pub vars : ℕ
  pub state : LogState

-- the literals of an entry
abbrev pub lits_of : List Lit → Entry → Clause
lits_of lits e = slice_range lits e.start e.end

-- the live clauses with their ids
abbrev pub shown : List Lit → List Entry → List (ℕ × Clause)
shown lits [] = []
shown lits (e ∷ es) = if e.live then ((e.id, lits_of lits e) ∷ shown lits es) else shown lits es

-- the id of the entry at this place
abbrev pub id_at : List Entry → ℕ → ℕ
id_at [] n = 0
id_at (e ∷ es) zero = e.id
id_at (e ∷ es) (suc n) = id_at es n

-- the ids rise, from above the first number on and up to the last at most
abbrev pub Rises : ℕ → List Entry → ℕ → Type 0
Rises low [] last = low ≤ last
Rises low (e ∷ es) last = (low < e.id) × Rises e.id es last

-- each entry's literals lie in a block of so many
abbrev pub AreWithin : List Entry → ℕ → Type 0
AreWithin [] size = ⊤
AreWithin (e ∷ es) size = (e.start ≤ e.end) × (e.end ≤ size) × AreWithin es size

-- what a table keeps
pub record IsTable (vars : ℕ) (entries : List Entry) (lits : List Lit) (last : ℕ) : Type 0 where
  pub few : vars < 2 ^ 30
  pub below : IsTrue (are_below vars lits)
  pub rising : Rises 0 entries last
  pub within : AreWithin entries (length lits)

-- no entry has the id
abbrev pub NoneHas : List Entry → ℕ → Type 0
NoneHas entries id = (k : ℕ) → k < length entries → id_at entries k ≡ id → ⊥

-- the entry at this place has the id
pub record HasAt (entries : List Entry) (id n : ℕ) : Type 0 where
  pub within : n < length entries
  pub is : id_at entries n ≡ id

-- the clause of the entry at this place, where it is live
abbrev pub clause_at : List Lit → List Entry → ℕ → Option Clause
clause_at lits [] n = None
clause_at lits (e ∷ es) zero = if e.live then Some (lits_of lits e) else None
clause_at lits (e ∷ es) (suc n) = clause_at lits es n

-- the entry, dead
abbrev pub dead : Entry → Entry
dead e = record e { live = false }

-- the entries with the one at this place dead
abbrev pub dead_at : List Entry → ℕ → List Entry
dead_at [] n = []
dead_at (e ∷ es) zero = dead e ∷ es
dead_at (e ∷ es) (suc n) = e ∷ dead_at es n
