-- Which variables learning meets: those of levels above 0 in the clause that is false, and in the reason of each literal that is resolved.
use Rattle.std.specs.Prelude.{◌≡◌, ◌≢◌, ◌⊎◌, ℕ, ◌<◌, Bool, true, ◌||◌, nat_eq, List, [], ◌∷◌, map, Some}
use Rattle.std.specs.List.{list_any}
use Rattle.cnf_base.specs.declared.literal.Lit.{Lit}
use Rattle.cnf_base.specs.declared.literal.Var.{Var}
use Rattle.cnf_base.specs.Literals.{variable, negation}
use Rattle.cnf_base.specs.Lessons.{are_distinct}
use Rattle.clause_arena.specs.Clauses.{Live, lits_of}
use Rattle.conflict_learn.specs.MarkSets.{is_marked}
use Rattle.conflict_learn.specs.Paths.{Path}
use Rattle.conflict_learn.specs.Tallies.{is_open}
use Rattle.conflict_learn.specs.Drafts.{HasVar, ListsMarked}

-- what learning keeps: for how many variables it was made, and those that the last lesson met
pub record Kept : Type 0 where
  pub vars : ℕ
  pub met : List Var

-- the variables of literals
abbrev pub vars_of : List Lit → List Var
vars_of ls = map (λ (l : Lit). let x : Var = record { 0 = variable l } in x) ls

-- the numbers of variables
abbrev pub numbers_of : List Var → List ℕ
numbers_of xs = map (λ (x : Var). x.0) xs

-- the variable is one of these
abbrev pub is_met : List Var → ℕ → Bool
is_met met v = list_any (λ (x : Var). nat_eq x.0 v) met

-- the variable is assigned at a level above 0
pub record IsAboveRoot (p : Path) (v : ℕ) : Type 0 where
  pub place : ℕ
  pub within : place < p.size
  pub is : variable (p.lit place) ≡ v
  pub positive : 0 < p.level place

-- the variable stands in the reason of another literal, whose place is one of these
pub record IsBrought (p : Path) (cs : List Live) (places : ℕ → Type 0) (v : ℕ) : Type 0 where
  pub place : ℕ
  pub at : places place
  pub reason : ℕ
  pub reason_is : p.reason place ≡ Some reason
  pub holds : HasVar (lits_of cs reason) v
  pub other : variable (p.lit place) ≢ v

-- above level 0 the variables are those that it begins with and those that are brought by these places
pub record AreReached (p : Path) (cs : List Live) (begins places : ℕ → Type 0) (met : ℕ → Bool) : Type 0 where
  pub first : (k : ℕ) → k < p.size → 0 < p.level k → begins (variable (p.lit k)) → met (variable (p.lit k)) ≡ true
  pub later : (k : ℕ) → k < p.size → 0 < p.level k → IsBrought p cs places (variable (p.lit k)) → met (variable (p.lit k)) ≡ true
  pub only : (k : ℕ) → k < p.size → 0 < p.level k → met (variable (p.lit k)) ≡ true → begins (variable (p.lit k)) ⊎ IsBrought p cs places (variable (p.lit k))

-- the literal at the place is resolved: its variable is met, it is of the level, and it is not the one that is left
pub record IsResolved (p : Path) (level : ℕ) (first : Lit) (met : List Var) (k : ℕ) : Type 0 where
  pub within : k < p.size
  pub present : p.level k ≡ level
  pub among : is_met met (variable (p.lit k)) ≡ true
  pub other : p.lit k ≢ negation first

-- the variables of levels above 0, each once, of the clause that is false and of the reasons of the literals that are resolved
pub record Meets (p : Path) (cs : List Live) (conflict level : ℕ) (first : Lit) (met : List Var) : Type 0 where
  pub once : are_distinct (numbers_of met) ≡ true
  pub above : (v : ℕ) → is_met met v ≡ true → IsAboveRoot p v
  pub reached : AreReached p cs (HasVar (lits_of cs conflict)) (IsResolved p level first met) (is_met met)

-- the same, by a lesson whose first literal is the one that is left
abbrev pub MeetsBehind : Path → List Live → ℕ → ℕ → List Lit → List Var → Type 0
MeetsBehind p cs conflict level [] met = ⊥
MeetsBehind p cs conflict level (first ∷ others) met = Meets p cs conflict level first met

-- the variable is of the level in work
pub record IsOpenVar (p : Path) (level v : ℕ) : Type 0 where
  pub place : ℕ
  pub within : place < p.size
  pub is : variable (p.lit place) ≡ v
  pub present : is_open level (p.level place) ≡ true

-- those of the level in work stand in the list, and the others are marked and listed as literals
pub record MeetsPresent (p : Path) (cs : List Live) (marks : List Bool) (level : ℕ) (first : Lit) (now : List Bool) (ls : List Lit) (met : List Var) : Type 0 where
  pub once : are_distinct (numbers_of met) ≡ true
  pub stand : (v : ℕ) → is_met met v ≡ true → IsOpenVar p level v
  pub left : is_met met (variable first) ≡ true
  pub listed : ListsMarked now ls
  pub reached : AreReached p cs (λ v. is_marked marks v ≡ true) (IsResolved p level first met) (λ v. is_marked now v || is_met met v)
