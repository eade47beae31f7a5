-- What a search writes when it gives up: so many lessons, each beyond what unit steps see. In this order: where a log stands and what may be removed there; what a lesson is; what unit steps fix, and how many lessons are enough; what a reduction removes at least; clauses as numbers; and laws of these.
use Rattle.std.specs.Prelude.{◌≡◌, ◌↔◌, ◌⊎◌, ℕ, ◌+◌, ◌-◌, ◌*◌, ◌/◌, ◌^◌, ◌<◌, ◌≤◌, min, Bool, true, false, ◌&&◌, ◌||◌, not, nat_eq, nat_lt, nat_le, List, [], ◌∷◌, ◌++◌, map, length, Option, Some, None, if◌then◌else◌, ⊤}
use Rattle.std.specs.List.{list_all, list_any, count_by, fold, AllByRecursion}
use Rattle.cnf_base.specs.declared.literal.Lit.{Lit}
use Rattle.cnf_base.specs.Literals.{variable, negation, has_lit, plain, negated, Clause, Cnf}
use Rattle.cnf_base.specs.Units.{IsChain, after_chain, FalseIn, IsAbsorbed}
use Rattle.cnf_base.specs.Logs.{LogStep, Add, Remove, LogState, state_at_start, clause_of, after_step, state_after, adds_empty_clause, IsWhole, additions, is_addition}

-- a fact of each element and the state before it, where each element takes the state on
abbrev pub Along : {S X : Type 0} → (S → X → Type 0) → (S → X → S) → S → List X → Type 0
Along P next s [] = ⊤
Along P next s (x ∷ xs) = P s x × Along P next (next s x) xs

-- the number 1000·m·(m + 1)
abbrev pub reduction_at : ℕ → ℕ
reduction_at m = 1000 * (m * (m + 1))

-- a number of additions after which clauses may be removed
abbrev pub IsReductionPlace : ℕ → Type 0
IsReductionPlace n = (m : ℕ) × (1 ≤ m) × (n ≡ reduction_at m)

-- how far a log has come before a step: its state, how many clauses were added, and whether the step before this one added one
pub record Progress : Type 0 where
  pub state : LogState
  pub added : ℕ
  pub fresh : Bool

-- the live clauses without their ids
abbrev pub clauses_of : LogState → List Clause
clauses_of state = map (λ e. e.1) state.live

-- there is a clause, and it has the literal
abbrev pub holds_lit : Lit → Option Clause → Bool
holds_lit l None = false
holds_lit l (Some c) = has_lit c l

-- the literal stands in a clause that one of the hints names
abbrev pub is_in_hint : LogState → List ℕ → Lit → Bool
is_in_hint state hints l = list_any (λ h. holds_lit l (clause_of state.live h)) hints

-- a clause that unit steps do not see yet, each of whose literals stands in a hint's clause
abbrev pub IsNew : LogState → Clause → List ℕ → Type 0
IsNew state [] hints = ⊥
IsNew state (l ∷ others) hints =
    (IsAbsorbed (clauses_of state) l others → ⊥) × (list_all (is_in_hint state hints) (l ∷ others) ≡ true)

-- there is a clause, and it has more than two literals
abbrev pub is_long : Option Clause → Bool
is_long None = false
is_long (Some c) = nat_lt 2 (length c)

-- how many live clauses were added: those whose ids are above the formula's own
abbrev pub live_additions : ℕ → LogState → ℕ
live_additions formula state = count_by (λ e. nat_lt formula e.0) state.live

-- a lawful removal stands directly behind an addition of the schedule; it names additions alone, at most half of the live ones, and none of two or fewer literals
pub record IsRemoval (formula : ℕ) (s : Progress) (ids : List ℕ) : Type 0 where
  pub fresh : s.fresh ≡ true
  pub place : IsReductionPlace s.added
  pub additions_alone : list_all (nat_lt formula) ids ≡ true
  pub at_most_half : 2 * length ids ≤ live_additions formula s.state
  pub long_alone : list_all (λ id. is_long (clause_of s.state.live id)) ids ≡ true

-- what each step of a log of lessons obeys
abbrev pub IsLesson : ℕ → Progress → LogStep → Type 0
IsLesson formula s (Add id lits hints) = IsNew s.state lits hints
IsLesson formula s (Remove ids) = IsRemoval formula s ids

-- the number of additions after a step: one more where it adds a clause
abbrev pub additions_after : ℕ → LogStep → ℕ
additions_after n (Add id lits hints) = n + 1
additions_after n (Remove ids) = n

-- how far a log has come after a step
abbrev pub progress_after : Progress → LogStep → Progress
progress_after s step = record { state = after_step s.state step; added = additions_after s.added step; fresh = is_addition step }

-- how far a log has come before its first step
abbrev pub progress_at_start : Cnf → Progress
progress_at_start f = record { state = state_at_start f; added = 0; fresh = false }

-- a log of exactly n lessons
pub record AreLessons (f : Cnf) (steps : List LogStep) (n : ℕ) : Type 0 where
  pub whole : IsWhole f steps
  pub count : additions steps ≡ n
  pub each : Along (IsLesson (length f.clauses)) progress_after (progress_at_start f) steps

-- unit steps over the formula alone make a literal of the variable true
abbrev pub IsFixed : Cnf → ℕ → Type 0
IsFixed f x = (ls : List Lit) × IsChain f.clauses [] ls × (list_any (λ l. nat_eq (variable l) x) ls ≡ true)

-- unit steps over the formula alone make a clause false
abbrev pub IsRefutedByUnits : Cnf → Type 0
IsRefutedByUnits f = (ls : List Lit) × IsChain f.clauses [] ls × FalseIn f.clauses (after_chain [] ls)

-- no number stands twice
abbrev pub are_distinct : List ℕ → Bool
are_distinct [] = true
are_distinct (x ∷ xs) = not (list_any (nat_eq x) xs) && are_distinct xs

-- distinct variables, each fixed by unit steps over the formula alone
pub record AreFixed (f : Cnf) (xs : List ℕ) : Type 0 where
  pub apart : are_distinct xs ≡ true
  pub below : list_all (λ x. nat_lt x f.vars) xs ≡ true
  pub fixed : AllByRecursion (IsFixed f) xs

-- below 1000·m·(m + 1) for each m from 1 on with 3 ^ (variables not known to be fixed) < 2000·m: the least m, and all that are fixed, give the bound
abbrev pub IsBelowEnough : Cnf → ℕ → Type 0
IsBelowEnough f n = (xs : List ℕ) (m : ℕ) → AreFixed f xs → 1 ≤ m → 3 ^ (f.vars - length xs) < 2000 * m → n < reduction_at m

-- some step adds a clause with a literal
abbrev pub adds_more : List LogStep → Bool
adds_more steps = list_any (λ s. is_addition s && not (adds_empty_clause s)) steps

-- the first step removes clauses
abbrev pub begins_with_removal : List LogStep → Bool
begins_with_removal (Remove ids ∷ rest) = true
begins_with_removal _ = false

-- one removal stands first, and it names so many clauses at least
abbrev pub RemovesOnce : List LogStep → ℕ → Type 0
RemovesOnce (Remove ids ∷ rest) q = (q ≤ length ids) × (begins_with_removal rest ≡ false)
RemovesOnce _ q = ⊥

-- how many live clauses were added and have two or fewer literals
abbrev pub short_additions : ℕ → LogState → ℕ
short_additions formula state = count_by (λ e. nat_lt formula e.0 && nat_le (length e.1) 2) state.live

-- how many clauses a reduction removes at least: half of the live additions, but no short one and none that is a reason
abbrev pub removals_due : Cnf → LogState → ℕ
removals_due f state =
    min (live_additions (length f.clauses) state / 2) (live_additions (length f.clauses) state - short_additions (length f.clauses) state - f.vars)

-- where a clause is due, one removal stands first, and it names as many clauses as are due
abbrev pub RemovesDue : Cnf → LogState → List LogStep → Type 0
RemovesDue f state later = 1 ≤ removals_due f state → RemovesOnce later (removals_due f state)

-- at each place of the schedule, behind which the log goes on, as many clauses are removed as are due
abbrev pub Reduces : Cnf → List LogStep → Type 0
Reduces f steps =
    (before : List LogStep) (id : ℕ) (lits : Clause) (hints : List ℕ) (later : List LogStep) → steps ≡ before ++ Add id lits hints ∷ later → IsReductionPlace (additions before + 1) → adds_more later ≡ true
    → RemovesDue f (state_after (state_at_start f) (before ++ Add id lits hints ∷ [])) later

-- how a variable stands in a clause: 0 absent, 1 plain, 2 negated
abbrev pub standing : Clause → ℕ → ℕ
standing c x = if has_lit c (plain x) then 1 else (if has_lit c (negated x) then 2 else 0)

-- the clause as a number, by its standings at some variables
abbrev pub code_on : List ℕ → Clause → ℕ
code_on [] c = 0
code_on (x ∷ xs) c = standing c x + 3 * code_on xs c

-- clauses of one number stand alike at each of the variables
abbrev pub CodesTell : Type 0
CodesTell = (xs : List ℕ) (c d : Clause) → code_on xs c ≡ code_on xs d → AllByRecursion (λ x. standing c x ≡ standing d x) xs

-- the number of a clause is below a power of three
abbrev pub CodesAreFew : Type 0
CodesAreFew = (xs : List ℕ) (c : Clause) → code_on xs c < 3 ^ length xs

-- what each step of a log of lessons obeys holds along the whole exactly where it holds along both parts
abbrev pub LessonsJoin : Type 0
LessonsJoin = (f : Cnf) (s : Progress) (xs ys : List LogStep) → Along (IsLesson (length f.clauses)) progress_after s (xs ++ ys) ↔ (Along (IsLesson (length f.clauses)) progress_after s xs × Along (IsLesson (length f.clauses)) progress_after (fold progress_after s xs) ys)

-- a chain from fewer literals goes on from more, as far, or to a clause that is false
abbrev pub ChainsGrow : Type 0
ChainsGrow = (cs : List Clause) (xs ys ls : List Lit) → ((l : Lit) → has_lit xs l ≡ true → has_lit ys l ≡ true) → IsChain cs xs ls
    → ((ms : List Lit) × IsChain cs ys ms × ((l : Lit) → has_lit (after_chain xs ls) l ≡ true → has_lit (after_chain ys ms) l ≡ true))
    ⊎ ((ms : List Lit) × IsChain cs ys ms × FalseIn cs (after_chain ys ms))

-- a clause beside one of the list whose literals are its own or false by a chain is absorbed
abbrev pub TwinIsAbsorbed : Type 0
TwinIsAbsorbed = (before after : List Clause) (c : Clause) (ls : List Lit) (l : Lit) (others : List Lit) → IsChain (before ++ c ∷ after) [] ls → list_all (λ m. has_lit (after_chain [] ls) (negation m) || has_lit (l ∷ others) m) c ≡ true → IsAbsorbed (before ++ c ∷ after) l others
