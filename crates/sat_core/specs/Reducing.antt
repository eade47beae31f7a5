-- Which lessons a reduction takes, and what is left without them.
use Rattle.std.specs.Prelude.{◌≡◌, ℕ, ◌-◌, ◌*◌, ◌/◌, ◌≤◌, min, Bool, true, false, ◌&&◌, not, nat_eq, nat_lt, nat_le, List, map, length, Option, Some, None}
use Rattle.std.specs.List.{list_any, filter, count_by, fold}
use Rattle.clause_arena.specs.declared.ClauseRef.{ClauseRef}
use Rattle.clause_arena.specs.Clauses.{Live, is_live, id_of, lits_of, places, without}
use Rattle.watch_lists.specs.declared.trail.Entry.{Entry}
use Rattle.watch_lists.specs.Rows.{times}
use Rattle.watch_lists.specs.Leaving.{is_marked}
use Rattle.watch_lists.specs.Trails.{Seen}
use Rattle.watch_lists.specs.Fits.{KeepsClauses}
use Rattle.sat_core.specs.declared.worth.Idle.{Idle}

-- the reason is the clause at the place
abbrev pub leads_to : ℕ → Option ClauseRef → Bool
leads_to r None = false
leads_to r (Some s) = nat_eq s.0 r

-- the clause at the place is the reason of an entry
abbrev pub is_reason : List Entry → ℕ → Bool
is_reason es r = list_any (λ (e : Entry). leads_to r e.reason) es

-- the clause has three literals or more, and is no reason
abbrev pub is_idle : Seen → List Live → ℕ → Bool
is_idle t cs r = nat_lt 2 (length (lits_of cs r)) && not (is_reason t.entries r)

-- the clause is a lesson: its id is above the number of clauses of the formula
abbrev pub is_lesson : ℕ → List Live → ℕ → Bool
is_lesson formula cs r = nat_lt formula (id_of cs r)

-- the places of clauses
abbrev pub places_of : List ClauseRef → List ℕ
places_of rs = map (λ (r : ClauseRef). r.0) rs

-- the clauses of idle lessons
abbrev pub clauses_of : List Idle → List ClauseRef
clauses_of xs = map (λ (x : Idle). x.clause) xs

-- the ids of the clauses at some places
abbrev pub ids_in : List Live → List ℕ → List ℕ
ids_in cs ps = map (id_of cs) ps

-- the clause is a lesson that may go
abbrev pub is_idle_lesson : ℕ → Seen → List Live → ℕ → Bool
is_idle_lesson formula t cs r = is_lesson formula cs r && is_idle t cs r

-- the idle lessons among all clauses, and how many lessons there are
pub record AreIdle (formula : ℕ) (t : Seen) (cs : List Live) (idle : List ClauseRef) (lessons : ℕ) : Type 0 where
  pub all : List ClauseRef
  pub all_are : places_of all ≡ places cs
  pub idle_are : idle ≡ filter (λ (r : ClauseRef). is_idle_lesson formula t cs r.0) all
  pub count : lessons ≡ count_by (λ (r : ClauseRef). is_lesson formula cs r.0) all

-- the clause is a lesson of two or fewer literals
abbrev pub is_short_lesson : ℕ → List Live → ℕ → Bool
is_short_lesson formula cs r = is_lesson formula cs r && nat_le (length (lits_of cs r)) 2

-- how many of the clauses are lessons
abbrev pub lessons_in : ℕ → List Live → ℕ
lessons_in formula cs = count_by (is_lesson formula cs) (places cs)

-- how many of the clauses are lessons of two or fewer literals
abbrev pub short_lessons_in : ℕ → List Live → ℕ
short_lessons_in formula cs = count_by (is_short_lesson formula cs) (places cs)

-- the clauses at the places are live and idle, and each is named once
pub record MayAllGo (t : Seen) (cs : List Live) (gone : List ℕ) : Type 0 where
  pub live : (r : ℕ) → 1 ≤ times r gone → is_live cs r ≡ true
  pub idle : (r : ℕ) → 1 ≤ times r gone → is_idle t cs r ≡ true
  pub once : (r : ℕ) → times r gone ≤ 1

-- lessons that may go: at most half of all lessons; and half, or all but the short ones and as many as there are variables
pub record AreChosen (formula : ℕ) (t : Seen) (cs : List Live) (gone : List ClauseRef) : Type 0 where
  pub may_go : MayAllGo t cs (places_of gone)
  pub lessons : (r : ℕ) → 1 ≤ times r (places_of gone) → is_lesson formula cs r ≡ true
  pub at_most_half : 2 * length gone ≤ lessons_in formula cs
  pub enough : min (lessons_in formula cs / 2) (lessons_in formula cs - short_lessons_in formula cs - t.vars) ≤ length gone

-- exactly these places are marked
abbrev pub AreMarked : List Bool → List ℕ → Type 0
AreMarked marks ps = (x : ℕ) → is_marked marks x ≡ nat_lt 0 (times x ps)

-- the clauses without those at some places, but for links and the order of literals
abbrev pub Loses : List Live → List ℕ → List Live → Type 0
Loses cs gone ds = KeepsClauses (fold without cs gone) ds
