-- The list of live clauses that an arena is seen as.
use Rattle.std.specs.Prelude.{◌≡◌, ◌≢◌, ◌-◌, ℕ, Bool, true, false, List, [], ◌∷◌, map, Option, Some, None, if◌then◌else◌, nat_eq, slice_index_or}
use Rattle.std.specs.List.{list_any, filter}
use Rattle.cnf_base.specs.declared.literal.Lit.{Lit}
use Rattle.clause_arena.specs.declared.ClauseRef.{ClauseRef}

-- a live clause: its place, id, literals and two links
pub record Live : Type 0 where
  pub place : ℕ
  pub id : ℕ
  pub lits : List Lit
  pub first : Option ℕ
  pub second : Option ℕ

-- what is read where there is no clause
abbrev pub no_clause : Live
no_clause = record { place = 0; id = 0; lits = []; first = None; second = None }

-- the clause at a place
abbrev pub clause_at : List Live → ℕ → Live
clause_at [] r = no_clause
clause_at (c ∷ cs) r = if nat_eq c.place r then c else clause_at cs r

-- a clause lives at the place
abbrev pub is_live : List Live → ℕ → Bool
is_live cs r = list_any (λ c. nat_eq c.place r) cs

-- the literals of the clause at a place
abbrev pub lits_of : List Live → ℕ → List Lit
lits_of cs r = (clause_at cs r).lits

-- the id of the clause at a place
abbrev pub id_of : List Live → ℕ → ℕ
id_of cs r = (clause_at cs r).id

-- a clause's first link, or its second
abbrev pub link_in : Live → ℕ → Option ℕ
link_in c slot = if nat_eq slot 0 then c.first else c.second

-- where a link of the clause at a place leads
abbrev pub link_of : List Live → ℕ → ℕ → Option ℕ
link_of cs r slot = link_in (clause_at cs r) slot

-- one clause changed
abbrev pub with_clause : List Live → ℕ → (Live → Live) → List Live
with_clause cs r f = map (λ c. if nat_eq c.place r then f c else c) cs

-- the clause at a place with other literals
abbrev pub with_lits : List Live → ℕ → List Lit → List Live
with_lits cs r ls = with_clause cs r (λ c. record c { lits = ls })

-- a clause with another first link, or another second one
abbrev pub put_link : ℕ → Option ℕ → Live → Live
put_link slot to c = if nat_eq slot 0 then record c { first = to } else record c { second = to }

-- the clause at a place with another link
abbrev pub with_link : List Live → ℕ → ℕ → Option ℕ → List Live
with_link cs r slot to = with_clause cs r (put_link slot to)

-- the clauses but the one at a place
abbrev pub without : List Live → ℕ → List Live
without cs r = filter (λ c. if nat_eq c.place r then false else true) cs

-- a link as the list has it: a place, or none
abbrev pub place_of : Option ClauseRef → Option ℕ
place_of None = None
place_of (Some r) = Some r.0

-- a new clause, which has no links
abbrev pub added : ℕ → ℕ → List Lit → Live
added p n ls = record { place = p; id = n; lits = ls; first = None; second = None }

-- where the clauses stand
abbrev pub places : List Live → List ℕ
places cs = map (λ c. c.place) cs

-- a literal stands at a place of the first two, and another one stands at the other
pub record StandsBeside (ls : List Lit) (k : ℕ) (lit other : Lit) : Type 0 where
  pub here : slice_index_or ls k (record { 0 = 0 }) ≡ lit
  pub beside : slice_index_or ls (1 - k) (record { 0 = 0 }) ≡ other
  pub apart : other ≢ lit

-- the other of the first two literals is told exactly where the one at the place is this literal, and the other is another
abbrev pub TellsBeside : List Lit → ℕ → Lit → Option Lit → Type 0
TellsBeside ls k lit None = StandsBeside ls k lit (slice_index_or ls (1 - k) (record { 0 = 0 })) → ⊥
TellsBeside ls k lit (Some other) = StandsBeside ls k lit other
