-- Lists of watches out of which marked clauses are taken.
use Rattle.std.specs.Prelude.{◌≡◌, ℕ, Bool, false, ◌&&◌, List, ◌++◌, Option, nat_eq, nat_lt, if◌then◌else◌, slice_index_or}
use Rattle.clause_arena.specs.Clauses.{Live, lits_of}
use Rattle.watch_lists.specs.Trails.{Seen}
use Rattle.watch_lists.specs.Rows.{IsRow, times, last_of}
use Rattle.watch_lists.specs.Fits.{KeepsClauses}
use Rattle.watch_lists.specs.Detaching.{IsListing}

-- the place is marked
abbrev pub is_marked : List Bool → ℕ → Bool
is_marked marks x = slice_index_or marks x false

-- counts without the marked clauses in the list of f
abbrev pub without_marked : (ℕ → ℕ → ℕ) → ℕ → List Bool → ℕ → ℕ → ℕ
without_marked want f marks l x = if nat_eq l f && is_marked marks x then 0 else want l x

-- the same for the lists of all literals below a number
abbrev pub without_below : (ℕ → ℕ → ℕ) → ℕ → List Bool → ℕ → ℕ → ℕ
without_below want n marks l x = if nat_lt l n && is_marked marks x then 0 else want l x

-- the same for the list of f, but for the clauses of which the rest is still ahead
abbrev pub without_done : (ℕ → ℕ → ℕ) → ℕ → List Bool → List ℕ → ℕ → ℕ → ℕ
without_done want f marks rest l x = if nat_eq l f && (is_marked marks x && nat_eq (times x rest) 0) then 0 else want l x

-- nothing but heads and links changed
pub record KeepsBut (t : Seen) (cs : List Live) (u : Seen) (ds : List Live) : Type 0 where
  pub same : u ≡ record t { heads = u.heads }
  pub keeps : KeepsClauses cs ds
  pub lits : (x : ℕ) → lits_of ds x ≡ lits_of cs x

-- on the way through the list of f, since it began with the trail t and the clauses cs
pub record Leaves (want : ℕ → ℕ → ℕ) (t : Seen) (cs : List Live) (f : ℕ) (marks : List Bool) (u : Seen) (ds : List Live) (before hand : Option ℕ) : Type 0 where
  pub done : List ℕ
  pub rest : List ℕ
  pub listing : IsListing (without_done want f marks rest) u ds
  pub split : listing.rows f ≡ done ++ rest
  pub hand_is : IsRow ds f hand rest
  pub before_is : last_of done ≡ before
  pub keeps : KeepsBut t cs u ds

-- what is so once the marked clauses left the list of f
pub record HasLeft (want : ℕ → ℕ → ℕ) (t : Seen) (cs : List Live) (f : ℕ) (marks : List Bool) (u : Seen) (ds : List Live) : Type 0 where
  pub listing : IsListing (without_marked want f marks) u ds
  pub keeps : KeepsBut t cs u ds
