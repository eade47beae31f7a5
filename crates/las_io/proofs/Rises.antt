-- Counts of faults that rise.
use Rattle.std.proofs.Common.{◌≡◌, ◌⊎◌, true, false, Result, Ok, Err, Option, inl, inr, ℕ, ◌-◌, ◌^◌, ◌<◌, ◌≤◌, arith}
use Rattle.std.proofs.lemmas.Bool.{cases_lt}
use Rattle.las_io.specs.Counts.{count_after, Rose}
use Rattle.las_io.specs.declared.traits.IoBad.{IoBad}

-- a count to which one was added, up to the last value of u64, rose or stands there
pub rose_by : (before now : ℕ) → before < 2 ^ 64 → now ≡ count_after before 1 → Rose before now
rose_by before now small e = at (cases_lt before (2 ^ 64 - 1))
  where
    at : (before < 2 ^ 64 - 1) ⊎ (2 ^ 64 - 1 ≤ before) → Rose before now
    at (inl less) = inl (omega (arith, e))
    at (inr last) = inr (omega (arith, e))

-- what rose in the last of several calls rose in all of them
pub rose_through : (before mid now : ℕ) → before ≤ mid → Rose mid now → Rose before now
rose_through before mid now le (inl less) = inl (omega arith)
rose_through before mid now le (inr last) = inr last

-- a call in which the count does not rise leaves it as it was
pub stays : (before mid now : ℕ) → mid ≡ before → mid ≤ now → (mid < now → ⊥) → now ≡ before
stays before mid now e le never = at (cases_lt mid now)
  where
    at : (mid < now) ⊎ (now ≤ mid) → now ≡ before
    at (inl less) = absurd (never less)
    at (inr more) = omega arith

-- a call that answered did not fail: a read, a write, a fetch
pub read_well : false ≡ true → ⊥
read_well e = cc

pub wrote_well : (n : ℕ) (bad : IoBad) → (let r : Result ℕ IoBad = Ok n in r ≡ Err bad) → ⊥
wrote_well n bad e = cc

pub fetched_well : (some found : Option ℕ) (bad : IoBad) → found ≡ some → (let r : Result (Option ℕ) IoBad = Ok found in r ≡ Err bad) → ⊥
fetched_well some found bad is e = cc
