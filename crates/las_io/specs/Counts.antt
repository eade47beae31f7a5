-- Counts of bytes and of faults, which stop at the last value of u64.
use Rattle.std.specs.Prelude.{◌≡◌, ◌⊎◌, ℕ, ◌+◌, ◌-◌, ◌^◌, ◌<◌, ◌≤◌, min, Result, OnErr, IsErr, IsErrOf, MatchResult}
use Rattle.las_io.specs.declared.traits.IoBad.{IoBad}
use Rattle.las_io.specs.declared.traits.IoBad.TheVariants.{Failed}

-- what a count shows after n more: it grows no further than the last value of u64
abbrev pub count_after : ℕ → ℕ → ℕ
count_after before n = before + min n (2 ^ 64 - 1 - before)

-- the count rose, or it stands at the last value of u64
abbrev pub Rose : ℕ → ℕ → Type 0
Rose before now = (before < now) ⊎ (now ≡ 2 ^ 64 - 1)

-- a read counted the n bytes that it gave at `Ok(n)`, and nothing at `Err`
abbrev pub ReadCounts : {E : Type 0} → ℕ → ℕ → Result ℕ E → Type 0
ReadCounts before now result = MatchResult result (λ n. now ≡ count_after before n) (λ _. now ≡ before)

-- the count of faults does not fall; an error comes only where it rose, and it rises only where an error comes
pub record HasCause {T E : Type 0} (before now : ℕ) (result : Result T E) : Type 0 where
  pub later : before ≤ now
  pub failed : OnErr result (Rose before now)
  pub rises : before < now → IsErr result

-- the same for a call that may also want memory
pub record HasFaultCause {T : Type 0} (before now : ℕ) (result : Result T IoBad) : Type 0 where
  pub later : before ≤ now
  pub failed : IsErrOf result Failed → Rose before now
  pub rises : before < now → IsErrOf result Failed
