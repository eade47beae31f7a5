-- When a search starts anew, and when clauses may be removed.
use Rattle.std.specs.Prelude.{◌≡◌, ℕ, ◌+◌, ◌-◌, ◌*◌, ◌^◌, ◌<◌, ◌≤◌}

-- the power is the highest power of two that is n at most
pub record IsHighestPower (n power : ℕ) : Type 0 where
  pub exponent : ℕ
  pub power_is : power ≡ 2 ^ exponent
  pub within : power ≤ n
  pub highest : n < 2 * power

-- Luby's sequence, counted from 1: at 2 ^ (k + 1) - 1 it is 2 ^ k; from 2 ^ k on, and before that, it is as at the start
pub data IsLuby : ℕ → ℕ → Type 0 where
  Whole : (n power : ℕ) → IsHighestPower n power → n + 1 ≡ 2 * power → IsLuby n power
  Again : (n power x : ℕ) → IsHighestPower n power → n + 1 < 2 * power → IsLuby (n - power + 1) x → IsLuby n x

-- the number is m·(m + 1) for some m from 1 on
abbrev pub IsPronic : ℕ → Type 0
IsPronic n = (m : ℕ) × (1 ≤ m) × (n ≡ m * (m + 1))

-- there is one number at most at each place of the sequence
abbrev pub LubyIsOne : Type 0
LubyIsOne = (n x y : ℕ) → IsLuby n x → IsLuby n y → x ≡ y
