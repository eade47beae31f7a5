-- The names that a file on a shelf may have.
use Rattle.std.specs.Prelude.{ℕ, Bool, false, ◌&&◌, ◌||◌, ◌==◌, nat_le, List, [], ◌∷◌, length}
use Rattle.std.specs.List.{list_all}

-- low <= byte <= high
abbrev pub is_between : ℕ → ℕ → ℕ → Bool
is_between low high byte = nat_le low byte && nat_le byte high

-- A to Z, a to z, 0 to 9
abbrev pub is_letter_or_digit : ℕ → Bool
is_letter_or_digit byte = is_between 65 90 byte || (is_between 97 122 byte || is_between 48 57 byte)

-- a letter, a digit, `.`, `_` or `-`
abbrev pub is_name_byte : ℕ → Bool
is_name_byte byte = is_letter_or_digit byte || ((byte == 46) || ((byte == 95) || (byte == 45)))

-- 1 to 64 such bytes, the first a letter or a digit
abbrev pub is_lawful_name : List ℕ → Bool
is_lawful_name [] = false
is_lawful_name (first ∷ rest) = is_letter_or_digit first && (nat_le (length rest) 63 && list_all is_name_byte rest)
