-- Whole numbers: what serde_json holds as an integer of 64 bits, so neither `1.0` nor `-0`.
use Rattle.std.specs.Prelude.{ℕ, ◌^◌, ◌-◌, List, [], ◌∷◌, nat_le, if◌then◌else◌, Option, Some, None, option_and_then}
use Rattle.serde_json.specs.Data.{Data}
use Rattle.serde_json.specs.Find.{get, as_number, as_u64}
use Rattle.json_shape.specs.Arrays.{array_items}

-- n, where it is at most this
abbrev pub up_to : ℕ → ℕ → Option ℕ
up_to most n = if nat_le n most then Some n else None

-- a whole number from 0 to a bound
abbrev pub whole_up_to : ℕ → Data → Option ℕ
whole_up_to most d = option_and_then (up_to most) (option_and_then as_u64 (as_number d))

-- a whole number from 0 to 4,294,967,295
abbrev pub whole_u32 : Data → Option ℕ
whole_u32 d = whole_up_to (2 ^ 32 - 1) d

-- the same, of a member
abbrev pub whole_member : List ℕ → Data → Option ℕ
whole_member name d = option_and_then whole_u32 (get name d)

-- three numbers, where there are three
abbrev pub all_three : Option ℕ → Option ℕ → Option ℕ → Option (ℕ × ℕ × ℕ)
all_three (Some x) (Some y) (Some z) = Some (x, y, z)
all_three _ _ _ = None

-- three values that are such whole numbers
abbrev pub triple_in : List Data → Option (ℕ × ℕ × ℕ)
triple_in (x ∷ y ∷ z ∷ []) = all_three (whole_u32 x) (whole_u32 y) (whole_u32 z)
triple_in _ = None

-- an array of three such whole numbers
abbrev pub triple : Data → Option (ℕ × ℕ × ℕ)
triple d = option_and_then triple_in (array_items d)
