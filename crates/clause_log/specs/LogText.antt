-- The text of a log: one line for each step.
use Rattle.std.specs.Prelude.{ℕ, ◌+◌, ◌-◌, ◌*◌, ◌^◌, Bool, true, false, ◌&&◌, ◌||◌, not, nat_eq, nat_lt, nat_le, List, [], ◌∷◌, ◌++◌, map, Option, Some, None, if◌then◌else◌, codes}
use Rattle.std.specs.List.{list_all, fold}
use Rattle.std.specs.Option.{option_map, option_and_then}
use Rattle.std.specs.Fmt.{decimal}
use Rattle.cnf_base.specs.declared.literal.Lit.{Lit}
use Rattle.cnf_base.specs.Literals.{plain, negated, literal_text}
use Rattle.cnf_base.specs.Logs.{LogStep, Add, Remove, Tail, LogEnd, Malformed}

-- a space or a tab
abbrev pub is_blank : ℕ → Bool
is_blank b = nat_eq b 32 || nat_eq b 9

-- a token, and those behind it
abbrev pub Tokens : Type 0
Tokens = List ℕ × List (List ℕ)

-- a byte in front of the first of some tokens
abbrev pub onto_token : ℕ → Tokens → Tokens
onto_token b ts = (b ∷ ts.0, ts.1)

abbrev mutual
  -- the tokens from here on, behind blanks or none: at least one, and no blank stands at the end
  pub tokens_on : List ℕ → Option (List (List ℕ))
  tokens_on [] = None
  tokens_on (b ∷ bs) = if is_blank b then tokens_on bs else option_map (λ ts. (b ∷ ts.0) ∷ ts.1) (token_on bs)

  -- the rest of a token that has begun, and the tokens behind it
  pub token_on : List ℕ → Option Tokens
  token_on [] = Some ([], [])
  token_on (b ∷ bs) = if is_blank b then option_map (λ ts. ([], ts)) (tokens_on bs) else option_map (onto_token b) (token_on bs)

-- the tokens of a line, one or more blanks apart; none where a blank stands at an end
abbrev pub tokens : List ℕ → Option (List (List ℕ))
tokens [] = None
tokens (b ∷ bs) = if is_blank b then None else tokens_on (b ∷ bs)

-- no byte
abbrev pub is_empty_text : List ℕ → Bool
is_empty_text [] = true
is_empty_text (_ ∷ _) = false

-- one of 0 to 9
abbrev pub is_digit : ℕ → Bool
is_digit b = nat_le 48 b && nat_le b 57

-- the number with one digit more
abbrev pub with_digit : ℕ → ℕ → ℕ
with_digit n d = n * 10 + (d - 48)

-- the number of some decimal digits
abbrev pub digits_value : List ℕ → ℕ
digits_value ds = fold with_digit 0 ds

-- a number in decimal without a leading zero, below a bound
abbrev pub number_below : ℕ → List ℕ → Option ℕ
number_below bound [] = None
number_below bound (d ∷ ds) =
    if list_all is_digit (d ∷ ds) && ((not (nat_eq d 48) || is_empty_text ds) && nat_lt (digits_value (d ∷ ds)) bound) then Some (digits_value (d ∷ ds)) else None

-- a number below 2 ^ 64
abbrev pub number_of : List ℕ → Option ℕ
number_of token = number_below (2 ^ 64) token

-- the number, unless it is 0
abbrev pub nonzero : Option ℕ → Option ℕ
nonzero None = None
nonzero (Some n) = if nat_eq n 0 then None else Some n

-- a literal: a variable's number from 1, behind `-` where it is negated
abbrev pub literal_of : List ℕ → Option Lit
literal_of [] = None
literal_of (b ∷ bs) =
    if nat_eq b 45 then option_map (λ n. negated (n - 1)) (nonzero (number_below (2 ^ 31) bs)) else option_map (λ n. plain (n - 1)) (nonzero (number_below (2 ^ 31) (b ∷ bs)))

-- the number is 0
abbrev pub is_zero_number : Option ℕ → Bool
is_zero_number None = false
is_zero_number (Some n) = nat_eq n 0

-- the token 0
abbrev pub is_zero : List ℕ → Bool
is_zero token = is_zero_number (number_of token)

-- the token d
abbrev pub is_d : List ℕ → Bool
is_d [] = false
is_d (b ∷ bs) = nat_eq b 100 && is_empty_text bs

-- an item in front of those read
abbrev pub onto_item : {A : Type 0} → Option A → Option (List A × List (List ℕ)) → Option (List A × List (List ℕ))
onto_item None rest = None
onto_item (Some x) rest = option_map (λ r. (x ∷ r.0, r.1)) rest

-- the items before the first `0`, and the tokens behind it
abbrev pub up_to_zero : {A : Type 0} → (List ℕ → Option A) → List (List ℕ) → Option (List A × List (List ℕ))
up_to_zero item [] = None
up_to_zero item (t ∷ ts) = if is_zero t then Some ([], ts) else onto_item (item t) (up_to_zero item ts)

-- nothing stands behind the last `0`
abbrev pub whole : {A : Type 0} → Option (List A × List (List ℕ)) → Option (List A)
whole None = None
whole (Some (xs, [])) = Some xs
whole (Some (xs, _ ∷ _)) = None

-- a number that is not 0
abbrev pub id_of : List ℕ → Option ℕ
id_of token = nonzero (number_of token)

-- `id lits 0 hints 0`
abbrev pub addition_of : List (List ℕ) → Option LogStep
addition_of [] = None
addition_of (t ∷ ts) = option_and_then (λ id. option_and_then (λ x. option_map (λ hints. Add id x.0 hints) (whole (up_to_zero id_of x.1))) (up_to_zero literal_of ts)) (id_of t)

-- `number d ids 0`
abbrev pub removal_of : List (List ℕ) → Option LogStep
removal_of (t ∷ d ∷ ts) = if is_d d then option_and_then (λ n. option_map Remove (whole (up_to_zero id_of ts))) (number_of t) else None
removal_of _ = None

-- the first of two that is there
abbrev pub or_this : {A : Type 0} → Option A → Option A → Option A
or_this (Some x) y = Some x
or_this None y = y

-- the step that a line says, without its line feed
unfoldable pub step_of : List ℕ → Option LogStep
step_of line = option_and_then (λ ts. or_this (removal_of ts) (addition_of ts)) (tokens line)

-- one byte more in front: a line feed ends an empty line there; any other byte begins the first line, or else what stands behind the last
abbrev pub onto_lines : Bool → ℕ → List (List ℕ) × List ℕ → List (List ℕ) × List ℕ
onto_lines true b (ls, rest) = ([] ∷ ls, rest)
onto_lines false b ([], rest) = ([], b ∷ rest)
onto_lines false b (l ∷ ls, rest) = ((b ∷ l) ∷ ls, rest)

-- the lines of some bytes, and the bytes behind the last line feed
abbrev pub whole_lines : List ℕ → List (List ℕ) × List ℕ
whole_lines [] = ([], [])
whole_lines (b ∷ bs) = onto_lines (nat_eq b 10) b (whole_lines bs)

-- a step in front of those read, or the end of reading
abbrev pub onto_step : Option LogStep → List LogStep × Tail → List LogStep × Tail
onto_step None rest = ([], Malformed)
onto_step (Some s) rest = (s ∷ rest.0, rest.1)

-- the steps of lines, up to the first that is not of the form
abbrev pub read_lines : List (List ℕ) → List ℕ → List LogStep × Tail
read_lines [] [] = ([], LogEnd)
read_lines [] (_ ∷ _) = ([], Malformed)
read_lines (l ∷ ls) rest = onto_step (step_of l) (read_lines ls rest)

-- the steps of a log's bytes, and what follows them
unfoldable pub read_log : List ℕ → List LogStep × Tail
read_log bytes = read_lines (whole_lines bytes).0 (whole_lines bytes).1

-- words with a blank between
abbrev pub joined : List (List ℕ) → List ℕ
joined [] = []
joined (w ∷ []) = w
joined (w ∷ v ∷ ws) = w ++ 32 ∷ joined (v ∷ ws)

-- the words that a writer puts for a step. `after` is the number in front of a removal's `d`
abbrev pub step_words : ℕ → LogStep → List (List ℕ)
step_words after (Add id lits hints) = decimal id ∷ (map literal_text lits ++ (codes "0" ∷ (map decimal hints ++ codes "0" ∷ [])))
step_words after (Remove ids) = decimal after ∷ (codes "d" ∷ (map decimal ids ++ codes "0" ∷ []))

-- the line that a writer makes of a step
unfoldable pub step_text : ℕ → LogStep → List ℕ
step_text after step = joined (step_words after step) ++ 10 ∷ []
