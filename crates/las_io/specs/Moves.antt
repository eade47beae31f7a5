-- What whole calls do to the bytes of a source and of a sink.
use Rattle.std.specs.Prelude.{◌≡◌, ℕ, ◌≤◌, List, length, take, Option, IfSome}
use Rattle.std.specs.Io.KnownBytes.{Appends, Consumes, IsAtEnd}
use Rattle.las_io.specs.Counts.{count_after}

-- where a source tells what is left, it is these bytes
abbrev pub IsAllLeft : Option (List ℕ) → List ℕ → Type 0
IsAllLeft told bytes = IfSome told (λ xs. xs ≡ bytes)

-- of a source: the bytes left, where it tells them, and how many it has given
module _ {S : Type 0} (left : S → Option (List ℕ)) (given : S → ℕ) where
  -- these bytes came: the source has counted them, and they are its next ones where it tells them
  pub record Gives (before after : S) (bytes : List ℕ) : Type 0 where
    pub consumed : Consumes (left before) (left after) bytes
    pub counted : given after ≡ count_after (given before) (length bytes)

  -- these bytes came, to the end
  pub record GivesAll (before after : S) (bytes : List ℕ) : Type 0 where
    pub came : Gives before after bytes
    pub end : IsAtEnd (left after)

  -- so many bytes came
  pub record GivesCount (before after : S) (count : ℕ) : Type 0 where
    pub bytes : List ℕ
    pub came : Gives before after bytes
    pub exact : length bytes ≡ count

  -- so many bytes came at most
  pub record GivesUpTo (before after : S) (most : ℕ) : Type 0 where
    pub bytes : List ℕ
    pub came : Gives before after bytes
    pub within : length bytes ≤ most

-- some first bytes of xs were appended
abbrev pub AppendsFront : Option (List ℕ) → Option (List ℕ) → List ℕ → Type 0
AppendsFront before after xs = (n : ℕ) × (n ≤ length xs) × Appends before after (take n xs)
