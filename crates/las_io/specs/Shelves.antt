-- The files of a shelf, by their names, and what each call does to them.
use Rattle.std.specs.Prelude.{◌≡◌, ◌≢◌, ◌⊎◌, ◌↔◌, ℕ, ◌≤◌, ⊤, IsTrue, List, [], ◌∷◌, ◌++◌, length, take, drop, find, Option, None, Some, IfSome, IsSomeAnd, MatchOption, option_map, unwrap_or, Result, Ok, Err, MatchResult, bytes_eq, Bool}
use Rattle.std.specs.Io.{StartsWith}
use Rattle.las_io.specs.Counts.{count_after}
use Rattle.las_io.specs.Names.{is_lawful_name}
use Rattle.las_io.specs.declared.traits.IoBad.{IoBad}
use Rattle.las_io.specs.declared.traits.IoBad.TheVariants.{Failed, Memory}

-- a file: its name and its bytes
abbrev pub File : Type 0
File = List ℕ × List ℕ

-- the file has this name
abbrev pub is_named : List ℕ → File → Bool
is_named name file = bytes_eq file.0 name

-- the bytes of the file of this name
abbrev pub file_of : List File → List ℕ → Option (List ℕ)
file_of files name = option_map (λ file. file.1) (find (is_named name) files)

-- the names are lawful, and none stands twice
abbrev pub HasNames : List File → Type 0
HasNames [] = ⊤
HasNames (file ∷ files) = IsTrue (is_lawful_name file.0) × (file_of files file.0 ≡ None) × HasNames files

-- where the files are told before a call, they are told after it, and P holds of them
abbrev pub Told : (List File → List File → Type 0) → Option (List File) → Option (List File) → Type 0
Told P None after = ⊤
Told P (Some xs) None = ⊥
Told P (Some xs) (Some ys) = P xs ys

-- all files are as before
abbrev pub FilesStay : Option (List File) → Option (List File) → Type 0
FilesStay before after = Told (λ xs ys. ys ≡ xs) before after

-- each file of another name is as before
abbrev pub OthersStay : List ℕ → List File → List File → Type 0
OthersStay name xs ys = (other : List ℕ) → other ≢ name → file_of ys other ≡ file_of xs other

-- `begin`: the file is there, empty; after `Failed` it is as before, empty or absent; after `Memory` all is as before
abbrev pub BeginsFile : List ℕ → Result (Unit {0}) IoBad → List File → List File → Type 0
BeginsFile name (Ok _) xs ys = OthersStay name xs ys × (file_of ys name ≡ Some [])
BeginsFile name (Err Failed) xs ys = OthersStay name xs ys × ((file_of ys name ≡ file_of xs name) ⊎ ((file_of ys name ≡ Some []) ⊎ (file_of ys name ≡ None)))
BeginsFile name (Err Memory) xs ys = ys ≡ xs

-- the name of the file that is begun after `begin`
abbrev pub begun_after : {E : Type 0} → List ℕ → Result (Unit {0}) E → Option (List ℕ)
begun_after name (Ok _) = Some name
begun_after name (Err _) = None

-- these bytes came to the end of the file, and all others are as before
abbrev pub Grows : List ℕ → List ℕ → List File → List File → Type 0
Grows name bytes xs ys = OthersStay name xs ys × IsSomeAnd (file_of xs name) (λ old. file_of ys name ≡ Some (old ++ bytes))

-- `append`: the piece came to the end of the begun file; after `Failed` a prefix of it; after `Memory` all is as before
abbrev pub AppendsPiece : List ℕ → List ℕ → Result (Unit {0}) IoBad → List File → List File → Type 0
AppendsPiece name piece (Ok _) xs ys = Grows name piece xs ys
AppendsPiece name piece (Err Failed) xs ys = (n : ℕ) × (n ≤ length piece) × Grows name (take n piece) xs ys
AppendsPiece name piece (Err Memory) xs ys = ys ≡ xs

-- the n bytes from place `at` stand at the buffer's front; n is 0 exactly at the end of the bytes or for an empty buffer
pub record Copies (bytes : List ℕ) (at : ℕ) (buf : List ℕ) (n : ℕ) : Type 0 where
  pub front : take n buf ≡ take n (drop at bytes)
  pub within : n ≤ length (drop at bytes)
  pub none : (n ≡ 0) ↔ ((length bytes ≤ at) ⊎ (length buf ≡ 0))

-- `fetch`: none exactly where there is no such file, and else its bytes from place `at`
abbrev pub IsFetched : Option (List ℕ) → ℕ → List ℕ → Option ℕ → Type 0
IsFetched None at buf answer = answer ≡ None
IsFetched (Some bytes) at buf answer = IsSomeAnd answer (Copies bytes at buf)

-- a fetch counted the bytes that it gave
abbrev pub FetchCounts : {E : Type 0} → ℕ → ℕ → Result (Option ℕ) E → Type 0
FetchCounts before now result = MatchResult result (λ answer. now ≡ count_after before (unwrap_or answer 0)) (λ _. now ≡ before)

-- these bytes stand at the front of the file; where there is none, they are none
abbrev pub IsFront : Option (List ℕ) → List ℕ → Type 0
IsFront file bytes = MatchOption file (bytes ≡ []) (λ xs. StartsWith xs bytes)

-- of a shelf: its files, where it tells them, and how many bytes its fetches have given
module _ {H : Type 0} (files : H → Option (List File)) (given : H → ℕ) where
  -- these bytes of the file of this name came: the shelf has counted them, and they are its first ones where it is told
  pub record Fetches (name : List ℕ) (before after : H) (bytes : List ℕ) : Type 0 where
    pub counted : given after ≡ count_after (given before) (length bytes)
    pub front : IfSome (files before) (λ fs. IsFront (file_of fs name) bytes)

  -- so many bytes came
  pub record FetchesCount (name : List ℕ) (before after : H) (count : ℕ) : Type 0 where
    pub bytes : List ℕ
    pub came : Fetches name before after bytes
    pub exact : length bytes ≡ count

  -- so many bytes came at most
  pub record FetchesUpTo (name : List ℕ) (before after : H) (most : ℕ) : Type 0 where
    pub bytes : List ℕ
    pub came : Fetches name before after bytes
    pub within : length bytes ≤ most
