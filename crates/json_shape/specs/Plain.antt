-- Plain values: those whose text is pinned, and read back.
use Rattle.std.specs.Prelude.{◌≡◌, ℕ, ◌<◌, ◌≤◌, ◌^◌, Bool, true, false, ◌&&◌, List, ◌∷◌, [], ◌++◌, Some, IsUtf8, ⊤}
use Rattle.std.specs.Ordering.{nat_cmp, match_ordering}
use Rattle.std.specs.Cmp.Lexicographic.{slice_cmp}
use Rattle.serde_json.specs.Data.{Num, unsigned, negative, float, Data, null, boolean, number, string, array, object, Items, no_items, item, Members, no_members, member, depth}
use Rattle.serde_json.specs.Read.{max_depth}
use Rattle.serde_json.specs.Written.{has_float, compact_text}
use Rattle.json_shape.specs.Documents.{json_of}

-- a whole number that serde_json reads as one
abbrev pub IsWhole : Num → Type 0
IsWhole (unsigned n) = n < 2 ^ 64
IsWhole (negative z) = ⊥
IsWhole (float x) = ⊥

-- members, and others behind them
abbrev pub joined : Members → Members → Members
joined no_members ms = ms
joined (member k d found) ms = member k d (joined found ms)

-- the key comes behind the keys of all the members
abbrev pub is_last : List ℕ → Members → Bool
is_last k no_members = true
is_last k (member l e ms) = match_ordering (slice_cmp nat_cmp k l) false false true && is_last k ms

-- numbers are whole and not negative, texts are UTF-8, and members stand in the order of their keys
abbrev mutual
  pub IsPlain : Data → Type 0
  IsPlain null = ⊤
  IsPlain (boolean b) = ⊤
  IsPlain (number n) = IsWhole n
  IsPlain (string s) = IsUtf8 s
  IsPlain (array ds) = AreItemsPlain ds
  IsPlain (object ms) = AreMembersPlain no_members ms

  pub AreItemsPlain : Items → Type 0
  AreItemsPlain no_items = ⊤
  AreItemsPlain (item d ds) = IsPlain d × AreItemsPlain ds

  -- of those that come behind other members
  pub AreMembersPlain : Members → Members → Type 0
  AreMembersPlain found no_members = ⊤
  AreMembersPlain found (member k d ms) = IsUtf8 k × (is_last k found ≡ true) × IsPlain d × AreMembersPlain (joined found (member k d no_members)) ms

-- a plain value has no float
abbrev pub PlainHasNoFloat : Type 0
PlainHasNoFloat = (d : Data) → IsPlain d → has_float d ≡ false

-- the compact text of a plain value, with a line feed behind it, is a document of that value
abbrev pub PrintedIsReadBack : Type 0
PrintedIsReadBack = (d : Data) → IsPlain d → depth d ≤ max_depth → json_of (compact_text d ++ 10 ∷ []) ≡ Some d
