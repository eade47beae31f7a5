-- Entries as they are kept once they are read.
use Rattle.std.specs.Prelude.{◌≡◌, List, [], Vec, slice_get}
use Rattle.std.specs.Option.{option_map_or}
use Rattle.std.specs.declared.alloc.Global.{Global}
use Rattle.serde_json.specs.Data.{Data}
use Rattle.json_shape.specs.declared.grid.Entry.{Entry}
use Rattle.lasre_codec.specs.declared.member.Member.{Member}
use Rattle.lasre_codec.specs.Members.{member_number}
use Rattle.lasre_codec.specs.Entries.{entries_of}

-- the entries of a grid: they are kept in the order of names
abbrev pub entries_kept : List (Vec Entry Global) → Member → List Entry
entries_kept grids m = option_map_or (λ v. v.items) (slice_get grids (member_number m)) []

-- these are the entries of each grid of a value
abbrev pub AreKept : Data → List (Vec Entry Global) → Type 0
AreKept d grids = (m : Member) → entries_kept grids m ≡ entries_of d m
