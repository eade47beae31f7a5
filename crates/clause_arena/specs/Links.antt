-- How a link is written.
use Rattle.std.specs.Prelude.{ℕ, ◌+◌, ◌*◌, Option, Some, None, if◌then◌else◌, nat_eq, nat_lt}
use Rattle.clause_arena.specs.declared.ClauseRef.{ClauseRef}
use Rattle.clause_arena.specs.declared.arena.Tail.{Tail}

-- the word of a link: twice its place and a slot, if that is below the last two numbers of a word, which stand for a place in the tail and for none
abbrev pub near_of : Option ClauseRef → ℕ → ℕ
near_of None slot = 4294967295
near_of (Some r) slot = if nat_lt r.0 2147483647 then 2 * r.0 + slot else 4294967294

-- a tail with another place for its first link, or for its second
abbrev pub far_put : ℕ → Option ClauseRef → Tail → Tail
far_put slot to t = if nat_eq slot 0 then record t { left = to } else record t { right = to }
