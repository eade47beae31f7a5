use Rattle.std.proofs.Common.{length, ap, arith}
use Rattle.clause_arena.specs.Words.{Block}
use Rattle.clause_arena.proofs.arena.Arena.put_head.Goals as goal

pub index_mut-requires : goal.index_mut-requires
index_mut-requires c = (let room = c.place-at.ensures.room in let near = c.requires.near in let e = ap (λ (b : Block). length b.heads) c.self.view_is in omega (arith, c.self.inside.heads.ok.0))

pub returns-clause-room : goal.returns-clause-room
returns-clause-room c = (let room = c.place-at.ensures.room in let at = c.place-at.ensures.at in omega arith)
