use Rattle.std.proofs.Common.{length, refl, ap, arith}
use Rattle.clause_arena.specs.Words.{Block, word}
use Rattle.clause_arena.proofs.Heads.{told_in}
use Rattle.clause_arena.proofs.arena.Arena.hide.Goals as goal

pub index_mut-requires : goal.index_mut-requires
index_mut-requires c = (let room = c.place-at.ensures.room in let e = ap (λ (b : Block). length b.heads) c.self.view_is in omega (arith, c.self.inside.heads.ok.0))

pub returns-clause-same : goal.returns-clause-same
returns-clause-same c = rw c.place-at.ensures.at (told_in _ c.args.self.now c.args.r.0 (word 0) (word 0) c.self.view_is c.requires (let room = c.place-at.ensures.room in let at = c.place-at.ensures.at in omega arith) refl)
