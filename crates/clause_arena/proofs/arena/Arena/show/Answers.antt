use Rattle.std.proofs.Common.{length, sym, ap, ◌∙◌, arith}
use Rattle.clause_arena.specs.Words.{Block, tells_right}
use Rattle.clause_arena.proofs.Heads.{told_in}
use Rattle.clause_arena.proofs.arena.Arena.show.Goals as goal

pub index_mut-requires : goal.index_mut-requires
index_mut-requires c = (let room = c.place-at.ensures.room in let e = ap (λ (b : Block). length b.heads) c.self.view_is in omega (arith, c.self.inside.heads.ok.0))

pub returns : goal.returns
returns c = rw c.place-at.ensures.at (told_in _ c.args.self.now c.args.r.0 _ _ c.self.view_is c.requires (let room = c.place-at.ensures.room in let at = c.place-at.ensures.at in omega arith) (ap (tells_right _ _) (sym c.lits.ensures) ∙ c.first_two.ensures))
