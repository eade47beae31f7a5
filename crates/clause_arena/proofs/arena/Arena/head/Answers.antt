use Rattle.std.proofs.Common.{ℕ, ◌+◌, ◌<◌, length, ap, ◌∙◌, arith}
use Rattle.clause_arena.specs.Words.{Block, word_in}
use Rattle.clause_arena.proofs.Heads.{head_read}
use Rattle.clause_arena.proofs.arena.Arena.head.Goals as goal

pub index-requires : goal.index-requires
index-requires c = (let room = c.place-at.ensures.room in let near = c.requires.near in let e = ap (λ (b : Block). length b.heads) c.self.view_is in omega (arith, c.self.inside.heads.ok.0))

pub returns : goal.returns
returns c =
    let room = c.place-at.ensures.room in
    let near : c.args.k < 4 = c.requires.near in
    head_read _ c.args.self.now (c.place-at.result + c.args.k) c.index.result.now c.self.view_is (omega arith) c.index.ensures ∙ ap (λ (n : ℕ). word_in c.args.self.now.heads (n + c.args.k)) c.place-at.ensures.at
