use Rattle.std.proofs.Common.{◌≡◌, ◌*◌, ◌<◌, length, ap, ◌∙◌, arith}
use Rattle.clause_arena.specs.Words.{Block}
use Rattle.clause_arena.proofs.Fronts.{seen_read}
use Rattle.clause_arena.proofs.arena.Arena.is_seen.Goals as goal

pub index-requires : goal.index-requires
index-requires c = (let d = ap (λ (b : Block). length b.spans) c.self.view_is in let i : length c.self.inside.tails.items ≡ length c.self.inside.spans.items = c.self.invariant.one in let w : c.args.at < length c.args.self.now.spans = c.requires.within in omega (arith, c.self.inside.tails.ok.0))

pub returns-then-not-index : goal.returns-then-not-index
returns-then-not-index c =
    let i : length c.self.inside.heads.items ≡ 4 * length c.self.inside.spans.items = c.self.invariant.four in
    let j : length c.self.inside.tails.items ≡ length c.self.inside.spans.items = c.self.invariant.one in
    let a = ap (λ (b : Block). length b.heads) c.self.view_is in
    let d = ap (λ (b : Block). length b.spans) c.self.view_is in
    let e = ap (λ (b : Block). length b.tails) c.self.view_is in
    let w : c.args.at < length c.args.self.now.spans = c.requires.within in
    c.tells_right.ensures ∙ seen_read _ c.args.self.now c.args.at c.args.span c.index.result.now c.index-then-not-index.result.now c.index-then-not-index-2.result.now c.deref.result.now c.self.view_is c.requires.here c.index.ensures c.if-not-index.true (omega arith) c.requires.fits (omega arith) c.index-then-not-index.ensures c.index-then-not-index-2.ensures c.deref.ensures.value
