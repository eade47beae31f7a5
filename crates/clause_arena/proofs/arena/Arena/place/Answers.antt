use Rattle.std.proofs.Common.{◌≡◌, ◌*◌, ◌<◌, length, ap, arith}
use Rattle.clause_arena.specs.Words.{Block}
use Rattle.clause_arena.proofs.Seats.{here}
use Rattle.clause_arena.proofs.arena.Arena.place.Goals as goal

pub overflow_mul-result : goal.overflow_mul-result
overflow_mul-result c = (let w : c.args.r.0 < length c.args.self.now.spans = (here c.args.self.now c.args.r.0 c.requires).within in let e = ap (λ (b : Block). length b.spans) c.self.view_is in let i : length c.self.inside.heads.items ≡ 4 * length c.self.inside.spans.items = c.self.invariant.four in let s = c.self.inside.heads.small in omega (arith, c.self.inside.heads.ok.0))

pub returns-clause-room : goal.returns-clause-room
returns-clause-room c = (let w : c.args.r.0 < length c.args.self.now.spans = (here c.args.self.now c.args.r.0 c.requires).within in let e = ap (λ (b : Block). length b.spans) c.self.view_is in let f = ap (λ (b : Block). length b.heads) c.self.view_is in let i : length c.self.inside.heads.items ≡ 4 * length c.self.inside.spans.items = c.self.invariant.four in omega arith)

pub returns-clause-small : goal.returns-clause-small
returns-clause-small c = (let f = ap (λ (b : Block). length b.heads) c.self.view_is in let s = c.self.inside.heads.small in omega (arith, c.self.inside.heads.ok.0))
