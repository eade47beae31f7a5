use Rattle.std.proofs.Common.{◌≡◌, ◌<◌, length, ap, arith}
use Rattle.clause_arena.specs.Words.{Block}
use Rattle.clause_arena.proofs.Seats.{here}
use Rattle.clause_arena.proofs.arena.Arena.put_far.Goals as goal

pub index_mut-requires : goal.index_mut-requires
index_mut-requires c = (let w : c.args.r.0 < length c.args.self.now.spans = (here c.args.self.now c.args.r.0 c.requires).within in let d = ap (λ (b : Block). length b.spans) c.self.view_is in let i : length c.self.inside.tails.items ≡ length c.self.inside.spans.items = c.self.invariant.one in omega (arith, c.self.inside.tails.ok.0))

pub returns-clause-room : goal.returns-clause-room
returns-clause-room c = (let w : c.args.r.0 < length c.args.self.now.spans = (here c.args.self.now c.args.r.0 c.requires).within in let d = ap (λ (b : Block). length b.spans) c.self.view_is in let e = ap (λ (b : Block). length b.tails) c.self.view_is in let i : length c.self.inside.tails.items ≡ length c.self.inside.spans.items = c.self.invariant.one in omega arith)
