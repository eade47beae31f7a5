use Rattle.std.proofs.Common.{◌<◌, length, ap, arith}
use Rattle.clause_arena.specs.Words.{Block}
use Rattle.clause_arena.proofs.Seats.{here}
use Rattle.clause_arena.proofs.Heads.{span_read}
use Rattle.clause_arena.proofs.arena.Arena.span.Goals as goal

pub index-requires : goal.index-requires
index-requires c = (let w : c.args.r.0 < length c.args.self.now.spans = (here c.args.self.now c.args.r.0 c.requires).within in let e = ap (λ (b : Block). length b.spans) c.self.view_is in omega (arith, c.self.inside.spans.ok.0))

pub returns : goal.returns
returns c = span_read _ c.args.self.now c.args.r.0 c.index.result.now c.self.view_is (here c.args.self.now c.args.r.0 c.requires).within c.index.ensures
