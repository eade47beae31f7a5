use Rattle.std.proofs.Common.{◌<◌, length, ap, arith}
use Rattle.clause_arena.specs.Words.{Block}
use Rattle.clause_arena.proofs.Seats.{here}
use Rattle.clause_arena.proofs.arena.Arena.bound.Goals as goal

pub returns : goal.returns
returns c = λ x live.
    let within : x < length c.args.self.now.spans = (here c.args.self.now x live).within in
    let e = ap (λ (b : Block). length b.spans) c.self.view_is in
    omega (arith, c.len.ensures, c.self.inside.spans.ok.0)
