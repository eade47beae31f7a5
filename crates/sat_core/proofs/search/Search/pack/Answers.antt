use Rattle.std.proofs.Common.{List, refl, sym, ap, ◌∙◌}
use Rattle.clause_arena.specs.Words.{clauses_in}
use Rattle.clause_arena.specs.Packing.{Move, packed_by}
use Rattle.clause_arena.proofs.Packed.{falls_in}
use Rattle.sat_core.proofs.PackLemmas.{packed_is_ready}
use Rattle.sat_core.proofs.search.Search.pack.Goals as goal

pub returns-clause-ready : goal.returns-clause-ready
returns-clause-ready c =
    let cs = clauses_in c.args.self.now.arena in
    packed_is_ready c.args.self.now (record c.args.self.now { arena = c.pack.new.self; trail = c.moved.new.self }) c.pack.new.moves (falls_in c.args.self.now.arena) c.requires refl c.in_ok-pack.ensures.moves c.in_ok-pack.ensures.packed c.moved.ensures.moved c.moved.ensures.fits
    (c.moved.ensures.attached c.args.self.now.arena (record { fits = c.requires.fits; moves = c.in_ok-pack.ensures.moves; clauses = c.in_ok-pack.ensures.packed ∙ ap (λ (ms : List Move). packed_by ms (clauses_in c.args.self.now.arena)) (sym c.in_ok-pack.ensures.moves) }))
