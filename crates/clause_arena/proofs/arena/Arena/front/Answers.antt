use Rattle.std.proofs.Common.{◌≡◌, false, nat_eq, sym, ap₂, ◌∙◌}
use Rattle.cnf_base.specs.declared.literal.Lit.{Lit}
use Rattle.clause_arena.specs.Words.{head_in}
use Rattle.clause_arena.proofs.Fronts.{front_read}
use Rattle.clause_arena.proofs.arena.Arena.front.Goals as goal

pub returns-else-eq : goal.returns-else-eq
returns-else-eq c =
    let apart : nat_eq (head_in c.args.self.now.heads c.args.r.0 0).0 (head_in c.args.self.now.heads c.args.r.0 1).0 ≡ false = sym (ap₂ (λ (x y : Lit). nat_eq x.0 y.0) c.head.ensures c.head-2.ensures) ∙ sym c.eq.ensures ∙ c.if-eq.false in
    c.head-else-eq.ensures ∙ front_read c.args.self.now c.args.r.0 c.args.k c.requires.live c.requires.near apart
