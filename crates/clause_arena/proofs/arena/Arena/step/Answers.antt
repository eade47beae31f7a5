use Rattle.std.proofs.Common.{◌≡◌, ℕ, Some, sym, ap, ◌∙◌, arith}
use Rattle.cnf_base.specs.declared.literal.Lit.{Lit}
use Rattle.clause_arena.specs.Words.{tail_in}
use Rattle.clause_arena.proofs.Fronts.{link_read, link_near, link_none}
use Rattle.clause_arena.proofs.Heads.{far_of}
use Rattle.clause_arena.proofs.arena.Arena.step.Goals as goal

pub returns-then-word-lt-FAR-clause-link : goal.returns-then-word-lt-FAR-clause-link
returns-then-word-lt-FAR-clause-link c =
    ap (λ (x : ℕ). Some x) c.from.ensures ∙ link_near c.head-word.result.0 (far_of c.args.slot (tail_in c.args.self.now.tails c.args.r.0)) c.if-word-lt-FAR.true ∙ sym (link_read c.args.self.now c.args.r.0 c.args.slot c.head-word.result c.requires.live c.requires.slot_in c.head-word.ensures)

pub returns-then-word-clause-link : goal.returns-then-word-clause-link
returns-then-word-clause-link c = link_none c.head-word.result.0 (far_of c.args.slot (tail_in c.args.self.now.tails c.args.r.0)) c.if-word.true ∙ sym (link_read c.args.self.now c.args.r.0 c.args.slot c.head-word.result c.requires.live c.requires.slot_in c.head-word.ensures)

pub far_link-requires-clause-far : goal.far_link-requires-clause-far
far_link-requires-clause-far c =
    let far : c.head-word.result.0 ≡ 4294967294 = (let a = c.if-word-lt-FAR.false in let b = c.if-word.false in omega (arith, c.head-word.type_inv)) in
    ap (λ (x : Lit). x.0) (sym c.head-word.ensures) ∙ far
