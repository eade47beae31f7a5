use Rattle.std.proofs.Common.{◌≡◌, ◌+◌, sym, ap, ◌∙◌, arith, refl}
use Rattle.clause_arena.specs.declared.arena.Tail.{Tail}
use Rattle.clause_arena.specs.Clauses.{place_of}
use Rattle.clause_arena.specs.Words.{tail_in, head_in}
use Rattle.clause_arena.proofs.Fronts.{link_read, link_far}
use Rattle.clause_arena.proofs.Heads.{far_of}
use Rattle.clause_arena.proofs.arena.Arena.far_link.Goals as goal

pub returns-then-slot-eq0 : goal.returns-then-slot-eq0
returns-then-slot-eq0 c =
    let slot : c.tail-tail.result.left ≡ far_of c.args.slot (tail_in c.args.self.now.tails c.args.r.0) = rw c.if-slot-eq0.true (ap (λ (t : Tail). t.left) c.tail-tail.ensures) in
    ap place_of slot ∙ link_far (head_in c.args.self.now.heads c.args.r.0 (2 + c.args.slot)).0 (far_of c.args.slot (tail_in c.args.self.now.tails c.args.r.0)) c.requires.far ∙ sym (link_read c.args.self.now c.args.r.0 c.args.slot (head_in c.args.self.now.heads c.args.r.0 (2 + c.args.slot)) c.requires.live c.requires.slot_in refl)

pub returns-else-slot-eq0 : goal.returns-else-slot-eq0
returns-else-slot-eq0 c =
    let one : c.args.slot ≡ 1 = (let a = c.if-slot-eq0.false in let b = c.requires.slot_in in omega arith) in
    let slot : c.tail-tail.result.right ≡ far_of c.args.slot (tail_in c.args.self.now.tails c.args.r.0) = rw one (ap (λ (t : Tail). t.right) c.tail-tail.ensures) in
    ap place_of slot ∙ link_far (head_in c.args.self.now.heads c.args.r.0 (2 + c.args.slot)).0 (far_of c.args.slot (tail_in c.args.self.now.tails c.args.r.0)) c.requires.far ∙ sym (link_read c.args.self.now c.args.r.0 c.args.slot (head_in c.args.self.now.heads c.args.r.0 (2 + c.args.slot)) c.requires.live c.requires.slot_in refl)
