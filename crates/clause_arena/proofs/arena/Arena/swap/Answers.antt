use Rattle.std.proofs.Common.{◌≡◌, List, length, ap, ◌∙◌}
use Rattle.cnf_base.specs.declared.literal.Lit.{Lit}
use Rattle.clause_arena.specs.Clauses.{is_live, lits_of, with_lits}
use Rattle.clause_arena.specs.Words.{clauses_in}
use Rattle.clause_arena.proofs.Heads.{lits_changed}
use Rattle.clause_arena.proofs.Updates.{written-live}
use Rattle.std.proofs.Common.{swap}
use Rattle.clause_arena.proofs.arena.Arena.swap.Goals as goal

pub show-requires : goal.show-requires
show-requires c =
    let long : length c.swap.new.self ≡ length (lits_of (clauses_in c.args.self.now) c.args.r.0) = c.swap.ensures.len ∙ ap length c.lits_mut.ensures.value in
    ap (λ cs. is_live cs c.args.r.0) (lits_changed c.args.self.now c.args.r.0 c.swap.new.self c.requires.live long) ∙ written-live (clauses_in c.args.self.now) c.args.r.0 c.args.r.0 c.swap.new.self ∙ c.requires.live

pub returns : goal.returns
returns c =
    let is : c.swap.new.self ≡ swap (lits_of (clauses_in c.args.self.now) c.args.r.0) c.args.i c.args.j = c.swap.ensures.after ∙ ap (λ (xs : List Lit). swap xs c.args.i c.args.j) c.lits_mut.ensures.value in
    c.show.ensures ∙ lits_changed c.args.self.now c.args.r.0 c.swap.new.self c.requires.live (c.swap.ensures.len ∙ ap length c.lits_mut.ensures.value) ∙ ap (λ (xs : List Lit). with_lits (clauses_in c.args.self.now) c.args.r.0 xs) is
