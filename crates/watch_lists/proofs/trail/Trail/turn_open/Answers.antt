use Rattle.std.proofs.Common.{List, Some, refl, sym, ap, ◌∙◌, subst}
use Rattle.cnf_base.specs.declared.literal.Lit.{Lit}
use Rattle.cnf_base.specs.Literals.{negation}
use Rattle.clause_arena.specs.Clauses.{place_of}
use Rattle.clause_arena.specs.Words.{clauses_in}
use Rattle.watch_lists.specs.Trails.{Seen, IsTrail}
use Rattle.watch_lists.specs.Entries.{is_true}
use Rattle.watch_lists.specs.Walks.{WalksOn, AllFalseFrom}
use Rattle.watch_lists.proofs.OverLemmas.{facing, other_in, false_turn, push_turn}
use Rattle.watch_lists.proofs.trail.Trail.turn_open.Goals as goal

pub lits-requires : goal.lits-requires
lits-requires g c = (facing g.attached c.args.self.now (clauses_in c.args.arena.now) c.args.f (place_of c.args.before) c.args.r.0 c.args.slot c.requires.0 c.requires.1.0).live

pub open_place-requires-clause-in_vars : goal.open_place-requires-clause-in_vars
open_place-requires-clause-in_vars g c = rw c.lits.ensures (facing g.attached c.args.self.now (clauses_in c.args.arena.now) c.args.f (place_of c.args.before) c.args.r.0 c.args.slot c.requires.0 c.requires.1.0).in_clause.below

pub is_false-requires-clause-in_vars : goal.is_false-requires-clause-in_vars
is_false-requires-clause-in_vars g c = rw c.requires.1.1.0 (other_in g.attached c.args.self.now (clauses_in c.args.arena.now) c.args.f (place_of c.args.before) c.args.r.0 c.args.slot c.requires.0 c.requires.1.0).1

pub returns-then-is_false : goal.returns-then-is_false
returns-then-is_false g c = (
  refl,
  refl,
  false_turn g.attached c.args.self.now (clauses_in c.args.arena.now) c.args.f (place_of c.args.before) c.args.r.0 c.args.slot c.requires.0 c.requires.1.0
      (ap (λ (l : Lit). is_true c.args.self.now.entries (negation l)) (sym c.requires.1.1.0) ∙ sym c.is_false.ensures ∙ c.if-is_false.true)
      (subst (λ (ls : List Lit). AllFalseFrom c.args.self.now.entries 2 ls) c.lits.ensures c.in_default.ensures),
)

pub push-requires-clause-in_vars : goal.push-requires-clause-in_vars
push-requires-clause-in_vars g c = rw c.requires.1.1.0 (other_in g.attached c.args.self.now (clauses_in c.args.arena.now) c.args.f (place_of c.args.before) c.args.r.0 c.args.slot c.requires.0 c.requires.1.0).1

pub returns : goal.returns
returns g c =
    subst (λ (u : Seen). WalksOn g.attached c.args.self.now (clauses_in c.args.arena.now) u (clauses_in c.args.arena.now) c.args.f (Some c.args.r.0) c.args.r.0) (sym c.push.ensures.pushed)
    (push_turn g.attached c.args.self.now (clauses_in c.args.arena.now) c.args.f (place_of c.args.before) c.args.r c.args.slot c.args.other c.requires.0 c.requires.1.0 c.requires.1.1.0
    (subst (λ (ls : List Lit). AllFalseFrom c.args.self.now.entries 2 ls) c.lits.ensures c.in_default.ensures)
    (subst IsTrail c.push.ensures.pushed c.push.ensures.sound))
