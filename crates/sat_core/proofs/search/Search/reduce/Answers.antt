use Rattle.std.proofs.Common.{ℕ, List, None, sym, ap, ◌∙◌, subst}
use Rattle.std.proofs.lemmas.Bool.{both_ways, eqb-true}
use Rattle.std.specs.Vec.{vec_len}
use Rattle.cnf_base.specs.Takes.{are_ids}
use Rattle.clause_arena.specs.declared.ClauseRef.{ClauseRef}
use Rattle.clause_arena.specs.Words.{clauses_in}
use Rattle.clause_arena.proofs.Packed.{falls_in}
use Rattle.sat_core.specs.Standing.{HoldsReduced}
use Rattle.sat_core.specs.Reducing.{AreChosen, Loses, ids_in, places_of}
use Rattle.sat_core.proofs.ReduceLemmas.{ids_are, none_due, not_due, reduced_holds}
use Rattle.sat_core.proofs.search.Search.reduce.Goals as goal

pub returns-then-not-reduce_at-clause-holds : goal.returns-then-not-reduce_at-clause-holds
returns-then-not-reduce_at-clause-holds g c = λ first h.
    not_due c.args.f.now first (g.L.LogTake.steps c.args.log.now) (clauses_in c.args.self.now.arena) c.args.self.now.lessons h
    (λ place. both_ways c.reduce_at.result c.if-not-reduce_at.true (c.reduce_at.ensures.1 place))

pub returns-then-is_empty-clause-holds : goal.returns-then-is_empty-clause-holds
returns-then-is_empty-clause-holds g c = λ first h.
    let P : ℕ → Type 0 = λ n. AreChosen n c.args.self.now.trail (clauses_in c.args.self.now.arena) c.in_ok-gone.gone.items in
    none_due c.args.f.now first (g.L.LogTake.steps c.args.log.now) c.args.self.now.trail (clauses_in c.args.self.now.arena) c.args.self.now.lessons c.in_ok-gone.gone.items h (falls_in c.args.self.now.arena) c.requires.vars (subst P c.len.ensures.count c.in_ok-gone.ensures)
    (sym c.in_ok-gone.gone.ok.0 ∙ eqb-true (vec_len c.in_ok-gone.gone) 0 (sym c.is_empty.ensures ∙ c.if-is_empty.true))

pub remove-requires-clause-ids : goal.remove-requires-clause-ids
remove-requires-clause-ids g c =
    ap are_ids (c.deref-3.ensures.value ∙ c.in_ok-ids.ensures ∙ ap (λ (rs : List ClauseRef). ids_in (clauses_in c.args.self.now.arena) (places_of rs)) c.deref.ensures.value)
    ∙ ids_are c.args.f.now None (g.L.LogTake.steps c.args.log.now) (clauses_in c.args.self.now.arena) c.args.self.now.lessons c.in_ok-gone.gone.items c.requires.holds.log c.in_ok-gone.ensures.may_go.live

pub returns-clause-holds : goal.returns-clause-holds
returns-clause-holds g c = λ first h.
    let P : ℕ → Type 0 = λ n. AreChosen n c.args.self.now.trail (clauses_in c.args.self.now.arena) c.in_ok-gone.gone.items in
    let Q : List ClauseRef → Type 0 = λ rs. Loses (clauses_in c.args.self.now.arena) (places_of rs) (clauses_in c.let_all_go.new.self.arena) in
    let R : ℕ → Type 0 = λ n. HoldsReduced c.args.f.now first (g.L.LogTake.steps c.remove.new.self) (clauses_in c.pack.new.self.arena) n in
    subst R (sym (c.in_ok-pack.ensures.lessons ∙ c.let_all_go.ensures.lessons)) (reduced_holds c.args.f.now first (g.L.LogTake.steps c.args.log.now) (g.L.LogTake.steps c.remove.new.self) c.args.self.now.trail (clauses_in c.args.self.now.arena) (clauses_in c.let_all_go.new.self.arena) (clauses_in c.pack.new.self.arena) c.args.self.now.lessons c.in_ok-gone.gone.items c.deref-3.result.now h
    (c.reduce_at.ensures.0 c.if-not-reduce_at.false) (subst P c.len.ensures.count c.in_ok-gone.ensures) c.requires.ready.fits c.requires.ready.placed c.requires.vars (falls_in c.args.self.now.arena) (falls_in c.let_all_go.new.self.arena) (subst Q c.deref-4.ensures.value c.let_all_go.ensures.loses) c.in_ok-pack.ensures.packed
    (c.deref-3.ensures.value ∙ c.in_ok-ids.ensures ∙ ap (λ (rs : List ClauseRef). ids_in (clauses_in c.args.self.now.arena) (places_of rs)) c.deref.ensures.value) c.in_ok-remove.ensures.steps)
