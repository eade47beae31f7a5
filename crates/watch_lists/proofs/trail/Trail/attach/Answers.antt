use Rattle.std.proofs.Common.{◌≡◌, List, [], ◌∷◌, ◌++◌, set, get_or, Some, refl, sym, ap, ◌∙◌, subst}
use Rattle.cnf_base.specs.declared.literal.Lit.{Lit}
use Rattle.cnf_base.specs.Literals.{negation}
use Rattle.clause_arena.specs.Clauses.{lits_of, put_link}
use Rattle.clause_arena.specs.Words.{clauses_in, word}
use Rattle.clause_arena.proofs.Updates.{with_clause-live, put_link-place}
use Rattle.watch_lists.specs.Entries.{is_true, entry_for}
use Rattle.watch_lists.specs.Trails.{IsTrail}
use Rattle.watch_lists.specs.Rows.{lit_in}
use Rattle.watch_lists.specs.Fits.{heads_in}
use Rattle.watch_lists.proofs.AssignLemmas.{trail_heads}
use Rattle.watch_lists.proofs.AttachFits.{both_linked, both_lits, both_keep, Attaches, attach_open, attach_unit}
use Rattle.watch_lists.proofs.trail.Trail.attach.Goals as goal

pub link_in-requires-2-clause-live : goal.link_in-requires-2-clause-live
link_in-requires-2-clause-live c =
    rw c.link_in.ensures.clauses (with_clause-live (clauses_in c.args.arena.now) c.args.r.0 c.args.r.0 (put_link 0 (heads_in c.args.self.now.heads (get_or c.lits-lits.result.now 0 (word 0)).0)) (put_link-place 0 (heads_in c.args.self.now.heads (get_or c.lits-lits.result.now 0 (word 0)).0)) ∙ c.requires.live)

then_clauses : (c : goal.After-push) → clauses_in c.link_in-2.new.arena ≡ both_linked (clauses_in c.args.arena.now) c.args.r.0 (heads_in c.args.self.now.heads (lit_in (lits_of (clauses_in c.args.arena.now) c.args.r.0) 0).0) (heads_in (set c.args.self.now.heads (lit_in (lits_of (clauses_in c.args.arena.now) c.args.r.0) 0).0 (Some c.args.r)) (lit_in (lits_of (clauses_in c.args.arena.now) c.args.r.0) 1).0)
then_clauses c = rw (c.link_in-2.ensures.clauses, c.link_in.ensures.clauses, c.link_in.ensures.heads, c.lits-lits.ensures) refl

then_trail : (c : goal.After-push) → c.push.new.self ≡ record c.args.self.now { entries = c.args.self.now.entries ++ entry_for c.args.self.now.entries (lit_in (lits_of (clauses_in c.args.arena.now) c.args.r.0) 0) (Some c.args.r) ∷ []; heads = (set (set c.args.self.now.heads (lit_in (lits_of (clauses_in c.args.arena.now) c.args.r.0) 0).0 (Some c.args.r)) (lit_in (lits_of (clauses_in c.args.arena.now) c.args.r.0) 1).0 (Some c.args.r)) }
then_trail c = rw (c.push.ensures.pushed, c.link_in-2.ensures.heads, c.link_in.ensures.heads, c.lits-lits.ensures) refl

then_attaches : (c : goal.After-push) → Attaches c.args.self.now (clauses_in c.args.arena.now) (record c.args.self.now { entries = c.args.self.now.entries ++ entry_for c.args.self.now.entries (lit_in (lits_of (clauses_in c.args.arena.now) c.args.r.0) 0) (Some c.args.r) ∷ []; heads = (set (set c.args.self.now.heads (lit_in (lits_of (clauses_in c.args.arena.now) c.args.r.0) 0).0 (Some c.args.r)) (lit_in (lits_of (clauses_in c.args.arena.now) c.args.r.0) 1).0 (Some c.args.r)) }) (both_linked (clauses_in c.args.arena.now) c.args.r.0 (heads_in c.args.self.now.heads (lit_in (lits_of (clauses_in c.args.arena.now) c.args.r.0) 0).0) (heads_in (set c.args.self.now.heads (lit_in (lits_of (clauses_in c.args.arena.now) c.args.r.0) 0).0 (Some c.args.r)) (lit_in (lits_of (clauses_in c.args.arena.now) c.args.r.0) 1).0)) c.args.r.0
then_attaches c =
    attach_unit c.args.self.now (clauses_in c.args.arena.now) c.args.r c.requires.fits c.requires.fresh c.requires.live c.requires.clause c.requires.ready
    (ap (λ (ls : List Lit). is_true c.args.self.now.entries (negation (lit_in ls 1))) (sym c.lits-lits.ensures) ∙ sym c.is_false-is_unit.ensures ∙ c.if-is_unit.true)
    (trail_heads c.args.self.now (c.args.self.now.entries ++ entry_for c.args.self.now.entries (lit_in (lits_of (clauses_in c.args.arena.now) c.args.r.0) 0) (Some c.args.r) ∷ []) (set (set c.args.self.now.heads (lit_in (lits_of (clauses_in c.args.arena.now) c.args.r.0) 0).0 (Some c.args.r)) (lit_in (lits_of (clauses_in c.args.arena.now) c.args.r.0) 1).0 (Some c.args.r)) (subst IsTrail (then_trail c) c.push.ensures.sound) c.lawful.ensures.wide)

pub returns-then-is_unit-clause-fits : goal.returns-then-is_unit-clause-fits
returns-then-is_unit-clause-fits c = rw (then_trail c, then_clauses c) (then_attaches c).fits

pub returns-then-is_unit-clause-attached : goal.returns-then-is_unit-clause-attached
returns-then-is_unit-clause-attached c x = rw (then_trail c, then_clauses c) ((then_attaches c).attached x)

pub returns-then-is_unit-clause-clauses : goal.returns-then-is_unit-clause-clauses
returns-then-is_unit-clause-clauses c = rw (then_clauses c) (both_keep (clauses_in c.args.arena.now) c.args.r.0 _ _ c.requires.live)

pub returns-then-is_unit-clause-lits : goal.returns-then-is_unit-clause-lits
returns-then-is_unit-clause-lits c x = rw (then_clauses c) (both_lits (clauses_in c.args.arena.now) c.args.r.0 x _ _ c.requires.live)

else_clauses : (c : goal.Else-is_unit) → clauses_in c.link_in-2.new.arena ≡ both_linked (clauses_in c.args.arena.now) c.args.r.0 (heads_in c.args.self.now.heads (lit_in (lits_of (clauses_in c.args.arena.now) c.args.r.0) 0).0) (heads_in (set c.args.self.now.heads (lit_in (lits_of (clauses_in c.args.arena.now) c.args.r.0) 0).0 (Some c.args.r)) (lit_in (lits_of (clauses_in c.args.arena.now) c.args.r.0) 1).0)
else_clauses c = rw (c.link_in-2.ensures.clauses, c.link_in.ensures.clauses, c.link_in.ensures.heads, c.lits-lits.ensures) refl

else_trail : (c : goal.Else-is_unit) → c.link_in-2.new.self ≡ record c.args.self.now { heads = (set (set c.args.self.now.heads (lit_in (lits_of (clauses_in c.args.arena.now) c.args.r.0) 0).0 (Some c.args.r)) (lit_in (lits_of (clauses_in c.args.arena.now) c.args.r.0) 1).0 (Some c.args.r)) }
else_trail c = rw (c.link_in-2.ensures.heads, c.link_in.ensures.heads, c.lits-lits.ensures) refl

else_attaches : (c : goal.Else-is_unit) → Attaches c.args.self.now (clauses_in c.args.arena.now) (record c.args.self.now { heads = (set (set c.args.self.now.heads (lit_in (lits_of (clauses_in c.args.arena.now) c.args.r.0) 0).0 (Some c.args.r)) (lit_in (lits_of (clauses_in c.args.arena.now) c.args.r.0) 1).0 (Some c.args.r)) }) (both_linked (clauses_in c.args.arena.now) c.args.r.0 (heads_in c.args.self.now.heads (lit_in (lits_of (clauses_in c.args.arena.now) c.args.r.0) 0).0) (heads_in (set c.args.self.now.heads (lit_in (lits_of (clauses_in c.args.arena.now) c.args.r.0) 0).0 (Some c.args.r)) (lit_in (lits_of (clauses_in c.args.arena.now) c.args.r.0) 1).0)) c.args.r.0
else_attaches c =
    attach_open c.args.self.now (clauses_in c.args.arena.now) c.args.r c.requires.fits c.requires.fresh c.requires.live c.requires.clause c.requires.ready
    (ap (λ (ls : List Lit). is_true c.args.self.now.entries (negation (lit_in ls 1))) (sym c.lits-lits.ensures) ∙ sym c.is_false-is_unit.ensures ∙ c.if-is_unit.false)

pub returns-else-is_unit-clause-fits : goal.returns-else-is_unit-clause-fits
returns-else-is_unit-clause-fits c = rw (else_trail c, else_clauses c) (else_attaches c).fits

pub returns-else-is_unit-clause-attached : goal.returns-else-is_unit-clause-attached
returns-else-is_unit-clause-attached c x = rw (else_trail c, else_clauses c) ((else_attaches c).attached x)

pub returns-else-is_unit-clause-clauses : goal.returns-else-is_unit-clause-clauses
returns-else-is_unit-clause-clauses c = rw (else_clauses c) (both_keep (clauses_in c.args.arena.now) c.args.r.0 _ _ c.requires.live)

pub returns-else-is_unit-clause-lits : goal.returns-else-is_unit-clause-lits
returns-else-is_unit-clause-lits c x = rw (else_clauses c) (both_lits (clauses_in c.args.arena.now) c.args.r.0 x _ _ c.requires.live)
