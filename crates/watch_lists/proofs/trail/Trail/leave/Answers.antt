use Rattle.std.proofs.Common.{Option, None, sym, ◌∙◌, subst}
use Rattle.clause_arena.specs.declared.ClauseRef.{ClauseRef}
use Rattle.clause_arena.specs.Clauses.{place_of}
use Rattle.clause_arena.specs.Words.{clauses_in}
use Rattle.watch_lists.specs.Detaching.{count_in}
use Rattle.watch_lists.specs.Leaving.{Leaves}
use Rattle.watch_lists.proofs.TurnLemmas.{link_next}
use Rattle.watch_lists.proofs.LeaveLemmas.{leave_begins, leave_found, leave_before, leave_ends, step_past, step_cut}
use Rattle.watch_lists.proofs.trail.Trail.leave.Goals as goal

pub loop-hand-init : goal.loop-hand-init
loop-hand-init c =
    subst (λ (h : Option ClauseRef). Leaves (count_in c.args.self.now (clauses_in c.args.arena.now)) c.args.self.now (clauses_in c.args.arena.now) c.args.f.0 c.args.marks.now c.args.self.now (clauses_in c.args.arena.now) None (place_of h)) (sym c.head-hand.ensures)
    (leave_begins (count_in c.args.self.now (clauses_in c.args.arena.now)) c.args.self.now (clauses_in c.args.arena.now) c.args.f.0 c.args.marks.now c.requires.listing)

pub slot_of-slot-requires-clause-live : goal.slot_of-slot-requires-clause-live
slot_of-slot-requires-clause-live c = (leave_found (count_in c.args.self.now (clauses_in c.args.arena.now)) c.args.self.now (clauses_in c.args.arena.now) c.args.f.0 c.args.marks.now c.loop-hand.self (clauses_in c.loop-hand.arena) (place_of c.loop-hand.before) c.loop-hand.hand c.in-Some.r c.in-Some.is c.loop-hand.invariant).0

pub slot_of-slot-requires-clause-long : goal.slot_of-slot-requires-clause-long
slot_of-slot-requires-clause-long c = (leave_found (count_in c.args.self.now (clauses_in c.args.arena.now)) c.args.self.now (clauses_in c.args.arena.now) c.args.f.0 c.args.marks.now c.loop-hand.self (clauses_in c.loop-hand.arena) (place_of c.loop-hand.before) c.loop-hand.hand c.in-Some.r c.in-Some.is c.loop-hand.invariant).1

pub link-next-requires-clause-live : goal.link-next-requires-clause-live
link-next-requires-clause-live c = (leave_found (count_in c.args.self.now (clauses_in c.args.arena.now)) c.args.self.now (clauses_in c.args.arena.now) c.args.f.0 c.args.marks.now c.loop-hand.self (clauses_in c.loop-hand.arena) (place_of c.loop-hand.before) c.loop-hand.hand c.in-Some.r c.in-Some.is c.loop-hand.invariant).0

pub unlink-requires-clause-before : goal.unlink-requires-clause-before
unlink-requires-clause-before c = leave_before (count_in c.args.self.now (clauses_in c.args.arena.now)) c.args.self.now (clauses_in c.args.arena.now) c.args.f.0 c.args.marks.now c.loop-hand.self (clauses_in c.loop-hand.arena) c.loop-hand.before c.loop-hand.hand c.in-Some.r c.in-Some.is c.loop-hand.invariant

pub loop-hand-smaller-then-is_marked : goal.loop-hand-smaller-then-is_marked
loop-hand-smaller-then-is_marked c = (step_cut (count_in c.args.self.now (clauses_in c.args.arena.now)) c.args.self.now (clauses_in c.args.arena.now) c.args.f c.args.marks.now c.loop-hand.self (clauses_in c.loop-hand.arena) c.loop-hand.before c.loop-hand.hand c.link-next.result c.in-Some.r c.unlink.new.self (clauses_in c.unlink.new.arena) c.in-Some.is c.loop-hand.invariant (sym c.is_marked.ensures ∙ c.if-is_marked.true) c.requires.in_vars (c.link-next.ensures ∙ link_next (clauses_in c.loop-hand.arena) c.args.f.0 c.slot_of-slot.result c.in-Some.r.0 c.slot_of-slot.ensures.which) c.unlink.ensures.heads c.unlink.ensures.clauses).falls

pub loop-hand-preserved-then-is_marked : goal.loop-hand-preserved-then-is_marked
loop-hand-preserved-then-is_marked c = (step_cut (count_in c.args.self.now (clauses_in c.args.arena.now)) c.args.self.now (clauses_in c.args.arena.now) c.args.f c.args.marks.now c.loop-hand.self (clauses_in c.loop-hand.arena) c.loop-hand.before c.loop-hand.hand c.link-next.result c.in-Some.r c.unlink.new.self (clauses_in c.unlink.new.arena) c.in-Some.is c.loop-hand.invariant (sym c.is_marked.ensures ∙ c.if-is_marked.true) c.requires.in_vars (c.link-next.ensures ∙ link_next (clauses_in c.loop-hand.arena) c.args.f.0 c.slot_of-slot.result c.in-Some.r.0 c.slot_of-slot.ensures.which) c.unlink.ensures.heads c.unlink.ensures.clauses).leaves

pub loop-hand-smaller : goal.loop-hand-smaller
loop-hand-smaller c = (step_past (count_in c.args.self.now (clauses_in c.args.arena.now)) c.args.self.now (clauses_in c.args.arena.now) c.args.f.0 c.args.marks.now c.loop-hand.self (clauses_in c.loop-hand.arena) (place_of c.loop-hand.before) c.loop-hand.hand c.link-next.result c.in-Some.r c.in-Some.is c.loop-hand.invariant (sym c.is_marked.ensures ∙ c.if-is_marked.false) (c.link-next.ensures ∙ link_next (clauses_in c.loop-hand.arena) c.args.f.0 c.slot_of-slot.result c.in-Some.r.0 c.slot_of-slot.ensures.which)).falls

pub loop-hand-preserved : goal.loop-hand-preserved
loop-hand-preserved c = (step_past (count_in c.args.self.now (clauses_in c.args.arena.now)) c.args.self.now (clauses_in c.args.arena.now) c.args.f.0 c.args.marks.now c.loop-hand.self (clauses_in c.loop-hand.arena) (place_of c.loop-hand.before) c.loop-hand.hand c.link-next.result c.in-Some.r c.in-Some.is c.loop-hand.invariant (sym c.is_marked.ensures ∙ c.if-is_marked.false) (c.link-next.ensures ∙ link_next (clauses_in c.loop-hand.arena) c.args.f.0 c.slot_of-slot.result c.in-Some.r.0 c.slot_of-slot.ensures.which)).leaves

pub returns : goal.returns
returns c = leave_ends (count_in c.args.self.now (clauses_in c.args.arena.now)) c.args.self.now (clauses_in c.args.arena.now) c.args.f.0 c.args.marks.now c.loop-hand.self (clauses_in c.loop-hand.arena) (place_of c.loop-hand.before) (subst (λ (o : Option ClauseRef). Leaves (count_in c.args.self.now (clauses_in c.args.arena.now)) c.args.self.now (clauses_in c.args.arena.now) c.args.f.0 c.args.marks.now c.loop-hand.self (clauses_in c.loop-hand.arena) (place_of c.loop-hand.before) (place_of o)) c.in_default.is c.loop-hand.invariant)
