use Rattle.std.proofs.Common.{◌≡◌, List, false, refl, sym, ap, ◌∙◌, subst, arith}
use Rattle.cnf_base.specs.Literals.{Clause}
use Rattle.clause_arena.specs.Clauses.{Live, lits_of}
use Rattle.clause_arena.specs.Words.{clauses_in}
use Rattle.watch_lists.specs.Rows.{lit_in}
use Rattle.watch_lists.proofs.AssignLemmas.{fits_after_add}
use Rattle.watch_lists.specs.Fits.{Fits, IsClause, attached_in}
use Rattle.watch_lists.specs.Attaching.{CanBeAttached}
use Rattle.sat_core.proofs.GainLemmas.{attached_is_ready, implied_is_ready, clause_short, is_clause, lits_of_added, can_be_attached, not_attached}
use Rattle.sat_core.proofs.search.Search.hold.Goals as goal

pub add-requires : goal.add-requires
add-requires c = let k = clause_short c.args.self.now.trail.vars c.args.lits.now c.requires.below c.requires.apart in omega (arith, c.requires.ready.ordered.few)

pub attach-requires-clause-fits : goal.attach-requires-clause-fits
attach-requires-clause-fits c =
    let P : List Live → Type 0 = λ ds. Fits c.args.self.now.trail ds in
    subst P (sym c.in_ok-r.ensures.ok) (fits_after_add c.args.self.now.trail (clauses_in c.args.self.now.arena) c.in_ok-r.r.0 c.args.id c.args.lits.now c.requires.ready.fits c.in_ok-r.ensures.fresh).0

pub attach-requires-clause-fresh : goal.attach-requires-clause-fresh
attach-requires-clause-fresh c =
    let P : List Live → Type 0 = λ ds. attached_in c.args.self.now.trail ds c.in_ok-r.r.0 ≡ false in
    subst P (sym c.in_ok-r.ensures.ok)
    ((fits_after_add c.args.self.now.trail (clauses_in c.args.self.now.arena) c.in_ok-r.r.0 c.args.id c.args.lits.now c.requires.ready.fits c.in_ok-r.ensures.fresh).1 c.in_ok-r.r.0
    ∙ not_attached c.args.self.now.trail (clauses_in c.args.self.now.arena) c.in_ok-r.r.0 c.requires.ready.fits c.in_ok-r.ensures.fresh)

pub attach-requires-clause-clause : goal.attach-requires-clause-clause
attach-requires-clause-clause c =
    let P : Clause → Type 0 = λ ls. IsClause c.args.self.now.trail.vars ls in
    let e : lits_of (clauses_in c.add.new.self) c.in_ok-r.r.0 ≡ c.args.lits.now = ap (λ ds. lits_of ds c.in_ok-r.r.0) c.in_ok-r.ensures.ok ∙ lits_of_added (clauses_in c.args.self.now.arena) c.in_ok-r.r.0 c.args.id c.args.lits.now in
    subst P (sym e) (is_clause c.args.self.now.trail.vars c.args.lits.now (omega (arith, c.if-lits-gt1.true)) c.requires.below c.requires.apart)

pub attach-requires-clause-ready : goal.attach-requires-clause-ready
attach-requires-clause-ready c =
    let P : Clause → Type 0 = λ ls. CanBeAttached c.args.self.now.trail.entries ls in
    let e : lits_of (clauses_in c.add.new.self) c.in_ok-r.r.0 ≡ c.args.lits.now = ap (λ ds. lits_of ds c.in_ok-r.r.0) c.in_ok-r.ensures.ok ∙ lits_of_added (clauses_in c.args.self.now.arena) c.in_ok-r.r.0 c.args.id c.args.lits.now in
    subst P (sym e) (can_be_attached c.args.self.now.trail.entries c.args.lits.now c.if-lits-gt1.true c.requires.asserted)

pub imply-requires-clause-fits : goal.imply-requires-clause-fits
imply-requires-clause-fits c =
    let P : List Live → Type 0 = λ ds. Fits c.args.self.now.trail ds in
    subst P (sym c.in_ok-r.ensures.ok) (fits_after_add c.args.self.now.trail (clauses_in c.args.self.now.arena) c.in_ok-r.r.0 c.args.id c.args.lits.now c.requires.ready.fits c.in_ok-r.ensures.fresh).0

pub returns-then-lits-gt1-clause-ready : goal.returns-then-lits-gt1-clause-ready
returns-then-lits-gt1-clause-ready c =
    let law = fits_after_add c.args.self.now.trail (clauses_in c.args.self.now.arena) c.in_ok-r.r.0 c.args.id c.args.lits.now c.requires.ready.fits c.in_ok-r.ensures.fresh in
    attached_is_ready c.args.self.now (record c.args.self.now { arena = c.attach.new.arena; trail = c.attach.new.self }) c.in_ok-r.r c.args.id c.args.lits.now (clauses_in c.add.new.self) c.requires.ready refl c.in_ok-r.ensures.ok c.in_ok-r.ensures.fresh law.1 c.attach.ensures.fits c.attach.ensures.clauses c.attach.ensures.attached c.attach.ensures.vars c.attach.ensures.entries

pub returns-else-lits-gt1-clause-ready : goal.returns-else-lits-gt1-clause-ready
returns-else-lits-gt1-clause-ready c =
    let law = fits_after_add c.args.self.now.trail (clauses_in c.args.self.now.arena) c.in_ok-r.r.0 c.args.id c.args.lits.now c.requires.ready.fits c.in_ok-r.ensures.fresh in
    implied_is_ready c.args.self.now (record c.args.self.now { arena = c.add.new.self; trail = c.imply.new.self }) c.in_ok-r.r c.args.id c.args.lits.now (lit_in c.args.lits.now 0) c.requires.ready refl c.in_ok-r.ensures.ok c.in_ok-r.ensures.fresh law.1 (λ h. omega (arith, c.if-lits-gt1.false)) refl c.requires.asserted c.imply.ensures.fits c.imply.ensures.implied c.imply.ensures.attached
