use Rattle.std.proofs.Common.{◌≡◌, false, List, sym, subst}
use Rattle.clause_arena.specs.Clauses.{Live}
use Rattle.clause_arena.specs.Words.{clauses_in}
use Rattle.watch_lists.specs.Fits.{Fits, attached_in}
use Rattle.watch_lists.proofs.AssignLemmas.{fits_after_add}
use Rattle.watch_lists.proofs.AddedLemmas.{added_is_loose}
use Rattle.watch_lists.proofs.tests.put.Goals as goal

pub attach-requires-clause-fits : goal.attach-requires-clause-fits
attach-requires-clause-fits c =
    let P : List Live → Type 0 = λ ds. Fits c.args.trail.now ds in
    subst P (sym c.in_ok-r.ensures.ok) (fits_after_add c.args.trail.now (clauses_in c.args.arena.now) c.in_ok-r.r.0 c.args.id c.args.lits.now c.requires.fits c.in_ok-r.ensures.fresh).0

pub attach-requires-clause-fresh : goal.attach-requires-clause-fresh
attach-requires-clause-fresh c =
    let P : List Live → Type 0 = λ ds. attached_in c.args.trail.now ds c.in_ok-r.r.0 ≡ false in
    subst P (sym c.in_ok-r.ensures.ok) (added_is_loose c.args.trail.now (clauses_in c.args.arena.now) c.in_ok-r.r.0 c.args.id c.args.lits.now c.requires.fits c.in_ok-r.ensures.fresh)
