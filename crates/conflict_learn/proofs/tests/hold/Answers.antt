use Rattle.std.proofs.Common.{◌≡◌, List, [], ◌∷◌, false, sym, ◌∙◌, subst}
use Rattle.clause_arena.specs.Clauses.{Live, is_live}
use Rattle.clause_arena.specs.Words.{clauses_in}
use Rattle.watch_lists.proofs.AssignLemmas.{fits_after_add}
use Rattle.watch_lists.specs.Fits.{Fits, attached_in}
use Rattle.std.proofs.lemmas.Bool.{both_ways, false_from_ne_true}
use Rattle.conflict_learn.proofs.tests.hold.Goals as goal

pub attach-requires-clause-fits : goal.attach-requires-clause-fits
attach-requires-clause-fits c =
    let P : List Live → Type 0 = λ ds. Fits c.args.trail.now ds in
    subst P (sym c.in_ok-r.ensures.ok) (fits_after_add c.args.trail.now (clauses_in c.args.arena.now) c.in_ok-r.r.0 c.args.id (c.args.first ∷ c.args.second ∷ []) c.requires.fits c.in_ok-r.ensures.fresh).0

pub attach-requires-clause-fresh : goal.attach-requires-clause-fresh
attach-requires-clause-fresh c =
    let P : List Live → Type 0 = λ ds. attached_in c.args.trail.now ds c.in_ok-r.r.0 ≡ false in
    subst P (sym c.in_ok-r.ensures.ok)
    ((fits_after_add c.args.trail.now (clauses_in c.args.arena.now) c.in_ok-r.r.0 c.args.id (c.args.first ∷ c.args.second ∷ []) c.requires.fits c.in_ok-r.ensures.fresh).1 c.in_ok-r.r.0
    ∙ false_from_ne_true (attached_in c.args.trail.now (clauses_in c.args.arena.now) c.in_ok-r.r.0) (λ h. both_ways (is_live (clauses_in c.args.arena.now) c.in_ok-r.r.0) c.in_ok-r.ensures.fresh (c.requires.fits.clauses c.in_ok-r.r.0 h).0))
