use Rattle.std.proofs.Common.{◌≡◌, ◌∙◌, sym, ap, subst, option_copied}
use Rattle.log_check.specs.Tables.{HasAt, NoneHas, clause_at}
use Rattle.log_check.proofs.TableLemmas.{copied_below, found_in, none_found}
use Rattle.log_check.proofs.table.Table.clause.Goals as goal

pub returns-in_err-place-clause-found : goal.returns-in_err-place-clause-found
returns-in_err-place-clause-found c =
    let none : NoneHas c.self.inside.entries.items c.args.id = subst (λ es. NoneHas es c.args.id) c.deref.ensures.value c.in_err-place.ensures in
    ap option_copied c.from_residual.ensures ∙ rw (← c.self.view_is) (sym (none_found c.self.inside.lits.items c.self.inside.entries.items c.args.id none))

pub returns-clause-found : goal.returns-clause-found
returns-clause-found c =
    let has : HasAt c.self.inside.entries.items c.args.id c.in_ok-place.place = subst (λ es. HasAt es c.args.id c.in_ok-place.place) c.deref.ensures.value c.in_ok-place.ensures in
    rw (c.lits_at.ensures, c.deref-2.ensures.value, c.deref-3.ensures.value, ← c.self.view_is) (sym (found_in c.self.inside.vars c.self.inside.entries.items c.self.inside.lits.items c.self.inside.last c.args.id c.in_ok-place.place c.self.invariant has))

pub returns-clause-below : goal.returns-clause-below
returns-clause-below c =
    let is : option_copied c.lits_at.result ≡ clause_at c.self.inside.lits.items c.self.inside.entries.items c.in_ok-place.place = rw (c.lits_at.ensures, c.deref-2.ensures.value, c.deref-3.ensures.value) in
    rw (← c.self.view_is) (copied_below c.self.inside.vars c.self.inside.lits.items c.self.inside.entries.items c.in_ok-place.place c.lits_at.result c.self.invariant.below is)
