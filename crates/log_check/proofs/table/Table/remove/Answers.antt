use Rattle.std.proofs.Common.{◌≡◌, ◌∙◌, sym, ap, subst, is_some, option_copied}
use Rattle.log_check.specs.Tables.{HasAt, NoneHas, clause_at}
use Rattle.log_check.proofs.TableLemmas.{copied_is_some, is_live_at, no_live, one_goes, table_with_one_dead}
use Rattle.log_check.proofs.table.Table.remove.Goals as goal

pub returns-in_default-clause-was_live : goal.returns-in_default-clause-was_live
returns-in_default-clause-was_live c =
    let none : NoneHas c.self.inside.entries.items c.args.id = subst (λ es. NoneHas es c.args.id) c.deref.ensures.value c.in_default.ensures in
    rw (← c.self.view_is) (sym (no_live c.self.inside.entries.items c.self.inside.lits.items c.args.id none))

pub returns-then-is_none-clause-was_live : goal.returns-then-is_none-clause-was_live
returns-then-is_none-clause-was_live c =
    let has : HasAt c.self.inside.entries.items c.args.id c.in-Some.place = subst (λ es. HasAt es c.args.id c.in-Some.place) c.deref.ensures.value c.in-Some.ensures in
    let is : option_copied c.lits_at.result ≡ clause_at c.self.inside.lits.items c.self.inside.entries.items c.in-Some.place = rw (c.lits_at.ensures, c.deref-2.ensures.value, c.deref-3.ensures.value) in
    rw (← c.self.view_is) (sym (is_live_at c.self.inside.vars c.self.inside.entries.items c.self.inside.lits.items c.self.inside.last c.args.id c.in-Some.place c.self.invariant has ∙ ap is_some (sym is) ∙ copied_is_some c.lits_at.result ∙ c.if-is_none.ensures))

pub invariant_of-self : goal.invariant_of-self
invariant_of-self c = rw c.bury.ensures (table_with_one_dead c.self.inside.vars c.self.inside.entries.items c.self.inside.lits.items c.self.inside.last c.in-Some.place c.self.invariant)

pub returns-clause-was_live : goal.returns-clause-was_live
returns-clause-was_live c =
    let has : HasAt c.self.inside.entries.items c.args.id c.in-Some.place = subst (λ es. HasAt es c.args.id c.in-Some.place) c.deref.ensures.value c.in-Some.ensures in
    let is : option_copied c.lits_at.result ≡ clause_at c.self.inside.lits.items c.self.inside.entries.items c.in-Some.place = rw (c.lits_at.ensures, c.deref-2.ensures.value, c.deref-3.ensures.value) in
    rw (← c.self.view_is) (sym (is_live_at c.self.inside.vars c.self.inside.entries.items c.self.inside.lits.items c.self.inside.last c.args.id c.in-Some.place c.self.invariant has ∙ ap is_some (sym is) ∙ copied_is_some c.lits_at.result ∙ c.if-is_none.ensures))

pub returns-clause-gone : goal.returns-clause-gone
returns-clause-gone c =
    let has : HasAt c.self.inside.entries.items c.args.id c.in-Some.place = subst (λ es. HasAt es c.args.id c.in-Some.place) c.deref.ensures.value c.in-Some.ensures in
    rw (c.bury.ensures, ← c.self.view_is) (one_goes c.self.inside.lits.items 0 c.self.inside.entries.items c.self.inside.last c.args.id c.in-Some.place c.self.invariant.rising has)
