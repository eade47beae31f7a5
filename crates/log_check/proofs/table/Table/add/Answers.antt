use Rattle.std.proofs.Common.{◌≡◌, ◌+◌, ◌<◌, ◌∙◌, true, length, sym, ap, refl, subst, arith}
use Rattle.cnf_base.specs.Literals.{are_below}
use Rattle.log_check.proofs.TableLemmas.{longer_table, shown_more, table_more}
use Rattle.log_check.proofs.table.Table.add.Goals as goal

pub invariant_of-self-in_err-push : goal.invariant_of-self-in_err-push
invariant_of-self-in_err-push c =
    let below : are_below c.self.inside.vars c.args.lits.now ≡ true = ap (λ v. are_below v.vars c.args.lits.now) c.self.view_is ∙ c.requires.below in
    rw (c.in_err-push.ensures.items, c.in_ok-extend_from_slice.ensures.items) (longer_table c.self.inside.vars c.self.inside.entries.items c.self.inside.lits.items c.args.lits.now c.self.inside.last c.self.invariant below)

pub invariant_of-self-2 : goal.invariant_of-self-2
invariant_of-self-2 c =
    let below : are_below c.self.inside.vars c.args.lits.now ≡ true = ap (λ v. are_below v.vars c.args.lits.now) c.self.view_is ∙ c.requires.below in
    let above : c.self.inside.last < c.args.id = subst (λ v. v.state.last < c.args.id) (sym c.self.view_is) c.requires.above in
    let start : c.len-start.result ≡ length c.self.inside.lits.items = omega (arith, c.len-start.ensures, c.self.inside.lits.ok.0) in
    let end : c.len-end.result ≡ length c.self.inside.lits.items + length c.args.lits.now = omega (arith, c.in_ok-extend_from_slice.ensures.len, c.self.inside.lits.ok.0) in
    rw (c.in_ok-push.ensures.items, c.in_ok-extend_from_slice.ensures.items)
    (table_more c.self.inside.vars c.self.inside.entries.items c.self.inside.lits.items c.args.lits.now c.self.inside.last (record { id = c.args.id; start = c.len-start.result; end = c.len-end.result; live = true }) c.self.invariant below above start end)

pub returns-clause-added : goal.returns-clause-added
returns-clause-added c =
    let start : c.len-start.result ≡ length c.self.inside.lits.items = omega (arith, c.len-start.ensures, c.self.inside.lits.ok.0) in
    let end : c.len-end.result ≡ length c.self.inside.lits.items + length c.args.lits.now = omega (arith, c.in_ok-extend_from_slice.ensures.len, c.self.inside.lits.ok.0) in
    rw (c.in_ok-push.ensures.items, c.in_ok-extend_from_slice.ensures.items, ← c.self.view_is)
    (ap (λ live. record { live = live; last = c.args.id }) (shown_more c.self.inside.vars c.self.inside.entries.items c.self.inside.lits.items c.args.lits.now c.self.inside.last (record { id = c.args.id; start = c.len-start.result; end = c.len-end.result; live = true }) c.self.invariant refl start end))
