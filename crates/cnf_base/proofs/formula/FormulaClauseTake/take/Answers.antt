use Rattle.std.proofs.Common.{◌≡◌, ◌+◌, ◌-◌, true, length, ap, ◌∙◌, arith}
use Rattle.std.proofs.lemmas.List.{take_at}
use Rattle.cnf_base.specs.Literals.{are_below}
use Rattle.cnf_base.proofs.Blocks.{block_is_cnf, block_more, cut_at_more}
use Rattle.cnf_base.proofs.formula.FormulaClauseTake.take.Goals as goal

new_end : (c : goal.In_default) → c.len-end.result ≡ length c.self.inside.lits.items + length c.args.lits.now
new_end c = omega (arith, c.in_ok-extend_from_slice.ensures.len, c.self.inside.lits.ok.0)

lits_below : (c : goal.In_default) → are_below c.self.inside.vars c.args.lits.now ≡ true
lits_below c = ap (λ f. are_below f.vars c.args.lits.now) c.self.view_is ∙ c.requires

pub returns-in_err-extend_from_slice-clause-lawful :
    goal.returns-in_err-extend_from_slice-clause-lawful
returns-in_err-extend_from_slice-clause-lawful c =
    rw c.in_err-extend_from_slice.ensures.items (block_is_cnf c.self.inside.vars c.self.inside.ends.items c.self.inside.lits.items c.self.invariant)

pub returns-in-Err-clause-lawful : goal.returns-in-Err-clause-lawful
returns-in-Err-clause-lawful c =
    let end : c.len-end.result ≡ length c.self.inside.lits.items + length c.args.lits.now = omega (arith, c.in_ok-extend_from_slice.ensures.len, c.self.inside.lits.ok.0) in
    rw (c.in-Err.ensures.items, c.truncate.ensures.items, c.in_ok-extend_from_slice.ensures.items, take_at c.self.inside.lits.items c.args.lits.now (c.len-end.result - length c.args.lits.now) (omega (arith, end)))
    (block_is_cnf c.self.inside.vars c.self.inside.ends.items c.self.inside.lits.items c.self.invariant)

pub invariant_of-self-in_default : goal.invariant_of-self-in_default
invariant_of-self-in_default c =
    rw (c.in_default.ensures.items, c.in_ok-extend_from_slice.ensures.items) (block_more c.self.inside.vars c.self.inside.ends.items c.self.inside.lits.items c.args.lits.now c.len-end.result c.self.invariant (lits_below c) (new_end c))

pub returns-clause-took : goal.returns-clause-took
returns-clause-took c =
    rw (c.in_default.ensures.items, c.in_ok-extend_from_slice.ensures.items, ← c.self.view_is) (cut_at_more 0 c.self.inside.ends.items c.self.inside.lits.items c.args.lits.now c.len-end.result c.self.invariant.rising (new_end c))

pub returns-clause-lawful : goal.returns-clause-lawful
returns-clause-lawful c =
    rw (c.in_default.ensures.items, c.in_ok-extend_from_slice.ensures.items) (block_is_cnf c.self.inside.vars _ _ (block_more c.self.inside.vars c.self.inside.ends.items c.self.inside.lits.items c.args.lits.now c.len-end.result c.self.invariant (lits_below c) (new_end c)))
