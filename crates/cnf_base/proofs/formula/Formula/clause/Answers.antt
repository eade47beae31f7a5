use Rattle.std.proofs.Common.{◌<◌, length, ap, arith}
use Rattle.cnf_base.proofs.Blocks.{all_of_range, cut_at-get, length_of_cut}
use Rattle.cnf_base.proofs.formula.Formula.clause.Goals as goal

pub returns-clause-there : goal.returns-clause-there
returns-clause-there c =
    let n : c.args.n < length c.self.inside.ends.items = omega (arith, length_of_cut 0 c.self.inside.ends.items c.self.inside.lits.items, ap (λ f. length f.clauses) c.self.view_is, c.requires) in
    rw (c.bounds_of-start.ensures.start, c.bounds_of-start.ensures.end, c.deref.ensures.value, c.deref-2.ensures.value, ← c.self.view_is) (cut_at-get 0 c.self.inside.ends.items c.self.inside.lits.items c.args.n n)

pub returns-clause-below : goal.returns-clause-below
returns-clause-below c =
    rw (c.deref-2.ensures.value, ← c.self.view_is) (all_of_range _ c.self.inside.lits.items c.bounds_of-start.result.0 c.bounds_of-start.result.1 c.self.invariant.below)
