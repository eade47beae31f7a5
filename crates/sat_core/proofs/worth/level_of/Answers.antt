use Rattle.std.proofs.Common.{◌≡◌, is_some, not, sym, ap, ◌∙◌}
use Rattle.cnf_base.specs.Literals.{plain}
use Rattle.watch_lists.specs.Entries.{value_in}
use Rattle.decide_order.proofs.ValueLemmas.{value_of_plain}
use Rattle.sat_core.proofs.worth.level_of.Goals as goal

pub level-requires : goal.level-requires
level-requires c =
    let value : value_in c.args.trail.now.entries (plain c.args.var.0) ≡ c.value.result = ap (value_in c.args.trail.now.entries) (sym c.plain.ensures) ∙ sym c.value.ensures in
    sym (value_of_plain c.args.trail.now.entries c.args.var.0) ∙ ap is_some value ∙ c.is_none.ensures ∙ ap not c.if-is_none.false
