use Rattle.std.proofs.Common.{◌≡◌, is_some, false, not, sym, ap, ◌∙◌}
use Rattle.cnf_base.specs.Literals.{plain}
use Rattle.watch_lists.specs.Entries.{value_in, is_assigned}
use Rattle.decide_order.proofs.ValueLemmas.{value_of_plain}
use Rattle.sat_core.specs.Reducing.{leads_to}
use Rattle.sat_core.proofs.GoLemmas.{reason_none}
use Rattle.sat_core.proofs.search.Search.is_reason_of.Goals as goal

pub returns-then-is_none : goal.returns-then-is_none
returns-then-is_none c =
    let value : value_in c.args.self.now.trail.entries (plain c.args.var.0) ≡ c.value.result = ap (value_in c.args.self.now.trail.entries) (sym c.plain.ensures) ∙ sym c.value.ensures in
    let free : is_assigned c.args.self.now.trail.entries c.args.var.0 ≡ false = sym (value_of_plain c.args.self.now.trail.entries c.args.var.0) ∙ ap is_some value ∙ c.is_none.ensures ∙ ap not c.if-is_none.true in
    sym (ap (leads_to c.args.r.0) (reason_none c.args.self.now.trail.entries c.args.var.0 free))

pub reason-requires : goal.reason-requires
reason-requires c =
    let value : value_in c.args.self.now.trail.entries (plain c.args.var.0) ≡ c.value.result = ap (value_in c.args.self.now.trail.entries) (sym c.plain.ensures) ∙ sym c.value.ensures in
    sym (value_of_plain c.args.self.now.trail.entries c.args.var.0) ∙ ap is_some value ∙ c.is_none.ensures ∙ ap not c.if-is_none.false
