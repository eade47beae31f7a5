use Rattle.std.proofs.Common.{◌≡◌, false, sym, ap, ◌∙◌}
use Rattle.std.specs.List.{list_any}
use Rattle.std.proofs.lemmas.List.{take_all}
use Rattle.cnf_base.specs.declared.literal.Lit.{Lit}
use Rattle.cnf_base.specs.Literals.{variable}
use Rattle.clause_arena.specs.Clauses.{lits_of}
use Rattle.clause_arena.specs.Words.{clauses_in}
use Rattle.watch_lists.specs.Entries.{reason_of}
use Rattle.sat_core.specs.Reducing.{leads_to}
use Rattle.sat_core.proofs.GoLemmas.{no_reason, reason_there}
use Rattle.sat_core.proofs.search.Search.is_reason.Goals as goal

pub returns-then-is_reason_of : goal.returns-then-is_reason_of
returns-then-is_reason_of c = sym (reason_there c.args.self.now.trail.entries c.args.r.0 c.var.result.0 (sym c.is_reason_of.ensures ∙ c.if-is_reason_of.true))

pub returns : goal.returns
returns c =
    let none : list_any (λ (m : Lit). leads_to c.args.r.0 (reason_of c.args.self.now.trail.entries (variable m))) (lits_of (clauses_in c.args.self.now.arena) c.args.r.0) ≡ false =
    ap (list_any (λ (m : Lit). leads_to c.args.r.0 (reason_of c.args.self.now.trail.entries (variable m)))) (sym c.lits-lit-items.ensures ∙ sym (take_all c.loop-lit.lit-index c.lits-lit-items.result.now c.loop-lit-test.false)) ∙ c.loop-lit.invariant in
    sym (no_reason c.args.self.now.trail (clauses_in c.args.self.now.arena) c.args.r.0 c.requires.fits.trail c.requires.fits.reasons none)
