use Rattle.std.proofs.Common.{◌≡◌, false, take}
use Rattle.std.specs.List.{list_any}
use Rattle.cnf_base.specs.declared.literal.Lit.{Lit}
use Rattle.cnf_base.specs.Literals.{variable}
use Rattle.watch_lists.specs.Entries.{reason_of}
use Rattle.sat_core.specs.Reducing.{leads_to}
use Rattle.sat_core.proofs.search.Search.is_reason.Given as goal

abbrev pub invariant-loop-lit : goal.invariant-loop-lit
invariant-loop-lit l = list_any (λ (m : Lit). leads_to l.r.0 (reason_of l.self.trail.entries (variable m))) (take l.lit-index l.lit-items) ≡ false
