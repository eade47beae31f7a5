-- A clause that was added is not attached.
use Rattle.std.proofs.Common.{◌≡◌, ℕ, false, List, ◌∷◌, ◌∙◌}
use Rattle.std.proofs.lemmas.Bool.{both_ways, false_from_ne_true}
use Rattle.cnf_base.specs.declared.literal.Lit.{Lit}
use Rattle.clause_arena.specs.Clauses.{Live, is_live, added}
use Rattle.watch_lists.specs.Trails.{Seen}
use Rattle.watch_lists.specs.Fits.{Fits, attached_in}
use Rattle.watch_lists.proofs.AssignLemmas.{fits_after_add}

pub added_is_loose : (t : Seen) (cs : List Live) (p id : ℕ) (ls : List Lit) → Fits t cs → is_live cs p ≡ false → attached_in t (added p id ls ∷ cs) p ≡ false
added_is_loose t cs p id ls fits fresh = (fits_after_add t cs p id ls fits fresh).1 p ∙ false_from_ne_true (attached_in t cs p) (λ h. both_ways (is_live cs p) fresh (fits.clauses p h).0)
