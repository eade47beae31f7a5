use Rattle.std.proofs.Common.{◌≡◌, ◌/◌, Vec, Global, refl, ap, ◌∙◌}
use Rattle.std.proofs.lemmas.List.Sorted.{IsPermutation-trans}
use Rattle.clause_arena.specs.declared.ClauseRef.{ClauseRef}
use Rattle.clause_arena.specs.Words.{clauses_in}
use Rattle.clause_arena.proofs.Packed.{falls_in}
use Rattle.sat_core.specs.Reducing.{AreChosen, clauses_of}
use Rattle.sat_core.proofs.ChosenLemmas.{chosen, if_ok_on}
use Rattle.sat_core.proofs.search.Search.worth_least.Goals as goal

pub returns : goal.returns
returns c =
    if_ok_on (λ (clauses : Vec ClauseRef Global). clauses.items ≡ clauses_of c.deref-2.result.now) (λ (gone : Vec ClauseRef Global). AreChosen c.args.formula c.args.self.now.trail (clauses_in c.args.self.now.arena) gone.items) c.clauses_of.result
    (λ gone is. chosen c.args.formula c.args.self.now.trail (clauses_in c.args.self.now.arena) c.in_ok-found.found.0.items c.sort_by_key-2.new.self.items c.in_ok-found.found.1 (c.in_ok-found.found.1 / 2) gone.items (falls_in c.args.self.now.arena) c.requires.fits.trail.short c.in_ok-found.ensures (IsPermutation-trans _ _ _ c.sort_by_key.ensures.permutation c.sort_by_key-2.ensures.permutation) refl (is ∙ ap clauses_of (c.deref-2.ensures.value ∙ c.truncate.ensures.items)))
    c.clauses_of.ensures
