use Rattle.std.proofs.Common.{◌≡◌, true, false, cond, List, [], ◌∷◌, Some, refl, sym, ap, ◌∙◌, inl, inr}
use Rattle.std.proofs.lemmas.Bool.{eq-eqb, both_ways}
use Rattle.cnf_base.specs.declared.literal.Lit.{Lit}
use Rattle.cnf_base.specs.Literals.{has_lit, negation}
use Rattle.cnf_base.proofs.LitLemmas.{has_lit-cases}
use Rattle.clause_arena.specs.Clauses.{Live, added, clause_at, lits_of}
use Rattle.clause_arena.specs.Words.{clauses_in}
use Rattle.watch_lists.specs.declared.trail.Entry.{Entry}
use Rattle.watch_lists.specs.Entries.{entry_for, is_true}
use Rattle.watch_lists.specs.Trails.{Seen}
use Rattle.watch_lists.proofs.EntryLemmas.{pushed_true}
use Rattle.conflict_learn.proofs.tests.two_units_close_the_log.Goals as goal

pub imply-requires-clause-fits : goal.imply-requires-clause-fits
imply-requires-clause-fits g c = c.in_ok-trail.ensures.fits _

pub close_hints-requires-clause-falsified : goal.close_hints-requires-clause-falsified
close_hints-requires-clause-falsified g c = λ m h.
    let second : Lit = record { 0 = 1 } in
    let place = c.in_ok-second.second.0 in
    let lits : lits_of (clauses_in c.add-2.new.self) place ≡ second ∷ [] = ap (λ (ds : List Live). lits_of ds place) c.in_ok-second.ensures.ok ∙ ap (λ b. (cond b (added place 2 (second ∷ [])) (clause_at (clauses_in c.add.new.self) place)).lits) (eq-eqb place place refl) in
    let entries = ap (λ (t : Seen). t.entries) c.imply.ensures.implied in
    let there : is_true c.imply.new.self.entries (negation second) ≡ true = ap (λ (es : List Entry). is_true es (negation second)) entries ∙ pushed_true c.in_ok-trail.trail.entries (entry_for c.in_ok-trail.trail.entries (negation second) (Some c.in_ok-first.first)) in
    elim (has_lit-cases [] second m (sym (ap (λ ls. has_lit ls m) lits) ∙ h)) as (λ _. is_true c.imply.new.self.entries (negation m) ≡ true) [
      | inl e ↦ ap (λ (l : Lit). is_true c.imply.new.self.entries (negation l)) e ∙ there
      | inr e ↦ absurd (both_ways false refl e)
    ]
