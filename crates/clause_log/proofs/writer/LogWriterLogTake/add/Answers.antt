use Rattle.std.proofs.Common.{refl, ◌≡◌, ◌∙◌, sym, subst, arith}
use Rattle.cnf_base.specs.Logs.{LogStep, Add}
use Rattle.cnf_base.specs.Takes.{Takes}
use Rattle.clause_log.specs.LogText.{step_text}
use Rattle.clause_log.specs.LogFiles.{Writes, steps_told}
use Rattle.clause_log.specs.Growing.{begun_goes_on_itself}
use Rattle.clause_log.specs.Breaking.{breaks_by, breaks_from_itself}
use Rattle.clause_log.specs.Leaving.{left_from_itself}
use Rattle.clause_log.proofs.GrowLemmas.{line_goes_on, line_leaves}
use Rattle.clause_log.proofs.Taken.{addition_is_good, not_broken, step_is_taken}
use Rattle.clause_log.proofs.writer.LogWriterLogTake.add.Goals as goal

pub returns-clause-steps : goal.returns-clause-steps
returns-clause-steps g c =
    let old = c.args.self.now in
    let new = c.put.new.self in
    let name = g.H.Shelf.begun_name old.shelf.now in
    let before = g.H.Shelf.files old.shelf.now in
    let after = g.H.Shelf.files new.shelf.now in
    let step : LogStep = Add c.args.id c.args.lits.now c.args.hints.now in
    let whole = not_broken old.broken name c.requires.unbroken in
    let good = addition_is_good c.args.id c.args.lits.now c.args.hints.now c.requires.id c.ranges.id.fits c.requires.lits c.requires.hints (λ k. (c.type_inv.hints k).fits) in
    let text : c.deref.result.now ≡ step_text 0 step = c.deref.ensures.value ∙ c.in_ok-line.ensures in
    let writes : Writes c.put.result (step_text 0 step) name before after = subst (λ t. Writes c.put.result t name before after) text c.put.ensures.line in
    let taken = step_is_taken old.count new.count new.broken name (g.H.Shelf.begun_name new.shelf.now) before after c.put.result 0 step (omega arith) good c.put.ensures.begun writes whole.1 c.put.ensures.count c.put.ensures.broken in
    subst (λ b. Takes step c.put.result (steps_told old.count b name before) (steps_told new.count new.broken (g.H.Shelf.begun_name new.shelf.now) after)) (sym whole.0) taken

pub returns-clause-goes_on : goal.returns-clause-goes_on
returns-clause-goes_on g c =
    let old = c.args.self.now in
    let new = c.put.new.self in
    let name = g.H.Shelf.begun_name old.shelf.now in
    let before = g.H.Shelf.files old.shelf.now in
    let after = g.H.Shelf.files new.shelf.now in
    let step : LogStep = Add c.args.id c.args.lits.now c.args.hints.now in
    let whole = not_broken old.broken name c.requires.unbroken in
    let good = addition_is_good c.args.id c.args.lits.now c.args.hints.now c.requires.id c.ranges.id.fits c.requires.lits c.requires.hints (λ k. (c.type_inv.hints k).fits) in
    let text : c.deref.result.now ≡ step_text 0 step = c.deref.ensures.value ∙ c.in_ok-line.ensures in
    let writes : Writes c.put.result (step_text 0 step) name before after = subst (λ t. Writes c.put.result t name before after) text c.put.ensures.line in
    (c.put.ensures.same_shelf, c.put.ensures.begun, line_leaves (step_text 0 step) c.put.result name before after writes, line_goes_on 0 step (omega arith) good old.broken new.broken c.put.result name before after whole.0 c.put.ensures.broken writes, breaks_by old.broken new.broken (g.H.Shelf.faults old.shelf.now) (g.H.Shelf.faults new.shelf.now) c.put.result whole.0 c.put.ensures.broken c.put.ensures.rises)

pub returns-in_err-line-clause-goes_on : goal.returns-in_err-line-clause-goes_on
returns-in_err-line-clause-goes_on g c =
    let self = c.args.self.now in
    (refl, refl, left_from_itself (g.H.Shelf.begun_name self.shelf.now) (g.H.Shelf.files self.shelf.now), begun_goes_on_itself self.broken (g.H.Shelf.begun_name self.shelf.now) (g.H.Shelf.files self.shelf.now), breaks_from_itself self.broken (g.H.Shelf.faults self.shelf.now))
