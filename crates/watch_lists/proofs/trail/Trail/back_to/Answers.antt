use Rattle.std.proofs.Common.{◌≡◌, length, min, sym, ap, ◌∙◌, subst}
use Rattle.watch_lists.specs.Entries.{depth_of, entries_up_to}
use Rattle.watch_lists.specs.Trails.{Seen, IsTrail, IsBacking, backed}
use Rattle.watch_lists.specs.Fits.{Fits, attached_in}
use Rattle.watch_lists.proofs.AssignLemmas.{back_step, back_done, backed_depth, backed_fits, attached_entries_same}
use Rattle.watch_lists.proofs.trail.Trail.back_to.Goals as goal

pub loop-self-preserved : goal.loop-self-preserved
loop-self-preserved c =
    subst (λ (u : Seen). IsBacking c.args.self.now u c.args.level) (sym c.pop.ensures.popped)
    (back_step c.args.self.now c.loop-self.self c.args.level c.loop-self.invariant (rw (← c.depth.ensures) c.loop-self-test.true) (subst IsTrail c.pop.ensures.popped c.pop.ensures.sound))

is_backed : (c : goal.After-loop-self) → c.loop-self.self ≡ backed c.args.self.now c.args.level
is_backed c = back_done c.args.self.now c.loop-self.self c.args.level c.loop-self.invariant (rw (← c.depth.ensures) c.loop-self-test.false)

pub returns-clause-gone : goal.returns-clause-gone
returns-clause-gone c = is_backed c

pub returns-clause-depth : goal.returns-clause-depth
returns-clause-depth c = ap (λ (u : Seen). depth_of u.entries) (is_backed c) ∙ backed_depth c.args.self.now c.args.level c.lawful.ensures c.requires

pub returns-clause-fits : goal.returns-clause-fits
returns-clause-fits c cs f =
    subst (λ (u : Seen). Fits u cs) (sym (is_backed c)) (backed_fits c.args.self.now c.args.level cs c.requires (subst IsTrail (is_backed c) c.loop-self.invariant.trail) f)

pub returns-clause-attached : goal.returns-clause-attached
returns-clause-attached c cs x =
    ap (λ (u : Seen). attached_in u cs x) (is_backed c) ∙ attached_entries_same c.args.self.now (entries_up_to c.args.level c.args.self.now.entries) (min c.args.self.now.walked (length (entries_up_to c.args.level c.args.self.now.entries))) cs x
