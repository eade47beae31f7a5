use Rattle.std.proofs.Common.{refl, ap}
use Rattle.sat_core.specs.declared.search.Search.{Search}
use Rattle.sat_core.specs.Reducing.{places_of}
use Rattle.sat_core.proofs.GoLemmas.{begins, first_goes, goes_on, all_gone, gone_are_ready}
use Rattle.sat_core.proofs.search.Search.let_all_go.Goals as goal

pub loop-r-init : goal.loop-r-init
loop-r-init c = begins c.args.self.now (record c.args.self.now { arena = c.detach_all.new.arena; trail = c.detach_all.new.self }) (places_of c.args.gone.now) c.args.marks.now c.requires.ready c.requires.may_go c.requires.marked refl c.detach_all.ensures.trail c.detach_all.ensures.fits c.detach_all.ensures.clauses c.detach_all.ensures.lits c.detach_all.ensures.attached

pub retire-requires : goal.retire-requires
retire-requires c = c.loop-r.invariant.live _ (first_goes c.args.self.now c.loop-r.self c.args.gone.now c.loop-r.r-index c.loop-r-test.true c.loop-r.invariant)

pub loop-r-preserved : goal.loop-r-preserved
loop-r-preserved c = goes_on c.args.self.now c.loop-r.self (record c.loop-r.self { arena = c.retire.new.self }) c.args.gone.now c.loop-r.r-index c.loop-r-test.true c.loop-r.invariant refl c.retire.ensures

pub returns-clause-ready : goal.returns-clause-ready
returns-clause-ready c = gone_are_ready c.args.self.now c.loop-r.self c.args.gone.now c.loop-r.r-index c.loop-r-test.false c.requires.ready c.loop-r.invariant

pub returns-clause-loses : goal.returns-clause-loses
returns-clause-loses c = all_gone c.args.self.now c.loop-r.self c.args.gone.now c.loop-r.r-index c.loop-r-test.false c.loop-r.invariant

pub returns-clause-lessons : goal.returns-clause-lessons
returns-clause-lessons c = ap (λ (s : Search). s.lessons) c.loop-r.invariant.same

pub returns-clause-vars : goal.returns-clause-vars
returns-clause-vars c = c.loop-r.invariant.vars
