use Rattle.std.proofs.Common.{◌≡◌, ◌+◌, ◌*◌, ℕ, suc, subst, arith}
use Rattle.clause_arena.specs.Words.{clauses_in}
use Rattle.watch_lists.specs.Rows.{wanted}
use Rattle.watch_lists.specs.Fits.{attached_in}
use Rattle.watch_lists.specs.Leaving.{without_below}
use Rattle.watch_lists.proofs.DetachLemmas.{counted_itself}
use Rattle.watch_lists.proofs.LeaveLemmas.{AllLeft, all_go_on, all_end}
use Rattle.watch_lists.proofs.trail.Trail.detach_all.Goals as goal

pub leave-requires-clause-listing : goal.leave-requires-clause-listing
leave-requires-clause-listing c = counted_itself (without_below (wanted (attached_in c.args.self.now (clauses_in c.args.arena.now)) (clauses_in c.args.arena.now)) c.loop-n.n c.args.marks.now) c.loop-n.self (clauses_in c.loop-n.arena) c.loop-n.invariant.listing

pub loop-n-preserved : goal.loop-n-preserved
loop-n-preserved c =
    subst (λ (n : ℕ). AllLeft (wanted (attached_in c.args.self.now (clauses_in c.args.arena.now)) (clauses_in c.args.arena.now)) c.args.self.now (clauses_in c.args.arena.now) n c.args.marks.now c.leave.new.self (clauses_in c.leave.new.arena)) (let e : suc c.loop-n.n ≡ c.loop-n.n + 1 = omega arith in e)
    (all_go_on (wanted (attached_in c.args.self.now (clauses_in c.args.arena.now)) (clauses_in c.args.arena.now)) c.args.self.now (clauses_in c.args.arena.now) c.loop-n.n c.args.marks.now c.loop-n.self (clauses_in c.loop-n.arena) c.leave.new.self (clauses_in c.leave.new.arena) c.loop-n.invariant c.leave.ensures)

pub returns-clause-fits : goal.returns-clause-fits
returns-clause-fits c = (all_end c.args.self.now (clauses_in c.args.arena.now) c.args.marks.now c.loop-n.self (clauses_in c.loop-n.arena) c.requires (subst (λ (n : ℕ). AllLeft (wanted (attached_in c.args.self.now (clauses_in c.args.arena.now)) (clauses_in c.args.arena.now)) c.args.self.now (clauses_in c.args.arena.now) n c.args.marks.now c.loop-n.self (clauses_in c.loop-n.arena)) (let a = c.loop-n-test.false in let b = c.lits-count.ensures in let e : c.loop-n.n ≡ 2 * c.args.self.now.vars = omega (arith, c.loop-n.auto.n-end) in e) c.loop-n.invariant)).fits

pub returns-clause-attached : goal.returns-clause-attached
returns-clause-attached c = (all_end c.args.self.now (clauses_in c.args.arena.now) c.args.marks.now c.loop-n.self (clauses_in c.loop-n.arena) c.requires (subst (λ (n : ℕ). AllLeft (wanted (attached_in c.args.self.now (clauses_in c.args.arena.now)) (clauses_in c.args.arena.now)) c.args.self.now (clauses_in c.args.arena.now) n c.args.marks.now c.loop-n.self (clauses_in c.loop-n.arena)) (let a = c.loop-n-test.false in let b = c.lits-count.ensures in let e : c.loop-n.n ≡ 2 * c.args.self.now.vars = omega (arith, c.loop-n.auto.n-end) in e) c.loop-n.invariant)).attached
