use Rattle.std.proofs.Common.{◌+◌, ◌-◌, ◌/◌, ◌<◌, ◌≤◌, length, arith}
use Rattle.log_check.specs.Tables.{id_at}
use Rattle.log_check.proofs.TableLemmas.{below_so_far, not_below_on}
use Rattle.log_check.proofs.table.first_not_below.Goals as goal

pub loop-low-preserved-then-id_of-id : goal.loop-low-preserved-then-id_of-id
loop-low-preserved-then-id_of-id c =
    let es = c.args.entries.now in
    let middle = c.loop-low.low + (c.loop-low.high - c.loop-low.low) / 2 in
    let within : middle < length es = omega (arith, c.loop-low.invariant.within) in
    let small : id_at es middle < c.args.id = omega (arith, c.id_of.ensures) in record {
      within = c.loop-low.invariant.within;
      order = omega arith;
      below = below_so_far es c.args.last c.args.id middle c.requires within small;
      rest = c.loop-low.invariant.rest;
    }

pub loop-low-preserved : goal.loop-low-preserved
loop-low-preserved c =
    let es = c.args.entries.now in
    let middle = c.loop-low.low + (c.loop-low.high - c.loop-low.low) / 2 in
    let great : c.args.id ≤ id_at es middle = omega (arith, c.id_of.ensures) in record {
      within = omega (arith, c.loop-low.invariant.within);
      order = omega arith;
      below = c.loop-low.invariant.below;
      rest = not_below_on es c.args.last c.args.id middle c.requires great;
    }
