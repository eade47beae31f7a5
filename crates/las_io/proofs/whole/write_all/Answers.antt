use Rattle.std.proofs.Common.{ℕ, subst, arith, length-take, length-drop}
use Rattle.std.specs.Io.KnownBytes.{Appends}
use Rattle.std.proofs.KnownBytes.{Appends-trans}
use Rattle.las_io.proofs.Pieces.{take_on}
use Rattle.las_io.proofs.Rises.{stays, wrote_well}
use Rattle.las_io.proofs.whole.write_all.Goals as goal

pub loop-done-preserved : goal.loop-done-preserved
loop-done-preserved g c = record {
  within = omega (arith, length-take {A = ℕ}, length-drop {A = ℕ}, c.in-Ok.ensures.bound);
  bytes = subst (Appends _ _) (take_on c.args.bytes.now c.loop-done.done c.in-Ok.count) (Appends-trans _ _ _ _ _ c.loop-done.invariant.bytes c.in-Ok.ensures.bytes);
  faults = stays _ _ _ c.loop-done.invariant.faults c.in-Ok.ensures.cause.later (λ rose. wrote_well c.in-Ok.count _ (c.in-Ok.ensures.cause.rises rose));
}
