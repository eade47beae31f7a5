-- What lies in a box, one up from it, or at a fitting port's place lies in the widened box.
use Rattle.std.proofs.Common.{◌≡◌, ◌-◌, Bool, true, false, cond, nat_eq, Some, None, arith}
use Rattle.std.specs.Option.{option_map_or}
use Rattle.las_base.specs.declared.Axis.{Axis}
use Rattle.las_base.specs.declared.Axis.TheVariants.{I, J, K}
use Rattle.las_base.specs.declared.Way.{Way}
use Rattle.las_base.specs.declared.Way.TheVariants.{Plus, Minus}
use Rattle.las_base.specs.declared.Cell.{Cell}
use Rattle.las_base.specs.declared.Size.{Size}
use Rattle.las_base.specs.declared.Port.{Port}
use Rattle.las_base.specs.Cells.{holds, widened, above, low_cell}
use Rattle.las_base.specs.Jobs.{port_fits}
use Rattle.las_base.proofs.Indices.{held_parts, held_from}

pub held_wide : (s : Size) (c : Cell) → holds s c ≡ true → holds (widened s) c ≡ true
held_wide s c h = let b = held_parts s c h in held_from (widened s) c (omega arith) (omega arith) (omega arith)

pub held_above : (s : Size) (a : Axis) (c : Cell) → holds s c ≡ true → holds (widened s) (above a c) ≡ true
held_above s I c h = let b = held_parts s c h in held_from (widened s) (above I c) (omega arith) (omega arith) (omega arith)
held_above s J c h = let b = held_parts s c h in held_from (widened s) (above J c) (omega arith) (omega arith) (omega arith)
held_above s K c h = let b = held_parts s c h in held_from (widened s) (above K c) (omega arith) (omega arith) (omega arith)

stand : (s : Size) (c : Cell) (a : Axis) (w : Way) → option_map_or (holds s) (low_cell c a w) false ≡ true → holds (widened s) c ≡ true
stand s c a Plus h = held_wide s c h
stand s c I Minus h = at (nat_eq c.i 0) h
  where
    at : (b : Bool) → option_map_or (holds s) (cond b None (Some (record c { i = c.i - 1 }))) false ≡ true → holds (widened s) c ≡ true
    at true e = cc
    at false e = let b = held_parts s (record c { i = c.i - 1 }) e in held_from (widened s) c (omega arith) (omega arith) (omega arith)
stand s c J Minus h = at (nat_eq c.j 0) h
  where
    at : (b : Bool) → option_map_or (holds s) (cond b None (Some (record c { j = c.j - 1 }))) false ≡ true → holds (widened s) c ≡ true
    at true e = cc
    at false e = let b = held_parts s (record c { j = c.j - 1 }) e in held_from (widened s) c (omega arith) (omega arith) (omega arith)
stand s c K Minus h = at (nat_eq c.k 0) h
  where
    at : (b : Bool) → option_map_or (holds s) (cond b None (Some (record c { k = c.k - 1 }))) false ≡ true → holds (widened s) c ≡ true
    at true e = cc
    at false e = let b = held_parts s (record c { k = c.k - 1 }) e in held_from (widened s) c (omega arith) (omega arith) (omega arith)

-- the place of a port that fits
pub place_named : (s : Size) (p : Port) → port_fits s p ≡ true → holds (widened s) p.place ≡ true
place_named s p h = stand s p.place p.axis p.way h
