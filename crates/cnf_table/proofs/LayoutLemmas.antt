-- The variables are below their number.
use Rattle.std.proofs.Common.{ℕ, ◌+◌, ◌*◌, ◌<◌, ◌≡◌, true, subst, arith}
use Rattle.std.proofs.lemmas.Nat.{mul-add-lt}
use Rattle.las_base.specs.declared.Cell.{Cell}
use Rattle.las_base.specs.declared.Size.{Size}
use Rattle.las_base.specs.Cells.{holds, index, volume}
use Rattle.las_base.proofs.Indices.{index_below}
use Rattle.cnf_table.specs.Layouts.{Plan, plan, plan_vars}

-- a cell's variable in a row stands before the end of the rows
pub var_below : (s : Size) (c : Cell) (row rows : ℕ) → holds s c ≡ true → row < rows → row * volume s + index s c < rows * volume s
var_below s c row rows h low = omega (arith, mul-add-lt row (volume s) (index s c) rows low (index_below s c h))

-- so where the size and the flows are seen as a plan
pub below_in_plan : (s : Size) (n : ℕ) (p : Plan) (c : Cell) (row v : ℕ) → plan s n ≡ p → holds p.size c ≡ true → row < 8 + 6 * p.flow_count → v ≡ row * volume s + index s c → v < plan_vars p
below_in_plan s n p c row v e h low is =
    subst (λ q. holds q.size c ≡ true → row < 8 + 6 * q.flow_count → v < plan_vars q) e (λ h low. omega (arith, is, var_below s c row (8 + 6 * n) h low)) h low
