-- A box as text.
use Rattle.std.specs.Prelude.{◌≡◌, ℕ, List, ◌++◌, codes}
use Rattle.std.specs.Fmt.{decimal}
use Rattle.las_base.specs.declared.Size.{Size}

-- the sides with `x` between
abbrev pub size_text : Size → List ℕ
size_text s = decimal s.i ++ (codes "x" ++ (decimal s.j ++ (codes "x" ++ decimal s.k)))

-- the sides with `x` between, and what stands behind them
abbrev pub sides_then : Size → List ℕ → List ℕ
sides_then s rest = decimal s.i ++ (codes "x" ++ (decimal s.j ++ (codes "x" ++ (decimal s.k ++ rest))))

-- the two are one text
abbrev pub SidesAreText : Type 0
SidesAreText = (s : Size) (rest : List ℕ) → size_text s ++ rest ≡ sides_then s rest
