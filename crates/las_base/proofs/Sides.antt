-- A size's text, and what stands behind it.
use Rattle.std.proofs.Common.{◌≡◌, ℕ, List, ◌++◌, ◌∙◌, sym, ap, refl, codes, append_assoc}
use Rattle.std.specs.Fmt.{decimal}
use Rattle.las_base.specs.declared.Size.{Size}
use Rattle.las_base.specs.Texts.{size_text, sides_then, SidesAreText}

-- behind a number and `x`
behind : (xs ys zs rest : List ℕ) → ys ++ rest ≡ zs → (xs ++ (codes "x" ++ ys)) ++ rest ≡ xs ++ (codes "x" ++ zs)
behind xs ys zs rest e = append_assoc xs (codes "x" ++ ys) rest ∙ ap (λ t. xs ++ (codes "x" ++ t)) e

pub sides_are_text : SidesAreText
sides_are_text s rest =
    let j = behind (decimal s.j) (decimal s.k) (decimal s.k ++ rest) rest refl in
    behind (decimal s.i) (decimal s.j ++ (codes "x" ++ decimal s.k)) (decimal s.j ++ (codes "x" ++ (decimal s.k ++ rest))) rest j
