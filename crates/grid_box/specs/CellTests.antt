-- A test of cells, and rules that are tests of cells, as a call that is handed in answers them.
use Rattle.std.specs.Prelude.{◌≡◌, ℕ, Bool, not, List, [], ◌∷◌, Option, None}
use Rattle.std.specs.List.{find}
use Rattle.las_base.specs.declared.Cell.{Cell}
use Rattle.las_base.specs.declared.Size.{Size}
use Rattle.las_base.specs.Cells.{IsOnGrid}
use Rattle.grid_box.specs.declared.Broken.{Broken}
use Rattle.grid_box.specs.Breaches.{or_else}
use Rattle.grid_box.specs.PipeRules.{named_cells}

-- the call answers the test at each cell of the grid
abbrev pub AnswersTest : (Cell → Bool → Type 0) → (Cell → Bool) → Type 0
AnswersTest post test = (c : Cell) (answer : Bool) → IsOnGrid c → post c answer → answer ≡ test c

-- this is the first cell that fails the test that the call answers
abbrev pub FindsFailing : (Cell → Bool → Type 0) → Size → Option Cell → Type 0
FindsFailing post s found = (test : Cell → Bool) → AnswersTest post test → found ≡ find (λ c. not (test c)) (named_cells s)

-- the call answers each rule at each cell of the grid
abbrev pub AnswersRules : {R : Type 0} → (R → Cell → Bool → Type 0) → (R → Cell → Bool) → Type 0
AnswersRules {R = R} post keeps = (r : R) (c : Cell) (answer : Bool) → IsOnGrid c → post r c answer → answer ≡ keeps r c

-- the first breach of rules with their numbers: of the first rule that some cell breaks, at the first such cell
abbrev pub breach_by : {R : Type 0} → (R → Cell → Bool) → List Cell → List (ℕ × R) → Option Broken
breach_by keeps named [] = None
breach_by keeps named (r ∷ rs) = or_else (find (λ c. not (keeps r.1 c)) named) r.0 (breach_by keeps named rs)

-- this is the first breach of the rules that the call answers
abbrev pub FindsBreach : {R : Type 0} → (R → Cell → Bool → Type 0) → Size → List (ℕ × R) → Option Broken → Type 0
FindsBreach {R = R} post s rules found = (keeps : R → Cell → Bool) → AnswersRules post keeps → found ≡ breach_by keeps (named_cells s) rules
