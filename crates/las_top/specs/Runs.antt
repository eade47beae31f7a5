-- What a run is answered, by what is asked, by what came from its source, and by the shelf.
use Rattle.std.specs.Prelude.{◌≡◌, ◌⊎◌, ℕ, ◌+◌, ◌≤◌, Bool, true, false, List, length, IsOkAnd}
use Rattle.las_base.specs.declared.Size.{Size}
use Rattle.las_io.specs.Moves.{GivesAll, GivesCount, IsAllLeft}
use Rattle.las_spec.specs.Briefs.{Brief}
use Rattle.spec_codec.specs.Readings.{spec_of}
use Rattle.las_top.specs.Answers.{Answer, most_bytes, refused, too_long_reason}
use Rattle.las_top.specs.Audit.{AnswersSpec}
use Rattle.las_top.specs.Check.{AnswersCheck}
use Rattle.las_top.specs.Moments.{ShelfTells, SourceTells}
use Rattle.las_top.specs.Spec.{spec_answer}
use Rattle.las_top.specs.Verify.{AnswersVerify, lists_box}
use Rattle.las_top.specs.Zx.{AnswersZx}

-- ---- what is asked

-- what the input alone determines the answer to
pub data Asked : Type 0 where
  Check : Asked
  Spec : Asked
  Zx : Asked
  Audit : List ℕ → Asked
  Verify : Size → Asked

-- a file of the shelf is asked for
abbrev pub asks_file : Asked → Bool
asks_file (Audit name) = true
asks_file (Verify size) = true
asks_file _ = false

-- any specification
abbrev pub is_any : Brief → Bool
is_any b = true

-- the specifications that send a command to the shelf
abbrev pub sends : Asked → Brief → Bool
sends (Verify size) = lists_box size
sends _ = is_any

-- what is answered to the bytes of the source: `audit` and `verify` ask the shelf, the others leave it as it is
abbrev pub AnswersAsked : {H : Type 0} → ShelfTells H → Asked → H → H → List ℕ → Answer → Type 0
AnswersAsked shelf Check before after bytes answer = AnswersCheck bytes answer × (after ≡ before)
AnswersAsked shelf Spec before after bytes answer = (answer ≡ spec_answer bytes) × (after ≡ before)
AnswersAsked shelf Zx before after bytes answer = AnswersZx bytes answer × (after ≡ before)
AnswersAsked shelf (Audit name) before after bytes answer = AnswersSpec shelf name (spec_of bytes) before after answer
AnswersAsked shelf (Verify size) before after bytes answer = AnswersVerify shelf size (spec_of bytes) before after answer

-- ---- the source

-- of what a source tells
module _ {S : Type 0} (source : SourceTells S) where
  -- one byte more than a document may have came
  pub record IsTooLong (before after : S) (answer : Answer) : Type 0 where
    pub came : GivesCount source.left source.given before after (most_bytes + 1)
    pub answer_is : answer ≡ refused too_long_reason

  -- these bytes came, all that the source had, and they are answered so
  pub record AnswersDocument (answers : List ℕ → Answer → Type 0) (before after : S) (answer : Answer) : Type 0 where
    pub bytes : List ℕ
    pub came : GivesAll source.left source.given before after bytes
    pub all : IsAllLeft (source.left before) bytes
    pub within : length bytes ≤ most_bytes
    pub answered : answers bytes answer

  -- these bytes came, all that the source had, and they give a specification that passes this test
  pub record GivesSpec (test : Brief → Bool) (before after : S) : Type 0 where
    pub bytes : List ℕ
    pub came : GivesAll source.left source.given before after bytes
    pub all : IsAllLeft (source.left before) bytes
    pub is_spec : IsOkAnd (spec_of bytes) (λ b. test b ≡ true)

-- ---- the run

-- the answer to what is asked, by what came from the source and by the shelf
abbrev pub AnswersCommand : {S H : Type 0} → SourceTells S → ShelfTells H → Asked → S → S → H → H → Answer → Type 0
AnswersCommand source shelf asked src src' before after answer =
    (IsTooLong source src src' answer × (after ≡ before)) ⊎ AnswersDocument source (AnswersAsked shelf asked before after) src src' answer
