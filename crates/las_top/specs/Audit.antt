-- What `audit` answers to a specification and to what a document of a diagram gives.
use Rattle.std.specs.Prelude.{◌≡◌, ◌↔◌, ◌⊎◌, ℕ, suc, ◌+◌, ◌≤◌, true, List, [], ◌∷◌, ◌++◌, length, codes, Option, Some, None, IfSome, Result, Ok, Err, if◌then◌else◌}
use Rattle.std.specs.Fmt.{decimal}
use Rattle.las_base.specs.declared.Pauli.{Pauli}
use Rattle.las_base.specs.Jobs.{Task}
use Rattle.las_io.specs.Shelves.{Fetches, FetchesCount, file_of}
use Rattle.grid_box.specs.declared.Broken.{Broken}
use Rattle.grid_box.specs.Breaches.{breach}
use Rattle.grid_box.specs.Sheets.{sheet_breach}
use Rattle.grid_box.specs.Surfaces.{Surfaces, sheets_of}
use Rattle.grid_box.specs.Drawings.{Drawing}
use Rattle.las_spec.specs.declared.refusal.SpecRefused.{SpecRefused}
use Rattle.las_spec.specs.Briefs.{Brief}
use Rattle.las_spec.specs.Texts.{refusal_text}
use Rattle.lasre_codec.specs.declared.refusal.LasreRefused.{LasreRefused}
use Rattle.lasre_codec.specs.Documents.{Lasre, lasre_of}
use Rattle.las_top.specs.declared.run.Status.TheVariants.{Good}
use Rattle.las_top.specs.Answers.{Answer, IsNoFile, yes_with, no_with, refused, lasre_too_long_reason, most_bytes, other_job_line, solves_line}
use Rattle.las_top.specs.Check.{broken_line, refused_lasre}
use Rattle.las_top.specs.Headline.{HasSolution}
use Rattle.las_top.specs.Moments.{ShelfTells}
use Rattle.las_top.specs.Shown.{ShowsListed, is_listed}

-- the flow with its breach, where there is one
abbrev pub or_later : ℕ → Option Broken → Option (ℕ × Broken) → Option (ℕ × Broken)
or_later flow (Some broken) later = Some (flow, broken)
or_later flow None later = later

-- the first flow whose rules of sheets are broken, with their first breach. Flows are numbered on from `flow`
abbrev pub first_unserved : Task → Drawing → Surfaces → ℕ → List (List Pauli) → Option (ℕ × Broken)
first_unserved t d s flow [] = None
first_unserved t d s flow (word ∷ words) = or_later flow (sheet_breach t d (sheets_of s flow) word) (first_unserved t d s (suc flow) words)

-- the line of a flow whose rules of sheets are broken
abbrev pub flow_line : ℕ → Broken → List ℕ
flow_line flow b =
    codes "flow " ++ (decimal flow ++ (codes " broken S" ++ (decimal b.rule ++ (codes " " ++ (decimal b.cell.i ++ (codes " " ++ (decimal b.cell.j ++ (codes " " ++ (decimal b.cell.k ++ codes "\n")))))))))

-- what is answered by the first breach of a rule of pipes or colours, and then by the first flow that is not served
abbrev pub answer_to_breaches : Option Broken → Option (ℕ × Broken) → Answer
answer_to_breaches (Some broken) _ = no_with (broken_line broken)
answer_to_breaches None (Some x) = no_with (flow_line x.0 x.1)
answer_to_breaches None None = yes_with solves_line

-- what is answered to a job, a diagram and sheets
abbrev pub audit_of : Brief → Lasre → Answer
audit_of b l =
    if is_listed b l.task then answer_to_breaches (breach l.task l.drawing) (first_unserved l.task l.drawing l.surfaces 0 l.task.flows) else no_with other_job_line

-- what is answered to what a document gives
abbrev pub audit_given : Brief → Result Lasre LasreRefused → Answer
audit_given b (Ok l) = audit_of b l
audit_given b (Err refusal) = refused_lasre refusal

-- what `audit` answers to a specification and a document
abbrev pub audit_answer : Brief → List ℕ → Answer
audit_answer b bytes = audit_given b (lasre_of bytes)

-- ---- what the shelf gives

-- of what a shelf tells
module _ {H : Type 0} (shelf : ShelfTells H) where
  -- one byte more than a document may have came of the file
  pub record IsLongFile (name : List ℕ) (before after : H) (answer : Answer) : Type 0 where
    pub present : shelf.finds before name true
    pub came : FetchesCount shelf.files shelf.given name before after (most_bytes + 1)
    pub answer_is : answer ≡ refused lasre_too_long_reason

  -- these bytes came, all that the file has, and this is what `audit` answers to them. It says yes exactly where their job is a listed one and their own sheets serve, and then their diagram solves its job
  pub record AnswersBytes (b : Brief) (name : List ℕ) (before after : H) (answer : Answer) : Type 0 where
    pub bytes : List ℕ
    pub present : shelf.finds before name true
    pub came : Fetches shelf.files shelf.given name before after bytes
    pub told : IfSome (shelf.files before) (λ fs. file_of fs name ≡ Some bytes)
    pub within : length bytes ≤ most_bytes
    pub answer_is : answer ≡ audit_answer b bytes
    pub exact : (answer.status ≡ Good) ↔ ShowsListed b bytes
    pub solves : answer.status ≡ Good → HasSolution bytes

  -- what is answered of a file, for a specification
  abbrev pub AnswersFile : Brief → List ℕ → H → H → Answer → Type 0
  AnswersFile b name before after answer = IsNoFile shelf name before answer ⊎ (IsLongFile name before after answer ⊎ AnswersBytes b name before after answer)

  -- what `audit` answers to what a document of a specification gives: the shelf is asked where this is not refused
  abbrev pub AnswersSpec : List ℕ → Result Brief SpecRefused → H → H → Answer → Type 0
  AnswersSpec name (Err refusal) before after answer = (answer ≡ refused (refusal_text refusal)) × (after ≡ before)
  AnswersSpec name (Ok b) before after answer = AnswersFile b name before after answer
