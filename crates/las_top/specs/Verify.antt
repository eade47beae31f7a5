-- What `verify` answers to the log of a box.
use Rattle.std.specs.Prelude.{◌≡◌, ◌⊎◌, ℕ, Bool, true, false, List, ◌++◌, codes, Option, Some, None, IfSome, option_map, Result, Ok, Err}
use Rattle.std.specs.List.{list_any}
use Rattle.std.specs.Fmt.{decimal}
use Rattle.las_base.specs.declared.Size.{Size}
use Rattle.las_base.specs.Cells.{same_size}
use Rattle.las_base.specs.Jobs.{Task}
use Rattle.las_io.specs.Shelves.{file_of}
use Rattle.las_spec.specs.declared.refusal.SpecRefused.{SpecRefused}
use Rattle.las_spec.specs.Briefs.{Brief, job_of}
use Rattle.las_spec.specs.Texts.{refusal_text}
use Rattle.cnf_base.specs.Literals.{Cnf, IsRefuted}
use Rattle.cnf_base.specs.Logs.{LogStep, Tail, LogEnd, Malformed, Limit, first_fault}
use Rattle.cnf_table.specs.Clauses.{clause_table}
use Rattle.clause_log.specs.Pieces.{read_to_limit}
use Rattle.clause_log.specs.Steps.{Ahead, Follows, tail_of}
use Rattle.box_sweep.specs.Lines.{log_name}
use Rattle.las_top.specs.declared.run.Status.TheVariants.{Good}
use Rattle.las_top.specs.Answers.{Answer, IsNoFile, yes_with, no_with, refused, accepted_line, log_too_long_reason, not_listed_reason}
use Rattle.las_top.specs.Headline.{NoneSolves, Solves}
use Rattle.las_top.specs.Moments.{ShelfTells}

-- a box of this size is listed
abbrev pub lists_box : Size → Brief → Bool
lists_box size b = list_any (same_size size) b.boxes

-- the line of a log's first line that fails, with the number of its reason
abbrev pub rejected_line : ℕ → ℕ → List ℕ
rejected_line line why = codes "rejected " ++ (decimal line ++ (codes " why " ++ (decimal why ++ codes "\n")))

-- what is answered by a log's first fault, and by what follows its steps. A line that is not of the form is always a fault
abbrev pub answer_to_fault : Option (ℕ × ℕ) → Tail → Answer
answer_to_fault (Some fault) tail = no_with (rejected_line fault.0 fault.1)
answer_to_fault None LogEnd = yes_with accepted_line
answer_to_fault None Malformed = yes_with accepted_line
answer_to_fault None Limit = refused log_too_long_reason

-- what is answered to the steps of a log, and to what follows them: it is accepted exactly where they refute the formula
abbrev pub log_answer : Cnf → List LogStep → Tail → Answer
log_answer f steps tail = answer_to_fault (first_fault f steps tail) tail

-- this is answered to some steps and to what follows them, which are those ahead, where they are told. A formula whose log is accepted is refuted
pub record AnswersSteps (f : Cnf) (told : Option Ahead) (answer : Answer) : Type 0 where
  pub steps : List LogStep
  pub follows : Follows
  pub told_are : IfSome told (λ ahead. ahead ≡ (steps, follows))
  pub answer_is : answer ≡ log_answer f steps (tail_of follows)
  pub refuted : answer.status ≡ Good → IsRefuted f.clauses

-- ---- what the shelf gives

-- of what a shelf tells
module _ {H : Type 0} (shelf : ShelfTells H) where
  -- these are the steps of the log and what follows them, this is answered to them, and where the log is accepted this is shown
  pub record AnswersLog (Shown : Type 0) (f : Cnf) (name : List ℕ) (before : H) (answer : Answer) : Type 0 where
    pub steps : List LogStep
    pub tail : Tail
    pub present : shelf.finds before name true
    pub told : IfSome (shelf.files before) (λ fs. option_map read_to_limit (file_of fs name) ≡ Some (steps, tail))
    pub answer_is : answer ≡ log_answer f steps tail
    pub shown : answer.status ≡ Good → Shown

  -- what is answered of a log, for a formula
  abbrev pub AnswersLogFile : Type 0 → Cnf → List ℕ → H → Answer → Type 0
  AnswersLogFile Shown f name before answer = IsNoFile shelf name before answer ⊎ AnswersLog Shown f name before answer

  -- what is answered of the log of a job's box: where it is accepted, no diagram solves the job
  abbrev pub AnswersBoxLog : Task → H → Answer → Type 0
  AnswersBoxLog t before answer = AnswersLogFile (NoneSolves Solves t) (clause_table t) (log_name t.size) before answer

  -- what `verify` answers by whether the box is listed: the shelf is asked where it is
  abbrev pub AnswersListed : Bool → Task → H → H → Answer → Type 0
  AnswersListed false t before after answer = (answer ≡ refused not_listed_reason) × (after ≡ before)
  AnswersListed true t before after answer = AnswersBoxLog t before answer

  -- what `verify` answers to what a document of a specification gives
  abbrev pub AnswersVerify : Size → Result Brief SpecRefused → H → H → Answer → Type 0
  AnswersVerify size (Err refusal) before after answer = (answer ≡ refused (refusal_text refusal)) × (after ≡ before)
  AnswersVerify size (Ok b) before after answer = AnswersListed (lists_box size b) (job_of b size) before after answer
