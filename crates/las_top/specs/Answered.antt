-- What a run is answered, by its words: a text that the input determines, or, of a sweep, what is true of what is said.
use Rattle.std.specs.Prelude.{◌≡◌, ℕ, Bool, true, false, List, map, Option, Some, None, String, string_bytes}
use Rattle.std.specs.declared.alloc.Global.{Global}
use Rattle.las_words.specs.declared.command.Command.{Command}
use Rattle.las_words.specs.declared.command.Command.TheVariants.{Sweep, Check, Audit, Verify, Spec, Zx, Bench}
use Rattle.las_words.specs.Forms.{IsForm}
use Rattle.las_top.specs.declared.run.Status.{Status}
use Rattle.las_top.specs.Answers.{Answer, Says, refused, words_reason}
use Rattle.las_top.specs.Moments.{Moment, ShelfTells, Sinks, SourceTells}
use Rattle.las_top.specs.Runs.{Asked, AnswersCommand, GivesSpec, is_any}
use Rattle.las_top.specs.Verify.{lists_box}
use Rattle.las_top.specs.Sweep.{AnswersBench, AnswersSweep}

-- the words after the program's name, as texts
abbrev pub texts_of : List (String Global) → List (List ℕ)
texts_of words = map string_bytes words

-- the words are a form of this command, or of none
abbrev pub AsksFor : List (List ℕ) → Option Command → Type 0
AsksFor words (Some c) = IsForm c words
AsksFor words None = (c : Command) → IsForm c words → ⊥

-- the command reads the source
abbrev pub reads_source : Command → Bool
reads_source (Sweep budget) = true
reads_source Check = true
reads_source (Audit name) = true
reads_source (Verify size) = true
reads_source Spec = true
reads_source Zx = true
reads_source (Bench n) = false

-- the command writes logs on the shelf
abbrev pub writes_logs : Command → Bool
writes_logs (Sweep budget) = true
writes_logs (Bench n) = true
writes_logs _ = false

-- the command asks the shelf: it writes logs, or fetches a file or a log
abbrev pub asks_shelf : Command → Bool
asks_shelf (Audit name) = true
asks_shelf (Verify size) = true
asks_shelf c = writes_logs c

-- the words are a form of no command that reads the source
abbrev pub ReadsNothing : List (List ℕ) → Type 0
ReadsNothing words = (c : Command) → IsForm c words → reads_source c ≡ false

-- the words are a form of no command that writes logs
abbrev pub WritesNoLogs : List (List ℕ) → Type 0
WritesNoLogs words = (c : Command) → IsForm c words → writes_logs c ≡ false

-- the words are a form of no command that asks the shelf
abbrev pub AsksNoShelf : List (List ℕ) → Type 0
AsksNoShelf words = (c : Command) → IsForm c words → asks_shelf c ≡ false

-- there is an answer of this kind, and it was said
pub record HasAnswer (IsIt : Answer → Type 0) (status : Status) (before after : Sinks) : Type 0 where
  pub answer : Answer
  pub is : IsIt answer
  pub said : Says answer status before after

-- of what a source tells
module _ {S : Type 0} (source : SourceTells S) where
  -- what sends a command to the shelf: `sweep` and `audit` a specification that the source gives, `verify` one that lists the box, `bench` nothing
  abbrev pub SendsToShelf : Command → S → S → Type 0
  SendsToShelf (Sweep budget) before after = GivesSpec source is_any before after
  SendsToShelf (Audit name) before after = GivesSpec source is_any before after
  SendsToShelf (Verify size) before after = GivesSpec source (lists_box size) before after
  SendsToShelf (Bench n) before after = after ≡ before
  SendsToShelf _ before after = ⊥

  -- the words are a form of a command that is sent to the shelf
  pub record IsSentToShelf (words : List (List ℕ)) (before after : S) : Type 0 where
    pub command : Command
    pub asked : IsForm command words
    pub sent : SendsToShelf command before after

-- of what a source and a shelf tell
module _ {S H : Type 0} (source : SourceTells S) (shelf : ShelfTells H) where
  -- the answer of a command that the input determines
  abbrev pub AnswersInput : Asked → Moment S H → Moment S H → Status → Type 0
  AnswersInput asked before after status = HasAnswer (AnswersCommand source shelf asked before.source after.source before.shelf after.shelf) status before.sinks after.sinks

  -- what is answered to a command; words that ask for none are refused, and nothing is read
  abbrev pub AnswersTo : Option Command → Moment S H → Moment S H → Status → Type 0
  AnswersTo None before after status = Says (refused words_reason) status before.sinks after.sinks × (after.source ≡ before.source) × (after.shelf ≡ before.shelf)
  AnswersTo (Some (Sweep budget)) before after status = AnswersSweep source shelf budget before after status
  AnswersTo (Some (Bench n)) before after status = AnswersBench shelf n before after status
  AnswersTo (Some Check) before after status = AnswersInput Asked.Check before after status
  AnswersTo (Some Spec) before after status = AnswersInput Asked.Spec before after status
  AnswersTo (Some (Audit name)) before after status = AnswersInput (Asked.Audit name) before after status
  AnswersTo (Some (Verify size)) before after status = AnswersInput (Asked.Verify size) before after status
  AnswersTo (Some Zx) before after status = AnswersInput Asked.Zx before after status

  -- the words ask for a command or for nothing, and this is answered
  pub record HasAnswered (words : List (List ℕ)) (before after : Moment S H) (status : Status) : Type 0 where
    pub command : Option Command
    pub asked : AsksFor words command
    pub answered : AnswersTo command before after status
