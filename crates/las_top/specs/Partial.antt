-- What a run leaves where a fault or want of memory ends it: of the texts that it would have said a front, and of a sweep what is true.
use Rattle.std.specs.Prelude.{◌≡◌, ◌⊎◌, ℕ, ◌+◌, ◌≤◌, List, length, Option, Some, None, Result, Ok, Err}
use Rattle.las_base.specs.declared.Axis.TheVariants.{J}
use Rattle.las_io.specs.Moves.{AppendsFront, GivesAll, GivesCount, IsAllLeft}
use Rattle.las_spec.specs.declared.refusal.SpecRefused.{SpecRefused}
use Rattle.las_spec.specs.Briefs.{Brief}
use Rattle.spec_codec.specs.Readings.{spec_of}
use Rattle.las_spec.specs.Texts.{refusal_text}
use Rattle.las_gen.specs.Ghz.{ghz_of}
use Rattle.las_words.specs.declared.command.Command.{Command}
use Rattle.las_words.specs.declared.command.Command.TheVariants.{Sweep, Check, Audit, Verify, Spec, Zx, Bench}
use Rattle.box_sweep.specs.Partial.{IsBrokenOff}
use Rattle.las_top.specs.declared.run.Status.{Status}
use Rattle.las_top.specs.declared.run.Status.TheVariants.{WriteFault, ShelfFault, Memory}
use Rattle.las_top.specs.Answered.{AsksFor}
use Rattle.las_top.specs.Answers.{Answer, most_bytes, refused, too_long_reason, words_reason}
use Rattle.las_top.specs.Headline.{Solves}
use Rattle.las_top.specs.Moments.{Moment, ShelfTells, Sinks, SourceTells}
use Rattle.las_top.specs.Runs.{Asked, AnswersCommand}

-- the growths of the two sinks are fronts of an answer's texts
pub record SaysFront (answer : Answer) (before after : Sinks) : Type 0 where
  pub out_front : AppendsFront before.out after.out answer.out
  pub err_front : AppendsFront before.err after.err answer.err

-- there is an answer of this kind, and fronts of its texts were said
pub record HasFront (IsIt : Answer → Type 0) (before after : Sinks) : Type 0 where
  pub answer : Answer
  pub is : IsIt answer
  pub said : SaysFront answer before after

-- a sweep with this status was broken off
abbrev pub IsCutOff : Status → Type 0
IsCutOff status = (status ≡ WriteFault) ⊎ ((status ≡ ShelfFault) ⊎ (status ≡ Memory))

-- of a sweep of what a document of a specification gives: it was broken off, or a front of the first refusal was said
abbrev pub LeavesSwept : {H : Type 0} → ShelfTells H → ℕ → Result Brief SpecRefused → H → H → Sinks → Sinks → Type 0
LeavesSwept shelf budget (Ok b) before after sinks sinks' = IsBrokenOff Solves b budget (shelf.files before) (shelf.files after) sinks.out sinks'.out sinks.err sinks'.err
LeavesSwept shelf budget (Err refusal) before after sinks sinks' = SaysFront (refused (refusal_text refusal)) sinks sinks' × (after ≡ before)

-- of what a source and a shelf tell
module _ {S H : Type 0} (source : SourceTells S) (shelf : ShelfTells H) where
  -- one byte more than a document may have came, and a front of that refusal was said
  pub record LeavesTooLong (before after : Moment S H) : Type 0 where
    pub came : GivesCount source.left source.given before.source after.source (most_bytes + 1)
    pub said : SaysFront (refused too_long_reason) before.sinks after.sinks
    pub shelf_is : after.shelf ≡ before.shelf

  -- these bytes came, all that the source had, and this is left of the sweep of what they give
  pub record LeavesDocument (budget : ℕ) (before after : Moment S H) : Type 0 where
    pub bytes : List ℕ
    pub came : GivesAll source.left source.given before.source after.source bytes
    pub all : IsAllLeft (source.left before.source) bytes
    pub within : length bytes ≤ most_bytes
    pub left_is : LeavesSwept shelf budget (spec_of bytes) before.shelf after.shelf before.sinks after.sinks

  -- what is left of `sweep`
  abbrev pub LeavesSweep : ℕ → Moment S H → Moment S H → Type 0
  LeavesSweep budget before after = LeavesTooLong before after ⊎ LeavesDocument budget before after

  -- what is left of `bench`
  abbrev pub LeavesBench : ℕ → Moment S H → Moment S H → Type 0
  LeavesBench n before after =
      IsBrokenOff Solves (ghz_of n J) 100000 (shelf.files before.shelf) (shelf.files after.shelf) before.sinks.out after.sinks.out before.sinks.err after.sinks.err × (after.source ≡ before.source)

  -- of a command that the input determines: fronts of its answer were said
  abbrev pub LeavesInput : Asked → Moment S H → Moment S H → Type 0
  LeavesInput asked before after = HasFront (AnswersCommand source shelf asked before.source after.source before.shelf after.shelf) before.sinks after.sinks

  -- what is left of a command, or of words that are refused, where a sink failed
  abbrev pub LeavesAtSink : Moment S H → Moment S H → Option Command → Type 0
  LeavesAtSink before after None = SaysFront (refused words_reason) before.sinks after.sinks × (after.source ≡ before.source) × (after.shelf ≡ before.shelf)
  LeavesAtSink before after (Some (Sweep budget)) = LeavesSweep budget before after
  LeavesAtSink before after (Some (Bench n)) = LeavesBench n before after
  LeavesAtSink before after (Some Check) = LeavesInput Asked.Check before after
  LeavesAtSink before after (Some Spec) = LeavesInput Asked.Spec before after
  LeavesAtSink before after (Some (Audit name)) = LeavesInput (Asked.Audit name) before after
  LeavesAtSink before after (Some (Verify size)) = LeavesInput (Asked.Verify size) before after
  LeavesAtSink before after (Some Zx) = LeavesInput Asked.Zx before after

  -- what is left of a command where the shelf failed: a part of a sweep, and of any other nothing is said
  abbrev pub LeavesAtShelf : Moment S H → Moment S H → Option Command → Type 0
  LeavesAtShelf before after None = ⊥
  LeavesAtShelf before after (Some (Sweep budget)) = LeavesSweep budget before after
  LeavesAtShelf before after (Some (Bench n)) = LeavesBench n before after
  LeavesAtShelf before after (Some _) = (after.sinks.out ≡ before.sinks.out) × (after.sinks.err ≡ before.sinks.err)

-- the words ask for a command or for nothing, and this is left of it
pub record HasLeft (Leaves : Option Command → Type 0) (words : List (List ℕ)) : Type 0 where
  pub command : Option Command
  pub asked : AsksFor words command
  pub left : Leaves command
