-- What `sweep` and `bench` answer: not one text, since several diagrams may fit a box, but what is true of what is said.
use Rattle.std.specs.Prelude.{◌≡◌, ◌⊎◌, ℕ, ◌+◌, ◌≤◌, List, length, Option, Result, Ok, Err}
use Rattle.las_base.specs.declared.Axis.TheVariants.{J}
use Rattle.las_io.specs.Moves.{GivesAll, GivesCount, IsAllLeft}
use Rattle.las_io.specs.Shelves.{File}
use Rattle.las_spec.specs.declared.refusal.SpecRefused.{SpecRefused}
use Rattle.las_spec.specs.Briefs.{Brief}
use Rattle.spec_codec.specs.Readings.{spec_of}
use Rattle.las_spec.specs.Texts.{refusal_text}
use Rattle.las_gen.specs.Ghz.{ghz_of}
use Rattle.box_sweep.specs.declared.ending.Ending.{Ending}
use Rattle.box_sweep.specs.declared.ending.Ending.TheVariants.{Least, Found, NoneFits, StillOpen}
use Rattle.box_sweep.specs.Sweeps.{HasSwept}
use Rattle.las_top.specs.declared.run.Status.{Status}
use Rattle.las_top.specs.declared.run.Status.TheVariants as status
use Rattle.las_top.specs.Answers.{Says, most_bytes, refused, too_long_reason}
use Rattle.las_top.specs.Headline.{Solves}
use Rattle.las_top.specs.Moments.{Moment, ShelfTells, Sinks, SourceTells}

-- the status that an ending gives
abbrev pub status_by : Ending → Status
status_by Least = status.Good
status_by Found = status.FoundLater
status_by NoneFits = status.No
status_by StillOpen = status.StillOpen

-- a specification was swept, and the status is that of how the sweep ended
pub record IsSwept (b : Brief) (budget : ℕ) (files files' : Option (List File)) (before after : Sinks) (status : Status) : Type 0 where
  pub end : Ending
  pub swept : HasSwept Solves b budget files files' before.out after.out before.err after.err end
  pub status_is : status ≡ status_by end

-- what is answered to what a document of a specification gives: it is swept, or its first refusal is said
abbrev pub IsSweptBy : {H : Type 0} → ShelfTells H → ℕ → Result Brief SpecRefused → H → H → Sinks → Sinks → Status → Type 0
IsSweptBy shelf budget (Ok b) before after sinks sinks' status = IsSwept b budget (shelf.files before) (shelf.files after) sinks sinks' status
IsSweptBy shelf budget (Err refusal) before after sinks sinks' status = Says (refused (refusal_text refusal)) status sinks sinks' × (after ≡ before)

-- of what a source and a shelf tell
module _ {S H : Type 0} (source : SourceTells S) (shelf : ShelfTells H) where
  -- one byte more than a document may have came, and this is said
  pub record IsTooLongToSweep (before after : Moment S H) (status : Status) : Type 0 where
    pub came : GivesCount source.left source.given before.source after.source (most_bytes + 1)
    pub said : Says (refused too_long_reason) status before.sinks after.sinks
    pub shelf_is : after.shelf ≡ before.shelf

  -- these bytes came, all that the source had, and what they give was swept
  pub record IsSweptDocument (budget : ℕ) (before after : Moment S H) (status : Status) : Type 0 where
    pub bytes : List ℕ
    pub came : GivesAll source.left source.given before.source after.source bytes
    pub all : IsAllLeft (source.left before.source) bytes
    pub within : length bytes ≤ most_bytes
    pub swept : IsSweptBy shelf budget (spec_of bytes) before.shelf after.shelf before.sinks after.sinks status

  -- what `sweep` answers to what came from the source
  abbrev pub AnswersSweep : ℕ → Moment S H → Moment S H → Status → Type 0
  AnswersSweep budget before after status = IsTooLongToSweep before after status ⊎ IsSweptDocument budget before after status

-- what `bench` answers: the specification of a state of n qubits is swept, and nothing is read
abbrev pub AnswersBench : {S H : Type 0} → ShelfTells H → ℕ → Moment S H → Moment S H → Status → Type 0
AnswersBench shelf n before after status =
    IsSwept (ghz_of n J) 100000 (shelf.files before.shelf) (shelf.files after.shelf) before.sinks after.sinks status × (after.source ≡ before.source)
