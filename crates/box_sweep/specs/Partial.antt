-- What a sweep leaves where a fault or want of memory ends it: whole lines that are true beside their logs, and of the box in work a part.
use Rattle.std.specs.Prelude.{◌≡◌, ◌⊎◌, ℕ, true, List, [], ◌∷◌, ◌++◌, Option, None, Some, IfSome, IsSomeAnd}
use Rattle.std.specs.Io.KnownBytes.{Appends}
use Rattle.las_base.specs.declared.Size.{Size}
use Rattle.las_base.specs.Jobs.{Task}
use Rattle.las_io.specs.Moves.{AppendsFront}
use Rattle.las_io.specs.Shelves.{File, OthersStay, Told, file_of}
use Rattle.grid_box.specs.Drawings.{Drawing}
use Rattle.las_spec.specs.Briefs.{Brief}
use Rattle.clause_log.specs.Growing.{AreLines}
use Rattle.box_sweep.specs.Lines.{box_line, log_name}
use Rattle.box_sweep.specs.Logged.{IsTrueBox}
use Rattle.box_sweep.specs.Solutions.{SolvesInSheets}
use Rattle.box_sweep.specs.Sweeps.{AreTried, AreTrue, IsLogOf, OtherFilesStay, Tried, boxes_in_order, document_of, documents, report, tried_lines}
use Rattle.box_sweep.specs.Verdicts.{BoxWord}

-- ---- one box

-- a file is as before, or absent, or it is whole lines of a log and then a front of one
abbrev pub IsLogInPart : Option (List ℕ) → Option (List ℕ) → Type 0
IsLogInPart before after = (after ≡ before) ⊎ ((after ≡ None) ⊎ IsSomeAnd after (AreLines true))

-- the file of this name is left so
abbrev pub LeavesLog : List ℕ → List File → List File → Type 0
LeavesLog name fs fs' = IsLogInPart (file_of fs name) (file_of fs' name)

-- a file that was begun, empty, is whole lines of a log and then a front of one
abbrev pub EndsInPart : Option (List ℕ) → Option (List File) → Option (List File) → Type 0
EndsInPart begun files files' = IfSome begun (λ name. Told (λ fs fs'. file_of fs name ≡ Some [] → IsSomeAnd (file_of fs' name) (AreLines true)) files files')

-- a box has no word yet: its log is there in part, and nothing was printed or said
pub record IsInWork (t : Task) (files files' : Option (List File)) (out out' err err' : Option (List ℕ)) : Type 0 where
  pub log : Told (LeavesLog (log_name t.size)) files files'
  pub others_stay : Told (OthersStay (log_name t.size)) files files'
  pub printed : Appends out out' []
  pub said : Appends err err' []

-- a box has its word, which is true beside its log: a front of its document was printed, and a front of its line was said
pub record HasItsWord (t : Task) (budget : ℕ) (files files' : Option (List File)) (out out' err err' : Option (List ℕ)) : Type 0 where
  pub word : BoxWord
  pub is_true : IsTrueBox SolvesInSheets t budget word files files'
  pub others_stay : Told (OthersStay (log_name t.size)) files files'
  pub printed : AppendsFront out out' (document_of word)
  pub said : AppendsFront err err' (box_line t.size word)

-- a box was broken off, before it had its word or behind that
abbrev pub IsBrokenBox : Task → ℕ → Option (List File) → Option (List File) → Option (List ℕ) → Option (List ℕ) → Option (List ℕ) → Option (List ℕ) → Type 0
IsBrokenBox t budget files files' out out' err err' = IsInWork t files files' out out' err err' ⊎ HasItsWord t budget files files' out out' err err'

-- ---- the sweep

-- the first box of some, where there is one
abbrev pub first_box : List Tried → Option Size
first_box [] = None
first_box (x ∷ xs) = Some x.box

-- what can have been said by then: the lines of the boxes that have their word, and the ending where no box is left
abbrev pub lines_so_far : Size → List Tried → List Tried → List ℕ
lines_so_far s tried [] = report s tried
lines_so_far s tried (x ∷ xs) = tried_lines tried

-- each file is as before, but for the logs of the boxes that have their word, and that of the box in work, which is there in part
abbrev pub LeavesFiles : List Tried → Option Size → List File → List File → Type 0
LeavesFiles tried None fs fs' = OtherFilesStay tried fs fs'
LeavesFiles tried (Some s) fs fs' = ((name : List ℕ) → (IsLogOf tried name → ⊥) → (log_name s ≡ name → ⊥) → file_of fs' name ≡ file_of fs name) × LeavesLog (log_name s) fs fs'

-- a sweep was broken off. The boxes that have their word are true beside their logs, and the next one may be in work. What was said is a front of the report that goes on with the rest, whatever the words of these; no line of the rest was begun. What was printed is a front of the document of the box that is found
pub record IsBrokenOff (Solved : Task → Drawing → Type 0) (b : Brief) (budget : ℕ) (files files' : Option (List File)) (out out' err err' : Option (List ℕ)) : Type 0 where
  pub tried : List Tried
  pub rest : List Tried
  pub in_order : AreTried (boxes_in_order b) (tried ++ rest)
  pub work : Option Size
  pub work_is_next : IfSome work (λ s. first_box rest ≡ Some s)
  pub are_true : AreTrue Solved b budget tried files files'
  pub left : Told (LeavesFiles tried work) files files'
  pub printed : AppendsFront out out' (documents tried)
  pub said : AppendsFront err err' (lines_so_far b.task.size tried rest)
