-- What a run answers: its status, and all that it says.
use Rattle.std.specs.Prelude.{◌≡◌, ℕ, false, List, [], ◌++◌, codes, None, IfSome}
use Rattle.std.specs.Io.KnownBytes.{Appends}
use Rattle.las_io.specs.Shelves.{file_of}
use Rattle.las_top.specs.declared.run.Status.{Status}
use Rattle.las_top.specs.declared.run.Status.TheVariants.{Good, No, Refused, FoundLater, StillOpen, ReadFault, WriteFault, ShelfFault, Memory}
use Rattle.las_top.specs.Moments.{ShelfTells, Sinks}

-- an answer: the status, and all that goes to standard output and to standard error
pub record Answer : Type 0 where
  pub status : Status
  pub out : List ℕ
  pub err : List ℕ

-- yes, with these lines on standard output
abbrev pub yes_with : List ℕ → Answer
yes_with lines = record { status = Good; out = lines; err = [] }

-- no, with these lines on standard error
abbrev pub no_with : List ℕ → Answer
no_with lines = record { status = No; out = []; err = lines }

-- the line of a refusal, with its reason
abbrev pub refused_line : List ℕ → List ℕ
refused_line reason = codes "refused: " ++ (reason ++ codes "\n")

-- a refusal, with its reason
abbrev pub refused : List ℕ → Answer
refused reason = record { status = Refused; out = []; err = refused_line reason }

-- the status is that of the answer, and it was said: all of it, and nothing else
pub record Says (answer : Answer) (status : Status) (before after : Sinks) : Type 0 where
  pub status_is : status ≡ answer.status
  pub out_grows : Appends before.out after.out answer.out
  pub err_grows : Appends before.err after.err answer.err

-- ---- the lines and reasons that are the same at every run

-- the diagram is valid
abbrev pub valid_line : List ℕ
valid_line = codes "valid\n"

-- the document solves the job of a listed box
abbrev pub solves_line : List ℕ
solves_line = codes "solves\n"

-- the document's job is that of no listed box
abbrev pub other_job_line : List ℕ
other_job_line = codes "other job\n"

-- the log refutes the box's clauses
abbrev pub accepted_line : List ℕ
accepted_line = codes "accepted\n"

-- the words are no command
abbrev pub words_reason : List ℕ
words_reason = codes "words"

-- the most bytes of a document
abbrev pub most_bytes : ℕ
most_bytes = 4194304

-- the source has more bytes than a document may have
abbrev pub too_long_reason : List ℕ
too_long_reason = codes "too long"

-- the file has more bytes than a document may have
abbrev pub lasre_too_long_reason : List ℕ
lasre_too_long_reason = codes "lasre too long"

-- there is no file of this name
abbrev pub no_file_reason : List ℕ → List ℕ
no_file_reason name = codes "no file " ++ name

-- no listed box has the size
abbrev pub not_listed_reason : List ℕ
not_listed_reason = codes "box not listed"

-- the log has more bytes than a log may have
abbrev pub log_too_long_reason : List ℕ
log_too_long_reason = codes "log too long"

-- ---- statuses

-- the status is that of an answer: no fault, and no want of memory
abbrev pub IsAnswer : Status → Type 0
IsAnswer ReadFault = ⊥
IsAnswer WriteFault = ⊥
IsAnswer ShelfFault = ⊥
IsAnswer Memory = ⊥
IsAnswer _ = Unit {0}

-- at this status no log is left begun: the shelf did not fail, and memory was not refused
abbrev pub EndsLogs : Status → Type 0
EndsLogs ShelfFault = ⊥
EndsLogs Memory = ⊥
EndsLogs _ = Unit {0}

-- the number with which the program ends
abbrev pub number_of : Status → ℕ
number_of Good = 0
number_of No = 1
number_of Refused = 2
number_of FoundLater = 3
number_of StillOpen = 4
number_of ReadFault = 5
number_of WriteFault = 6
number_of ShelfFault = 7
number_of Memory = 9

-- ---- the shelf

-- the shelf has no file of this name, and this is answered
pub record IsNoFile {H : Type 0} (shelf : ShelfTells H) (name : List ℕ) (before : H) (answer : Answer) : Type 0 where
  pub absent : shelf.finds before name false
  pub told : IfSome (shelf.files before) (λ fs. file_of fs name ≡ None)
  pub answer_is : answer ≡ refused (no_file_reason name)
