-- Sources, sinks and shelves in memory, whose calls fail by a list of numbers.
use Rattle.std.specs.Prelude.{ℕ, ◌+◌, ◌-◌, ◌^◌, ◌<◌, List, [], ◌∷◌, ◌++◌, drop, Contains, length, slice_get, Option, None, Some, IfSome, IsSome, option_map, option_and_then, unwrap_or, if◌then◌else◌}
use Rattle.las_io.specs.Counts.{count_after}
use Rattle.las_io.specs.Shelves.{File, HasNames, is_named, file_of}
use Rattle.las_io.specs.declared.traits.IoBad.{IoBad}
use Rattle.las_io.specs.declared.traits.IoBad.TheVariants.{Failed, Memory}

-- a source: the bytes left, how many it has given, the most that a read gives,
-- the numbers of the calls that fail, how many calls and how many faults there were
pub record ScriptedSource : Type 0 where
  pub bytes : List ℕ
  pub given : ℕ
  pub most : ℕ
  pub fails : List ℕ
  pub calls : ℕ
  pub faults : ℕ

-- a sink: the bytes held, the most that a write takes,
-- the numbers of the calls that fail, how many calls and how many faults there were
pub record ScriptedSink : Type 0 where
  pub bytes : List ℕ
  pub most : ℕ
  pub fails : List ℕ
  pub calls : ℕ
  pub faults : ℕ

-- the call of this number fails: it is listed, and calls are still counted
abbrev pub IsToFail : List ℕ → ℕ → Type 0
IsToFail fails number = Contains fails number × (number < 2 ^ 64 - 1)

-- the source after a read that gave n bytes
abbrev pub source_after_read : ScriptedSource → ℕ → ScriptedSource
source_after_read s n = record s { bytes = drop n s.bytes; given = s.given + n; calls = count_after s.calls 1 }

-- the source after a read that failed
abbrev pub source_after_fault : ScriptedSource → ScriptedSource
source_after_fault s = record s { calls = count_after s.calls 1; faults = s.faults + 1 }

-- the sink after a write that took these bytes
abbrev pub sink_after_write : ScriptedSink → List ℕ → ScriptedSink
sink_after_write s taken = record s { bytes = s.bytes ++ taken; calls = count_after s.calls 1 }

-- the sink after a write that failed, or was refused memory
abbrev pub sink_after_refusal : ScriptedSink → IoBad → ScriptedSink
sink_after_refusal s Failed = record s { calls = count_after s.calls 1; faults = s.faults + 1 }
sink_after_refusal s Memory = record s { calls = count_after s.calls 1 }

-- a shelf: its files, the name of the begun one, how many bytes its fetches have given,
-- the numbers of the calls that fail, how many calls and how many faults there were
pub record ScriptedShelf : Type 0 where
  pub files : List File
  pub begun : Option (List ℕ)
  pub given : ℕ
  pub fails : List ℕ
  pub calls : ℕ
  pub faults : ℕ

-- the name of the file at this place, where a place is given
abbrev pub name_at : List File → Option ℕ → Option (List ℕ)
name_at files place = option_and_then (λ n. option_map (λ file. file.0) (slice_get files n)) place

-- a place that is given is one of the list
abbrev pub IsPlace : List File → Option ℕ → Type 0
IsPlace files place = IfSome place (λ n. n < length files)

-- the names are lawful and distinct, and the file that is begun is there
pub record IsKept (files : List File) (begun : Option (List ℕ)) : Type 0 where
  pub names : HasNames files
  pub there : IfSome begun (λ name. IsSome (file_of files name))

-- the files with these bytes under this name, in its place, or at the end where there was no such file
abbrev pub put_file : List ℕ → List ℕ → List File → List File
put_file name bytes [] = (name, bytes) ∷ []
put_file name bytes (file ∷ files) = if is_named name file then ((name, bytes) ∷ files) else (file ∷ put_file name bytes files)

-- the files after this piece came to the end of the file of this name
abbrev pub grow_file : List ℕ → List ℕ → List File → List File
grow_file name piece files = put_file name (unwrap_or (file_of files name) [] ++ piece) files

-- the shelf after a call that did not fail, but for its files and for what it gave
abbrev pub shelf_after_call : ScriptedShelf → ScriptedShelf
shelf_after_call s = record s { calls = count_after s.calls 1 }

-- the shelf after a call that failed
abbrev pub shelf_after_fault : ScriptedShelf → ScriptedShelf
shelf_after_fault s = record s { calls = count_after s.calls 1; faults = s.faults + 1 }

-- the shelf after a call that failed, or was refused memory
abbrev pub shelf_after_refusal : ScriptedShelf → IoBad → ScriptedShelf
shelf_after_refusal s Failed = shelf_after_fault s
shelf_after_refusal s Memory = shelf_after_call s

-- the shelf after a `begin` of this name
abbrev pub shelf_after_begin : ScriptedShelf → List ℕ → ScriptedShelf
shelf_after_begin s name = record s { files = put_file name [] s.files; begun = Some name; calls = count_after s.calls 1 }

-- the shelf after an `append` to the file of this name
abbrev pub shelf_after_append : ScriptedShelf → List ℕ → List ℕ → ScriptedShelf
shelf_after_append s name piece = record s { files = grow_file name piece s.files; calls = count_after s.calls 1 }

-- the shelf with nothing begun
abbrev pub shelf_ended : ScriptedShelf → ScriptedShelf
shelf_ended s = record s { begun = None }

-- the shelf after a `fetch` that gave n bytes
abbrev pub shelf_after_fetch : ScriptedShelf → ℕ → ScriptedShelf
shelf_after_fetch s n = record s { given = count_after s.given n; calls = count_after s.calls 1 }
