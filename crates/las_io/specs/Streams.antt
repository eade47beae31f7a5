-- The standard streams and a folder, as contracts see them.
use Rattle.std.specs.Prelude.{ℕ, List, Option}
use Rattle.las_io.specs.Counts.{count_after}
use Rattle.las_io.specs.declared.std_sink.Stream.{Stream}

-- standard input: how many bytes it has given, and its faults
pub record StreamSource : Type 0 where
  pub given : ℕ
  pub faults : ℕ

-- standard output or standard error: which of the two, and its faults
pub record StreamSink : Type 0 where
  pub stream : Stream
  pub faults : ℕ

-- standard input after a read that gave n bytes
abbrev pub input_after_read : StreamSource → ℕ → StreamSource
input_after_read s n = record s { given = count_after s.given n }

-- standard input after a read that failed
abbrev pub input_after_fault : StreamSource → StreamSource
input_after_fault s = record s { faults = count_after s.faults 1 }

-- the sink after a write that failed
abbrev pub output_after_fault : StreamSink → StreamSink
output_after_fault s = record s { faults = count_after s.faults 1 }

-- a folder: its path, the name of the file that is begun, how many bytes its fetches have given, and its faults
pub record FolderShelf : Type 0 where
  pub folder : List ℕ
  pub begun : Option (List ℕ)
  pub given : ℕ
  pub faults : ℕ

-- the folder after a call that failed
abbrev pub folder_after_fault : FolderShelf → FolderShelf
folder_after_fault s = record s { faults = count_after s.faults 1 }
