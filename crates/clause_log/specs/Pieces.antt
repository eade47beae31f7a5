-- A log that is read in pieces, up to a limit of bytes.
use Rattle.std.specs.Prelude.{◌≡◌, ℕ, ◌-◌, ◌^◌, ◌<◌, ◌≤◌, Bool, true, not, ◌||◌, is_some, nat_eq, nat_le, List, [], ◌++◌, length, take, drop, get_or, Option, IsErrOf, Result, option_map, unwrap_or, if◌then◌else◌}
use Rattle.std.specs.List.{list_all}
use Rattle.las_io.specs.Shelves.{File, file_of}
use Rattle.cnf_base.specs.Logs.{LogStep, Tail, LogEnd, Malformed, Limit}
use Rattle.clause_log.specs.LogText.{whole_lines, read_lines, read_log}
use Rattle.clause_log.specs.Steps.{Ahead, ahead_of}
use Rattle.cnf_base.specs.Takes.{Rose}
use Rattle.clause_log.specs.declared.steps.StepRefused.{StepRefused}
use Rattle.clause_log.specs.declared.steps.StepRefused as refused

-- no byte is a line feed
abbrev pub is_one_line : List ℕ → Bool
is_one_line bytes = list_all (λ b. not (nat_eq b 10)) bytes

-- the first line feed stands at this place
pub record HasFeedAt (bytes : List ℕ) (n : ℕ) : Type 0 where
  pub within : n < length bytes
  pub line : is_one_line (take n bytes) ≡ true
  pub feed : get_or bytes n 0 ≡ 10

-- what follows steps that the limit ends
abbrev pub limit_for_end : Tail → Tail
limit_for_end LogEnd = Limit
limit_for_end Malformed = Malformed
limit_for_end Limit = Limit

-- steps that the limit ends, and what follows them
abbrev pub at_limit : List LogStep × Tail → List LogStep × Tail
at_limit log = (log.0, limit_for_end log.1)

-- the steps of bytes that are cut at the limit, or of all bytes: behind the last line feed of bytes that are cut the limit comes
abbrev pub read_part : Bool → List ℕ → List LogStep × Tail
read_part cut bytes = if cut then at_limit (read_lines (whole_lines bytes).0 []) else read_log bytes

-- the steps of a log's bytes, and what follows them: the limit, where there are 2^40 bytes or more
abbrev pub read_to_limit : List ℕ → List LogStep × Tail
read_to_limit bytes = read_part (nat_le (2 ^ 40) (length bytes)) (take (2 ^ 40) bytes)

-- the same of bytes that are at hand and those behind them, of which there is room for some
abbrev pub log_left : ℕ → List ℕ → List ℕ → List LogStep × Tail
log_left room hand rest = read_part (nat_le room (length rest)) (hand ++ take room rest)

-- the bytes of a file from a place on
abbrev pub bytes_from : List ℕ → ℕ → List File → List ℕ
bytes_from name place files = drop place (unwrap_or (file_of files name) [])

-- the bytes at hand in a piece of which the front is filled
abbrev pub hand_in : List ℕ → ℕ → ℕ → List ℕ
hand_in piece at filled = drop at (take filled piece)

-- the log that a reader has left, by its name, the bytes at hand and the count of bytes taken
abbrev pub reader_log : List ℕ → List ℕ → ℕ → List File → List LogStep × Tail
reader_log name hand taken files = log_left (2 ^ 40 - taken) hand (bytes_from name taken files)

-- what a reader has ahead, where the shelf tells its files
abbrev pub reader_ahead : List ℕ → List ℕ → ℕ → ℕ → Option (List File) → Option Ahead
reader_ahead name hand taken line files = option_map (λ fs. ahead_of line (reader_log name hand taken fs)) files

-- the steps of the log of this name and what follows them, where the shelf tells its files
abbrev pub log_told : List ℕ → Option (List File) → Option Ahead
log_told name files = option_map (λ fs. ahead_of 1 (read_to_limit (bytes_from name 0 fs))) files

-- a reader gives nothing more: it failed, or a file is begun on its shelf
abbrev pub has_failed : Bool → Option (List ℕ) → Bool
has_failed failed begun = failed || is_some begun

-- so many of the bytes left came to the front of a piece, and no byte only where none are left
pub record PieceComes (rest piece : List ℕ) (filled : ℕ) : Type 0 where
  pub front : take filled piece ≡ take filled rest
  pub within : filled ≤ length rest
  pub none : filled ≡ 0 → length rest ≡ 0

-- the count of faults does not fall; a fault comes only where it rose, and it rises only where a fault comes; neither a bad line nor the limit is answered
pub record HasPieceCause {T : Type 0} (before now : ℕ) (result : Result T StepRefused) : Type 0 where
  pub later : before ≤ now
  pub failed : IsErrOf result refused.TheVariants.ShelfFault → Rose before now
  pub rises : before < now → IsErrOf result refused.TheVariants.ShelfFault
  pub short : IsErrOf result refused.TheVariants.TooLong → ⊥
  pub well_formed : (line : ℕ) → IsErrOf result (refused.TheVariants.Malformed line) → ⊥
