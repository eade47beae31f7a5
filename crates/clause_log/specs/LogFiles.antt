-- What a writer leaves in a file.
use Rattle.std.specs.Prelude.{◌≡◌, ℕ, ◌-◌, ◌^◌, Bool, true, false, ◌&&◌, ◌||◌, not, is_some, nat_lt, nat_le, nat_eq, List, [], ◌∷◌, ◌++◌, map, length, take, Option, Some, None, IfSome, unwrap_or, Result, Ok, Err, if◌then◌else◌}
use Rattle.std.specs.List.{list_all}
use Rattle.std.specs.Option.{option_and_then}
use Rattle.las_io.specs.Shelves.{File, AppendsPiece, OthersStay, Told, file_of}
use Rattle.las_io.specs.declared.traits.IoBad.{IoBad}
use Rattle.las_io.specs.declared.traits.IoBad.TheVariants as io
use Rattle.cnf_base.specs.Literals.{are_below}
use Rattle.cnf_base.specs.Logs.{LogStep, Add, Remove, Tail, LogEnd}
use Rattle.cnf_base.specs.declared.traits.LogBad.{LogBad}
use Rattle.cnf_base.specs.declared.traits.LogBad.TheVariants.{Fault, Memory}
use Rattle.clause_log.specs.LogText.{step_text, read_log}

-- an id that can stand in a line
abbrev pub is_id : ℕ → Bool
is_id n = nat_lt 0 n && nat_lt n (2 ^ 64)

-- a step that can stand in a line: its ids are no 0 and have 64 bits, and its variables' numbers from 1 have 31
abbrev pub is_writable : LogStep → Bool
is_writable (Add id lits hints) = is_id id && (are_below (2 ^ 31 - 1) lits && list_all is_id hints)
is_writable (Remove ids) = list_all is_id ids

-- a line: the number in front of a removal's `d`, and the step
abbrev pub Line : Type 0
Line = ℕ × LogStep

-- the lines, one after the other
abbrev pub log_text : List Line → List ℕ
log_text [] = []
log_text (line ∷ lines) = step_text line.0 line.1 ++ log_text lines

-- lines that can be read back
abbrev pub are_writable : List Line → Bool
are_writable lines = list_all (λ line. nat_lt line.0 (2 ^ 64) && is_writable line.1) lines

-- written lines are read back as their steps
abbrev pub LogsAreReadBack : Type 0
LogsAreReadBack = (lines : List Line) → are_writable lines ≡ true → read_log (log_text lines) ≡ (map (λ line. line.1) lines, LogEnd)

-- the bytes of the begun file, where it is there
abbrev pub begun_file : Option (List ℕ) → List File → Option (List ℕ)
begun_file begun files = file_of files (unwrap_or begun [])

-- the log was read to its end
abbrev pub is_end : Tail → Bool
is_end LogEnd = true
is_end _ = false

-- the log has so many steps, and no more where it is whole
abbrev pub has_steps : ℕ → Bool → List LogStep × Tail → Bool
has_steps count broken log = if broken then nat_le count (length log.0) else (nat_eq count (length log.0) && is_end log.1)

-- the steps of a file's first lines, so many: all of them where the log is whole
unfoldable pub steps_in : ℕ → Bool → List ℕ → Option (List LogStep)
steps_in count broken bytes = if has_steps count broken (read_log bytes) then Some (take count (read_log bytes).0) else None

-- a writer takes nothing more: it failed, or its file is not begun
abbrev pub is_broken : Bool → Option (List ℕ) → Bool
is_broken failed begun = failed || not (is_some begun)

-- the steps that a writer has taken, where its shelf tells the file and the file is there
abbrev pub steps_told : ℕ → Bool → Option (List ℕ) → Option (List File) → Option (List LogStep)
steps_told count broken begun files = option_and_then (λ fs. option_and_then (steps_in count broken) (begun_file begun fs)) files

-- the answer of a log as that of its shelf
abbrev pub as_io : Result (Unit {0}) LogBad → Result (Unit {0}) IoBad
as_io (Ok x) = Ok x
as_io (Err Fault) = Err io.Failed
as_io (Err Memory) = Err io.Memory

-- a line came to the end of the begun file; after a fault first bytes of it, and after want of memory nothing
abbrev pub Writes : Result (Unit {0}) LogBad → List ℕ → Option (List ℕ) → Option (List File) → Option (List File) → Type 0
Writes result text begun before after = IfSome begun (λ name. Told (AppendsPiece name text (as_io result)) before after)

-- all files but the begun one are as before
abbrev pub OthersAreLeft : Option (List ℕ) → Option (List File) → Option (List File) → Type 0
OthersAreLeft begun before after = IfSome begun (λ name. Told (OthersStay name) before after)
