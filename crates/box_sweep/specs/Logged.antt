-- The words of boxes beside their logs on a shelf.
use Rattle.std.specs.Prelude.{◌≡◌, ℕ, List, [], Option, Some, IfSome, IsSomeAnd, option_map}
use Rattle.las_base.specs.Jobs.{Task}
use Rattle.las_io.specs.Shelves.{File, Told, file_of}
use Rattle.grid_box.specs.Drawings.{Drawing}
use Rattle.cnf_base.specs.Logs.{LogStep, LogEnd}
use Rattle.cnf_base.specs.Literals.{Cnf}
use Rattle.sat_core.specs.Outcomes.{IsOutcome}
use Rattle.sat_core.specs.declared.outcome.Outcome.{Outcome}
use Rattle.clause_log.specs.LogText.{read_log}
use Rattle.clause_log.specs.LogFiles.{begun_file}
use Rattle.box_sweep.specs.Lines.{log_name}
use Rattle.box_sweep.specs.Verdicts.{BoxWord, IsTrueWord}

-- the file of this name is there, and it is the log of these steps
abbrev pub HasLog : List ℕ → List LogStep → List File → Type 0
HasLog name steps files = option_map read_log (file_of files name) ≡ Some (steps, LogEnd)

-- the word is true beside some steps. Where the shelf tells its files, they are those of the log of the job's box
pub record IsTrueBox (Solved : Task → Drawing → Type 0) (t : Task) (budget : ℕ) (word : BoxWord) (files files' : Option (List File)) : Type 0 where
  pub steps : List LogStep
  pub logged : Told (λ _ fs. HasLog (log_name t.size) steps fs) files files'
  pub is_true : IsTrueWord Solved t budget word steps

-- an outcome is true of the formula and of some steps. Where the shelf tells its files, they are those of the file of this name
pub record IsLogged (f : Cnf) (budget : ℕ) (outcome : Outcome) (name : List ℕ) (files files' : Option (List File)) : Type 0 where
  pub steps : List LogStep
  pub logged : Told (λ _ fs. HasLog name steps fs) files files'
  pub is_true : IsOutcome f budget steps outcome

-- where the shelf told its files at the start, it tells them now, and the begun one is there, empty
abbrev pub IsEmpty : Option (List ℕ) → (start now : Option (List File)) → Type 0
IsEmpty begun start now = IfSome start (λ _. IsSomeAnd now (λ fs. begun_file begun fs ≡ Some []))
