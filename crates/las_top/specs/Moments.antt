-- A run at one moment: its source and its shelf themselves, and what its two sinks hold. What a source tells of itself is one record, and what a shelf tells is one: the ghost members of their traits.
use Rattle.std.specs.Prelude.{ℕ, List, Option}
-- what a source tells: the bytes left, where it tells them, how many it has given, and how often it has failed
pub use Rattle.las_io.specs.declared.traits.Source.{Ghosts as SourceTells}
-- what a shelf tells: its files, where it tells them, the name of the one that is begun, what a fetch of a name may find, how many bytes its fetches have given, and how often it has failed
pub use Rattle.las_io.specs.declared.traits.Shelf.{Ghosts as ShelfTells}

-- what standard output and standard error hold, where they tell it
pub record Sinks : Type 0 where
  pub out : Option (List ℕ)
  pub err : Option (List ℕ)

-- the source and the shelf themselves, and what the sinks hold
pub record Moment (S H : Type 0) : Type 0 where
  pub source : S
  pub shelf : H
  pub sinks : Sinks

-- sinks that hold this
abbrev pub sinks : Option (List ℕ) → Option (List ℕ) → Sinks
sinks out err = record { out = out; err = err }

-- the moment of this source, this shelf, and sinks that hold this
abbrev pub moment : {S H : Type 0} → S → H → Option (List ℕ) → Option (List ℕ) → Moment S H
moment source shelf out err = record { source = source; shelf = shelf; sinks = sinks out err }
