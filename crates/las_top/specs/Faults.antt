-- What the counts of faults tell of a run's status: each fault is told as its own.
use Rattle.std.specs.Prelude.{◌≡◌, ℕ, ◌<◌}
use Rattle.las_top.specs.declared.run.Status.{Status}
use Rattle.las_top.specs.declared.run.Status.TheVariants.{ReadFault, WriteFault, ShelfFault}

-- how often the source, the two sinks and the shelf of a run have failed
pub record Faults : Type 0 where
  pub source : ℕ
  pub out : ℕ
  pub err : ℕ
  pub shelf : ℕ

-- these counts of faults
abbrev pub faults_of : (source out err shelf : ℕ) → Faults
faults_of source out err shelf = record { source = source; out = out; err = err; shelf = shelf }

-- a count that rose is told by the status: that of the source by 5, that of a sink by 6, that of the shelf by 7; and of the two sinks one at most rose
pub record AreTold (before after : Faults) (status : Status) : Type 0 where
  pub of_source : before.source < after.source → status ≡ ReadFault
  pub of_out : before.out < after.out → status ≡ WriteFault
  pub of_err : before.err < after.err → status ≡ WriteFault
  pub of_shelf : before.shelf < after.shelf → status ≡ ShelfFault
  pub one_sink : before.out < after.out → before.err < after.err → ⊥

-- the status is that of no fault: it is that of an answer, or 9, for want of memory
abbrev pub IsNoFault : Status → Type 0
IsNoFault ReadFault = ⊥
IsNoFault WriteFault = ⊥
IsNoFault ShelfFault = ⊥
IsNoFault _ = Unit {0}

-- no count rose
pub record NoneRose (before after : Faults) : Type 0 where
  pub of_source : before.source < after.source → ⊥
  pub of_out : before.out < after.out → ⊥
  pub of_err : before.err < after.err → ⊥
  pub of_shelf : before.shelf < after.shelf → ⊥
