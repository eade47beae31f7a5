-- A command as the code has it, and what it asks for.
use Rattle.std.specs.Prelude.{◌≤◌, IsTrue}
use Rattle.las_io.specs.Names.{is_lawful_name}
use Rattle.las_words.specs.declared.command.Command.{Command}
use Rattle.las_words.specs.declared.command.Command.TheVariants.{Sweep, Bench}
use Rattle.las_top.specs.declared.run.Asking.{Asking}
use Rattle.las_top.specs.declared.run.Asking.TheVariants as asking
use Rattle.las_top.specs.Runs.{Asked}

-- what a command asks for
abbrev pub command_as : Asking → Asked
command_as asking.Check = Asked.Check
command_as asking.Spec = Asked.Spec
command_as asking.Zx = Asked.Zx
command_as (asking.Audit name) = Asked.Audit name.now
command_as (asking.Verify size) = Asked.Verify size

-- the name that is asked for is lawful
abbrev pub IsLawful : Asked → Type 0
IsLawful (Asked.Audit name) = IsTrue (is_lawful_name name)
IsLawful _ = Unit {0}

-- the numbers of a command are within their bounds, and its name is lawful
abbrev pub IsInBounds : Command → Type 0
IsInBounds (Sweep budget) = (1 ≤ budget) × (budget ≤ 10000000)
IsInBounds (Bench n) = (2 ≤ n) × (n ≤ 24)
IsInBounds _ = Unit {0}
