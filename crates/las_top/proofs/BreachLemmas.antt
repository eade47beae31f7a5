-- The rules of pipes come before those of colours.
use Rattle.std.proofs.Common.{◌≡◌, Option, Some, None, refl, sym}
use Rattle.std.specs.Option.{option_or}
use Rattle.las_base.specs.declared.Cell.{Cell}
use Rattle.las_base.specs.Jobs.{Task}
use Rattle.grid_box.specs.declared.Broken.{Broken}
use Rattle.grid_box.specs.Drawings.{Drawing}
use Rattle.grid_box.specs.Breaches.{or_else, breach, pipe_breach, colour_breach}

six : (a b c d e f : Option Cell) (later : Option Broken) → option_or (or_else a 1 (or_else b 2 (or_else c 3 (or_else d 4 (or_else e 5 (or_else f 6 None)))))) later ≡ or_else a 1 (or_else b 2 (or_else c 3 (or_else d 4 (or_else e 5 (or_else f 6 later)))))
six (Some x) b c d e f later = refl
six None (Some x) c d e f later = refl
six None None (Some x) d e f later = refl
six None None None (Some x) e f later = refl
six None None None None (Some x) f later = refl
six None None None None None (Some x) later = refl
six None None None None None None later = refl

pub pipes_first : (t : Task) (d : Drawing) → breach t d ≡ option_or (pipe_breach t d) (colour_breach t d)
pipes_first t d = sym (six _ _ _ _ _ _ (colour_breach t d))
