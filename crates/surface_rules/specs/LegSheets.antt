-- The sheets of a leg's pipe, for a leg that stands at a cell.
use Rattle.std.specs.Prelude.{Bool, false, ◌&&◌, ◌||◌, not, List, map, Option}
use Rattle.std.specs.Option.{option_map_or}
use Rattle.las_base.specs.declared.Axis.{Axis}
use Rattle.las_base.specs.declared.Axis.TheVariants.{I, J}
use Rattle.las_base.specs.declared.Kind.{Kind}
use Rattle.las_base.specs.declared.Pauli.{Pauli}
use Rattle.las_base.specs.declared.Cell.{Cell}
use Rattle.las_base.specs.declared.End.{End}
use Rattle.las_base.specs.declared.Way.{Way}
use Rattle.las_base.specs.declared.Way.TheVariants.{Plus, Minus}
use Rattle.las_base.specs.Axes.{third_axis, has_part}
use Rattle.las_base.specs.Cells.{low_cell}
use Rattle.grid_box.specs.declared.Leg.{Leg}
use Rattle.grid_box.specs.Legs.{has_leg_along}
use Rattle.grid_box.specs.Sheets.{Sheet, agree, is_odd, all_or_none}
use Rattle.grid_box.specs.Surfaces.{has_sheet}

-- the way that a pipe goes from a cell at which this end of it stands
abbrev pub way_from : End → Way
way_from End.Low = Plus
way_from End.High = Minus

-- the low cell of the leg's pipe
abbrev pub leg_low_cell : Cell → Leg → Option Cell
leg_low_cell c l = low_cell c l.axis (way_from l.which)

-- the leg's pipe has the sheet that spans the axis
abbrev pub leg_spans : List Sheet → Cell → Leg → Axis → Bool
leg_spans ss c l b = option_map_or (λ x. has_sheet ss (record { axis = l.axis; cell = x; span = b })) (leg_low_cell c l) false

-- the sheets of the leg's pipe spell the letter
abbrev pub leg_spells : List Sheet → Cell → Axis → Pauli → Leg → Bool
leg_spells ss c z letter l = agree (leg_spans ss c l z) (has_part Kind.Z letter) && agree (leg_spans ss c l (third_axis l.axis z)) (has_part Kind.X letter)

-- the leg's pipe has both sheets that a pipe along K may have, or none
abbrev pub leg_matches : List Sheet → Cell → Leg → Bool
leg_matches ss c l = agree (leg_spans ss c l I) (leg_spans ss c l J)

-- whether each leg has the sheet that spans the axis
abbrev pub legs_spanning : List Sheet → Cell → Axis → List Leg → List Bool
legs_spanning ss c b ls = map (λ l. leg_spans ss c l b) ls

-- whether each leg has the sheet that does not span the axis
abbrev pub legs_beside : List Sheet → Cell → Axis → List Leg → List Bool
legs_beside ss c b ls = map (λ l. leg_spans ss c l (third_axis l.axis b)) ls

-- a leg is along the axis, or the sheets that span it are even in number and the others are in all legs or in none
abbrev pub legs_join : List Sheet → Cell → List Leg → Axis → Bool
legs_join ss c ls b = has_leg_along ls b || (not (is_odd (legs_spanning ss c b ls)) && all_or_none (legs_beside ss c b ls))
