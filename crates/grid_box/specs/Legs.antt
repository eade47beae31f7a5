-- The legs of a cell.
use Rattle.std.specs.Prelude.{Bool, not, List, [], ◌∷◌, map, Option, if◌then◌else◌}
use Rattle.std.specs.List.{list_any, filter, filter_map}
use Rattle.std.specs.Option.{option_map, option_and_then}
use Rattle.las_base.specs.declared.Axis.{Axis}
use Rattle.las_base.specs.declared.Axis.TheVariants.{I, J, K}
use Rattle.las_base.specs.declared.Way.{Way}
use Rattle.las_base.specs.declared.Way.TheVariants.{Plus, Minus}
use Rattle.las_base.specs.declared.Kind.{Kind}
use Rattle.las_base.specs.declared.End.{End}
use Rattle.las_base.specs.declared.Cell.{Cell}
use Rattle.las_base.specs.Axes.{same_axis, other_kind, next_axis}
use Rattle.las_base.specs.Cells.{low_cell}
use Rattle.grid_box.specs.declared.Leg.{Leg}
use Rattle.grid_box.specs.Drawings.{Pipe, Drawing, pipe_at}

-- the kind of the faces of a leg normal to an axis that is not its own
abbrev pub kind_on : Leg → Axis → Kind
kind_on l b = if same_axis b (next_axis l.axis) then l.kind_next else other_kind l.kind_next

-- where a leg may stand at a cell: on an axis, up or down it
abbrev pub Position : Type 0
Position = Axis × Way

-- the six positions in their order
abbrev pub positions : List Position
positions = (I, Minus) ∷ (I, Plus) ∷ (J, Minus) ∷ (J, Plus) ∷ (K, Minus) ∷ (K, Plus) ∷ []

-- a pipe, with one of its ends
pub record PipeEnd : Type 0 where
  pub pipe : Pipe
  pub which : End

-- the end by which a pipe stands at a position, by its way
abbrev pub end_of_way : Way → End
end_of_way Plus = End.Low
end_of_way Minus = End.High

-- the pipe at a position of a cell, with its end there, if there is one
abbrev pub pipe_end_at : Drawing → Cell → Position → Option PipeEnd
pipe_end_at d c (a, w) =
    option_map (λ p. record { pipe = p; which = end_of_way w }) (option_and_then (pipe_at d a) (low_cell c a w))

-- the pipes that stand at a cell, each with its end there, in the order of positions
abbrev pub pipe_ends : Drawing → Cell → List PipeEnd
pipe_ends d c = filter_map (pipe_end_at d c) positions

-- the kind, at an end, of the faces normal to the axis after the pipe's
abbrev pub kind_at : Pipe → End → Kind
kind_at p End.Low = p.low
kind_at p End.High = p.high

-- the leg that a pipe's end is
abbrev pub leg_of : PipeEnd → Leg
leg_of s = record { axis = s.pipe.axis; which = s.which; kind_next = kind_at s.pipe s.which }

-- the legs of a cell, in the order of positions
abbrev pub legs : Drawing → Cell → List Leg
legs d c = map leg_of (pipe_ends d c)

-- the leg is along the axis
abbrev pub along : Axis → Leg → Bool
along a l = same_axis l.axis a

-- the kinds of the faces normal to an axis, of the legs that are not along it
abbrev pub kinds_on : Axis → List Leg → List Kind
kinds_on b ls = map (λ l. kind_on l b) (filter (λ l. not (along b l)) ls)

-- some leg is along the axis
abbrev pub has_leg_along : List Leg → Axis → Bool
has_leg_along ls a = list_any (along a) ls
