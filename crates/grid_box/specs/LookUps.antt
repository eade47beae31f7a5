-- Drawings by their look-ups: which kinds the pipe at each place has, and which cells are Y cells.
use Rattle.std.specs.Prelude.{◌≡◌, ◌&&◌, not, Bool, ◌||◌, List, Option, Some, None, if◌then◌else◌, true}
use Rattle.std.specs.List.{filter, filter_map, flat_map}
use Rattle.std.specs.Option.{option_map}
use Rattle.las_base.specs.declared.Axis.{Axis}
use Rattle.las_base.specs.declared.Axis.TheVariants.{K}
use Rattle.las_base.specs.declared.Kind.{Kind}
use Rattle.las_base.specs.declared.Cell.{Cell}
use Rattle.las_base.specs.declared.Size.{Size}
use Rattle.las_base.specs.Axes.{axes, same_axis, same_kind}
use Rattle.las_base.specs.Cells.{cells, holds, same_cell}
use Rattle.grid_box.specs.Drawings.{Pipe, Drawing, IsDrawing, drawing_of, is_pipe_at, pipe_at, is_y}

-- the pipe with these kinds, where there are any
abbrev pub pipe_of : Axis → Cell → Option (Kind × Kind) → Option Pipe
pipe_of a c kinds = option_map (λ k. record { axis = a; cell = c; low = k.0; high = k.1 }) kinds

-- the pipes along an axis that a look-up of kinds gives, at the cells of a list
abbrev pub pipes_along : Axis → (Cell → Option (Kind × Kind)) → List Cell → List Pipe
pipes_along a kinds cs = filter_map (λ c. pipe_of a c (kinds c)) cs

-- the drawing that look-ups of kinds and of Y cells give
abbrev pub drawing_by : Size → (Axis → Cell → Option (Kind × Kind)) → (Cell → Bool) → Drawing
drawing_by s kinds y = drawing_of s (flat_map (λ a. pipes_along a (kinds a) (cells s)) axes) (filter y (cells s))

-- an I pipe or a J pipe has one kind
abbrev pub kinds_are_lawful : Axis → Option (Kind × Kind) → Bool
kinds_are_lawful a None = true
kinds_are_lawful a (Some k) = same_axis a K || same_kind k.0 k.1

-- the new drawing has this pipe, and every other pipe of the old one, and no other
abbrev pub PutsPipe : Drawing → Drawing → Pipe → Type 0
PutsPipe old new p =
    (a : Axis) (c : Cell) → pipe_at new a c ≡ (if is_pipe_at a c p then Some p else pipe_at old a c)

-- the new drawing has the pipe that is made along the axis at each cell of the box that passes, and elsewhere what the old one has
abbrev pub PutsPipes : Size → Axis → (Cell → Bool) → (Cell → Pipe) → Drawing → Drawing → Type 0
PutsPipes s axis exist made old new =
    (a : Axis) (c : Cell) → pipe_at new a c ≡ (if same_axis axis a && (holds s c && exist c) then Some (made c) else pipe_at old a c)

-- the new drawing has no pipe along the axis with this low cell, and every other pipe of the old one
abbrev pub DropsPipe : Drawing → Drawing → Axis → Cell → Type 0
DropsPipe old new axis cell =
    (a : Axis) (c : Cell) → pipe_at new a c ≡ (if same_axis axis a && same_cell cell c then None else pipe_at old a c)

-- the new drawing has a Y cube at this cell, and at every other cell where the old one has one, and at no other
abbrev pub PutsY : Drawing → Drawing → Cell → Type 0
PutsY old new y = (c : Cell) → is_y new c ≡ (same_cell c y || is_y old c)

-- the new drawing has a Y cube at each cell of the box that passes, and elsewhere where the old one has one
abbrev pub PutsYCells : Size → (Cell → Bool) → Drawing → Drawing → Type 0
PutsYCells s test old new = (c : Cell) → is_y new c ≡ ((holds s c && test c) || is_y old c)

-- the new drawing has no Y cube at this cell, and at every other cell where the old one has one
abbrev pub DropsY : Drawing → Drawing → Cell → Type 0
DropsY old new y = (c : Cell) → is_y new c ≡ (not (same_cell c y) && is_y old c)

-- a drawing of the box that has the pipe that is made at each place that passes, a Y cube at each cell that passes, and no more
pub record IsBuilt (exist : Axis → Cell → Bool) (made : Axis → Cell → Pipe) (y : Cell → Bool) (s : Size) (d : Drawing) : Type 0 where
  pub drawn : IsDrawing d
  pub size : d.size ≡ s
  pub pipes : (a : Axis) (c : Cell) → pipe_at d a c ≡ (if holds s c && exist a c then Some (made a c) else None)
  pub y_cells : (c : Cell) → is_y d c ≡ (holds s c && y c)

-- a drawing's look-ups tell the drawing
abbrev pub LookUpsTell : Type 0
LookUpsTell = (d e : Drawing) → IsDrawing d → IsDrawing e → d.size ≡ e.size → ((a : Axis) (c : Cell) → pipe_at d a c ≡ pipe_at e a c) → ((c : Cell) → is_y d c ≡ is_y e c) → d ≡ e
