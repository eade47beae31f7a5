-- What is put into a diagram and into sheets, entry by entry.
use Rattle.std.specs.Prelude.{ℕ, ◌&&◌, List, Bool}
use Rattle.std.specs.List.{list_any}
use Rattle.json_shape.specs.declared.grid.Entry.{Entry}
use Rattle.las_base.specs.declared.Axis.{Axis}
use Rattle.las_base.specs.declared.End.TheVariants.{Low, High}
use Rattle.las_base.specs.declared.Cell.{Cell}
use Rattle.las_base.specs.declared.Size.{Size}
use Rattle.las_base.specs.Axes.{kind_by}
use Rattle.grid_box.specs.Drawings.{Pipe, Drawing}
use Rattle.grid_box.specs.LookUps.{PutsPipes}
use Rattle.grid_box.specs.Sheets.{Sheet}
use Rattle.grid_box.specs.Surfaces.{Surfaces, PutsFlow, is_along}
use Rattle.lasre_codec.specs.declared.member.Member.{Member}
use Rattle.lasre_codec.specs.Members.{pipes_along, colours_of}
use Rattle.lasre_codec.specs.Entries.{is_one_of, marks, shows_sheet}

-- the pipe along an axis at a cell, with its colours
abbrev pub pipe_marked : Size → Axis → List Entry → List Entry → Cell → Pipe
pipe_marked s a low high c = record { axis = a; cell = c; low = kind_by (marks s low c); high = kind_by (marks s high c) }

-- the new drawing has along the axis the pipes that the entries show, and elsewhere what the old one has
abbrev pub PutsAlong : (Member → List Entry) → Size → Axis → Drawing → Drawing → Type 0
PutsAlong es s axis old new = PutsPipes s axis (is_one_of s (es (pipes_along axis))) (pipe_marked s axis (es (colours_of axis Low)) (es (colours_of axis High))) old new

-- the entry of a cell is 1 in both lists
abbrev pub is_one_in_both : Size → List Entry → List Entry → Cell → Bool
is_one_in_both s exist part c = is_one_of s exist c && is_one_of s part c

-- the axes of the sheet are among these
abbrev pub is_among : List (Axis × Axis) → Sheet → Bool
is_among axes x = list_any (λ p. is_along p.0 p.1 x) axes

-- the new sheets have in this flow what the entries show of these axes, and else those of the old
abbrev pub PutsAxes : (Member → List Entry) → Size → ℕ → List (Axis × Axis) → Surfaces → Surfaces → Type 0
PutsAxes es s flow axes old new = PutsFlow flow (λ x. is_among axes x && shows_sheet es s flow x) old new
