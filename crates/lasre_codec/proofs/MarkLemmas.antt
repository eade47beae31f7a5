-- What the entry with the number of a cell says of it.
use Rattle.std.proofs.Common.{◌≡◌, ℕ, true, ◌∙◌, List, refl, ap}
use Rattle.json_shape.specs.declared.grid.Entry.{Entry}
use Rattle.las_base.specs.declared.Axis.{Axis}
use Rattle.las_base.specs.declared.Kind.{Kind}
use Rattle.las_base.specs.declared.Cell.{Cell}
use Rattle.las_base.specs.declared.Size.{Size}
use Rattle.las_base.specs.Axes.{kind_by}
use Rattle.las_base.specs.Cells.{holds, index}
use Rattle.grid_box.specs.Drawings.{Pipe}
use Rattle.lasre_codec.specs.Entries.{is_one_at, marks}
use Rattle.lasre_codec.specs.Puts.{pipe_marked}

module _ (s : Size) (n : ℕ) (cell : Cell) (held : holds s cell ≡ true) (at : index s cell ≡ n) where
  mark_is : (es : List Entry) → is_one_at es n ≡ marks s es cell
  mark_is es = rw (held, at) refl

  -- the pipe with these kinds
  pub pipe_is : (axis : Axis) (low high : List Entry) (low_kind high_kind : Kind) → low_kind ≡ kind_by (is_one_at low n) → high_kind ≡ kind_by (is_one_at high n) → record { axis = axis; cell = cell; low = low_kind; high = high_kind } ≡ pipe_marked s axis low high cell
  pipe_is axis low high low_kind high_kind low_is high_is =
      let with_kinds : Kind → Kind → Pipe = λ k l. record { axis = axis; cell = cell; low = k; high = l } in
      ap (λ k. with_kinds k high_kind) (low_is ∙ ap kind_by (mark_is low)) ∙ ap (with_kinds (kind_by (marks s low cell))) (high_is ∙ ap kind_by (mark_is high))
