use Rattle.std.proofs.Common.{◌∙◌, ◌<◌, ◌≤◌, refl, sym, ap, arith}
use Rattle.las_base.specs.Cells.{volume}
use Rattle.las_base.proofs.Indices.{cell_at, cell_at_held, index-cell_at}
use Rattle.grid_box.proofs.PutLemmas.{no_y, y_put, no_y_put, ys_put}
use Rattle.lasre_codec.specs.Entries.{is_one_at, is_one_of}
use Rattle.lasre_codec.proofs.build.put_y_cells.Goals as goal
use Rattle.lasre_codec.proofs.build.put_y_cells.Goals.{then-is_one_at, else-is_one_at}

pub loop-number-init : goal.loop-number-init
loop-number-init c = record {
  y_cells = no_y c.args.size (is_one_of c.args.size c.args.entries.now) c.args.diagram.now;
  pipes = refl;
  size = c.requires.same;
  drawn = c.requires.drawn;
}

pub loop-number-preserved : goal.loop-number-preserved
loop-number-preserved c =
    let s = c.args.size in
    let n = c.loop-number.number in
    let test = is_one_of s c.args.entries.now in
    elim c.if-is_one_at.branch [
      | then-is_one_at w ↦ rw w.diagram-is (record {
        y_cells = y_put s test n w.cell.result c.args.diagram.now c.loop-number.diagram w.put_y.new.self (ap (is_one_at c.args.entries.now) w.cell.ensures.inverse ∙ sym c.is_one_at.ensures ∙ w.if-is_one_at.true) w.cell.ensures.held w.cell.ensures.inverse c.loop-number.invariant.y_cells w.put_y.ensures.y_cells;
        pipes = w.put_y.ensures.pipes ∙ c.loop-number.invariant.pipes;
        size = w.put_y.ensures.size ∙ c.loop-number.invariant.size;
        drawn = w.put_y.ensures.drawn;
      })
      | else-is_one_at w ↦ rw w.diagram-is (
          let low : n < volume s = omega (arith, c.loop-number-test.true, c.volume-number-end.ensures) in
          record {
            y_cells = no_y_put s test n (cell_at s n) c.args.diagram.now c.loop-number.diagram (ap (is_one_at c.args.entries.now) (index-cell_at s n) ∙ sym c.is_one_at.ensures ∙ w.if-is_one_at.false) (cell_at_held s n low) (index-cell_at s n) c.loop-number.invariant.y_cells;
            pipes = c.loop-number.invariant.pipes;
            size = c.loop-number.invariant.size;
            drawn = c.loop-number.invariant.drawn;
          })
    ]

pub returns-clause-y_cells : goal.returns-clause-y_cells
returns-clause-y_cells c =
    let end : volume c.args.size ≤ c.loop-number.number = omega (arith, c.loop-number-test.false, c.volume-number-end.ensures) in
    ys_put c.args.size (is_one_of c.args.size c.args.entries.now) c.loop-number.number c.args.diagram.now c.loop-number.diagram end c.loop-number.invariant.y_cells
