use Rattle.std.proofs.Common.{◌∙◌, ◌≤◌, refl, sym, ap, arith}
use Rattle.las_base.specs.Cells.{volume, holds, index}
use Rattle.cnf_base.specs.Literals.{values_of}
use Rattle.cnf_decode.specs.Building.{y_by}
use Rattle.grid_box.proofs.PutLemmas.{no_y, y_put, no_y_put, ys_put}
use Rattle.cnf_decode.proofs.decoding.draw_y_cells.Goals as goal
use Rattle.cnf_decode.proofs.decoding.draw_y_cells.Goals.{then-value, else-value}

pub loop-number-init : goal.loop-number-init
loop-number-init c = record {
  y_cells = no_y c.args.layout.now.size (y_by (values_of c.args.values.now) c.args.layout.now.size) c.args.diagram.now;
  pipes = refl;
  size = c.requires.same;
  drawn = c.requires.drawn;
}

pub loop-number-preserved : goal.loop-number-preserved
loop-number-preserved c =
    let size = c.size-size.ensures.size in
    let held = sym (ap (λ s. holds s c.cell-cell.result) size) ∙ c.cell-cell.ensures.held in
    let at = sym (ap (λ s. index s c.cell-cell.result) size) ∙ c.cell-cell.ensures.inverse in
    elim c.if-value.branch [
      | then-value w ↦ rw w.diagram-is (record {
        y_cells = y_put c.args.layout.now.size (y_by (values_of c.args.values.now) c.args.layout.now.size) c.loop-number.number c.cell-cell.result c.args.diagram.now c.loop-number.diagram w.put_y.new.self (sym c.value.ensures ∙ w.if-value.true) held at c.loop-number.invariant.y_cells w.put_y.ensures.y_cells;
        pipes = w.put_y.ensures.pipes ∙ c.loop-number.invariant.pipes;
        size = w.put_y.ensures.size ∙ c.loop-number.invariant.size;
        drawn = w.put_y.ensures.drawn;
      })
      | else-value w ↦ rw w.diagram-is (record {
        y_cells = no_y_put c.args.layout.now.size (y_by (values_of c.args.values.now) c.args.layout.now.size) c.loop-number.number c.cell-cell.result c.args.diagram.now c.loop-number.diagram (sym c.value.ensures ∙ w.if-value.false) held at c.loop-number.invariant.y_cells;
        pipes = c.loop-number.invariant.pipes;
        size = c.loop-number.invariant.size;
        drawn = c.loop-number.invariant.drawn;
      })
    ]

pub returns-clause-y_cells : goal.returns-clause-y_cells
returns-clause-y_cells c =
    let end : volume c.args.layout.now.size ≤ c.loop-number.number = rw (sym c.size-size.ensures.size) (omega (arith, c.loop-number-test.false, c.volume-number-end.ensures)) in
    ys_put c.args.layout.now.size (y_by (values_of c.args.values.now) c.args.layout.now.size) c.loop-number.number c.args.diagram.now c.loop-number.diagram end c.loop-number.invariant.y_cells
