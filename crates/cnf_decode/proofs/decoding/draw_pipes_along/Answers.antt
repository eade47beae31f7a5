use Rattle.std.proofs.Common.{◌∙◌, ◌≤◌, refl, sym, ap, arith}
use Rattle.las_base.specs.Cells.{volume, holds, index}
use Rattle.cnf_base.specs.Literals.{values_of}
use Rattle.cnf_table.specs.Variables.{diagram_var}
use Rattle.cnf_decode.specs.Building.{exists_by, pipe_by}
use Rattle.grid_box.proofs.PutLemmas.{no_pipes, pipe_put, no_pipe_put, pipes_put}
use Rattle.cnf_decode.proofs.decoding.draw_pipes_along.Goals as goal
use Rattle.cnf_decode.proofs.decoding.draw_pipes_along.Goals.{then-value, else-value}

pub loop-number-init : goal.loop-number-init
loop-number-init c = record {
  pipes = no_pipes c.args.layout.now.size c.args.axis (exists_by (values_of c.args.values.now) c.args.layout.now.size c.args.axis) (pipe_by (values_of c.args.values.now) c.args.layout.now.size c.args.axis) c.args.diagram.now;
  y_cells = refl;
  size = c.requires.same;
  drawn = c.requires.drawn;
}

pub loop-number-preserved : goal.loop-number-preserved
loop-number-preserved c =
    let size = c.size-size.ensures.size in
    let held = sym (ap (λ s. holds s c.cell-cell.result) size) ∙ c.cell-cell.ensures.held in
    let at = sym (ap (λ s. index s c.cell-cell.result) size) ∙ c.cell-cell.ensures.inverse in
    let told = ap (λ m. values_of c.args.values.now (diagram_var c.args.layout.now.size m c.cell-cell.result)) (sym c.exist_member.ensures.value) ∙ sym c.value.ensures in
    elim c.if-value.branch [
      | then-value w ↦ rw w.diagram-is (record {
        pipes = pipe_put c.args.layout.now.size c.args.axis (exists_by (values_of c.args.values.now) c.args.layout.now.size c.args.axis) (pipe_by (values_of c.args.values.now) c.args.layout.now.size c.args.axis) c.loop-number.number c.cell-cell.result c.args.diagram.now c.loop-number.diagram w.draw_pipe_at.new.diagram (told ∙ w.if-value.true) held at c.loop-number.invariant.pipes w.draw_pipe_at.ensures.pipe;
        y_cells = w.draw_pipe_at.ensures.y_cells ∙ c.loop-number.invariant.y_cells;
        size = w.draw_pipe_at.ensures.size;
        drawn = w.draw_pipe_at.ensures.drawn;
      })
      | else-value w ↦ rw w.diagram-is (record {
        pipes = no_pipe_put c.args.layout.now.size c.args.axis (exists_by (values_of c.args.values.now) c.args.layout.now.size c.args.axis) (pipe_by (values_of c.args.values.now) c.args.layout.now.size c.args.axis) c.loop-number.number c.cell-cell.result c.args.diagram.now c.loop-number.diagram (told ∙ w.if-value.false) held at c.loop-number.invariant.pipes;
        y_cells = c.loop-number.invariant.y_cells;
        size = c.loop-number.invariant.size;
        drawn = c.loop-number.invariant.drawn;
      })
    ]

pub returns-clause-pipes : goal.returns-clause-pipes
returns-clause-pipes c =
    let end : volume c.args.layout.now.size ≤ c.loop-number.number = rw (sym c.size-size.ensures.size) (omega (arith, c.loop-number-test.false, c.volume-number-end.ensures)) in
    pipes_put c.args.layout.now.size c.args.axis (exists_by (values_of c.args.values.now) c.args.layout.now.size c.args.axis) (pipe_by (values_of c.args.values.now) c.args.layout.now.size c.args.axis) c.loop-number.number c.args.diagram.now c.loop-number.diagram end c.loop-number.invariant.pipes
