use Rattle.std.proofs.Common.{◌∙◌, ◌<◌, ◌≤◌, refl, sym, ap, subst, arith}
use Rattle.las_base.specs.Cells.{volume}
use Rattle.las_base.proofs.Indices.{cell_at, cell_at_held, index-cell_at}
use Rattle.grid_box.specs.LookUps.{PutsPipe}
use Rattle.grid_box.proofs.PutLemmas.{no_pipes, pipe_put, no_pipe_put, pipes_put}
use Rattle.lasre_codec.specs.Entries.{is_one_at, is_one_of}
use Rattle.lasre_codec.specs.Puts.{pipe_marked}
use Rattle.lasre_codec.proofs.MarkLemmas.{pipe_is}
use Rattle.lasre_codec.proofs.build.put_pipes.Goals as goal
use Rattle.lasre_codec.proofs.build.put_pipes.Goals.{then-is_one_at, else-is_one_at}

pub loop-number-init : goal.loop-number-init
loop-number-init c = record {
  pipes = no_pipes c.args.size c.args.axis (is_one_of c.args.size c.args.exist.now) (pipe_marked c.args.size c.args.axis c.args.low.now c.args.high.now) c.args.diagram.now;
  y_cells = refl;
  size = c.requires.same;
  drawn = c.requires.drawn;
}

pub loop-number-preserved : goal.loop-number-preserved
loop-number-preserved c =
    let s = c.args.size in
    let n = c.loop-number.number in
    let exist = is_one_of s c.args.exist.now in
    let made = pipe_marked s c.args.axis c.args.low.now c.args.high.now in
    elim c.if-is_one_at.branch [
      | then-is_one_at w ↦ rw w.diagram-is (
          let one = ap (is_one_at c.args.exist.now) w.cell.ensures.inverse ∙ sym c.is_one_at.ensures ∙ w.if-is_one_at.true in
          let pipe = pipe_is s n w.cell.result w.cell.ensures.held w.cell.ensures.inverse c.args.axis c.args.low.now c.args.high.now w.kind_at-low_kind.result w.kind_at-high_kind.result w.kind_at-low_kind.ensures w.kind_at-high_kind.ensures in
          record {
            pipes = pipe_put s c.args.axis exist made n w.cell.result c.args.diagram.now c.loop-number.diagram w.put_pipe.new.self one w.cell.ensures.held w.cell.ensures.inverse c.loop-number.invariant.pipes (subst (PutsPipe c.loop-number.diagram w.put_pipe.new.self) pipe w.put_pipe.ensures.pipes);
            y_cells = w.put_pipe.ensures.y_cells ∙ c.loop-number.invariant.y_cells;
            size = w.put_pipe.ensures.size ∙ c.loop-number.invariant.size;
            drawn = w.put_pipe.ensures.drawn;
          })
      | else-is_one_at w ↦ rw w.diagram-is (
          let low : n < volume s = omega (arith, c.loop-number-test.true, c.volume-number-end.ensures) in
          let none = ap (is_one_at c.args.exist.now) (index-cell_at s n) ∙ sym c.is_one_at.ensures ∙ w.if-is_one_at.false in
          record {
            pipes = no_pipe_put s c.args.axis exist made n (cell_at s n) c.args.diagram.now c.loop-number.diagram none (cell_at_held s n low) (index-cell_at s n) c.loop-number.invariant.pipes;
            y_cells = c.loop-number.invariant.y_cells;
            size = c.loop-number.invariant.size;
            drawn = c.loop-number.invariant.drawn;
          })
    ]

pub returns-clause-pipes : goal.returns-clause-pipes
returns-clause-pipes c =
    let end : volume c.args.size ≤ c.loop-number.number = omega (arith, c.loop-number-test.false, c.volume-number-end.ensures) in
    pipes_put c.args.size c.args.axis (is_one_of c.args.size c.args.exist.now) (pipe_marked c.args.size c.args.axis c.args.low.now c.args.high.now) c.loop-number.number c.args.diagram.now c.loop-number.diagram end c.loop-number.invariant.pipes
