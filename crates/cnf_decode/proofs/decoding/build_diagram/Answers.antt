use Rattle.std.proofs.Common.{[], ap, ◌∙◌}
use Rattle.grid_box.specs.Drawings.{drawing_of}
use Rattle.grid_box.proofs.PutLemmas.{puts_build}
use Rattle.cnf_base.specs.Literals.{values_of}
use Rattle.cnf_decode.specs.Building.{exists_by, pipe_by, y_by}
use Rattle.cnf_decode.proofs.decoding.build_diagram.Goals as goal

pub returns : goal.returns
returns c =
    puts_build (exists_by (values_of c.args.values.now) c.args.layout.now.size) (pipe_by (values_of c.args.values.now) c.args.layout.now.size) (y_by (values_of c.args.values.now) c.args.layout.now.size) c.args.layout.now.size c.in_ok-diagram.diagram c.draw_y_cells.new.diagram c.draw_pipes_along.new.diagram c.draw_pipes_along-2.new.diagram c.draw_pipes_along-3.new.diagram
    (c.in_ok-diagram.ensures.empty ∙ ap (λ s. drawing_of s [] []) c.requires.same) c.draw_y_cells.ensures.y_cells c.draw_y_cells.ensures.pipes c.draw_pipes_along.ensures.pipes c.draw_pipes_along.ensures.y_cells c.draw_pipes_along-2.ensures.pipes c.draw_pipes_along-2.ensures.y_cells c.draw_pipes_along-3.ensures.pipes c.draw_pipes_along-3.ensures.y_cells c.draw_pipes_along-3.ensures.size c.draw_pipes_along-3.ensures.drawn
