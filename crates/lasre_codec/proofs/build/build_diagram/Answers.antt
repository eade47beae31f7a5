use Rattle.std.proofs.Common.{subst}
use Rattle.las_base.specs.declared.End.TheVariants.{Low, High}
use Rattle.grid_box.specs.LookUps.{PutsYCells}
use Rattle.grid_box.proofs.PutLemmas.{puts_build}
use Rattle.lasre_codec.specs.declared.member.Member.TheVariants.{NodeY}
use Rattle.lasre_codec.specs.Members.{pipes_along, colours_of}
use Rattle.lasre_codec.specs.Entries.{is_one_of}
use Rattle.lasre_codec.specs.Kept.{entries_kept}
use Rattle.lasre_codec.specs.Puts.{pipe_marked}
use Rattle.lasre_codec.proofs.BuildLemmas.{built_is_shown}
use Rattle.lasre_codec.proofs.build.build_diagram.Goals as goal

pub returns-clause-shown : goal.returns-clause-shown
returns-clause-shown c =
    let es = entries_kept c.args.grids.now in
    let s = c.args.size in
    let ys = subst (λ x. PutsYCells s (is_one_of s x) c.in_ok-diagram.diagram c.put_y_cells.new.diagram) c.entries_of.ensures c.put_y_cells.ensures.y_cells in
    let built = puts_build (λ a. is_one_of s (es (pipes_along a))) (λ a. pipe_marked s a (es (colours_of a Low)) (es (colours_of a High))) (is_one_of s (es NodeY)) s c.in_ok-diagram.diagram c.put_y_cells.new.diagram c.put_along.new.diagram c.put_along-2.new.diagram c.put_along-3.new.diagram c.in_ok-diagram.ensures.empty ys c.put_y_cells.ensures.pipes c.put_along.ensures.pipes c.put_along.ensures.y_cells c.put_along-2.ensures.pipes c.put_along-2.ensures.y_cells c.put_along-3.ensures.pipes c.put_along-3.ensures.y_cells c.put_along-3.ensures.size c.put_along-3.ensures.drawn in
    built_is_shown es s c.put_along-3.new.diagram c.requires built
