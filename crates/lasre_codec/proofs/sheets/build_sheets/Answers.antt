use Rattle.std.proofs.Common.{◌∙◌, ap, subst, length}
use Rattle.std.proofs.lemmas.List.{length-replicate}
use Rattle.grid_box.specs.Surfaces.{sheet_axes}
use Rattle.grid_box.proofs.PutLemmas.{no_flows, flow_put}
use Rattle.lasre_codec.specs.Kept.{entries_kept}
use Rattle.lasre_codec.specs.Puts.{PutsAxes}
use Rattle.lasre_codec.proofs.PutLemmas.{shows_of_axes, built_are_shown}
use Rattle.lasre_codec.proofs.sheets.build_sheets.Goals as goal

pub loop-flow-init : goal.loop-flow-init
loop-flow-init c =
    let empty = c.in_ok-sheets.ensures.empty in
    record {
      kept = c.in_ok-sheets.ensures.kept;
      size = ap (λ d. d.size) empty;
      count = ap (λ d. length d.flows) empty ∙ length-replicate c.args.flows _;
      sheets = no_flows (shows_of_axes (entries_kept c.args.grids.now) c.args.size) c.args.size c.args.flows c.in_ok-sheets.sheets empty;
    }

pub loop-flow-preserved : goal.loop-flow-preserved
loop-flow-preserved c =
    let es = entries_kept c.args.grids.now in
    let put = subst (λ x. PutsAxes es x c.loop-flow.flow sheet_axes c.loop-flow.sheets c.put_flow.new.sheets) c.loop-flow.invariant.size c.put_flow.ensures.sheets in
    record {
      kept = c.put_flow.ensures.kept;
      size = c.put_flow.ensures.size ∙ c.loop-flow.invariant.size;
      count = c.put_flow.ensures.count ∙ c.loop-flow.invariant.count;
      sheets = flow_put (shows_of_axes es c.args.size) c.loop-flow.flow c.loop-flow.sheets c.put_flow.new.sheets c.loop-flow.invariant.sheets put;
    }

pub returns-clause-shown : goal.returns-clause-shown
returns-clause-shown c = built_are_shown (entries_kept c.args.grids.now) c.args.size c.args.flows c.loop-flow.flow c.loop-flow.sheets c.requires.limits c.requires.count c.loop-flow-test.false c.loop-flow.auto.flow-end c.loop-flow.invariant
