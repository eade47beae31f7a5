use Rattle.std.proofs.Common.{◌≡◌, ap, ◌∙◌, length, subst, arith}
use Rattle.std.proofs.lemmas.List.{length-replicate}
use Rattle.cnf_base.specs.Literals.{values_of}
use Rattle.cnf_decode.specs.Building.{AreDecoded, shows_sheet}
use Rattle.grid_box.proofs.PutLemmas.{no_flows, flow_put}
use Rattle.cnf_decode.proofs.decoding.build_sheets.Goals as goal

pub loop-flow-init : goal.loop-flow-init
loop-flow-init c =
    let empty = c.in_ok-sheets.ensures.empty in
    record {
      kept = c.in_ok-sheets.ensures.kept;
      size = ap (λ d. d.size) empty ∙ c.requires.same;
      count = ap (λ d. length d.flows) empty ∙ length-replicate c.args.flows _;
      sheets = no_flows (shows_sheet (values_of c.args.values.now) c.args.layout.now.size) c.args.size c.args.flows c.in_ok-sheets.sheets empty;
    }

pub loop-flow-preserved : goal.loop-flow-preserved
loop-flow-preserved c = record {
  kept = c.lay_flow_sheets.ensures.kept;
  size = c.lay_flow_sheets.ensures.size;
  count = c.lay_flow_sheets.ensures.count ∙ c.loop-flow.invariant.count;
  sheets = flow_put (shows_sheet (values_of c.args.values.now) c.args.layout.now.size) c.loop-flow.flow c.loop-flow.sheets c.lay_flow_sheets.new.sheets c.loop-flow.invariant.sheets c.lay_flow_sheets.ensures.sheets;
}

pub returns : goal.returns
returns c =
    let done : c.loop-flow.flow ≡ c.args.flows = omega (arith, c.loop-flow-test.false, c.loop-flow.auto.flow-end) in
    subst (λ n. AreDecoded (values_of c.args.values.now) c.args.layout.now.size c.args.flows n c.loop-flow.sheets) done c.loop-flow.invariant
