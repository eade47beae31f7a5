use Rattle.std.proofs.Common.{◌∙◌, subst, ap, get_or}
use Rattle.std.proofs.lemmas.Option.{slice_get-get_or}
use Rattle.las_base.specs.declared.Axis.TheVariants.{I}
use Rattle.grid_box.specs.Surfaces.{PutsSheets, sheet_axes}
use Rattle.lasre_codec.specs.Members.{pipes_along}
use Rattle.lasre_codec.specs.Entries.{flow_part}
use Rattle.lasre_codec.specs.Kept.{entries_kept}
use Rattle.lasre_codec.specs.Puts.{is_one_in_both}
use Rattle.lasre_codec.proofs.PutLemmas.{axes_put, spans_another}
use Rattle.lasre_codec.proofs.sheets.put_flow.Goals as goal

pub put_sheets-requires-clause-span : goal.put_sheets-requires-clause-span
put_sheets-requires-clause-span c = spans_another c.loop-axis.axis-index _ c.loop-axis-test.true

pub loop-axis-preserved : goal.loop-axis-preserved
loop-axis-preserved c =
    let p = get_or sheet_axes c.loop-axis.axis-index (I, I) in
    let old = c.loop-axis.sheets in
    let new = c.put_sheets.new.sheets in
    let s = c.args.sheets.now.size in
    let es = entries_kept c.args.grids.now in
    let by_size = subst (λ x. PutsSheets x c.args.flow p.0 p.1 (is_one_in_both x c.entries_of-exist.result.now (flow_part x c.args.flow c.entries_of-corr.result.now)) old new) c.loop-axis.invariant.size c.put_sheets.ensures.sheets in
    let by_exist = subst (λ x. PutsSheets s c.args.flow p.0 p.1 (is_one_in_both s x (flow_part s c.args.flow c.entries_of-corr.result.now)) old new) (c.entries_of-exist.ensures ∙ ap es c.pipes_along.ensures) by_size in
    let put = subst (λ x. PutsSheets s c.args.flow p.0 p.1 (is_one_in_both s (es (pipes_along p.0)) (flow_part s c.args.flow x)) old new) (c.entries_of-corr.ensures ∙ ap es c.sheets_along.ensures) by_exist in
    record {
      sheets = axes_put es s c.args.flow sheet_axes c.loop-axis.axis-index p c.args.sheets.now old new (slice_get-get_or sheet_axes c.loop-axis.axis-index (I, I) c.loop-axis-test.true) c.loop-axis.invariant.sheets put;
      size = c.put_sheets.ensures.size ∙ c.loop-axis.invariant.size;
      count = c.put_sheets.ensures.count ∙ c.loop-axis.invariant.count;
      kept = c.put_sheets.ensures.kept;
    }
