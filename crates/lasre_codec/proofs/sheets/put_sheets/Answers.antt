use Rattle.std.proofs.Common.{◌∙◌, ◌+◌, ◌*◌, ◌<◌, ◌≤◌, ◌&&◌, refl, sym, ap, subst, arith}
use Rattle.las_base.specs.Cells.{volume}
use Rattle.las_base.proofs.Indices.{cell_at, cell_at_held, index-cell_at}
use Rattle.grid_box.specs.Surfaces.{PutsSheets}
use Rattle.grid_box.proofs.PutLemmas.{no_sheets, sheet_put, no_sheet_put, sheets_put}
use Rattle.lasre_codec.specs.Entries.{is_one_at, flow_part}
use Rattle.lasre_codec.specs.Puts.{is_one_in_both}
use Rattle.lasre_codec.proofs.PutLemmas.{both_is}
use Rattle.lasre_codec.proofs.sheets.put_sheets.Goals as goal
use Rattle.lasre_codec.proofs.sheets.put_sheets.Goals.{then-shows_at, else-shows_at}

pub loop-number-init : goal.loop-number-init
loop-number-init c = record {
  sheets = no_sheets c.size-size.result c.args.flow c.args.axes.0 c.args.axes.1 (is_one_in_both c.size-size.result c.args.exist.now (flow_part c.size-size.result c.args.flow c.args.corr.now)) c.args.sheets.now;
  size = refl;
  count = refl;
  kept = c.requires.kept;
}

pub loop-number-preserved : goal.loop-number-preserved
loop-number-preserved c =
    let s = c.size-size.result in
    let n = c.loop-number.number in
    let exist = c.args.exist.now in
    let corr = c.args.corr.now in
    let flow = c.args.flow in
    let both = is_one_in_both s exist (flow_part s flow corr) in
    let told = ap (λ v. is_one_at exist n && is_one_at corr (flow * v + n)) (sym c.volume-volume.ensures) ∙ sym c.shows_at.ensures in
    elim c.if-shows_at.branch [
      | then-shows_at w ↦ rw w.sheets-is (record {
        sheets = sheet_put s flow c.args.axes.0 c.args.axes.1 both n w.cell.result c.args.sheets.now c.loop-number.sheets w.put.new.self (both_is s flow exist corr n w.cell.result w.cell.ensures.held w.cell.ensures.inverse ∙ told ∙ w.if-shows_at.true) w.cell.ensures.held w.cell.ensures.inverse c.loop-number.invariant.sheets w.put.ensures.sheet;
        size = w.put.ensures.size ∙ c.loop-number.invariant.size;
        count = w.put.ensures.count ∙ c.loop-number.invariant.count;
        kept = w.put.ensures.kept;
      })
      | else-shows_at w ↦ rw w.sheets-is (
          let low : n < volume s = omega (arith, c.loop-number-test.true, c.volume-volume.ensures) in
          record {
            sheets = no_sheet_put s flow c.args.axes.0 c.args.axes.1 both n (cell_at s n) c.args.sheets.now c.loop-number.sheets (both_is s flow exist corr n (cell_at s n) (cell_at_held s n low) (index-cell_at s n) ∙ told ∙ w.if-shows_at.false) (cell_at_held s n low) (index-cell_at s n) c.loop-number.invariant.sheets;
            size = c.loop-number.invariant.size;
            count = c.loop-number.invariant.count;
            kept = c.loop-number.invariant.kept;
          })
    ]

pub returns-clause-sheets : goal.returns-clause-sheets
returns-clause-sheets c =
    let s = c.size-size.result in
    let end : volume s ≤ c.loop-number.number = omega (arith, c.loop-number-test.false, c.volume-volume.ensures) in
    let put = sheets_put s c.args.flow c.args.axes.0 c.args.axes.1 (is_one_in_both s c.args.exist.now (flow_part s c.args.flow c.args.corr.now)) c.loop-number.number c.args.sheets.now c.loop-number.sheets end c.loop-number.invariant.sheets in
    subst (λ x. PutsSheets x c.args.flow c.args.axes.0 c.args.axes.1 (is_one_in_both x c.args.exist.now (flow_part x c.args.flow c.args.corr.now)) c.args.sheets.now c.loop-number.sheets) c.size-size.ensures.size put
