use Rattle.std.proofs.Common.{◌∙◌, ◌≤◌, refl, sym, ap, arith}
use Rattle.las_base.specs.Cells.{volume, holds, index}
use Rattle.cnf_base.specs.Literals.{values_of}
use Rattle.cnf_decode.specs.Building.{sheet_by}
use Rattle.grid_box.proofs.PutLemmas.{no_sheets, sheet_put, no_sheet_put, sheets_put}
use Rattle.cnf_decode.proofs.decoding.lay_sheets_along.Goals as goal
use Rattle.cnf_decode.proofs.decoding.lay_sheets_along.Goals.{then-sheet_value, else-sheet_value}

pub loop-number-init : goal.loop-number-init
loop-number-init c = record {
  sheets = no_sheets c.args.layout.now.size c.args.flow c.args.axes.0 c.args.axes.1 (sheet_by (values_of c.args.values.now) c.args.layout.now.size c.args.flow c.args.axes.0 c.args.axes.1) c.args.sheets.now;
  size = c.requires.same;
  count = refl;
  kept = c.requires.kept;
}

pub loop-number-preserved : goal.loop-number-preserved
loop-number-preserved c =
    let size = c.size-size.ensures.size in
    let held = sym (ap (λ s. holds s c.cell-cell.result) size) ∙ c.cell-cell.ensures.held in
    let at = sym (ap (λ s. index s c.cell-cell.result) size) ∙ c.cell-cell.ensures.inverse in
    elim c.if-sheet_value.branch [
      | then-sheet_value w ↦ rw w.sheets-is (record {
        sheets = sheet_put c.args.layout.now.size c.args.flow c.args.axes.0 c.args.axes.1 (sheet_by (values_of c.args.values.now) c.args.layout.now.size c.args.flow c.args.axes.0 c.args.axes.1) c.loop-number.number c.cell-cell.result c.args.sheets.now c.loop-number.sheets w.put.new.self (sym c.sheet_value.ensures ∙ w.if-sheet_value.true) held at c.loop-number.invariant.sheets w.put.ensures.sheet;
        size = w.put.ensures.size ∙ c.loop-number.invariant.size;
        count = w.put.ensures.count ∙ c.loop-number.invariant.count;
        kept = w.put.ensures.kept;
      })
      | else-sheet_value w ↦ rw w.sheets-is (record {
        sheets = no_sheet_put c.args.layout.now.size c.args.flow c.args.axes.0 c.args.axes.1 (sheet_by (values_of c.args.values.now) c.args.layout.now.size c.args.flow c.args.axes.0 c.args.axes.1) c.loop-number.number c.cell-cell.result c.args.sheets.now c.loop-number.sheets (sym c.sheet_value.ensures ∙ w.if-sheet_value.false) held at c.loop-number.invariant.sheets;
        size = c.loop-number.invariant.size;
        count = c.loop-number.invariant.count;
        kept = c.loop-number.invariant.kept;
      })
    ]

pub returns-clause-sheets : goal.returns-clause-sheets
returns-clause-sheets c =
    let end : volume c.args.layout.now.size ≤ c.loop-number.number = rw (sym c.size-size.ensures.size) (omega (arith, c.loop-number-test.false, c.volume-number-end.ensures)) in
    sheets_put c.args.layout.now.size c.args.flow c.args.axes.0 c.args.axes.1 (sheet_by (values_of c.args.values.now) c.args.layout.now.size c.args.flow c.args.axes.0 c.args.axes.1) c.loop-number.number c.args.sheets.now c.loop-number.sheets end c.loop-number.invariant.sheets
