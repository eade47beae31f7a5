use Rattle.std.proofs.Common.{◌≡◌, true, not, cond, nat_eq, ◌&&◌, sym, ap, ◌∙◌, subst, arith}
use Rattle.std.proofs.lemmas.Bool.{and_from}
use Rattle.las_base.specs.Axes.{same_axis}
use Rattle.las_base.specs.Cells.{holds}
use Rattle.grid_box.specs.Sheets.{Sheet, same_sheet}
use Rattle.grid_box.specs.Surfaces.{has_sheet, sheets_of}
use Rattle.grid_box.proofs.SheetLemmas.{apart}
use Rattle.grid_box.proofs.SheetBitLemmas.{bit_below, flow_below, puts, kept_set, surfaces_kept}
use Rattle.grid_box.proofs.sheets.Sheets.put.Goals as goal

pub bit_number-number-requires-clause-flow : goal.bit_number-number-requires-clause-flow
bit_number-number-requires-clause-flow c =
    omega (arith, flow_below c.self.inside.size c.self.inside.flow_count c.self.inside.bits.items c.args.self.now c.args.flow c.self.view_is c.requires.flow, c.self.invariant.few)

pub index_mut-requires : goal.index_mut-requires
index_mut-requires c =
    let s = c.self.inside.size in
    let count = c.self.inside.flow_count in
    let low = flow_below s count c.self.inside.bits.items c.args.self.now c.args.flow c.self.view_is c.requires.flow in
    let held : holds s c.args.cell ≡ true = subst (λ d. holds d.size c.args.cell ≡ true) (sym c.self.view_is) c.requires.held in
    omega (arith, c.bit_number-number.ensures, c.self.invariant.bit_count, bit_below s c.args.flow count (record { axis = c.args.axis; cell = c.args.cell; span = c.args.span }) low held)

pub returns-clause-sheet : goal.returns-clause-sheet
returns-clause-sheet c f y =
    let s = c.self.inside.size in
    let count = c.self.inside.flow_count in
    let bits = c.self.inside.bits.items in
    let x : Sheet = record { axis = c.args.axis; cell = c.args.cell; span = c.args.span } in
    let low = flow_below s count bits c.args.self.now c.args.flow c.self.view_is c.requires.flow in
    let held : holds s c.args.cell ≡ true = subst (λ d. holds d.size c.args.cell ≡ true) (sym c.self.view_is) c.requires.held in
    let fit = and_from (holds s c.args.cell) (not (same_axis c.args.axis c.args.span)) held (apart c.args.axis c.args.span c.requires.span) in
    rw c.bit_number-number.ensures
    (puts s count bits c.args.flow x c.args.on c.self.invariant.bit_count low fit f y
    ∙ ap (λ d. cond (nat_eq f c.args.flow && same_sheet x y) c.args.on (has_sheet (sheets_of d f) y)) c.self.view_is)

pub returns-clause-kept : goal.returns-clause-kept
returns-clause-kept c = surfaces_kept _ _ _ (kept_set _ _ _ _ c.args.on c.self.invariant)
