use Rattle.std.proofs.Common.{◌≡◌, ◌<◌, ◌&&◌, true, false, not, nat_lt, length, sym, ap, ◌∙◌, refl, arith, rules}
use Rattle.std.proofs.lemmas.Bool.{and_left, and_right, lt-ltb, le-ltb}
use Rattle.std.proofs.lemmas.List.{get_or_read}
use Rattle.las_base.specs.Axes.{same_axis}
use Rattle.las_base.specs.Cells.{holds}
use Rattle.grid_box.specs.Sheets.{Sheet}
use Rattle.grid_box.specs.SheetBits.{bit_number, sheet_bit}
use Rattle.grid_box.specs.Surfaces.{has_sheet, sheets_of}
use Rattle.grid_box.proofs.SheetLemmas.{fits}
use Rattle.grid_box.proofs.SheetBitLemmas.{bit_below, has_by}
use Rattle.grid_box.proofs.sheets.Sheets.has.Goals as goal
use Rattle.grid_box.proofs.sheets.Sheets.has.Goals.{else-flow-self-via-then-flow-self+then-ne+else-holds, else-flow-self-via-then-flow-self+else-ne, else-flow-self-via-else-flow-self}

pub index-requires : goal.index-requires
index-requires c =
    let h : holds c.self.inside.size c.args.cell ≡ true = search rules in
    omega (arith, c.bit_number.ensures, bit_below c.self.inside.size c.args.flow c.self.inside.flow_count (record { axis = c.args.axis; cell = c.args.cell; span = c.args.span }) c.if-flow-self.true h)

pub returns-then-holds : goal.returns-then-holds
returns-then-holds c =
    let s = c.self.inside.size in
    let count = c.self.inside.flow_count in
    let bits = c.self.inside.bits.items in
    let x : Sheet = record { axis = c.args.axis; cell = c.args.cell; span = c.args.span } in
    let h : holds s c.args.cell ≡ true = search rules in
    let apart : not (same_axis c.args.axis c.args.span) ≡ true = search rules in
    let low : nat_lt c.args.flow count ≡ true = lt-ltb c.args.flow count c.if-flow-self.true in
    let within : bit_number s c.args.flow x < length bits = omega (arith, bit_below s c.args.flow count x c.if-flow-self.true h, c.self.invariant.bit_count) in
    let read : c.index.result.now ≡ sheet_bit s bits c.args.flow x = get_or_read bits (bit_number s c.args.flow x) _ within (rw c.bit_number.ensures at c.index.ensures) false in
    read ∙ sym (has_by s count bits c.args.flow x ∙ rw (low, h, apart) refl) ∙ ap (λ d. has_sheet (sheets_of d c.args.flow) x) c.self.view_is

pub returns-else-flow-self : goal.returns-else-flow-self
returns-else-flow-self c =
    let s = c.self.inside.size in
    let count = c.self.inside.flow_count in
    let bits = c.self.inside.bits.items in
    let x : Sheet = record { axis = c.args.axis; cell = c.args.cell; span = c.args.span } in
    let out : (nat_lt c.args.flow count && (fits s x && sheet_bit s bits c.args.flow x)) ≡ false = elim c.else-flow-self.branch [
      | else-flow-self-via-then-flow-self+then-ne+else-holds w ↦ let none : holds s c.args.cell ≡ false = search rules in rw none (and_right (nat_lt c.args.flow count) false refl)
      | else-flow-self-via-then-flow-self+else-ne w ↦ let own : not (same_axis c.args.axis c.args.span) ≡ false = search rules in and_right (nat_lt c.args.flow count) _ (and_left (fits s x) _ (and_right (holds s c.args.cell) _ own))
      | else-flow-self-via-else-flow-self w ↦ and_left _ _ (le-ltb c.args.flow count w.if-flow-self.false)
    ] in
    sym (has_by s count bits c.args.flow x ∙ out) ∙ ap (λ d. has_sheet (sheets_of d c.args.flow) x) c.self.view_is
