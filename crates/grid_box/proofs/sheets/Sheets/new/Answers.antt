use Rattle.std.proofs.Common.{◌≡◌, ◌*◌, ap, ◌∙◌, false, replicate}
use Rattle.las_base.specs.Cells.{volume}
use Rattle.grid_box.proofs.SheetBitLemmas.{kept_clear, surfaces_kept, clear_by}
use Rattle.grid_box.proofs.sheets.Sheets.new.Goals as goal

bits_clear : (c : goal.In_ok-vec) → c.in_ok-vec.field-0.items ≡ replicate (c.args.flows * (6 * volume c.args.size)) false
bits_clear c = c.in_ok-vec.ensures.items_if_clones_equal (λ y e. e) ∙ ap (λ v. replicate (c.args.flows * (6 * v)) false) c.volume.ensures

pub invariant_of-result : goal.invariant_of-result
invariant_of-result c = rw (bits_clear c) (kept_clear c.args.size c.args.flows c.requires.limits c.requires.count)

pub returns-clause-kept : goal.returns-clause-kept
returns-clause-kept c = surfaces_kept _ _ _ (invariant_of-result c)

pub returns-clause-empty : goal.returns-clause-empty
returns-clause-empty c = rw (bits_clear c) (clear_by c.args.size c.args.flows)
