use Rattle.std.proofs.Common.{sym, ap, ◌∙◌, length}
use Rattle.grid_box.proofs.SheetBitLemmas.{count_by}
use Rattle.grid_box.proofs.sheets.Sheets.flow_count.Goals as goal

pub returns : goal.returns
returns c = sym (count_by c.self.inside.size c.self.inside.flow_count c.self.inside.bits.items) ∙ ap (λ s. length s.flows) c.self.view_is
