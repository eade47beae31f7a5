use Rattle.cnf_base.specs.Literals.{values_of}
use Rattle.cnf_decode.proofs.DecodeLemmas.{laid_in_turn}
use Rattle.cnf_decode.proofs.decoding.lay_flow_sheets.Goals as goal

pub returns-clause-sheets : goal.returns-clause-sheets
returns-clause-sheets c =
    laid_in_turn (values_of c.args.values.now) c.args.layout.now.size c.args.flow c.args.sheets.now c.lay_sheets_along.new.sheets c.lay_sheets_along-2.new.sheets c.lay_sheets_along-3.new.sheets c.lay_sheets_along-4.new.sheets c.lay_sheets_along-5.new.sheets c.lay_sheets_along-6.new.sheets
    c.lay_sheets_along.ensures.sheets c.lay_sheets_along-2.ensures.sheets c.lay_sheets_along-3.ensures.sheets c.lay_sheets_along-4.ensures.sheets c.lay_sheets_along-5.ensures.sheets c.lay_sheets_along-6.ensures.sheets
