use Rattle.std.proofs.Common.{arith}
use Rattle.cnf_table.proofs.LayoutLemmas.{below_in_plan}
use Rattle.cnf_table.proofs.layout.Layout.diagram_var.Goals as goal

pub returns-clause-below : goal.returns-clause-below
returns-clause-below c =
    below_in_plan c.self.inside.size c.self.inside.flow_count c.args.self.now c.args.cell c.args.member c.row_var.result.0 c.self.view_is c.requires.held (omega arith) c.row_var.ensures.value
