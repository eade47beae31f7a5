use Rattle.cnf_base.specs.Literals.{values_of}
use Rattle.cnf_decode.specs.Building.{AreDecoded}
use Rattle.cnf_decode.proofs.decoding.build_sheets.Given as goal

abbrev pub invariant-loop-flow : goal.invariant-loop-flow
invariant-loop-flow l = AreDecoded (values_of l.values) l.layout.size l.flows l.flow l.sheets
