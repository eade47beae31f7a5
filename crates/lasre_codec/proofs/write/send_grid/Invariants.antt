use Rattle.lasre_codec.specs.Texts.{plane_value, bit_of}
use Rattle.lasre_codec.proofs.WriteLemmas.{AreSent}
use Rattle.lasre_codec.proofs.write.send_grid.Given as goal

abbrev pub invariant-loop-i : goal.invariant-loop-i
invariant-loop-i g l = AreSent (plane_value l.parts.task.size (bit_of l.parts l.member l.flow)) l.i (g.S.Serializer.written l.initial.out) (g.S.Serializer.written l.out)
