use Rattle.lasre_codec.specs.Texts.{row_value, bit_of}
use Rattle.lasre_codec.proofs.WriteLemmas.{AreSent}
use Rattle.lasre_codec.proofs.write.send_plane.Given as goal

abbrev pub invariant-loop-j : goal.invariant-loop-j
invariant-loop-j g l = AreSent (row_value l.parts.task.size (bit_of l.parts l.member l.flow) l.i) l.j (g.S.Serializer.written l.initial.out) (g.S.Serializer.written l.out)
