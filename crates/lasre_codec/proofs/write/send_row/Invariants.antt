use Rattle.lasre_codec.specs.Texts.{bit_value, bit_of}
use Rattle.lasre_codec.proofs.WriteLemmas.{AreSent}
use Rattle.lasre_codec.proofs.write.send_row.Given as goal

abbrev pub invariant-loop-k : goal.invariant-loop-k
invariant-loop-k g l = AreSent (λ k. bit_value (bit_of l.parts l.member l.flow (record { i = l.i; j = l.j; k = k }))) l.k (g.S.Serializer.written l.initial.out) (g.S.Serializer.written l.out)
