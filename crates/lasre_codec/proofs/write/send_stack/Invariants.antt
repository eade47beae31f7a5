use Rattle.lasre_codec.specs.Texts.{grid_value, bit_of}
use Rattle.lasre_codec.proofs.WriteLemmas.{AreSent}
use Rattle.lasre_codec.proofs.write.send_stack.Given as goal

abbrev pub invariant-loop-flow : goal.invariant-loop-flow
invariant-loop-flow g l = AreSent (λ f. grid_value l.parts.task.size (bit_of l.parts l.member f)) l.flow (g.S.Serializer.written l.initial.out) (g.S.Serializer.written l.out)
