use Rattle.std.proofs.Common.{take}
use Rattle.serde.specs.Event.{WritesEach}
use Rattle.lasre_codec.specs.Members.{members}
use Rattle.lasre_codec.proofs.WriteLemmas.{SendsMember}
use Rattle.lasre_codec.proofs.write.PartsSerialize.serialize.Given as goal

abbrev pub invariant-loop-member : goal.invariant-loop-member
invariant-loop-member g l = WritesEach (SendsMember l.self) (take l.member-index members) (g.S.Serializer.written l.initial.out) (g.S.Serializer.written l.out)
