use Rattle.std.proofs.lemmas.Result.{on_ok_weaker}
use Rattle.lasre_codec.proofs.WriteLemmas.{member_sent, members_sent}
use Rattle.lasre_codec.proofs.write.PartsSerialize.serialize.Goals as goal

pub loop-member-preserved : goal.loop-member-preserved
loop-member-preserved g c =
    member_sent c.args.self.now c.loop-member.member-index _ c.name.result.now _ (g.S.Serializer.written c.loop-member.out) (g.S.Serializer.written c.key.new.self) (g.S.Serializer.written c.send_member.new.out)
    c.loop-member-test.true c.loop-member.invariant c.name.ensures c.in_ok-key.ensures c.in_ok-send_member.ensures

pub returns : goal.returns
returns g c =
    on_ok_weaker c.end_map.result
    (members_sent c.args.self.now c.loop-member.member-index (g.S.Serializer.written c.args.out.now) (g.S.Serializer.written c.begin_map.new.self) (g.S.Serializer.written c.loop-member.out) (g.S.Serializer.written c.end_map.new.self)
    c.in_ok-begin_map.ensures c.loop-member-test.false c.loop-member.invariant) c.end_map.ensures
