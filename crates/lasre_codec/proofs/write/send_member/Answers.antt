use Rattle.std.proofs.Common.{rules, ◌≡◌, subst}
use Rattle.std.proofs.lemmas.Result.{on_ok_weaker}
use Rattle.serde_json.specs.Events.{SendsValue}
use Rattle.lasre_codec.specs.Texts.{bits_value, member_value}
use Rattle.lasre_codec.proofs.write.send_member.Goals as goal

pub returns-in_default : goal.returns-in_default
returns-in_default g c =
    let same : bits_value c.args.parts.now c.args.member ≡ member_value c.args.parts.now c.args.member = search rules in
    on_ok_weaker c.send_bits.result (λ e. subst (λ d. SendsValue d (g.S.Serializer.written c.args.out.now) (g.S.Serializer.written c.send_bits.new.out)) same e) c.send_bits.ensures
