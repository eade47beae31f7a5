use Rattle.std.proofs.Common.{◌≡◌, ap, ◌∙◌, subst, arith, rules}
use Rattle.std.specs.Prelude.{if◌then◌else◌}
use Rattle.std.proofs.lemmas.Result.{on_ok_weaker}
use Rattle.serde.specs.Event.{Logs, unsigned}
use Rattle.las_base.specs.declared.Size.{Size}
use Rattle.lasre_codec.specs.Documents.{Lasre}
use Rattle.lasre_codec.specs.Texts.{bit_value, bit_of}
use Rattle.lasre_codec.proofs.WriteLemmas.{number_sent, numbers_sent}
use Rattle.lasre_codec.proofs.write.send_row.Goals as goal

pub loop-k-preserved : goal.loop-k-preserved
loop-k-preserved g c =
    let bit : c.from.result ≡ (if bit_of c.args.parts.now c.args.member c.args.flow (record { i = c.args.i; j = c.args.j; k = c.loop-k.k }) then 1 else 0) = search rules in
    number_sent (λ k. bit_value (bit_of c.args.parts.now c.args.member c.args.flow (record { i = c.args.i; j = c.args.j; k = k }))) c.loop-k.k _ (g.S.Serializer.written c.loop-k.out) (g.S.Serializer.written c.u64.new.self) c.loop-k.invariant
    (subst (λ n. Logs (g.S.Serializer.written c.loop-k.out) (g.S.Serializer.written c.u64.new.self) (unsigned n)) bit c.in_ok-u64.ensures)

pub returns : goal.returns
returns g c =
    let same : c.size-size.result ≡ c.args.parts.now.task.size = c.size-size.ensures.size ∙ ap (λ (l : Lasre). l.task.size) c.parts.view_is in
    let many : c.size-size.result.k ≡ c.args.parts.now.task.size.k = ap (λ (s : Size). s.k) same in
    let all : c.loop-k.k ≡ c.args.parts.now.task.size.k = omega (arith, many, c.loop-k.auto.k-end) in
    on_ok_weaker c.end_seq.result
    (numbers_sent (λ k. bit_value (bit_of c.args.parts.now c.args.member c.args.flow (record { i = c.args.i; j = c.args.j; k = k }))) c.loop-k.k _ (c.args.parts.now.task.size.k) (g.S.Serializer.written c.args.out.now) (g.S.Serializer.written c.begin_seq.new.self) (g.S.Serializer.written c.loop-k.out) (g.S.Serializer.written c.end_seq.new.self)
    c.in_ok-begin_seq.ensures many c.loop-k.invariant all) c.end_seq.ensures
