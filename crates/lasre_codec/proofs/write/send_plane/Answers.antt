use Rattle.std.proofs.Common.{◌≡◌, ap, ◌∙◌, arith}
use Rattle.std.proofs.lemmas.Result.{on_ok_weaker}
use Rattle.las_base.specs.declared.Size.{Size}
use Rattle.lasre_codec.specs.Documents.{Lasre}
use Rattle.lasre_codec.specs.Texts.{row_value, bit_of}
use Rattle.lasre_codec.proofs.WriteLemmas.{number_sent, numbers_sent}
use Rattle.lasre_codec.proofs.write.send_plane.Goals as goal

pub loop-j-preserved : goal.loop-j-preserved
loop-j-preserved g c =
    number_sent (row_value c.args.parts.now.task.size (bit_of c.args.parts.now c.args.member c.args.flow) c.args.i) c.loop-j.j _ (g.S.Serializer.written c.loop-j.out) (g.S.Serializer.written c.send_row.new.out) c.loop-j.invariant c.in_ok-send_row.ensures

pub returns : goal.returns
returns g c =
    let same : c.size-size.result ≡ c.args.parts.now.task.size = c.size-size.ensures.size ∙ ap (λ (l : Lasre). l.task.size) c.parts.view_is in
    let many : c.size-size.result.j ≡ c.args.parts.now.task.size.j = ap (λ (s : Size). s.j) same in
    let all : c.loop-j.j ≡ c.args.parts.now.task.size.j = omega (arith, many, c.loop-j.auto.j-end) in
    on_ok_weaker c.end_seq.result
    (numbers_sent (row_value c.args.parts.now.task.size (bit_of c.args.parts.now c.args.member c.args.flow) c.args.i) c.loop-j.j _ (c.args.parts.now.task.size.j) (g.S.Serializer.written c.args.out.now) (g.S.Serializer.written c.begin_seq.new.self) (g.S.Serializer.written c.loop-j.out) (g.S.Serializer.written c.end_seq.new.self)
    c.in_ok-begin_seq.ensures many c.loop-j.invariant all) c.end_seq.ensures
