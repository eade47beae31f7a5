use Rattle.std.proofs.Common.{◌≡◌, ap, ◌∙◌, arith}
use Rattle.std.proofs.lemmas.Result.{on_ok_weaker}
use Rattle.las_base.specs.declared.Size.{Size}
use Rattle.lasre_codec.specs.Documents.{Lasre}
use Rattle.lasre_codec.specs.Texts.{plane_value, bit_of}
use Rattle.lasre_codec.proofs.WriteLemmas.{number_sent, numbers_sent}
use Rattle.lasre_codec.proofs.write.send_grid.Goals as goal

pub loop-i-preserved : goal.loop-i-preserved
loop-i-preserved g c =
    number_sent (plane_value c.args.parts.now.task.size (bit_of c.args.parts.now c.args.member c.args.flow)) c.loop-i.i _ (g.S.Serializer.written c.loop-i.out) (g.S.Serializer.written c.send_plane.new.out) c.loop-i.invariant c.in_ok-send_plane.ensures

pub returns : goal.returns
returns g c =
    let same : c.size-size.result ≡ c.args.parts.now.task.size = c.size-size.ensures.size ∙ ap (λ (l : Lasre). l.task.size) c.parts.view_is in
    let many : c.size-size.result.i ≡ c.args.parts.now.task.size.i = ap (λ (s : Size). s.i) same in
    let all : c.loop-i.i ≡ c.args.parts.now.task.size.i = omega (arith, many, c.loop-i.auto.i-end) in
    on_ok_weaker c.end_seq.result
    (numbers_sent (plane_value c.args.parts.now.task.size (bit_of c.args.parts.now c.args.member c.args.flow)) c.loop-i.i _ (c.args.parts.now.task.size.i) (g.S.Serializer.written c.args.out.now) (g.S.Serializer.written c.begin_seq.new.self) (g.S.Serializer.written c.loop-i.out) (g.S.Serializer.written c.end_seq.new.self)
    c.in_ok-begin_seq.ensures many c.loop-i.invariant all) c.end_seq.ensures
