use Rattle.std.proofs.Common.{◌≡◌, List, length, ap, ◌∙◌, arith}
use Rattle.std.proofs.lemmas.Result.{on_ok_weaker}
use Rattle.las_base.specs.declared.Pauli.{Pauli}
use Rattle.lasre_codec.specs.Documents.{Lasre}
use Rattle.lasre_codec.specs.Texts.{grid_value, bit_of}
use Rattle.lasre_codec.proofs.WriteLemmas.{number_sent, numbers_sent}
use Rattle.lasre_codec.proofs.write.send_stack.Goals as goal

pub loop-flow-preserved : goal.loop-flow-preserved
loop-flow-preserved g c =
    number_sent (λ f. grid_value c.args.parts.now.task.size (bit_of c.args.parts.now c.args.member f)) c.loop-flow.flow _ (g.S.Serializer.written c.loop-flow.out) (g.S.Serializer.written c.send_grid.new.out) c.loop-flow.invariant c.in_ok-send_grid.ensures

pub returns : goal.returns
returns g c =
    let same : c.flows-count.result.now ≡ c.args.parts.now.task.flows = c.flows-count.ensures.flows ∙ ap (λ (l : Lasre). l.task.flows) c.parts.view_is in
    let many : length c.flows-count.result.now ≡ length c.args.parts.now.task.flows = ap (length {A = List Pauli}) same in
    let all : c.loop-flow.flow ≡ length c.args.parts.now.task.flows = omega (arith, many, c.loop-flow.auto.flow-end) in
    on_ok_weaker c.end_seq.result
    (numbers_sent (λ f. grid_value c.args.parts.now.task.size (bit_of c.args.parts.now c.args.member f)) c.loop-flow.flow _ (length c.args.parts.now.task.flows) (g.S.Serializer.written c.args.out.now) (g.S.Serializer.written c.begin_seq.new.self) (g.S.Serializer.written c.loop-flow.out) (g.S.Serializer.written c.end_seq.new.self)
    c.in_ok-begin_seq.ensures many c.loop-flow.invariant all) c.end_seq.ensures
