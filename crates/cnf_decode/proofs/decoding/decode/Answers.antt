use Rattle.std.proofs.Common.{ap, ◌∙◌, length, subst}
use Rattle.cnf_base.specs.Literals.{values_of}
use Rattle.cnf_table.specs.Layouts.{Plan, plan_vars}
use Rattle.cnf_decode.specs.Building.{IsDecoded, AreDecoded}
use Rattle.cnf_decode.proofs.DecodedLemmas.{decoded, decoded_same, decoded_serves}
use Rattle.cnf_decode.proofs.decoding.decode.Goals as goal

pub returns-clause-shown : goal.returns-clause-shown
returns-clause-shown c =
    let size = ap (λ (p : Plan). p.size) c.requires.plan in
    let built = subst (λ s. IsDecoded (values_of c.args.values.now) s c.in_ok-diagram.diagram) size c.in_ok-diagram.ensures in
    let are = subst (λ s. AreDecoded (values_of c.args.values.now) s (length c.flows-flows.result.now) (length c.flows-flows.result.now) c.in_ok-sheets.sheets) size c.in_ok-sheets.ensures in
    let count = ap length c.flows-flows.ensures.flows in
    decoded (values_of c.args.values.now) c.args.job.now c.requires.satisfied c.in_ok-diagram.diagram built c.in_ok-sheets.sheets (subst (λ n. AreDecoded (values_of c.args.values.now) c.args.job.now.size n n c.in_ok-sheets.sheets) count are)

pub returns-clause-valid : goal.returns-clause-valid
returns-clause-valid c =
    let size = ap (λ (p : Plan). p.size) c.requires.plan in
    let built = subst (λ s. IsDecoded (values_of c.args.values.now) s c.in_ok-diagram.diagram) size c.in_ok-diagram.ensures in
    let are = subst (λ s. AreDecoded (values_of c.args.values.now) s (length c.flows-flows.result.now) (length c.flows-flows.result.now) c.in_ok-sheets.sheets) size c.in_ok-sheets.ensures in
    let count = ap length c.flows-flows.ensures.flows in
    (decoded_serves (values_of c.args.values.now) c.args.job.now c.size-size.ensures.kept c.requires.satisfied c.in_ok-diagram.diagram built c.in_ok-sheets.sheets (subst (λ n. AreDecoded (values_of c.args.values.now) c.args.job.now.size n n c.in_ok-sheets.sheets) count are)).0

pub returns-clause-serve : goal.returns-clause-serve
returns-clause-serve c =
    let size = ap (λ (p : Plan). p.size) c.requires.plan in
    let built = subst (λ s. IsDecoded (values_of c.args.values.now) s c.in_ok-diagram.diagram) size c.in_ok-diagram.ensures in
    let are = subst (λ s. AreDecoded (values_of c.args.values.now) s (length c.flows-flows.result.now) (length c.flows-flows.result.now) c.in_ok-sheets.sheets) size c.in_ok-sheets.ensures in
    let count = ap length c.flows-flows.ensures.flows in
    (decoded_serves (values_of c.args.values.now) c.args.job.now c.size-size.ensures.kept c.requires.satisfied c.in_ok-diagram.diagram built c.in_ok-sheets.sheets (subst (λ n. AreDecoded (values_of c.args.values.now) c.args.job.now.size n n c.in_ok-sheets.sheets) count are)).1

pub returns-clause-same : goal.returns-clause-same
returns-clause-same c =
    let size = ap (λ (p : Plan). p.size) c.requires.plan in
    let built = subst (λ s. IsDecoded (values_of c.args.values.now) s c.in_ok-diagram.diagram) size c.in_ok-diagram.ensures in
    let are = subst (λ s. AreDecoded (values_of c.args.values.now) s (length c.flows-flows.result.now) (length c.flows-flows.result.now) c.in_ok-sheets.sheets) size c.in_ok-sheets.ensures in
    let count = ap length c.flows-flows.ensures.flows in
    decoded_same c.args.job.now c.args.values.now c.requires.satisfied c.in_ok-diagram.diagram built c.in_ok-sheets.sheets (subst (λ n. AreDecoded (values_of c.args.values.now) c.args.job.now.size n n c.in_ok-sheets.sheets) count are) (c.requires.count ∙ ap plan_vars c.requires.plan)

pub returns-clause-drawn : goal.returns-clause-drawn
returns-clause-drawn c = c.in_ok-diagram.ensures.drawn

pub returns-clause-kept : goal.returns-clause-kept
returns-clause-kept c = c.in_ok-sheets.ensures.kept

pub returns-clause-size : goal.returns-clause-size
returns-clause-size c = c.in_ok-sheets.ensures.size ∙ ap (λ (p : Plan). p.size) c.requires.plan
