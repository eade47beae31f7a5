use Rattle.std.proofs.Common.{◌∙◌, sym, ap, not, length, None, position}
use Rattle.std.specs.Prelude.{option_map}
use Rattle.std.specs.Option.{option_or}
use Rattle.las_base.specs.Cells.{holds}
use Rattle.las_spec.specs.declared.refusal.SpecRefused.TheVariants.{ForbiddenPlace}
use Rattle.las_spec.specs.Written.{written_as}
use Rattle.las_spec.specs.Refusals.{first_of, port_refusals, flow_refusals}
use Rattle.las_spec.proofs.TableLemmas.{to_the_last, letters_in}
use Rattle.las_spec.proofs.judge.job_refusal.Goals as goal

pub returns-in-Some-first_outside : goal.returns-in-Some-first_outside
returns-in-Some-first_outside c =
    let d = c.args.draft.now in
    let ports = ap (λ ps. first_of (port_refusals d.size ps)) (sym c.deref.ensures.value) ∙ sym c.port_refusal.ensures ∙ c.in_default.is in
    let flows = ap (λ ps. first_of (flow_refusals (length ps) (letters_in d.words.items))) (sym c.deref-2.ensures.value) ∙ ap (λ ws. first_of (flow_refusals (length c.deref-2.result.now) (letters_in ws))) (sym c.deref-3.ensures.value) ∙ sym c.flow_refusal.ensures ∙ c.in_default-flow_refusal.is in
    let cell = ap (position (λ x. not (holds d.size x))) (sym c.deref-4.ensures.value) ∙ sym c.first_outside.ensures ∙ c.in-Some-first_outside.is in
    sym (to_the_last (written_as d) (sym c.is_within_limits.ensures ∙ c.if-not-is_within_limits.false) ports flows ∙ ap (λ o. option_or (option_map ForbiddenPlace o) None) cell)

pub returns : goal.returns
returns c =
    let d = c.args.draft.now in
    let ports = ap (λ ps. first_of (port_refusals d.size ps)) (sym c.deref.ensures.value) ∙ sym c.port_refusal.ensures ∙ c.in_default.is in
    let flows = ap (λ ps. first_of (flow_refusals (length ps) (letters_in d.words.items))) (sym c.deref-2.ensures.value) ∙ ap (λ ws. first_of (flow_refusals (length c.deref-2.result.now) (letters_in ws))) (sym c.deref-3.ensures.value) ∙ sym c.flow_refusal.ensures ∙ c.in_default-flow_refusal.is in
    let cell = ap (position (λ x. not (holds d.size x))) (sym c.deref-4.ensures.value) ∙ sym c.first_outside.ensures ∙ c.in_default-first_outside.is in
    sym (to_the_last (written_as d) (sym c.is_within_limits.ensures ∙ c.if-not-is_within_limits.false) ports flows ∙ ap (λ o. option_or (option_map ForbiddenPlace o) None) cell)
