use Rattle.std.proofs.Common.{◌∙◌, sym, refl, length, Some, None}
use Rattle.las_spec.specs.Refusals.{first_bad_letter}
use Rattle.las_spec.proofs.TableLemmas.{flows_by, letters_in}
use Rattle.las_spec.proofs.judge.flow_refusal.Goals as goal

pub returns-in-Some : goal.returns-in-Some
returns-in-Some c =
    let ws = c.args.words.now in
    sym (flows_by (length c.args.ports.now) ws c.is_count.result (Some c.in-Some.n) (first_bad_letter 0 (letters_in ws)) c.is_count.ensures c.if-not-is_count.false (sym c.in-Some.is ∙ c.first_wrong_length.ensures) refl)

pub returns-in-Some-first_bad_letter : goal.returns-in-Some-first_bad_letter
returns-in-Some-first_bad_letter c =
    sym (flows_by (length c.args.ports.now) c.args.words.now c.is_count.result None (Some (c.in-Some-first_bad_letter.n, c.in-Some-first_bad_letter.p)) c.is_count.ensures c.if-not-is_count.false (sym c.in_default.is ∙ c.first_wrong_length.ensures) (sym c.in-Some-first_bad_letter.is ∙ c.first_bad_letter.ensures))

pub returns : goal.returns
returns c =
    sym (flows_by (length c.args.ports.now) c.args.words.now c.is_count.result None None c.is_count.ensures c.if-not-is_count.false (sym c.in_default.is ∙ c.first_wrong_length.ensures) (sym c.in_default-first_bad_letter.is ∙ c.first_bad_letter.ensures))
