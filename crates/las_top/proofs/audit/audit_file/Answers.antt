use Rattle.std.proofs.Common.{◌≡◌, ◌↔◌, ◌≤◌, length, ap, ◌∙◌, inr, arith, subst}
use Rattle.std.specs.Vec.{vec_len}
use Rattle.las_top.specs.Audit.{audit_answer}
use Rattle.las_top.specs.declared.run.Status.TheVariants.{Good}
use Rattle.las_top.specs.Findings.{answer_by}
use Rattle.las_top.specs.Headline.{HasSolution}
use Rattle.las_top.specs.Shown.{ShowsListed}
use Rattle.las_top.specs.Answers.{most_bytes}
use Rattle.las_top.proofs.audit.audit_file.Goals as goal

pub returns-in_ok-audit_bytes-in-Ok-Some-clause-found : goal.returns-in_ok-audit_bytes-in-Ok-Some-clause-found
returns-in_ok-audit_bytes-in-Ok-Some-clause-found g c =
    let short : vec_len c.in-Ok-Some.bytes ≤ most_bytes = rw c.in-Ok-Some.field-0-is at c.in-Ok-Some.ensures.within in
    inr (inr (record {
      bytes = c.in-Ok-Some.bytes.items;
      present = rw c.in-Ok-Some.field-0-is at c.in-Ok-Some.ensures.found;
      came = rw c.in-Ok-Some.field-0-is at c.in-Ok-Some.ensures.all;
      told = rw c.in-Ok-Some.field-0-is at c.in-Ok-Some.ensures.told;
      within = omega (arith, short, ap length c.deref.ensures.value, c.deref.ensures.len);
      answer_is = c.in_ok-audit_bytes-in-Ok-Some.ensures.answer ∙ ap (audit_answer c.args.spec.now) c.deref.ensures.value;
      exact = subst (λ bytes. ((answer_by c.in_ok-audit_bytes-in-Ok-Some.field-0).status ≡ Good) ↔ ShowsListed c.args.spec.now bytes) c.deref.ensures.value c.in_ok-audit_bytes-in-Ok-Some.ensures.exact;
      solves = λ good. subst HasSolution c.deref.ensures.value (c.in_ok-audit_bytes-in-Ok-Some.ensures.solves good);
    }))
