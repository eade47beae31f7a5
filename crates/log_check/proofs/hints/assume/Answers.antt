use Rattle.std.proofs.Common.{◌≡◌, ◌∙◌, sym, ap, refl, false, true, get_or, ◌++◌, ◌∷◌, []}
use Rattle.cnf_base.specs.declared.literal.Lit.{Lit}
use Rattle.log_check.specs.Scans.{is_fresh}
use Rattle.log_check.proofs.ScanLemmas.{assumes_more, assumes_no_more, assumes_none}
use Rattle.log_check.proofs.hints.assume.Goals as goal

pub loop-lit-init : goal.loop-lit-init
loop-lit-init c = record {
  vars = refl;
  assumed = assumes_none c.args.marks.now.vars c.args.lits.now c.args.marks.now.trail c.requires;
}

pub returns-then-not-is_fresh_lit-clause-lawful : goal.returns-then-not-is_fresh_lit-clause-lawful
returns-then-not-is_fresh_lit-clause-lawful c =
    let d : Lit = record { 0 = 0 } in
    let l = get_or c.args.lits.now c.loop-lit.lit-index d in
    let stale : is_fresh c.args.marks.now.vars c.loop-lit.marks.trail l ≡ false = ap (λ v. is_fresh v c.loop-lit.marks.trail l) (sym c.loop-lit.invariant.vars) ∙ sym c.is_fresh_lit.ensures ∙ c.if-not-is_fresh_lit.true in
    assumes_no_more c.args.marks.now.vars c.args.lits.now c.loop-lit.marks.trail c.loop-lit.lit-index d c.loop-lit-test.true c.loop-lit.invariant.assumed stale

pub loop-lit-preserved : goal.loop-lit-preserved
loop-lit-preserved c =
    let d : Lit = record { 0 = 0 } in
    let l = get_or c.args.lits.now c.loop-lit.lit-index d in
    let fresh : is_fresh c.args.marks.now.vars c.loop-lit.marks.trail l ≡ true = ap (λ v. is_fresh v c.loop-lit.marks.trail l) (sym c.loop-lit.invariant.vars) ∙ sym c.is_fresh_lit.ensures ∙ c.if-not-is_fresh_lit.false in record {
      vars = c.in_ok-put.ensures.vars ∙ c.loop-lit.invariant.vars;
      assumed = assumes_more c.args.marks.now.vars c.args.lits.now c.loop-lit.marks.trail c.put.new.self.trail c.loop-lit.lit-index d c.loop-lit-test.true c.loop-lit.invariant.assumed fresh (c.in_ok-put.ensures.put ∙ ap (λ m. c.loop-lit.marks.trail ++ m ∷ []) c.negated.ensures);
    }
