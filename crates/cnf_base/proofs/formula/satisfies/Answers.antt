use Rattle.std.proofs.Common.{◌≡◌, get_or, [], sym, ap, ◌∙◌, arith, false, true}
use Rattle.std.proofs.lemmas.Bool.{and_from}
use Rattle.std.proofs.lemmas.List.Folds.{list_all_at, list_all_more}
use Rattle.std.proofs.lemmas.Option.{get_or_from_slice_get}
use Rattle.cnf_base.specs.Literals.{clause_true, values_of}
use Rattle.cnf_base.proofs.formula.satisfies.Goals as goal

pub returns-then-not-is_clause_true : goal.returns-then-not-is_clause_true
returns-then-not-is_clause_true c =
    let v = values_of c.args.values.now in
    let cs = c.args.f.now.clauses in
    let is : get_or cs c.loop-n.n [] ≡ c.clause.result.now = get_or_from_slice_get cs c.loop-n.n c.clause.result.now [] c.clause.ensures.there in
    let fails : clause_true v (get_or cs c.loop-n.n []) ≡ false = ap (clause_true v) is ∙ sym c.is_clause_true.ensures ∙ c.if-not-is_clause_true.true in
    sym (list_all_at (clause_true v) cs c.loop-n.n [] (omega arith) fails)

pub loop-n-preserved : goal.loop-n-preserved
loop-n-preserved c =
    let v = values_of c.args.values.now in
    let cs = c.args.f.now.clauses in
    let is : get_or cs c.loop-n.n [] ≡ c.clause.result.now = get_or_from_slice_get cs c.loop-n.n c.clause.result.now [] c.clause.ensures.there in
    let holds : clause_true v (get_or cs c.loop-n.n []) ≡ true = ap (clause_true v) is ∙ sym c.is_clause_true.ensures ∙ c.if-not-is_clause_true.false in
    list_all_more (clause_true v) cs c.loop-n.n [] (omega arith) ∙ and_from _ _ c.loop-n.invariant holds
