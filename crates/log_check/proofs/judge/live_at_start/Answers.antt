use Rattle.std.proofs.Common.{◌+◌, ◌∙◌, ◌++◌, ◌∷◌, [], sym, ap, take, add_comm}
use Rattle.std.specs.List.{enumerate_from}
use Rattle.cnf_base.specs.Logs.{LogState}
use Rattle.log_check.proofs.CheckLemmas.{enumerated_more}
use Rattle.log_check.proofs.judge.live_at_start.Goals as goal

pub loop-n-preserved : goal.loop-n-preserved
loop-n-preserved c =
    let clause = c.clause.result.now in
    let live = ap (λ (s : LogState). s.live) c.in_ok-add.ensures.added ∙ ap (λ xs. xs ++ (c.loop-n.n + 1, clause) ∷ []) c.loop-n.invariant.live
    ∙ ap (λ n. enumerate_from 1 (take c.loop-n.n c.args.f.now.clauses) ++ (n, clause) ∷ []) (add_comm c.loop-n.n 1)
    ∙ sym (enumerated_more 1 c.args.f.now.clauses c.loop-n.n clause c.clause.ensures.there) in record {
      vars = c.in_ok-add.ensures.vars ∙ c.loop-n.invariant.vars;
      live = live;
      last = ap (λ (s : LogState). s.last) c.in_ok-add.ensures.added;
    }
