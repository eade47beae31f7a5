use Rattle.std.proofs.Common.{rules}
use Rattle.cnf_base.proofs.Blocks.{places_within}
use Rattle.cnf_base.proofs.formula.bounds_of.Goals as goal

pub returns-clause-rising : goal.returns-clause-rising
returns-clause-rising c = let at = places_within 0 c.args.ends.now c.args.lits c.args.n c.requires.rising c.requires.there in search (rules, at.0)

pub returns-clause-within : goal.returns-clause-within
returns-clause-within c = let at = places_within 0 c.args.ends.now c.args.lits c.args.n c.requires.rising c.requires.there in search (rules, at.1)
