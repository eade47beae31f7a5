use Rattle.clause_arena.proofs.Heads.{lits_changed as law}
use Rattle.clause_arena.proofs.laws.lits_changed.Goals as goal

pub returns : goal.returns
returns c = law
