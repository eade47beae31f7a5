use Rattle.clause_arena.specs.Words.{clauses_in}
use Rattle.sat_core.proofs.ChosenLemmas.{ref_live}
use Rattle.sat_core.proofs.search.Search.idle_lessons.Goals as goal

pub id-id-requires : goal.id-id-requires
id-id-requires c = ref_live (clauses_in c.args.self.now.arena) c.args.refs.now c.loop-r.r-index c.requires.all c.loop-r-test.true

pub is_idle-requires-clause-live : goal.is_idle-requires-clause-live
is_idle-requires-clause-live c = ref_live (clauses_in c.args.self.now.arena) c.args.refs.now c.loop-r.r-index c.requires.all c.loop-r-test.true

pub lits-requires : goal.lits-requires
lits-requires c = ref_live (clauses_in c.args.self.now.arena) c.args.refs.now c.loop-r.r-index c.requires.all c.loop-r-test.true
