use Rattle.std.proofs.Common.{get_or}
use Rattle.sat_core.proofs.GoLemmas.{some_at}
use Rattle.sat_core.proofs.search.Search.ids_of.Goals as goal

pub id-requires : goal.id-requires
id-requires c = c.requires (get_or c.args.clauses.now c.loop-r.r-index (record { 0 = 0 })).0 (some_at c.args.clauses.now c.loop-r.r-index c.loop-r-test.true)
