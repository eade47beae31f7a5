-- A flow's word has a letter for each port.
use Rattle.std.proofs.Common.{◌≡◌, ℕ, ◌<◌, nat_eq, [], length, slice_index_or}
use Rattle.std.proofs.lemmas.Bool.{eqb-true}
use Rattle.std.proofs.lemmas.Option.{slice_get-get_or}
use Rattle.las_base.specs.Jobs.{Task, IsTask}
use Rattle.zx_graph.proofs.NumberLemmas.{at_all}

pub word_long : (t : Task) (flow : ℕ) → IsTask t → flow < length t.flows → length (slice_index_or t.flows flow []) ≡ length t.ports
word_long t flow task low =
    let word = slice_index_or t.flows flow [] in
    eqb-true (length word) (length t.ports) (at_all (λ w. nat_eq (length w) (length t.ports)) t.flows flow word task.words (slice_get-get_or t.flows flow [] low))
