use Rattle.zx_graph.proofs.JoinLemmas.{edges_join_their_cells}
use Rattle.zx_graph.proofs.laws.edges_join_their_cells.Goals as goal

pub returns : goal.returns
returns c = edges_join_their_cells
