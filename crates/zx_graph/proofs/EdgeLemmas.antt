-- The edges of a graph, pipe by pipe.
use Rattle.std.proofs.Common.{◌≡◌, ℕ, Bool, true, not, List, map, Option, Some, None, refl, sym, ap, ap₂, ◌∙◌, slice_index_or}
use Rattle.std.specs.List.{filter_map}
use Rattle.std.specs.Option.{option_map}
use Rattle.las_base.specs.declared.Axis.{Axis}
use Rattle.las_base.specs.declared.Kind.{Kind}
use Rattle.las_base.specs.declared.Cell.{Cell}
use Rattle.las_base.specs.Axes.{same_kind}
use Rattle.las_base.specs.Cells.{above, holds, widened, index}
use Rattle.las_base.proofs.Widened.{held_wide, held_above}
use Rattle.grid_box.specs.Drawings.{Pipe, Drawing, pipe_at, kinds_at}
use Rattle.grid_box.specs.LookUps.{pipe_of, pipes_along}
use Rattle.grid_box.proofs.LegLemmas.{found_at, map-filter_map}
use Rattle.zx_graph.specs.declared.graph.Edge.{Edge}
use Rattle.zx_graph.specs.Graphs.{edge_of, node_number}
use Rattle.zx_graph.specs.Numbers.{AreNumbers}
use Rattle.zx_graph.proofs.LegLemmas.{legged_low, legged_high}
use Rattle.zx_graph.proofs.NumberLemmas.{number_is}

-- the kinds that are found tell the pipe
pub pipe_of_kinds : (d : Drawing) (a : Axis) (c : Cell) → pipe_of a c (kinds_at d a c) ≡ pipe_at d a c
pipe_of_kinds d a c = by_pipe (pipe_at d a c) refl
  where
    by_pipe : (o : Option Pipe) → pipe_at d a c ≡ o → pipe_of a c (option_map (λ p. (p.low, p.high)) o) ≡ o
    by_pipe None e = refl
    by_pipe (Some p) e =
        let at = found_at d a c p e in
        ap₂ (λ b x. let q : Pipe = record { axis = b; cell = x; low = p.low; high = p.high } in Some q) (sym at.0) (sym at.1)

-- the pipe that is found, by the kinds that are found
pub pipe_found : (d : Drawing) (a : Axis) (c : Cell) (k : Kind × Kind) → kinds_at d a c ≡ Some k → pipe_at d a c ≡ Some (record { axis = a; cell = c; low = k.0; high = k.1 })
pipe_found d a c k e = sym (pipe_of_kinds d a c) ∙ ap (pipe_of a c) e

pub no_pipe : (d : Drawing) (a : Axis) (c : Cell) → kinds_at d a c ≡ None → pipe_at d a c ≡ None
no_pipe d a c e = sym (pipe_of_kinds d a c) ∙ ap (pipe_of a c) e

-- the edge that is made of the numbers of cells is that of the pipe
pub edge_is : (d : Drawing) (numbers : List ℕ) (a : Axis) (c : Cell) (k : Kind × Kind) (had : Bool) → AreNumbers d numbers → holds d.size c ≡ true → kinds_at d a c ≡ Some k → had ≡ not (same_kind k.0 k.1)
    → Some (record { low = slice_index_or numbers (index (widened d.size) c) 0; high = slice_index_or numbers (index (widened d.size) (above a c)) 0; had = had }) ≡ option_map (edge_of d) (pipe_at d a c)
edge_is d numbers a c k had are held e differ =
    let pipe = pipe_found d a c k e in
    let low = number_is d numbers c are (held_wide d.size c held) (legged_low d a c (record { axis = a; cell = c; low = k.0; high = k.1 }) pipe) in
    let high = number_is d numbers (above a c) are (held_above d.size a c held) (legged_high d a c (record { axis = a; cell = c; low = k.0; high = k.1 }) pipe) in
    ap₂ (λ m n. let x : Edge = record { low = m; high = n; had = had } in Some x) low high
    ∙ ap (λ b. let x : Edge = record { low = node_number d c; high = node_number d (above a c); had = b } in Some x) differ
    ∙ sym (ap (option_map (edge_of d)) pipe)

module _ {Y : Type 0} (f : Pipe → Y) (d : Drawing) (a : Axis) where
  -- what is made of the pipe along the axis with this low cell
  abbrev pub made_at : Cell → Option Y
  made_at c = option_map f (pipe_at d a c)

  -- what is made of the pipes along the axis
  pub made_along : (cs : List Cell) → filter_map made_at cs ≡ map f (pipes_along a (kinds_at d a) cs)
  made_along cs =
      (λ i. filter_map (λ c. option_map f (sym (pipe_of_kinds d a c) i)) cs) ∙ sym (map-filter_map (λ c. pipe_of a c (kinds_at d a c)) f cs)
