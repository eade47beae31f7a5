-- A pipe's end is told by its leg and the cell at which it stands.
use Rattle.std.proofs.Common.{◌≡◌, Bool, false, not, ◌&&◌, ◌||◌, List, [], ◌∷◌, map, Option, Some, None, refl, sym, ap, ◌∙◌, subst}
use Rattle.std.specs.List.{list_all, filter_map, cons_option, zip}
use Rattle.std.specs.Option.{option_map, option_and_then, option_map_or}
use Rattle.std.proofs.lemmas.List.Folds.{list_all-map}
use Rattle.las_base.specs.declared.Axis.{Axis}
use Rattle.las_base.specs.declared.Axis.TheVariants.{I, J}
use Rattle.las_base.specs.declared.Way.{Way}
use Rattle.las_base.specs.declared.Way.TheVariants.{Plus, Minus}
use Rattle.las_base.specs.declared.Pauli.{Pauli}
use Rattle.las_base.specs.declared.Cell.{Cell}
use Rattle.las_base.specs.Axes.{axes, third_axis}
use Rattle.las_base.specs.Cells.{same_cell, low_cell}
use Rattle.las_base.specs.Jobs.{Task, is_port_place}
use Rattle.grid_box.specs.declared.Leg.{Leg}
use Rattle.grid_box.specs.Drawings.{Pipe, Drawing, pipe_at, is_y}
use Rattle.grid_box.specs.Legs.{Position, positions, PipeEnd, pipe_end_at, pipe_ends, end_of_way, leg_of, legs, has_leg_along}
use Rattle.grid_box.specs.PipeRules.{◌==>◌}
use Rattle.grid_box.specs.Sheets.{Sheet, spans, spells, agree, is_odd, all_or_none, spanning, beside, ports_spell, y_sheets_match, sheets_join_at}
use Rattle.grid_box.specs.Surfaces.{has_sheet}
use Rattle.grid_box.proofs.LegLemmas.{found_at}
use Rattle.surface_rules.specs.LegSheets.{leg_low_cell, leg_spans, leg_spells, leg_matches, legs_join, way_from}

back : (w : Way) → way_from (end_of_way w) ≡ w
back Plus = refl
back Minus = refl

-- the low cell of the pipe that stands at a position
told : (d : Drawing) (c : Cell) (a : Axis) (w : Way) (s : PipeEnd) → pipe_end_at d c (a, w) ≡ Some s → leg_low_cell c (leg_of s) ≡ Some s.pipe.cell
told d c a w s e = by_cell (low_cell c a w) refl e
  where
    by_pipe : (x : Cell) (o : Option Pipe) → low_cell c a w ≡ Some x → pipe_at d a x ≡ o → option_map (λ p. let t : PipeEnd = record { pipe = p; which = end_of_way w } in t) o ≡ Some s → leg_low_cell c (leg_of s) ≡ Some s.pipe.cell
    by_pipe x None low f g = absurd (cc)
    by_pipe x (Some p) low f g =
        let same : Some (let t : PipeEnd = record { pipe = p; which = end_of_way w } in t) ≡ Some s = g in
        let at = found_at d a x p f in
        let here : low_cell c p.axis (way_from (end_of_way w)) ≡ Some p.cell = ap (λ b. low_cell c b (way_from (end_of_way w))) at.0 ∙ ap (low_cell c a) (back w) ∙ low ∙ ap Some (sym at.1) in
        let is : (let t : PipeEnd = record { pipe = p; which = end_of_way w } in t) ≡ s = cc in
        subst (λ t. leg_low_cell c (leg_of t) ≡ Some t.pipe.cell) is here

    by_cell : (o : Option Cell) → low_cell c a w ≡ o → option_map (λ p. let t : PipeEnd = record { pipe = p; which = end_of_way w } in t) (option_and_then (pipe_at d a) o) ≡ Some s → leg_low_cell c (leg_of s) ≡ Some s.pipe.cell
    by_cell None low g = absurd (cc)
    by_cell (Some x) low g = by_pipe x (pipe_at d a x) low refl g

module _ (d : Drawing) (c : Cell) where
  module _ {X : Type 0} (f : PipeEnd → X) (g : Leg → X) (same : (s : PipeEnd) → leg_low_cell c (leg_of s) ≡ Some s.pipe.cell → f s ≡ g (leg_of s)) where
    at_positions : (ps : List Position) → map f (filter_map (pipe_end_at d c) ps) ≡ map g (map leg_of (filter_map (pipe_end_at d c) ps))
    at_positions [] = refl
    at_positions (p ∷ ps) = by_end (pipe_end_at d c p) refl (at_positions ps)
      where
        by_end : (o : Option PipeEnd) → pipe_end_at d c p ≡ o → map f (filter_map (pipe_end_at d c) ps) ≡ map g (map leg_of (filter_map (pipe_end_at d c) ps))
            → map f (cons_option o (filter_map (pipe_end_at d c) ps)) ≡ map g (map leg_of (cons_option o (filter_map (pipe_end_at d c) ps)))
        by_end None e ih = ih
        by_end (Some s) e ih = let first : f s ≡ g (leg_of s) = same s (told d c p.0 p.1 s e) in λ t. first t ∷ ih t

    -- what is told of each pipe that stands at a cell, by the legs
    by_legs : map f (pipe_ends d c) ≡ map g (legs d c)
    by_legs = at_positions positions

  all_by_legs : (f : PipeEnd → Bool) (g : Leg → Bool) → ((s : PipeEnd) → leg_low_cell c (leg_of s) ≡ Some s.pipe.cell → f s ≡ g (leg_of s)) → list_all f (pipe_ends d c) ≡ list_all g (legs d c)
  all_by_legs f g same =
      sym (list_all-map (λ b. b) f (pipe_ends d c)) ∙ ap (list_all (λ b. b)) (by_legs f g same) ∙ list_all-map (λ b. b) g (legs d c)

  module _ (ss : List Sheet) where
    -- the sheets of a pipe that stands at a cell
    spans_told : (s : PipeEnd) → leg_low_cell c (leg_of s) ≡ Some s.pipe.cell → (b : Axis) → spans ss s.pipe b ≡ leg_spans ss c (leg_of s) b
    spans_told s e b = sym (ap (λ o. option_map_or (λ x. has_sheet ss (record { axis = s.pipe.axis; cell = x; span = b })) o false) e)

    spell_by_legs : (z : Axis) (letter : Pauli) → list_all (λ s. spells ss s.pipe z letter) (pipe_ends d c) ≡ list_all (leg_spells ss c z letter) (legs d c)
    spell_by_legs z letter =
        all_by_legs (λ s. spells ss s.pipe z letter) (leg_spells ss c z letter) (λ s e. rw (spans_told s e z, spans_told s e (third_axis s.pipe.axis z)) refl)

    pub ports_by_legs : (t : Task) (word : List Pauli) → ports_spell t d ss word c ≡ list_all (λ x. same_cell x.0.place c ==> list_all (leg_spells ss c x.0.z_axis x.1) (legs d c)) (zip t.ports word)
    ports_by_legs t word = λ u. list_all (λ x. same_cell x.0.place c ==> spell_by_legs x.0.z_axis x.1 u) (zip t.ports word)

    pub y_by_legs : (t : Task) → y_sheets_match t d ss c ≡ (is_y d c ==> list_all (leg_matches ss c) (legs d c))
    y_by_legs t =
        ap (λ b. is_y d c ==> b) (all_by_legs (λ s. agree (spans ss s.pipe I) (spans ss s.pipe J)) (leg_matches ss c) (λ s e. rw (spans_told s e I, spans_told s e J) refl))

    joins_by_legs : (b : Axis) → (has_leg_along (legs d c) b || (not (is_odd (spanning ss b (pipe_ends d c))) && all_or_none (beside ss b (pipe_ends d c)))) ≡ legs_join ss c (legs d c) b
    joins_by_legs b =
        let spanned = by_legs (λ s. spans ss s.pipe b) (λ l. leg_spans ss c l b) (λ s e. spans_told s e b) in
        let others = by_legs (λ s. spans ss s.pipe (third_axis s.pipe.axis b)) (λ l. leg_spans ss c l (third_axis l.axis b)) (λ s e. spans_told s e (third_axis s.pipe.axis b)) in
        λ u. has_leg_along (legs d c) b || (not (is_odd (spanned u)) && all_or_none (others u))

    pub joints_by_legs : (t : Task) → sheets_join_at t d ss c ≡ (is_port_place t c || (is_y d c || list_all (legs_join ss c (legs d c)) axes))
    joints_by_legs t = λ u. is_port_place t c || (is_y d c || list_all (λ b. joins_by_legs b u) axes)
