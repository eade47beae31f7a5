-- The clauses of the diagram say that it is valid: group by group, each is its rule.
use Rattle.std.proofs.Common.{◌≡◌, Bool, true, false, cond, ◌&&◌, ◌||◌, not, nat_eq, List, [], ◌∷◌, ◌++◌, map, length, Option, Some, None, refl, sym, ap, ap₂, ◌∙◌}
use Rattle.std.specs.List.{list_all, list_any, filter, flat_map}
use Rattle.std.specs.Option.{is_some}
use Rattle.std.proofs.lemmas.Bool.{and_parts, and_from, not-true}
use Rattle.std.proofs.lemmas.List.{length-map}
use Rattle.std.proofs.lemmas.List.Folds.{list_all-append, list_all-map}
use Rattle.std.proofs.Math.Bool.{or-false, and-true}
use Rattle.las_base.specs.declared.Axis.{Axis}
use Rattle.las_base.specs.declared.Axis.TheVariants.{I, J, K}
use Rattle.las_base.specs.declared.Way.TheVariants.{Plus, Minus}
use Rattle.las_base.specs.declared.Kind.{Kind}
use Rattle.las_base.specs.declared.Cell.{Cell}
use Rattle.las_base.specs.declared.Port.{Port}
use Rattle.las_base.specs.Axes.{axes, same_axis, same_kind, other_kind, next_axis, kind_by}
use Rattle.las_base.specs.Cells.{holds, cells, above, same_cell, widened}
use Rattle.las_base.specs.Jobs.{Task, IsTask, is_port_place, port_fits}
use Rattle.las_base.proofs.Same.{same_cell-is}
use Rattle.las_base.proofs.Widened.{held_wide, place_named}
use Rattle.grid_box.specs.declared.Leg.{Leg}
use Rattle.grid_box.specs.Drawings.{Drawing, IsDrawing, pipe_at, is_y, Pipe}
use Rattle.grid_box.specs.Legs.{Position, positions, legs, along, has_leg_along, kind_on, kinds_on, kind_at, end_of_way}
use Rattle.grid_box.specs.PipeRules.{◌==>◌, IsValid, everywhere, is_only, is_bare, is_port_leg, all_one_kind, stays_along, stays_in_box, has_port_pipe, leaves_forbidden_empty, y_cube_has_one_k_leg, is_no_dead_end, has_no_three_axes, colours_match, port_shows_z}
use Rattle.grid_box.proofs.StayLemmas.{stays_by_axes}
use Rattle.grid_box.proofs.LegLemmas.{is_bare-map}
use Rattle.cnf_base.specs.Literals.{Values, Clause, all_true, clause_true}
use Rattle.cnf_table.specs.Positions.{is_on, inner_cells, same_position, port_position, low_position}
use Rattle.cnf_table.specs.Variables.{diagram_var, exist_member, colour_member, pipe_var_at, colour_var_at}
use Rattle.cnf_table.specs.Clauses.{box_clauses_at, box_clauses, port_clauses_at, port_clauses, forbidden_clauses_at, forbidden_clauses, y_cube_clauses_at, y_cube_clauses, dead_end_clauses_at, dead_end_clauses, three_axes_clauses_at, three_axes_clauses, colour_clauses_at, colour_clauses, port_colour_clause, port_colour_clauses, absent_colour_clauses_at, absent_colour_clauses, diagram_clauses}
use Rattle.cnf_table.specs.Values.{pipe_passes}
use Rattle.cnf_table.specs.Shown.{ShowsDiagram}
use Rattle.cnf_table.proofs.ListLemmas.{list_all-flat_map, list_any-map, list_all-swap, list_all-only_if, same_where, all_weaker, list_all-true}
use Rattle.cnf_table.proofs.CellLemmas.{narrowed, inner_suffice, at_places, at_listed}
use Rattle.cnf_table.proofs.LiteralLemmas.{signed, lit_true-literal}
use Rattle.cnf_table.proofs.LinkLemmas.{stands, leg_by, stands_is, legs_are, pipe_outside, y_outside}
use Rattle.cnf_table.proofs.CellTables.{has_pipe, y_value, forbidden_cell, y_cube_cell, dead_end_cell, three_axes_cell, colour_cell, port_cell}
use Rattle.cnf_table.proofs.PlaceLemmas.{is_only-map, same_way-end, only_there, any_all, inner_same, box_same, one_leg_axes, one_leg_kinds, none_outside}

stays_or : (i e : Bool) → (not (not i) || not e) ≡ (e ==> i)
stays_or true true = refl
stays_or true false = refl
stays_or false true = refl
stays_or false false = refl

-- a colour's literal says that the leg shows Z on an axis
kind_told : (n z : Bool) → same_kind (cond n (kind_by z) (other_kind (kind_by z))) Kind.Z ≡ signed (cond n true false) z
kind_told true true = refl
kind_told true false = refl
kind_told false true = refl
kind_told false false = refl

module _ (t : Task) (d : Drawing) (v : Values) (task : IsTask t) (drawn : IsDrawing d) (size : d.size ≡ t.size) (shows : ShowsDiagram t.size d v) where
  abbrev z_at : Cell → Position → Bool
  z_at c q = v (colour_var_at t.size c q)

  pub same_stands : (c : Cell) → filter (has_pipe v t.size c) positions ≡ filter (stands d c) positions
  same_stands c = λ i. filter (λ p. stands_is t.size d v drawn size shows c p i) positions

  pub legs_here : (c : Cell) → legs d c ≡ map (leg_by (z_at c)) (filter (stands d c) positions)
  legs_here c = legs_are t.size d v drawn size shows c

  -- ---- the box

  box_here : (a : Axis) (c : Cell) → holds t.size c ≡ true → all_true v (box_clauses_at t a c) ≡ stays_along t d a c
  box_here a c h =
      simp (list_all-only_if, lit_true-literal, or-false, and-true)
      (stays_or (holds t.size (above a c) || is_port_place t (above a c)) (v (pipe_var_at t.size c (low_position a))) ∙ ap (λ e. e ==> (holds t.size (above a c) || is_port_place t (above a c))) (shows.pipes a c h))

  stays_outside : (c : Cell) → holds t.size c ≡ false → stays_in_box t d c ≡ true
  stays_outside c out = stays_by_axes t d c ∙ and_from _ _ (on I) (and_from _ _ (on J) (on K))
    where
      on : (a : Axis) → stays_along t d a c ≡ true
      on a = ap (λ o. is_some o ==> (holds t.size (above a c) || is_port_place t (above a c))) (pipe_outside t.size d v drawn size a c out)

  pub box_rule : all_true v (box_clauses t) ≡ everywhere t (stays_in_box t d)
  box_rule =
      list_all-flat_map (clause_true v) (λ a. flat_map (box_clauses_at t a) (cells t.size)) axes
      ∙ (λ i. list_all (λ a. list_all-flat_map (clause_true v) (box_clauses_at t a) (cells t.size) i) axes)
      ∙ (λ i. list_all (λ a. box_same t (λ c. all_true v (box_clauses_at t a c)) (stays_along t d a) (box_here a) i) axes)
      ∙ list_all-swap (λ a c. stays_along t d a c) axes (cells t.size)
      ∙ (λ i. list_all (λ c. by_axes c i) (cells t.size))
      ∙ narrowed (stays_in_box t d) t.size stays_outside
    where
      by_axes : (c : Cell) → list_all (λ a. stays_along t d a c) axes ≡ stays_in_box t d c
      by_axes c = ap (λ b. stays_along t d I c && (stays_along t d J c && b)) (and-true (stays_along t d K c)) ∙ sym (stays_by_axes t d c)

  -- ---- ports

  abbrev pub port_passes : Cell → Port → Bool
  port_passes c p = is_only (is_port_leg p) (legs d c) && not (is_y d c)

  -- the port's pipe stands at the place alone
  pub only_pipe : (c : Cell) (p : Port) → is_only (is_port_leg p) (legs d c) ≡ is_only (λ q. same_position q (port_position p)) (filter (stands d c) positions)
  only_pipe c p =
      ap (is_only (is_port_leg p)) (legs_here c) ∙ is_only-map (is_port_leg p) (leg_by (z_at c)) (filter (stands d c) positions)
      ∙ (λ i. is_only (λ q. same_axis q.0 p.axis && same_way-end q.1 p.way i) (filter (stands d c) positions))

  y_off : (c : Cell) → (not (holds t.size c) || not (y_value v t.size c)) ≡ not (is_y d c)
  y_off c = by_box (holds t.size c) refl
    where
      by_box : (b : Bool) → holds t.size c ≡ b → (not b || not (y_value v t.size c)) ≡ not (is_y d c)
      by_box true h = ap not (shows.y_cells c h)
      by_box false h = ap not (sym (y_outside t.size d v drawn size c h))

  port_here : (p : Port) → port_fits t.size p ≡ true → all_true v (port_clauses_at t.size p) ≡ port_passes p.place p
  port_here p fits =
      port_cell v t.size p fits
      ∙ ap₂ (λ a b. a && b) (ap (is_only (λ q. same_position q (port_position p))) (same_stands p.place) ∙ sym (only_pipe p.place p)) (y_off p.place)

  pub places_named : list_all (λ p. holds (widened t.size) p.place) t.ports ≡ true
  places_named = all_weaker (port_fits t.size) (λ p. holds (widened t.size) p.place) t.ports (place_named t.size) task.places

  ports_rule : all_true v (port_clauses t) ≡ list_all (λ p. port_passes p.place p) t.ports
  ports_rule =
      list_all-flat_map (clause_true v) (port_clauses_at t.size) t.ports
      ∙ same_where (port_fits t.size) (λ p. all_true v (port_clauses_at t.size p)) (λ p. port_passes p.place p) t.ports task.places port_here

  ports_everywhere : everywhere t (has_port_pipe t d) ≡ list_all (λ p. port_passes p.place p) t.ports
  ports_everywhere = at_places (widened t.size) (λ p. p.place) port_passes t.ports places_named

  pub port_rule : all_true v (port_clauses t) ≡ everywhere t (has_port_pipe t d)
  port_rule = ports_rule ∙ sym ports_everywhere

  -- ---- forbidden cells

  forbidden_here : (c : Cell) → holds t.size c ≡ true → all_true v (forbidden_clauses_at t.size c) ≡ (is_bare (legs d c) && not (is_y d c))
  forbidden_here c h =
      forbidden_cell v t.size c
      ∙ ap₂ (λ a b. a && not b) (ap is_bare (same_stands c) ∙ sym (is_bare-map (leg_by (z_at c)) (filter (stands d c) positions)) ∙ ap is_bare (sym (legs_here c))) (shows.y_cells c h)

  pub forbidden_rule : all_true v (forbidden_clauses t) ≡ everywhere t (leaves_forbidden_empty t d)
  forbidden_rule =
      list_all-flat_map (clause_true v) (forbidden_clauses_at t.size) t.forbidden
      ∙ same_where (holds t.size) (λ c. all_true v (forbidden_clauses_at t.size c)) (λ c. is_bare (legs d c) && not (is_y d c)) t.forbidden task.forbidden forbidden_here
      ∙ sym (at_listed (widened t.size) (λ c. is_bare (legs d c) && not (is_y d c)) t.forbidden (all_weaker (holds t.size) (holds (widened t.size)) t.forbidden (held_wide t.size) task.forbidden))

  -- ---- inner cells

  pub only_k : (c : Cell) → is_only (along K) (legs d c) ≡ is_only (is_on K) (filter (stands d c) positions)
  only_k c = ap (is_only (along K)) (legs_here c) ∙ is_only-map (along K) (leg_by (z_at c)) (filter (stands d c) positions)

  pub has_along : (c : Cell) (b : Axis) → has_leg_along (legs d c) b ≡ list_any (is_on b) (filter (stands d c) positions)
  has_along c b = ap (λ ls. has_leg_along ls b) (legs_here c) ∙ list_any-map (along b) (leg_by (z_at c)) (filter (stands d c) positions)

  y_cube_here : (c : Cell) → holds t.size c ≡ true → all_true v (y_cube_clauses_at t.size c) ≡ y_cube_has_one_k_leg t d c
  y_cube_here c h =
      y_cube_cell v t.size c
      ∙ ap₂ (λ y ps. y ==> is_only (is_on K) ps) (shows.y_cells c h) (same_stands c)
      ∙ ap (λ b. is_y d c ==> b) (sym (only_k c))

  dead_end_here : (c : Cell) → holds t.size c ≡ true → all_true v (dead_end_clauses_at t.size c) ≡ (is_y d c || not (nat_eq (length (legs d c)) 1))
  dead_end_here c h =
      dead_end_cell v t.size c
      ∙ ap₂ (λ y ps. y || not (nat_eq (length ps) 1)) (shows.y_cells c h) (same_stands c)
      ∙ ap (λ n. is_y d c || not (nat_eq n 1)) (sym (ap length (legs_here c) ∙ length-map (filter (stands d c) positions) (leg_by (z_at c))))

  three_axes_here : (c : Cell) → holds t.size c ≡ true → all_true v (three_axes_clauses_at t.size c) ≡ has_no_three_axes t d c
  three_axes_here c h =
      three_axes_cell v t.size c
      ∙ ap (λ ps. not (list_all (λ a. list_any (is_on a) ps) axes)) (same_stands c)
      ∙ (λ i. not (list_all (λ a. sym (has_along c a) i) axes))

  colour_here : (c : Cell) → holds t.size c ≡ true → all_true v (colour_clauses_at t.size c) ≡ colours_match t d c
  colour_here c h =
      colour_cell v t.size c
      ∙ ap (λ ps. list_all (λ b. all_one_kind (kinds_on b (map (leg_by (z_at c)) ps))) axes) (same_stands c)
      ∙ ap (λ ls. list_all (λ b. all_one_kind (kinds_on b ls)) axes) (sym (legs_here c))

  module _ (stays : everywhere t (stays_in_box t d) ≡ true) (ports : everywhere t (has_port_pipe t d) ≡ true) where
    pub each_port : list_all (λ p. port_passes p.place p) t.ports ≡ true
    each_port = sym ports_everywhere ∙ ports

    -- a port's pipe stands at its place alone
    pub at_port : (c : Cell) (p : Port) → port_passes c p ≡ true → (filter (stands d c) positions ≡ port_position p ∷ []) × (is_y d c ≡ false)
    at_port c p passes =
        let parts = and_parts (is_only (is_port_leg p) (legs d c)) (not (is_y d c)) passes in
        (only_there (port_position p) (filter (stands d c) positions) (sym (only_pipe c p) ∙ parts.0), not-true (is_y d c) parts.1)

    -- so at a cell that is the place of some port
    pub at_place : (c : Cell) → is_port_place t c ≡ true → (o : Position) × (filter (stands d c) positions ≡ o ∷ []) × (is_y d c ≡ false)
    at_place c place =
        let found = any_all (λ p. same_cell p.place c) (λ p. port_passes p.place p) t.ports place each_port in
        let here : port_passes c found.0 ≡ true = ap (λ x. port_passes x found.0) (sym (same_cell-is found.0.place c found.1)) ∙ found.2 in
        let at = at_port c found.0 here in
        (port_position found.0, at.0, at.1)

    pub no_legs : (c : Cell) → is_port_place t c ≡ false → holds t.size c ≡ false → legs d c ≡ []
    no_legs c inner out = legs_here c ∙ ap (map (leg_by (z_at c))) (none_outside t d drawn size stays c inner out)

    -- a rule that holds of one leg and of none, where there is no Y cube, stands for inner cells as for all
    pub inner_rule : (test : Cell → Bool) (clauses : Cell → List Clause) → ((c : Cell) (l : Leg) → is_port_place t c ≡ true → legs d c ≡ l ∷ [] → is_y d c ≡ false → test c ≡ true) → ((c : Cell) → legs d c ≡ [] → is_y d c ≡ false → test c ≡ true)
        → ((c : Cell) → holds t.size c ≡ true → is_port_place t c ≡ false → all_true v (clauses c) ≡ test c) → all_true v (flat_map clauses (inner_cells t)) ≡ everywhere t test
    inner_rule test clauses one none here =
        list_all-flat_map (clause_true v) clauses (inner_cells t)
        ∙ inner_same t (λ c. all_true v (clauses c)) test here
        ∙ inner_suffice t test
        (λ c place.
        let at = at_place c place in
        one c (leg_by (z_at c) at.0) place (legs_here c ∙ ap (map (leg_by (z_at c))) at.1) at.2)
        (λ c inner out. none c (no_legs c inner out) (y_outside t.size d v drawn size c out))

    pub y_cube_rule : all_true v (y_cube_clauses t) ≡ everywhere t (y_cube_has_one_k_leg t d)
    y_cube_rule =
        inner_rule (y_cube_has_one_k_leg t d) (y_cube_clauses_at t.size)
        (λ c l place is y. ap (λ b. b ==> is_only (along K) (legs d c)) y)
        (λ c is y. ap (λ b. b ==> is_only (along K) (legs d c)) y)
        (λ c h inner. y_cube_here c h)

    pub dead_end_rule : all_true v (dead_end_clauses t) ≡ everywhere t (is_no_dead_end t d)
    dead_end_rule =
        inner_rule (is_no_dead_end t d) (dead_end_clauses_at t.size)
        (λ c l place is y. ap (λ b. b || (is_y d c || not (nat_eq (length (legs d c)) 1))) place)
        (λ c is y. ap (λ ls. is_port_place t c || (is_y d c || not (nat_eq (length ls) 1))) is ∙ or_true (is_port_place t c) (is_y d c))
        (λ c h inner. dead_end_here c h ∙ sym (ap (λ b. b || (is_y d c || not (nat_eq (length (legs d c)) 1))) inner))
      where
        or_true : (a b : Bool) → (a || (b || true)) ≡ true
        or_true true b = refl
        or_true false true = refl
        or_true false false = refl

    pub three_axes_rule : all_true v (three_axes_clauses t) ≡ everywhere t (has_no_three_axes t d)
    three_axes_rule =
        inner_rule (has_no_three_axes t d) (three_axes_clauses_at t.size)
        (λ c l place is y. ap (λ ls. not (list_all (has_leg_along ls) axes)) is ∙ one_leg_axes l)
        (λ c is y. ap (λ ls. not (list_all (has_leg_along ls) axes)) is)
        (λ c h inner. three_axes_here c h)

    pub colour_rule : all_true v (colour_clauses t) ≡ everywhere t (colours_match t d)
    colour_rule =
        inner_rule (colours_match t d) (colour_clauses_at t.size)
        (λ c l place is y. ap (λ ls. list_all (λ b. all_one_kind (kinds_on b ls)) axes) is ∙ one_leg_kinds l)
        (λ c is y. ap (λ ls. list_all (λ b. all_one_kind (kinds_on b ls)) axes) is)
        (λ c h inner. colour_here c h)

    -- ---- the colours at ports

    abbrev port_shows : Cell → Port → Bool
    port_shows c p = list_all (λ l. is_port_leg p l ==> same_kind (kind_on l p.z_axis) Kind.Z) (legs d c)

    port_colour_here : (p : Port) → port_passes p.place p ≡ true → clause_true v (port_colour_clause t.size p) ≡ port_shows p.place p
    port_colour_here p passes =
        simp (lit_true-literal, or-false)
        (sym
        (ap (list_all (λ l. is_port_leg p l ==> same_kind (kind_on l p.z_axis) Kind.Z)) legs_is
        ∙ and-true (is_port_leg p leg ==> same_kind (kind_on leg p.z_axis) Kind.Z)
        ∙ ap (λ b. b ==> same_kind (kind_on leg p.z_axis) Kind.Z) own
        ∙ kind_told (same_axis p.z_axis (next_axis p.axis)) (z_at p.place (port_position p))))
      where
        leg : Leg
        leg = leg_by (z_at p.place) (port_position p)

        legs_is : legs d p.place ≡ leg_by (z_at p.place) (port_position p) ∷ []
        legs_is = legs_here p.place ∙ ap (map (leg_by (z_at p.place))) (at_port p.place p passes).0

        own : is_port_leg p (leg_by (z_at p.place) (port_position p)) ≡ true
        own = sym (ap (is_only (is_port_leg p)) legs_is) ∙ (and_parts (is_only (is_port_leg p) (legs d p.place)) (not (is_y d p.place)) passes).0

    pub port_colour_rule : all_true v (port_colour_clauses t) ≡ everywhere t (port_shows_z t d)
    port_colour_rule =
        list_all-map (clause_true v) (port_colour_clause t.size) t.ports
        ∙ same_where (λ p. port_passes p.place p) (λ p. clause_true v (port_colour_clause t.size p)) (λ p. port_shows p.place p) t.ports each_port port_colour_here
        ∙ sym (at_places (widened t.size) (λ p. p.place) port_shows t.ports places_named)

  -- ---- absent pipes

  no_colour : (p : Position) (c : Cell) → holds t.size c ≡ true → (v (diagram_var t.size (exist_member p.0) c) || not (v (diagram_var t.size (colour_member p) c))) ≡ true
  no_colour p c h = by_pipe (pipe_at d p.0 c) (shows.pipes p.0 c h) (shows.colours p c h)
    where
      by_pipe : (o : Option Pipe) → v (diagram_var t.size (exist_member p.0) c) ≡ is_some o → v (diagram_var t.size (colour_member p) c) ≡ pipe_passes o (λ q. same_kind (kind_at q (end_of_way p.1)) Kind.Z)
          → (v (diagram_var t.size (exist_member p.0) c) || not (v (diagram_var t.size (colour_member p) c))) ≡ true
      by_pipe None e f = rw (e, f) refl
      by_pipe (Some q) e f = rw e refl

  absent_here : (a : Axis) (c : Cell) → holds t.size c ≡ true → all_true v (absent_colour_clauses_at t.size a c) ≡ true
  absent_here I c h = simp (lit_true-literal, or-false, and-true) (no_colour (I, Plus) c h)
  absent_here J c h = simp (lit_true-literal, or-false, and-true) (no_colour (J, Plus) c h)
  absent_here K c h = simp (lit_true-literal, or-false, and-true) (and_from _ _ (no_colour (K, Plus) c h) (no_colour (K, Minus) c h))

  pub absent_colours : all_true v (absent_colour_clauses t) ≡ true
  absent_colours =
      list_all-flat_map (clause_true v) (λ a. flat_map (absent_colour_clauses_at t.size a) (cells t.size)) axes
      ∙ (λ i. list_all (λ a. list_all-flat_map (clause_true v) (absent_colour_clauses_at t.size a) (cells t.size) i) axes)
      ∙ (λ i. list_all (λ a. box_same t (λ c. all_true v (absent_colour_clauses_at t.size a c)) (λ c. true) (absent_here a) i) axes)
      ∙ ap (λ b. b && (b && (b && true))) (list_all-true (cells t.size))

  -- ---- all groups

  all_nine : (a b c e f g h i j : List Clause) → all_true v (a ++ (b ++ (c ++ (e ++ (f ++ (g ++ (h ++ (i ++ j)))))))) ≡ (all_true v a && (all_true v b && (all_true v c && (all_true v e && (all_true v f && (all_true v g && (all_true v h && (all_true v i && all_true v j))))))))
  all_nine a b c e f g h i j = simp (list_all-append)

  pub valid_from : all_true v (diagram_clauses t) ≡ true → IsValid t d
  valid_from all =
      let whole = sym (all_nine (box_clauses t) (port_clauses t) (forbidden_clauses t) (y_cube_clauses t) (dead_end_clauses t) (three_axes_clauses t) (colour_clauses t) (port_colour_clauses t) (absent_colour_clauses t)) ∙ all in
      let p1 = and_parts (all_true v (box_clauses t)) _ whole in
      let p2 = and_parts (all_true v (port_clauses t)) _ p1.1 in
      let p3 = and_parts (all_true v (forbidden_clauses t)) _ p2.1 in
      let p4 = and_parts (all_true v (y_cube_clauses t)) _ p3.1 in
      let p5 = and_parts (all_true v (dead_end_clauses t)) _ p4.1 in
      let p6 = and_parts (all_true v (three_axes_clauses t)) _ p5.1 in
      let p7 = and_parts (all_true v (colour_clauses t)) _ p6.1 in
      let p8 = and_parts (all_true v (port_colour_clauses t)) _ p7.1 in
      let stays : everywhere t (stays_in_box t d) ≡ true = sym box_rule ∙ p1.0 in
      let ports : everywhere t (has_port_pipe t d) ≡ true = sym port_rule ∙ p2.0 in
      record {
        size = size;
        in_box = stays;
        ports = ports;
        forbidden = sym forbidden_rule ∙ p3.0;
        y_cells = sym (y_cube_rule stays ports) ∙ p4.0;
        dead_ends = sym (dead_end_rule stays ports) ∙ p5.0;
        axes = sym (three_axes_rule stays ports) ∙ p6.0;
        colours = sym (colour_rule stays ports) ∙ p7.0;
        port_colours = sym (port_colour_rule stays ports) ∙ p8.0;
      }

  pub true_of_valid : IsValid t d → all_true v (diagram_clauses t) ≡ true
  true_of_valid valid =
      all_nine (box_clauses t) (port_clauses t) (forbidden_clauses t) (y_cube_clauses t) (dead_end_clauses t) (three_axes_clauses t) (colour_clauses t) (port_colour_clauses t) (absent_colour_clauses t)
      ∙ and_from _ _ (box_rule ∙ valid.in_box) (and_from _ _ (port_rule ∙ valid.ports) (and_from _ _ (forbidden_rule ∙ valid.forbidden)
      (and_from _ _ (y_cube_rule valid.in_box valid.ports ∙ valid.y_cells) (and_from _ _ (dead_end_rule valid.in_box valid.ports ∙ valid.dead_ends) (and_from _ _ (three_axes_rule valid.in_box valid.ports ∙ valid.axes)
      (and_from _ _ (colour_rule valid.in_box valid.ports ∙ valid.colours) (and_from _ _ (port_colour_rule valid.in_box valid.ports ∙ valid.port_colours) absent_colours)))))))
