-- The clauses of a flow say that its sheets serve it: group by group, each is its rule.
use Rattle.std.proofs.Common.{◌≡◌, ℕ, Bool, true, false, cond, ◌&&◌, ◌||◌, not, List, [], ◌∷◌, ◌++◌, map, Option, Some, None, ◌⊎◌, inl, inr, refl, sym, ap, ap₂, ◌∙◌}
use Rattle.std.specs.List.{list_all, list_any, filter, flat_map, zip}
use Rattle.std.specs.Option.{is_some, option_map_or}
use Rattle.std.proofs.lemmas.Bool.{and_parts, and_from, not-true, or_parts, cases_Bool}
use Rattle.std.proofs.lemmas.List.Folds.{list_all-append, list_all-map}
use Rattle.std.proofs.Math.Bool.{or-false, and-true}
use Rattle.las_base.specs.declared.Axis.{Axis}
use Rattle.las_base.specs.declared.Axis.TheVariants.{I, J, K}
use Rattle.las_base.specs.declared.Kind.{Kind}
use Rattle.las_base.specs.declared.Pauli.{Pauli}
use Rattle.las_base.specs.declared.Cell.{Cell}
use Rattle.las_base.specs.declared.Port.{Port}
use Rattle.las_base.specs.Axes.{axes, same_axis, third_axis, has_part}
use Rattle.las_base.specs.Cells.{holds, cells, widened}
use Rattle.las_base.specs.Jobs.{Task, IsTask, is_port_place}
use Rattle.las_base.proofs.Widened.{held_wide}
use Rattle.las_base.proofs.Lists.{map_where, filter_passes}
use Rattle.grid_box.specs.Drawings.{Drawing, IsDrawing, Pipe, pipe_at, is_y}
use Rattle.grid_box.specs.Legs.{Position, PipeEnd, positions, pipe_end_at, pipe_ends, legs, leg_of, along, has_leg_along}
use Rattle.grid_box.specs.PipeRules.{◌==>◌, everywhere, is_only, stays_in_box, has_port_pipe, y_cube_has_one_k_leg}
use Rattle.grid_box.specs.Sheets.{Sheet, Serves, spans, agree, is_odd, all_or_none, spells, spanning, beside, ports_spell, y_sheets_match, sheets_join_at}
use Rattle.grid_box.specs.Surfaces.{sheet_number}
use Rattle.grid_box.proofs.LegLemmas.{found_at}
use Rattle.cnf_base.specs.Literals.{Values, Clause, all_true, clause_true}
use Rattle.cnf_table.specs.Positions.{low_of, exists_in, is_on, port_position}
use Rattle.cnf_table.specs.Variables.{diagram_var, sheet_var, exist_member, pipe_var_at, sheet_var_at}
use Rattle.cnf_table.specs.Clauses.{absent_sheet_clauses_at, absent_sheet_clauses, letter_clauses_at, letter_clauses, y_sheet_clauses_at, y_sheet_clauses, joint_clauses_on, joint_clauses_at, joint_clauses, flow_clauses}
use Rattle.cnf_table.specs.Values.{pipe_passes}
use Rattle.cnf_table.specs.Shown.{ShowsDiagram, ShowsSheets}
use Rattle.cnf_table.proofs.ListLemmas.{list_all-flat_map, list_all-filter, list_all-true, same_where, list_all-and, or-list_all}
use Rattle.cnf_table.proofs.CellLemmas.{all_of, at_places}
use Rattle.cnf_table.proofs.LiteralLemmas.{signed, lit_true-literal}
use Rattle.cnf_table.proofs.LinkLemmas.{stands, end_told, ends_are, stands_is, span_is, sheet_stands}
use Rattle.cnf_table.proofs.CellTables.{has_pipe, y_value}
use Rattle.cnf_table.proofs.JointTables.{filter-swap, others, along_value, along_is, joint_on}
use Rattle.cnf_table.proofs.PlaceLemmas.{filter_keeps, box_same}
use Rattle.cnf_table.proofs.DiagramLemmas.{same_stands, places_named, each_port, at_port, inner_rule, port_passes, only_k, has_along}

another : (a b : Axis) → same_axis a b ≡ false → same_axis a (third_axis a b) ≡ false
another I I e = cc
another J J e = cc
another K K e = cc
another I J e = refl
another I K e = refl
another J I e = refl
another J K e = refl
another K I e = refl
another K J e = refl

signed_is : (h x : Bool) → signed h x ≡ agree x h
signed_is true true = refl
signed_is true false = refl
signed_is false true = refl
signed_is false false = refl

zip_first : {X Y : Type 0} (f : X → Bool) (xs : List X) (ys : List Y) → list_all f xs ≡ true → list_all (λ x. f x.0) (zip xs ys) ≡ true
zip_first f [] ys all = refl
zip_first f (x ∷ xs) [] all = refl
zip_first f (x ∷ xs) (y ∷ ys) all =
    let parts = and_parts (f x) (list_all f xs) all in
    and_from (f x) (list_all (λ x. f x.0) (zip xs ys)) parts.0 (zip_first f xs ys parts.1)

-- the fact that is told of the end at a position
abbrev told_at : {X : Type 0} → Drawing → Cell → X → (PipeEnd → X) → Position → X
told_at d c x f p = option_map_or f (pipe_end_at d c p) x

ends_told : {X : Type 0} (d : Drawing) (c : Cell) (x : X) (f : PipeEnd → X) → map f (pipe_ends d c) ≡ map (told_at d c x f) (filter (stands d c) positions)
ends_told d c x f = ends_are d c f (told_at d c x f) (λ p e is. sym (ap (λ o. option_map_or f o x) is))

-- at a position at which a pipe stands, what is told is a fact of the position, if it is one of each end there
told_is : {X : Type 0} (d : Drawing) (c : Cell) (x y : X) (f : PipeEnd → X) (p : Position) → stands d c p ≡ true → ((e : PipeEnd) → pipe_end_at d c p ≡ Some e → f e ≡ y) → told_at d c x f p ≡ y
told_is d c x y f p st same = by_end (pipe_end_at d c p) refl st
  where
    by_end : (o : Option PipeEnd) → pipe_end_at d c p ≡ o → is_some o ≡ true → option_map_or f o x ≡ y
    by_end None is t = absurd (cc)
    by_end (Some e) is t = same e is

all_by_map : {X : Type 0} (f : X → Bool) (xs : List X) → list_all f xs ≡ list_all (λ b. b) (map f xs)
all_by_map f xs = sym (list_all-map (λ b. b) f xs)

k_other : (a : Axis) → same_axis a K ≡ true → (same_axis a I ≡ false) × (same_axis a J ≡ false)
k_other I e = absurd (cc)
k_other J e = absurd (cc)
k_other K e = (refl, refl)

y_pair : (y a b : Bool) → ((not y || (not a || b)) && (not y || (a || not b))) ≡ (not y || agree a b)
y_pair false a b = refl
y_pair true true true = refl
y_pair true true false = refl
y_pair true false true = refl
y_pair true false false = refl

unless_there : (h e a b : Bool) → (h && a) ≡ ((h && e) && a) → (h && b) ≡ ((h && e) && b) → (not h || agree a b) ≡ (not (h && e) || agree a b)
unless_there false e a b p q = refl
unless_there true true a b p q = refl
unless_there true false a b p q = rw (p, q) refl

only_some : {X : Type 0} (f : X → Bool) (xs : List X) → is_only f xs ≡ true → (q : X) × (xs ≡ q ∷ []) × (f q ≡ true)
only_some f [] e = absurd (cc)
only_some f (x ∷ []) e = (x, refl, e)
only_some f (x ∷ y ∷ xs) e = absurd (cc)

none_dropped : {X : Type 0} (f : X → Bool) (xs : List X) → list_any f xs ≡ false → filter (λ x. not (f x)) xs ≡ xs
none_dropped f [] e = refl
none_dropped f (x ∷ xs) e =
    let parts = or_parts (f x) (list_any f xs) e in
    rw parts.0 (ap (λ ys. x ∷ ys) (none_dropped f xs parts.1))

unmapped : {X Y : Type 0} (f : X → Y) (xs : List X) → map f xs ≡ [] → xs ≡ []
unmapped f [] e = refl
unmapped f (x ∷ xs) e = absurd (cc)

module _ (t : Task) (d : Drawing) (v : Values) (task : IsTask t) (drawn : IsDrawing d) (size : d.size ≡ t.size) (shows : ShowsDiagram t.size d v) (flow : ℕ) (ss : List Sheet) (sheets : ShowsSheets t.size d flow ss v) where
  -- ---- absent pipes

  no_sheet : (a b : Axis) (c : Cell) → same_axis a b ≡ false → holds t.size c ≡ true → (v (diagram_var t.size (exist_member a) c) || not (v (sheet_var t.size flow (sheet_number a b) c))) ≡ true
  no_sheet a b c other h = by_pipe (pipe_at d a c) (shows.pipes a c h) (sheets.sheets a b other c h)
    where
      by_pipe : (o : Option Pipe) → v (diagram_var t.size (exist_member a) c) ≡ is_some o → v (sheet_var t.size flow (sheet_number a b) c) ≡ pipe_passes o (λ q. spans ss q b)
          → (v (diagram_var t.size (exist_member a) c) || not (v (sheet_var t.size flow (sheet_number a b) c))) ≡ true
      by_pipe None e f = rw (e, f) refl
      by_pipe (Some q) e f = rw e refl

  absent_here : (a : Axis) (c : Cell) → holds t.size c ≡ true → all_true v (absent_sheet_clauses_at t.size flow a c) ≡ true
  absent_here I c h = simp (lit_true-literal, or-false, and-true) (and_from _ _ (no_sheet I J c refl h) (no_sheet I K c refl h))
  absent_here J c h = simp (lit_true-literal, or-false, and-true) (and_from _ _ (no_sheet J I c refl h) (no_sheet J K c refl h))
  absent_here K c h = simp (lit_true-literal, or-false, and-true) (and_from _ _ (no_sheet K I c refl h) (no_sheet K J c refl h))

  pub absent_sheets : all_true v (absent_sheet_clauses t flow) ≡ true
  absent_sheets =
      list_all-flat_map (clause_true v) (λ a. flat_map (absent_sheet_clauses_at t.size flow a) (cells t.size)) axes
      ∙ (λ i. list_all (λ a. list_all-flat_map (clause_true v) (absent_sheet_clauses_at t.size flow a) (cells t.size) i) axes)
      ∙ (λ i. list_all (λ a. box_same t (λ c. all_true v (absent_sheet_clauses_at t.size flow a c)) (λ c. true) (absent_here a) i) axes)
      ∙ ap (λ b. b && (b && (b && true))) (list_all-true (cells t.size))

  -- the sheet of the end at a position
  spans_here : (c : Cell) (b : Axis) (p : Position) (e : PipeEnd) → pipe_end_at d c p ≡ Some e → same_axis p.0 b ≡ false → spans ss e.pipe b ≡ v (sheet_var_at t.size flow c p b)
  spans_here c b p e is other = span_is t.size d v drawn size shows flow ss sheets c b p e is other

  end_axis : (c : Cell) (p : Position) (e : PipeEnd) → pipe_end_at d c p ≡ Some e → e.pipe.axis ≡ p.0
  end_axis c p e is = (found_at d p.0 (low_of c p) e.pipe (end_told d c p e is).1).0

  -- the other sheet, for an axis
  beside_here : (c : Cell) (b : Axis) (p : Position) (e : PipeEnd) → pipe_end_at d c p ≡ Some e → same_axis p.0 b ≡ false → spans ss e.pipe (third_axis e.pipe.axis b) ≡ v (sheet_var_at t.size flow c p (third_axis p.0 b))
  beside_here c b p e is other = ap (λ a. spans ss e.pipe (third_axis a b)) (end_axis c p e is) ∙ spans_here c (third_axis p.0 b) p e is (another p.0 b other)

  -- ---- letters

  abbrev port_spells : Cell → Port × Pauli → Bool
  port_spells c x = list_all (λ e. spells ss e.pipe x.0.z_axis x.1) (pipe_ends d c)

  module _ (stays : everywhere t (stays_in_box t d) ≡ true) (ports : everywhere t (has_port_pipe t d) ≡ true) where
    letter_here : (x : Port × Pauli) → (port_passes t d v task drawn size shows x.0.place x.0 && not (same_axis x.0.axis x.0.z_axis)) ≡ true → all_true v (letter_clauses_at t.size flow x) ≡ port_spells x.0.place x
    letter_here x passes =
        simp (lit_true-literal, or-false, and-true)
        (ap₂ (λ a b. a && b) (signed_is (has_part Kind.Z x.1) (v (sheet_var_at t.size flow c o x.0.z_axis))) (signed_is (has_part Kind.X x.1) (v (sheet_var_at t.size flow c o (third_axis x.0.axis x.0.z_axis))))
        ∙ sym spelled)
      where
        p : Port
        p = x.0

        c : Cell
        c = x.0.place

        o : Position
        o = port_position x.0

        parts : (port_passes t d v task drawn size shows x.0.place x.0 ≡ true) × (not (same_axis x.0.axis x.0.z_axis) ≡ true)
        parts = and_parts (port_passes t d v task drawn size shows x.0.place x.0) (not (same_axis x.0.axis x.0.z_axis)) passes

        other : same_axis x.0.axis x.0.z_axis ≡ false
        other = not-true (same_axis x.0.axis x.0.z_axis) parts.1

        alone : filter (stands d x.0.place) positions ≡ port_position x.0 ∷ []
        alone = (at_port t d v task drawn size shows stays ports x.0.place x.0 parts.0).0

        there : stands d x.0.place (port_position x.0) ≡ true
        there = (and_parts (stands d x.0.place (port_position x.0)) true (ap (list_all (stands d x.0.place)) (sym alone) ∙ filter_passes (stands d x.0.place) positions)).0

        spelled : port_spells x.0.place x ≡ (agree (v (sheet_var_at t.size flow x.0.place (port_position x.0) x.0.z_axis)) (has_part Kind.Z x.1) && agree (v (sheet_var_at t.size flow x.0.place (port_position x.0) (third_axis x.0.axis x.0.z_axis))) (has_part Kind.X x.1))
        spelled =
            all_by_map (λ e. spells ss e.pipe x.0.z_axis x.1) (pipe_ends d x.0.place)
            ∙ ap (list_all (λ b. b)) (ends_told d x.0.place true (λ e. spells ss e.pipe x.0.z_axis x.1) ∙ ap (map (told_at d x.0.place true (λ e. spells ss e.pipe x.0.z_axis x.1))) alone)
            ∙ and-true (told_at d x.0.place true (λ e. spells ss e.pipe x.0.z_axis x.1) (port_position x.0))
            ∙ told_is d x.0.place true _ (λ e. spells ss e.pipe x.0.z_axis x.1) (port_position x.0) there
            (λ e is. ap₂ (λ a b. agree a (has_part Kind.Z x.1) && agree b (has_part Kind.X x.1)) (spans_here x.0.place x.0.z_axis (port_position x.0) e is other) (beside_here x.0.place x.0.z_axis (port_position x.0) e is other))

    pub letter_rule : (word : List Pauli) → all_true v (letter_clauses t flow word) ≡ everywhere t (ports_spell t d ss word)
    letter_rule word =
        list_all-flat_map (clause_true v) (letter_clauses_at t.size flow) (zip t.ports word)
        ∙ same_where (λ x. port_passes t d v task drawn size shows x.0.place x.0 && not (same_axis x.0.axis x.0.z_axis)) (λ x. all_true v (letter_clauses_at t.size flow x)) (λ x. port_spells x.0.place x) (zip t.ports word)
        (zip_first (λ p. port_passes t d v task drawn size shows p.place p && not (same_axis p.axis p.z_axis)) t.ports word
        (list_all-and (λ p. port_passes t d v task drawn size shows p.place p) (λ p. not (same_axis p.axis p.z_axis)) t.ports ∙ and_from _ _ (each_port t d v task drawn size shows stays ports) task.z_axes))
        letter_here
        ∙ sym (at_places (widened t.size) (λ x. x.0.place) port_spells (zip t.ports word) (zip_first (λ p. holds (widened t.size) p.place) t.ports word (places_named t d v task drawn size shows)))

    -- ---- Y cells

    module _ (y_cubes : everywhere t (y_cube_has_one_k_leg t d) ≡ true) where
      one_k : (c : Cell) → holds t.size c ≡ true → is_y d c ≡ true → (q : Position) × (filter (stands d c) positions ≡ q ∷ []) × (is_on K q ≡ true)
      one_k c h y =
          let here : y_cube_has_one_k_leg t d c ≡ true = all_of (y_cube_has_one_k_leg t d) (widened t.size) y_cubes c (held_wide t.size c h) in
          only_some (is_on K) (filter (stands d c) positions) (sym (only_k t d v task drawn size shows c) ∙ ap (λ b. b ==> is_only (along K) (legs d c)) (sym y) ∙ here)

      -- where no pipe stands there is no sheet
      off : (c : Cell) (b : Axis) (p : Position) → same_axis p.0 b ≡ false → (exists_in t.size c p && v (sheet_var_at t.size flow c p b)) ≡ (has_pipe v t.size c p && v (sheet_var_at t.size flow c p b))
      off c b p other = sheet_stands t.size d v drawn size shows flow ss sheets c b p other ∙ ap (λ x. x && v (sheet_var_at t.size flow c p b)) (sym (stands_is t.size d v drawn size shows c p))

      abbrev matched : Cell → Position → Bool
      matched c p = agree (v (sheet_var_at t.size flow c p I)) (v (sheet_var_at t.size flow c p J))

      y_tests : (c : Cell) → all_true v (y_sheet_clauses_at t.size flow c) ≡ (not (y_value v t.size c) || list_all (matched c) (filter (is_on K) (filter (exists_in t.size c) positions)))
      y_tests c =
          as_pairs
          ∙ (λ i. list_all (λ p. y_pair (y_value v t.size c) (v (sheet_var_at t.size flow c p I)) (v (sheet_var_at t.size flow c p J)) i) (filter (is_on K) (filter (exists_in t.size c) positions)))
          ∙ or-list_all (not (y_value v t.size c)) (matched c) (filter (is_on K) (filter (exists_in t.size c) positions))
        where
          as_pairs : all_true v (y_sheet_clauses_at t.size flow c) ≡ list_all (λ p. (not (y_value v t.size c) || (not (v (sheet_var_at t.size flow c p I)) || v (sheet_var_at t.size flow c p J))) && (not (y_value v t.size c) || (v (sheet_var_at t.size flow c p I) || not (v (sheet_var_at t.size flow c p J))))) (filter (is_on K) (filter (exists_in t.size c) positions))
          as_pairs = simp (list_all-flat_map, lit_true-literal, or-false, and-true)

      -- at a cell with one leg, which is along K
      y_one : (c : Cell) (q : Position) → filter (stands d c) positions ≡ q ∷ [] → is_on K q ≡ true → list_all (matched c) (filter (is_on K) (filter (exists_in t.size c) positions)) ≡ list_all (λ e. agree (spans ss e.pipe I) (spans ss e.pipe J)) (pipe_ends d c)
      y_one c q alone k = left ∙ sym right
        where
          exist : (p : Position) → is_on K p ≡ true → (not (exists_in t.size c p) || matched c p) ≡ (not (has_pipe v t.size c p) || matched c p)
          exist p k = unless_there (exists_in t.size c p) (v (pipe_var_at t.size c p)) (v (sheet_var_at t.size flow c p I)) (v (sheet_var_at t.size flow c p J)) (off c I p (k_other p.0 k).0) (off c J p (k_other p.0 k).1)

          left : list_all (matched c) (filter (is_on K) (filter (exists_in t.size c) positions)) ≡ matched c q
          left =
              ap (list_all (matched c)) (filter-swap (is_on K) (exists_in t.size c) positions)
              ∙ list_all-filter (matched c) (exists_in t.size c) (filter (is_on K) positions)
              ∙ same_where (is_on K) (λ p. not (exists_in t.size c p) || matched c p) (λ p. not (has_pipe v t.size c p) || matched c p) (filter (is_on K) positions) (filter_passes (is_on K) positions) exist
              ∙ sym (list_all-filter (matched c) (has_pipe v t.size c) (filter (is_on K) positions))
              ∙ ap (list_all (matched c)) (filter-swap (has_pipe v t.size c) (is_on K) positions ∙ ap (filter (is_on K)) (same_stands t d v task drawn size shows c ∙ alone))
              ∙ ap (λ b. list_all (matched c) (cond b (q ∷ []) [])) k
              ∙ and-true (matched c q)

          there : stands d c q ≡ true
          there = (and_parts (stands d c q) true (ap (list_all (stands d c)) (sym alone) ∙ filter_passes (stands d c) positions)).0

          right : list_all (λ e. agree (spans ss e.pipe I) (spans ss e.pipe J)) (pipe_ends d c) ≡ matched c q
          right =
              all_by_map (λ e. agree (spans ss e.pipe I) (spans ss e.pipe J)) (pipe_ends d c)
              ∙ ap (list_all (λ b. b)) (ends_told d c true (λ e. agree (spans ss e.pipe I) (spans ss e.pipe J)) ∙ ap (map (told_at d c true (λ e. agree (spans ss e.pipe I) (spans ss e.pipe J)))) alone)
              ∙ and-true (told_at d c true (λ e. agree (spans ss e.pipe I) (spans ss e.pipe J)) q)
              ∙ told_is d c true (matched c q) (λ e. agree (spans ss e.pipe I) (spans ss e.pipe J)) q there
              (λ e is. ap₂ agree (spans_here c I q e is (k_other q.0 k).0) (spans_here c J q e is (k_other q.0 k).1))

      y_sheet_here : (c : Cell) → holds t.size c ≡ true → all_true v (y_sheet_clauses_at t.size flow c) ≡ y_sheets_match t d ss c
      y_sheet_here c h =
          y_tests c ∙ ap (λ y. not y || list_all (matched c) (filter (is_on K) (filter (exists_in t.size c) positions))) (shows.y_cells c h) ∙ by_y (is_y d c) refl
        where
          by_y : (y : Bool) → is_y d c ≡ y → (not y || list_all (matched c) (filter (is_on K) (filter (exists_in t.size c) positions))) ≡ (y ==> list_all (λ e. agree (spans ss e.pipe I) (spans ss e.pipe J)) (pipe_ends d c))
          by_y true y = let one = one_k c h y in y_one c one.0 one.1 one.2
          by_y false y = refl

      pub y_sheet_rule : all_true v (y_sheet_clauses t flow) ≡ everywhere t (y_sheets_match t d ss)
      y_sheet_rule =
          inner_rule t d v task drawn size shows stays ports (y_sheets_match t d ss) (y_sheet_clauses_at t.size flow)
          (λ c l place is y. ap (λ b. b ==> list_all (λ e. agree (spans ss e.pipe I) (spans ss e.pipe J)) (pipe_ends d c)) y)
          (λ c is y. ap (λ b. b ==> list_all (λ e. agree (spans ss e.pipe I) (spans ss e.pipe J)) (pipe_ends d c)) y)
          (λ c h inner. y_sheet_here c h)

      -- ---- joints

      abbrev spanning_at : Cell → Axis → Position → Bool
      spanning_at c b p = v (sheet_var_at t.size flow c p b)

      abbrev beside_at : Cell → Axis → Position → Bool
      beside_at c b p = v (sheet_var_at t.size flow c p (third_axis p.0 b))

      abbrev joint_value : Cell → Axis → Bool
      joint_value c b = ((has_leg_along (legs d c) b || is_y d c) || not (is_odd (map (spanning_at c b) (filter (stands d c) (others b))))) && (has_leg_along (legs d c) b || all_or_none (map (beside_at c b) (filter (stands d c) (others b))))

      joint_values : (c : Cell) (b : Axis) → holds t.size c ≡ true → all_true v (joint_clauses_on t.size flow c b) ≡ joint_value c b
      joint_values c b h =
          joint_on v t.size flow c b (λ p o. off c b p (not-true (is_on b p) o)) (λ p o. off c (third_axis p.0 b) p (another p.0 b (not-true (is_on b p) o)))
          ∙ (λ i. ((al i || shows.y_cells c h i) || not (is_odd (map (spanning_at c b) (filter (λ p. st p i) (others b))))) && (al i || all_or_none (map (beside_at c b) (filter (λ p. st p i) (others b)))))
        where
          st : (p : Position) → has_pipe v t.size c p ≡ stands d c p
          st p = stands_is t.size d v drawn size shows c p

          al : along_value v t.size flow c b ≡ has_leg_along (legs d c) b
          al = along_is v t.size flow c b ∙ ap (list_any (is_on b)) (same_stands t d v task drawn size shows c) ∙ sym (has_along t d v task drawn size shows c b)

      -- with no leg on the axis, what is told of the ends by what is told of the positions beside it
      beside_told : (c : Cell) (b : Axis) (f : PipeEnd → Bool) (g : Position → Bool) → has_leg_along (legs d c) b ≡ false → ((p : Position) (e : PipeEnd) → pipe_end_at d c p ≡ Some e → same_axis p.0 b ≡ false → f e ≡ g p) → map f (pipe_ends d c) ≡ map g (filter (stands d c) (others b))
      beside_told c b f g none same =
          ends_told d c false f
          ∙ ap (map (told_at d c false f)) (sym (filter-swap (stands d c) (λ p. not (is_on b p)) positions ∙ none_dropped (is_on b) (filter (stands d c) positions) (sym (has_along t d v task drawn size shows c b) ∙ none)))
          ∙ map_where (λ p. stands d c p && not (is_on b p)) (told_at d c false f) g (filter (stands d c) (others b)) (filter_keeps (stands d c) (λ p. not (is_on b p)) (others b) (filter_passes (λ p. not (is_on b p)) positions))
          (λ p both.
          let parts = and_parts (stands d c p) (not (is_on b p)) both in
          told_is d c false (g p) f p parts.0 (λ e is. same p e is (not-true (is_on b p) parts.1)))

      joint_rule_at : (c : Cell) (b : Axis) → is_y d c ≡ false → joint_value c b ≡ (has_leg_along (legs d c) b || (not (is_odd (spanning ss b (pipe_ends d c))) && all_or_none (beside ss b (pipe_ends d c))))
      joint_rule_at c b y = by_along (has_leg_along (legs d c) b) refl (is_y d c) y
        where
          by_along : (l : Bool) → has_leg_along (legs d c) b ≡ l → (y : Bool) → y ≡ false → (((l || y) || not (is_odd (map (spanning_at c b) (filter (stands d c) (others b))))) && (l || all_or_none (map (beside_at c b) (filter (stands d c) (others b))))) ≡ (l || (not (is_odd (spanning ss b (pipe_ends d c))) && all_or_none (beside ss b (pipe_ends d c))))
          by_along true l y e = refl
          by_along false l true e = absurd (cc)
          by_along false l false e =
              let first : spanning ss b (pipe_ends d c) ≡ map (spanning_at c b) (filter (stands d c) (others b)) = beside_told c b (λ e. spans ss e.pipe b) (spanning_at c b) l (spans_here c b) in
              let second : beside ss b (pipe_ends d c) ≡ map (beside_at c b) (filter (stands d c) (others b)) = beside_told c b (λ e. spans ss e.pipe (third_axis e.pipe.axis b)) (beside_at c b) l (beside_here c b) in
              λ i. not (is_odd (sym first i)) && all_or_none (sym second i)

      joint_at_y : (c : Cell) (b : Axis) → holds t.size c ≡ true → is_y d c ≡ true → joint_value c b ≡ true
      joint_at_y c b h y =
          let one = one_k c h y in
          let few : filter (stands d c) (others b) ≡ cond (not (is_on b one.0)) (one.0 ∷ []) [] = filter-swap (stands d c) (λ p. not (is_on b p)) positions ∙ ap (filter (λ p. not (is_on b p))) one.1 in
          ap (λ x. ((has_leg_along (legs d c) b || x) || not (is_odd (map (spanning_at c b) (filter (stands d c) (others b))))) && (has_leg_along (legs d c) b || all_or_none (map (beside_at c b) (filter (stands d c) (others b))))) y
          ∙ ap (λ ps. ((has_leg_along (legs d c) b || true) || not (is_odd (map (spanning_at c b) ps))) && (has_leg_along (legs d c) b || all_or_none (map (beside_at c b) ps))) few
          ∙ by_tests (has_leg_along (legs d c) b) (not (is_on b one.0)) one.0
        where
          by_tests : (l o : Bool) (q : Position) → (((l || true) || not (is_odd (map (spanning_at c b) (cond o (q ∷ []) [])))) && (l || all_or_none (map (beside_at c b) (cond o (q ∷ []) [])))) ≡ true
          by_tests true o q = refl
          by_tests false true q = refl
          by_tests false false q = refl

      joint_here : (c : Cell) → holds t.size c ≡ true → is_port_place t c ≡ false → all_true v (joint_clauses_at t.size flow c) ≡ sheets_join_at t d ss c
      joint_here c h inner =
          list_all-flat_map (clause_true v) (joint_clauses_on t.size flow c) axes
          ∙ (λ i. list_all (λ b. joint_values c b h i) axes)
          ∙ by_y (cases_Bool (is_y d c))
          ∙ sym (ap (λ x. x || (is_y d c || list_all (λ b. has_leg_along (legs d c) b || (not (is_odd (spanning ss b (pipe_ends d c))) && all_or_none (beside ss b (pipe_ends d c)))) axes)) inner)
        where
          by_y : (is_y d c ≡ true) ⊎ (is_y d c ≡ false) → list_all (joint_value c) axes ≡ (is_y d c || list_all (λ b. has_leg_along (legs d c) b || (not (is_odd (spanning ss b (pipe_ends d c))) && all_or_none (beside ss b (pipe_ends d c)))) axes)
          by_y (inl y) =
              (λ i. list_all (λ b. joint_at_y c b h y i) axes)
              ∙ sym (ap (λ x. x || list_all (λ b. has_leg_along (legs d c) b || (not (is_odd (spanning ss b (pipe_ends d c))) && all_or_none (beside ss b (pipe_ends d c)))) axes) y)
          by_y (inr y) =
              (λ i. list_all (λ b. joint_rule_at c b y i) axes)
              ∙ sym (ap (λ x. x || list_all (λ b. has_leg_along (legs d c) b || (not (is_odd (spanning ss b (pipe_ends d c))) && all_or_none (beside ss b (pipe_ends d c)))) axes) y)

      pub joint_rule : all_true v (joint_clauses t flow) ≡ everywhere t (sheets_join_at t d ss)
      joint_rule =
          inner_rule t d v task drawn size shows stays ports (sheets_join_at t d ss) (joint_clauses_at t.size flow)
          (λ c l place is y. ap (λ b. b || (is_y d c || list_all (λ b. has_leg_along (legs d c) b || (not (is_odd (spanning ss b (pipe_ends d c))) && all_or_none (beside ss b (pipe_ends d c)))) axes)) place)
          (λ c is y.
          let bare : pipe_ends d c ≡ [] = unmapped leg_of (pipe_ends d c) is in
          (λ i. is_port_place t c || (is_y d c || list_all (λ b. has_leg_along (is i) b || (not (is_odd (spanning ss b (bare i))) && all_or_none (beside ss b (bare i)))) axes)) ∙ or_true (is_port_place t c) (is_y d c))
          joint_here
        where
          or_true : (a b : Bool) → (a || (b || true)) ≡ true
          or_true true b = refl
          or_true false true = refl
          or_true false false = refl

      -- ---- all groups

      all_four : (a b c e : List Clause) → all_true v (a ++ (b ++ (c ++ e))) ≡ (all_true v a && (all_true v b && (all_true v c && all_true v e)))
      all_four a b c e = simp (list_all-append)

      pub serves_from : (word : List Pauli) → all_true v (flow_clauses t (flow, word)) ≡ true → Serves t d ss word
      serves_from word all =
          let whole = sym (all_four (absent_sheet_clauses t flow) (letter_clauses t flow word) (y_sheet_clauses t flow) (joint_clauses t flow)) ∙ all in
          let p1 = and_parts (all_true v (absent_sheet_clauses t flow)) _ whole in
          let p2 = and_parts (all_true v (letter_clauses t flow word)) _ p1.1 in
          let p3 = and_parts (all_true v (y_sheet_clauses t flow)) _ p2.1 in
          record { letters = sym (letter_rule word) ∙ p2.0; y_cells = sym y_sheet_rule ∙ p3.0; joints = sym joint_rule ∙ p3.1 }

      pub true_of_serves : (word : List Pauli) → Serves t d ss word → all_true v (flow_clauses t (flow, word)) ≡ true
      true_of_serves word serves =
          all_four (absent_sheet_clauses t flow) (letter_clauses t flow word) (y_sheet_clauses t flow) (joint_clauses t flow)
          ∙ and_from _ _ absent_sheets (and_from _ _ (letter_rule word ∙ serves.letters) (and_from _ _ (y_sheet_rule ∙ serves.y_cells) (joint_rule ∙ serves.joints)))
