-- The clauses at one cell as tests of the pipes that stand there, by truth tables.
use Rattle.std.proofs.Common.{◌≡◌, Bool, true, false, cond, ◌&&◌, ◌||◌, not, nat_eq, List, [], ◌∷◌, map, length, refl, sym, ap, ◌∙◌}
use Rattle.std.specs.List.{list_all, list_any, filter}
use Rattle.std.proofs.lemmas.List.Folds.{list_any-append, list_all-append, list_all-map}
use Rattle.std.proofs.Math.Bool.{or-false, and-true}
use Rattle.las_base.specs.declared.Axis.{Axis}
use Rattle.las_base.specs.declared.Axis.TheVariants.{I, J, K}
use Rattle.las_base.specs.declared.Way.TheVariants.{Plus, Minus}
use Rattle.las_base.specs.declared.Cell.{Cell}
use Rattle.las_base.specs.declared.Size.{Size}
use Rattle.las_base.specs.declared.Port.{Port}
use Rattle.las_base.specs.Axes.{axes, next_axis, same_axis}
use Rattle.las_base.specs.Cells.{holds}
use Rattle.grid_box.specs.Legs.{Position, positions, kinds_on}
use Rattle.grid_box.specs.PipeRules.{◌==>◌, is_only, is_bare, all_one_kind}
use Rattle.grid_box.specs.Sheets.{agree}
use Rattle.cnf_base.specs.Literals.{Values, all_true}
use Rattle.cnf_table.specs.Positions.{exists_in, positions_at, is_on, same_position, position_before, port_position}
use Rattle.cnf_table.specs.Variables.{diagram_var, pipe_var_at, colour_var_at}
use Rattle.cnf_table.specs.Clauses.{forbidden_clauses_at, not_both, y_cube_clauses_at, dead_end_clauses_at, three_axes_clauses_at, colour_clauses_at, shared_normal, port_clauses_at}
use Rattle.cnf_table.proofs.Tables.{by_table, by_pair, agree-is}
use Rattle.cnf_table.proofs.ListLemmas.{list_all-flat_map, list_any-map, list_all-filter, list_all-only_if, or-list_all}
use Rattle.cnf_table.proofs.LiteralLemmas.{signed, lit_true-literal}
use Rattle.cnf_table.proofs.LinkLemmas.{leg_by}

abbrev Facts : Type 0
Facts = Position → Bool

module _ (v : Values) (s : Size) (c : Cell) where
  -- a pipe stands at a position that exists, by the values
  abbrev pub has_pipe : Position → Bool
  has_pipe p = exists_in s c p && v (pipe_var_at s c p)

  abbrev pub y_value : Bool
  y_value = v (diagram_var s 0 c)

-- nothing stands at a cell
abbrev empty_test : Facts → Facts → Bool → Bool
empty_test h e y = agree (list_all (λ p. not (e p)) (filter h positions) && not y) (is_bare (filter (λ p. h p && e p) positions) && not y)

pub forbidden_cell : (v : Values) (s : Size) (c : Cell) → all_true v (forbidden_clauses_at s c) ≡ (is_bare (filter (has_pipe v s c) positions) && not (y_value v s c))
forbidden_cell v s c =
    simp (list_all-append, list_all-map, lit_true-literal, or-false, and-true)
    (agree-is _ _ (by_table empty_test refl (exists_in s c) (λ p. v (pipe_var_at s c p)) (y_value v s c)))

-- not both of two positions have a pipe at a Y cell
abbrev both_off : Facts → Bool → List Position → Bool
both_off e y (p ∷ q ∷ []) = not y || (not (e p) || not (e q))
both_off e y _ = true

not_both-is : (v : Values) (s : Size) (c : Cell) (ps : List Position) → all_true v (not_both s c ps) ≡ both_off (λ p. v (pipe_var_at s c p)) (y_value v s c) ps
not_both-is v s c [] = refl
not_both-is v s c (p ∷ []) = refl
not_both-is v s c (p ∷ q ∷ []) = simp (lit_true-literal, or-false, and-true)
not_both-is v s c (p ∷ q ∷ r ∷ ps) = refl

abbrev y_test : Facts → Facts → Bool → Bool
y_test h e y =
    agree (list_all (λ p. not y || not (e p)) (filter (λ p. not (is_on K p)) (filter h positions)) && ((not y || list_any e (filter (is_on K) (filter h positions))) && both_off e y (filter (is_on K) (filter h positions))))
    (y ==> is_only (is_on K) (filter (λ p. h p && e p) positions))

pub y_cube_cell : (v : Values) (s : Size) (c : Cell) → all_true v (y_cube_clauses_at s c) ≡ (y_value v s c ==> is_only (is_on K) (filter (has_pipe v s c) positions))
y_cube_cell v s c =
    simp (list_all-append, list_all-map, list_any-map, not_both-is, lit_true-literal, or-false, and-true)
    (agree-is _ _ (by_table y_test refl (exists_in s c) (λ p. v (pipe_var_at s c p)) (y_value v s c)))

abbrev dead_end_test : Facts → Facts → Bool → Bool
dead_end_test h e y =
    agree (list_all (λ p. not (e p) || (list_any e (filter (λ q. not (same_position q p)) (filter h positions)) || y)) (filter h positions)) (y || not (nat_eq (length (filter (λ p. h p && e p) positions)) 1))

pub dead_end_cell : (v : Values) (s : Size) (c : Cell) → all_true v (dead_end_clauses_at s c) ≡ (y_value v s c || not (nat_eq (length (filter (has_pipe v s c) positions)) 1))
dead_end_cell v s c =
    simp (list_all-map, list_any-append, list_any-map, lit_true-literal, or-false)
    (agree-is _ _ (by_table dead_end_test refl (exists_in s c) (λ p. v (pipe_var_at s c p)) (y_value v s c)))

abbrev axes_test : Facts → Facts → Bool
axes_test h e =
    agree (list_all (λ p. list_all (λ q. list_all (λ r. not (e p) || (not (e q) || not (e r))) (filter (is_on K) (filter h positions))) (filter (is_on J) (filter h positions))) (filter (is_on I) (filter h positions)))
    (not (list_all (λ a. list_any (is_on a) (filter (λ p. h p && e p) positions)) axes))

pub three_axes_cell : (v : Values) (s : Size) (c : Cell) → all_true v (three_axes_clauses_at s c) ≡ not (list_all (λ a. list_any (is_on a) (filter (has_pipe v s c) positions)) axes)
three_axes_cell v s c =
    simp (list_all-flat_map, list_all-map, lit_true-literal, or-false)
    (agree-is _ _ (by_pair axes_test refl (exists_in s c) (λ p. v (pipe_var_at s c p))))

-- ---- colours

abbrev pair_clause : Facts → Facts → Position → Position → Axis → Bool → Bool
pair_clause e z p q b sign =
    not (e p) || (not (e q) || (signed (cond (same_axis b (next_axis p.0)) (not sign) (not (not sign))) (z p) || signed (cond (same_axis b (next_axis q.0)) sign (not sign)) (z q)))

abbrev pair_agrees : Facts → Facts → Position × Position → Bool
pair_agrees e z x = pair_clause e z x.0 x.1 (shared_normal x.0 x.1) true && pair_clause e z x.0 x.1 (shared_normal x.0 x.1) false

-- pairs of what a filter keeps, the first before the second
module _ {X : Type 0} (before : X → X → Bool) (f : X → X → Bool) (h : X → Bool) where
  pub pairs-filter : (xs : List X) → list_all (λ p. list_all (f p) (filter (before p) (filter h xs))) (filter h xs) ≡ list_all (λ p. list_all (λ q. not (before p q) || (not (h p) || (not (h q) || f p q))) xs) xs
  pairs-filter xs = list_all-filter (λ p. list_all (f p) (filter (before p) (filter h xs))) h xs ∙ (λ i. list_all (λ p. inner p i) xs)
    where
      turned : (a b c d : Bool) → (not a || (not b || (not c || d))) ≡ (not c || (not a || (not b || d)))
      turned true b true d = refl
      turned false b true d = refl
      turned true true false d = refl
      turned true false false d = refl
      turned false b false d = refl

      inner : (p : X) → (not (h p) || list_all (f p) (filter (before p) (filter h xs))) ≡ list_all (λ q. not (before p q) || (not (h p) || (not (h q) || f p q))) xs
      inner p =
          ap (λ b. not (h p) || b) (list_all-filter (f p) (before p) (filter h xs) ∙ list_all-filter (λ q. not (before p q) || f p q) h xs)
          ∙ sym (or-list_all (not (h p)) (λ q. not (h q) || (not (before p q) || f p q)) xs)
          ∙ (λ i. list_all (λ q. turned (h p) (h q) (before p q) (f p q) i) xs)

absorbed : (hp hq ep eq a b : Bool) → (not hp || (not hq || ((not ep || (not eq || a)) && (not ep || (not eq || b))))) ≡ ((not (hp && ep) || (not (hq && eq) || a)) && (not (hp && ep) || (not (hq && eq) || b)))
absorbed false hq ep eq a b = refl
absorbed true false true eq a b = refl
absorbed true false false eq a b = refl
absorbed true true ep eq a b = refl

abbrev colour_test : Facts → Facts → Bool
colour_test e z = agree (list_all (λ p. list_all (λ q. not (position_before p q) || pair_agrees e z (p, q)) positions) positions) (list_all (λ b. all_one_kind (kinds_on b (map (leg_by z) (filter e positions)))) axes)

pub colour_cell : (v : Values) (s : Size) (c : Cell) → all_true v (colour_clauses_at s c) ≡ list_all (λ b. all_one_kind (kinds_on b (map (leg_by (λ p. v (colour_var_at s c p))) (filter (has_pipe v s c) positions)))) axes
colour_cell v s c =
    as_pairs
    ∙ pairs-filter position_before (λ p q. pair_agrees e z (p, q)) h positions
    ∙ (λ i. list_all (λ p. list_all (λ q. not (position_before p q) || absorbed (h p) (h q) (e p) (e q) (kinds (p, q) true) (kinds (p, q) false) i) positions) positions)
    ∙ agree-is _ _ (by_pair colour_test refl (has_pipe v s c) z)
  where
    h : Facts
    h = exists_in s c

    e : Facts
    e p = v (pipe_var_at s c p)

    z : Facts
    z p = v (colour_var_at s c p)

    kinds : Position × Position → Bool → Bool
    kinds x sign = signed (cond (same_axis (shared_normal x.0 x.1) (next_axis x.0.0)) (not sign) (not (not sign))) (z x.0) || signed (cond (same_axis (shared_normal x.0 x.1) (next_axis x.1.0)) sign (not sign)) (z x.1)

    as_pairs : all_true v (colour_clauses_at s c) ≡ list_all (λ p. list_all (λ q. pair_agrees (λ p. v (pipe_var_at s c p)) (λ p. v (colour_var_at s c p)) (p, q)) (filter (position_before p) (positions_at s c))) (positions_at s c)
    as_pairs = simp (list_all-flat_map, lit_true-literal, or-false, and-true)

-- ---- ports

regrouped : (a b c d : Bool) → (a && b) ≡ d → (a && (b && c)) ≡ (d && c)
regrouped true b c d e = ap (λ x. x && c) e
regrouped false b c d e = ap (λ x. x && c) e

abbrev port_test : Position → Facts → Facts → Bool
port_test o h e =
    not (h o) || agree (e o && list_all (λ q. not (e q)) (filter (λ q. not (same_position q o)) (filter h positions))) (is_only (λ q. same_position q o) (filter (λ p. h p && e p) positions))

port_table : (o : Position) (h e : Facts) → port_test o h e ≡ true
port_table (I, Minus) h e = by_pair (port_test (I, Minus)) refl h e
port_table (I, Plus) h e = by_pair (port_test (I, Plus)) refl h e
port_table (J, Minus) h e = by_pair (port_test (J, Minus)) refl h e
port_table (J, Plus) h e = by_pair (port_test (J, Plus)) refl h e
port_table (K, Minus) h e = by_pair (port_test (K, Minus)) refl h e
port_table (K, Plus) h e = by_pair (port_test (K, Plus)) refl h e

pub where_exists : (h a b : Bool) → h ≡ true → (not h || agree a b) ≡ true → a ≡ b
where_exists true a b t e = agree-is a b e
where_exists false a b t e = absurd (cc)

pub port_cell : (v : Values) (s : Size) (p : Port) → exists_in s p.place (port_position p) ≡ true → all_true v (port_clauses_at s p) ≡ (is_only (λ q. same_position q (port_position p)) (filter (has_pipe v s p.place) positions) && (not (holds s p.place) || not (y_value v s p.place)))
port_cell v s p fits =
    simp (list_all-append, list_all-map, list_all-only_if, lit_true-literal, or-false, and-true)
    (regrouped (v (pipe_var_at s p.place (port_position p))) (list_all (λ q. not (v (pipe_var_at s p.place q))) (filter (λ q. not (same_position q (port_position p))) (positions_at s p.place))) (not (holds s p.place) || not (y_value v s p.place)) (is_only (λ q. same_position q (port_position p)) (filter (has_pipe v s p.place) positions))
    (where_exists (exists_in s p.place (port_position p)) (v (pipe_var_at s p.place (port_position p)) && list_all (λ q. not (v (pipe_var_at s p.place q))) (filter (λ q. not (same_position q (port_position p))) (positions_at s p.place))) (is_only (λ q. same_position q (port_position p)) (filter (has_pipe v s p.place) positions)) fits (port_table (port_position p) (exists_in s p.place) (λ q. v (pipe_var_at s p.place q)))))
