-- The clauses on sheets at one cell and one axis as tests of the pipes that stand there.
use Rattle.std.proofs.Common.{◌≡◌, ℕ, Bool, true, false, cond, ◌&&◌, ◌||◌, not, List, [], ◌∷◌, ◌++◌, map, refl, sym, ap, ap₂, ◌∙◌}
use Rattle.std.specs.List.{list_all, list_any, filter, flat_map}
use Rattle.std.proofs.lemmas.List.Folds.{list_any-append, list_all-append, list_all-map}
use Rattle.std.proofs.lemmas.Simd.{map-map}
use Rattle.std.proofs.Math.Bool.{or-false}
use Rattle.las_base.specs.declared.Axis.{Axis}
use Rattle.las_base.specs.declared.Axis.TheVariants.{I, J, K}
use Rattle.las_base.specs.declared.Cell.{Cell}
use Rattle.las_base.specs.declared.Size.{Size}
use Rattle.las_base.specs.Axes.{third_axis}
use Rattle.las_base.proofs.Lists.{filter_passes, map_where}
use Rattle.grid_box.specs.Legs.{Position, positions}
use Rattle.grid_box.specs.Sheets.{agree, is_odd, all_or_none}
use Rattle.cnf_base.specs.Literals.{Values, all_true, clause_true}
use Rattle.cnf_table.specs.Positions.{exists_in, is_on, same_position}
use Rattle.cnf_table.specs.Variables.{y_literal, pipe_var_at, sheet_var_at}
use Rattle.cnf_table.specs.Clauses.{even_clauses, legs_along, beside_axis, spread, joint_clauses_on}
use Rattle.cnf_table.proofs.Tables.{by_pair}
use Rattle.cnf_table.proofs.ListLemmas.{list_all-flat_map, list_any-map, list_all-filter, list_any-filter, or-list_all, all_weaker}
use Rattle.cnf_table.proofs.ParityLemmas.{parity_law}
use Rattle.cnf_table.proofs.LiteralLemmas.{lit_true-literal}
use Rattle.cnf_table.proofs.CellTables.{has_pipe, y_value, where_exists}

eliminated : (hp hq one sp eq sq : Bool) → (not hp || (not hq || (not (not one) || (not sp || (not eq || sq))))) ≡ (one || (not (hp && sp) || (not (hq && eq) || (hq && sq))))
eliminated false hq true sp eq sq = refl
eliminated false hq false sp eq sq = refl
eliminated true false true sp eq sq = refl
eliminated true false false true eq sq = refl
eliminated true false false false eq sq = refl
eliminated true true true sp eq sq = refl
eliminated true true false sp eq sq = refl

module _ {X : Type 0} where
  pub filter-swap : (f g : X → Bool) (xs : List X) → filter f (filter g xs) ≡ filter g (filter f xs)
  filter-swap f g [] = refl
  filter-swap f g (x ∷ xs) = by_tests (f x) refl (g x) refl (filter-swap f g xs)
    where
      by_tests : (a : Bool) → f x ≡ a → (b : Bool) → g x ≡ b → filter f (filter g xs) ≡ filter g (filter f xs) → filter f (cond b (x ∷ filter g xs) (filter g xs)) ≡ filter g (cond a (x ∷ filter f xs) (filter f xs))
      by_tests true s true t ih = rw (s, t) (ap (λ ys. x ∷ ys) ih)
      by_tests true s false t ih = rw t ih
      by_tests false s true t ih = rw s ih
      by_tests false s false t ih = ih

  pub is_odd-filter : (f h : X → Bool) (xs : List X) → is_odd (map f (filter h xs)) ≡ is_odd (map (λ x. h x && f x) xs)
  is_odd-filter f h [] = refl
  is_odd-filter f h (x ∷ xs) = by_test (h x) (is_odd-filter f h xs)
    where
      by_test : (b : Bool) → is_odd (map f (filter h xs)) ≡ is_odd (map (λ x. h x && f x) xs) → is_odd (map f (cond b (x ∷ filter h xs) (filter h xs))) ≡ cond (b && f x) (not (is_odd (map (λ x. h x && f x) xs))) (is_odd (map (λ x. h x && f x) xs))
      by_test true ih = ap (λ o. cond (f x) (not o) o) ih
      by_test false ih = ih

  -- positions that do not exist say nothing of one another
  pub pairs_exist : (one : X → X → Bool) (h e sp : X → Bool) (xs : List X) → list_all (λ p. list_all (λ q. not (sp p) || (not (e q) || sp q)) (filter (λ q. not (one q p)) (filter h xs))) (filter h xs)
      ≡ list_all (λ p. list_all (λ q. one q p || (not (h p && sp p) || (not (h q && e q) || (h q && sp q)))) xs) xs
  pairs_exist one h e sp xs =
      list_all-filter (λ p. list_all (λ q. not (sp p) || (not (e q) || sp q)) (filter (λ q. not (one q p)) (filter h xs))) h xs
      ∙ (λ i. list_all (λ p. inner p i) xs)
    where
      inner : (p : X) → (not (h p) || list_all (λ q. not (sp p) || (not (e q) || sp q)) (filter (λ q. not (one q p)) (filter h xs))) ≡ list_all (λ q. one q p || (not (h p && sp p) || (not (h q && e q) || (h q && sp q)))) xs
      inner p =
          ap (λ b. not (h p) || b)
          (list_all-filter (λ q. not (sp p) || (not (e q) || sp q)) (λ q. not (one q p)) (filter h xs) ∙ list_all-filter (λ q. not (not (one q p)) || (not (sp p) || (not (e q) || sp q))) h xs)
          ∙ sym (or-list_all (not (h p)) (λ q. not (h q) || (not (not (one q p)) || (not (sp p) || (not (e q) || sp q)))) xs)
          ∙ (λ i. list_all (λ q. eliminated (h p) (h q) (one q p) (sp p) (e q) (sp q) i) xs)

-- the positions of a cell that are not on the axis
abbrev pub others : Axis → List Position
others b = filter (λ p. not (is_on b p)) positions

abbrev spread_test : Axis → (Position → Bool) → (Position → Bool) → Bool
spread_test b st sg =
    not (list_all (λ p. not (sg p) || st p) (others b)) || agree (list_all (λ p. list_all (λ q. same_position q p || (not (sg p) || (not (st q) || sg q))) (others b)) (others b)) (all_or_none (map sg (filter st (others b))))

spread_table : (b : Axis) (st sg : Position → Bool) → spread_test b st sg ≡ true
spread_table I st sg = by_pair (spread_test I) refl st sg
spread_table J st sg = by_pair (spread_test J) refl st sg
spread_table K st sg = by_pair (spread_test K) refl st sg

module _ (v : Values) (s : Size) (flow : ℕ) (c : Cell) (b : Axis) where
  -- some leg is on the axis, by the values
  abbrev pub along_value : Bool
  along_value = list_any (λ p. v (pipe_var_at s c p)) (filter (is_on b) (filter (exists_in s c) positions))

  pub along_is : along_value ≡ list_any (is_on b) (filter (has_pipe v s c) positions)
  along_is =
      list_any-filter (λ p. v (pipe_var_at s c p)) (is_on b) (filter (exists_in s c) positions)
      ∙ list_any-filter (λ p. is_on b p && v (pipe_var_at s c p)) (exists_in s c) positions
      ∙ (λ i. list_any (λ p. turned (exists_in s c p) (is_on b p) (v (pipe_var_at s c p)) i) positions)
      ∙ sym (list_any-filter (is_on b) (has_pipe v s c) positions)
    where
      turned : (h o e : Bool) → (h && (o && e)) ≡ ((h && e) && o)
      turned true true true = refl
      turned true true false = refl
      turned true false true = refl
      turned true false false = refl
      turned false o e = refl

  -- the sheet that spans the axis, and the one that does not
  abbrev pub spanning_value : Position → Bool
  spanning_value p = v (sheet_var_at s flow c p b)

  abbrev pub beside_value : Position → Bool
  beside_value p = v (sheet_var_at s flow c p (third_axis p.0 b))

  -- where no pipe stands there is no sheet, on the positions beside the axis
  abbrev pub AreOff : (Position → Bool) → Type 0
  AreOff f = (p : Position) → not (is_on b p) ≡ true → (exists_in s c p && f p) ≡ (has_pipe v s c p && f p)

  pub even_part : AreOff spanning_value → all_true v (even_clauses (legs_along s c b ++ y_literal s c true ∷ []) (map (λ p. sheet_var_at s flow c p b) (beside_axis s c b)))
      ≡ ((along_value || y_value v s c) || not (is_odd (map spanning_value (filter (has_pipe v s c) (others b)))))
  even_part off =
      parity_law v (legs_along s c b ++ y_literal s c true ∷ []) (map (λ p. sheet_var_at s flow c p b) (beside_axis s c b))
      ∙ ap₂ (λ f xs. f || not (is_odd xs)) front (map-map v (λ p. sheet_var_at s flow c p b) (beside_axis s c b))
      ∙ ap (λ o. (along_value || y_value v s c) || not o)
      (ap (λ ps. is_odd (map spanning_value ps)) (filter-swap (λ p. not (is_on b p)) (exists_in s c) positions)
      ∙ is_odd-filter spanning_value (exists_in s c) (others b)
      ∙ ap is_odd (map_where (λ p. not (is_on b p)) (λ p. exists_in s c p && spanning_value p) (λ p. has_pipe v s c p && spanning_value p) (others b) (filter_passes (λ p. not (is_on b p)) positions) off)
      ∙ sym (is_odd-filter spanning_value (has_pipe v s c) (others b)))
    where
      front : clause_true v (legs_along s c b ++ y_literal s c true ∷ []) ≡ (along_value || y_value v s c)
      front = simp (list_any-append, list_any-map, lit_true-literal, or-false)

  pub spread_part : AreOff beside_value → all_true v (flat_map (λ p. map (spread s flow c b p) (filter (λ q. not (same_position q p)) (beside_axis s c b))) (beside_axis s c b))
      ≡ (along_value || all_or_none (map beside_value (filter (has_pipe v s c) (others b))))
  spread_part off =
      as_tests
      ∙ (λ i. list_all (λ p. or-list_all along_value (λ q. pair p q) (filter (λ q. not (same_position q p)) (beside_axis s c b)) i) (beside_axis s c b))
      ∙ or-list_all along_value (λ p. list_all (pair p) (filter (λ q. not (same_position q p)) (beside_axis s c b))) (beside_axis s c b)
      ∙ ap (λ o. along_value || o)
      ((λ i. list_all (λ p. list_all (pair p) (filter (λ q. not (same_position q p)) (swapped i))) (swapped i))
      ∙ pairs_exist same_position (exists_in s c) (λ p. v (pipe_var_at s c p)) beside_value (others b)
      ∙ where_exists (list_all (λ p. not (exists_in s c p && beside_value p) || has_pipe v s c p) (others b)) _ _ implied (spread_table b (has_pipe v s c) (λ p. exists_in s c p && beside_value p))
      ∙ ap all_or_none (map_where (has_pipe v s c) (λ p. exists_in s c p && beside_value p) beside_value (filter (has_pipe v s c) (others b)) (filter_passes (has_pipe v s c) (others b)) (λ p st. there (exists_in s c p) (v (pipe_var_at s c p)) (beside_value p) st)))
    where
      pair : Position → Position → Bool
      pair p q = not (v (sheet_var_at s flow c p (third_axis p.0 b))) || (not (v (pipe_var_at s c q)) || v (sheet_var_at s flow c q (third_axis q.0 b)))

      as_tests : all_true v (flat_map (λ p. map (spread s flow c b p) (filter (λ q. not (same_position q p)) (beside_axis s c b))) (beside_axis s c b))
          ≡ list_all (λ p. list_all (λ q. along_value || (not (beside_value p) || (not (v (pipe_var_at s c q)) || beside_value q))) (filter (λ q. not (same_position q p)) (beside_axis s c b))) (beside_axis s c b)
      as_tests = simp (list_all-flat_map, list_all-map, list_any-append, list_any-map, lit_true-literal, or-false)

      swapped : beside_axis s c b ≡ filter (exists_in s c) (others b)
      swapped = filter-swap (λ p. not (is_on b p)) (exists_in s c) positions

      there : (h e x : Bool) → (h && e) ≡ true → (h && x) ≡ x
      there true e x t = refl
      there false e x t = absurd (cc)

      either : (h st x : Bool) → (h && x) ≡ (st && x) → (not (h && x) || st) ≡ true
      either h true x e = or_true (not (h && x))
        where
          or_true : (b : Bool) → (b || true) ≡ true
          or_true true = refl
          or_true false = refl
      either h false x e = rw e refl

      implied : list_all (λ p. not (exists_in s c p && beside_value p) || has_pipe v s c p) (others b) ≡ true
      implied =
          all_weaker (λ p. not (is_on b p)) (λ p. not (exists_in s c p && beside_value p) || has_pipe v s c p) (others b) (λ p o. either (exists_in s c p) (has_pipe v s c p) (beside_value p) (off p o)) (filter_passes (λ p. not (is_on b p)) positions)

  pub joint_on : AreOff spanning_value → AreOff beside_value → all_true v (joint_clauses_on s flow c b)
      ≡ (((along_value || y_value v s c) || not (is_odd (map spanning_value (filter (has_pipe v s c) (others b))))) && (along_value || all_or_none (map beside_value (filter (has_pipe v s c) (others b)))))
  joint_on off_spanning off_beside =
      list_all-append (clause_true v) (even_clauses (legs_along s c b ++ y_literal s c true ∷ []) (map (λ p. sheet_var_at s flow c p b) (beside_axis s c b))) (flat_map (λ p. map (spread s flow c b p) (filter (λ q. not (same_position q p)) (beside_axis s c b))) (beside_axis s c b))
      ∙ ap₂ (λ x y. x && y) (even_part off_spanning) (spread_part off_beside)
