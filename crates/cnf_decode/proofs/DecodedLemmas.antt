-- What is built of satisfying values is shown by them.
use Rattle.std.proofs.Common.{◌≡◌, ℕ, zero, suc, ◌+◌, ◌*◌, ◌<◌, Bool, true, false, cond, ◌&&◌, ◌||◌, not, nat_lt, List, [], ◌∷◌, ◌++◌, length, get_or, Some, None, is_some, slice_get, refl, sym, ap, ◌∙◌, subst, arith}
use Rattle.std.specs.List.{AllZip, list_all, flat_map, enumerate_from}
use Rattle.std.proofs.lemmas.Bool.{and_parts, lt-ltb}
use Rattle.std.proofs.lemmas.Option.{get_or_from_slice_get, slice_get-get_or, slice_get_within}
use Rattle.std.proofs.lemmas.List.Folds.{list_all-append}
use Rattle.std.proofs.Math.Bool.{or-false, and-true}
use Rattle.las_base.specs.declared.Axis.{Axis}
use Rattle.las_base.specs.declared.Axis.TheVariants.{I, J, K}
use Rattle.las_base.specs.declared.Way.{Way}
use Rattle.las_base.specs.declared.Way.TheVariants.{Plus, Minus}
use Rattle.las_base.specs.declared.Kind.{Kind}
use Rattle.las_base.specs.declared.Cell.{Cell}
use Rattle.las_base.specs.declared.Pauli.{Pauli}
use Rattle.las_base.specs.Axes.{axes, kind_by, same_axis, same_kind}
use Rattle.las_base.specs.Cells.{holds, cells, volume}
use Rattle.las_base.specs.Jobs.{Task, IsTask}
use Rattle.grid_box.specs.Drawings.{Drawing, pipe_at}
use Rattle.grid_box.specs.Legs.{Position, kind_at, end_of_way}
use Rattle.grid_box.specs.PipeRules.{IsValid}
use Rattle.grid_box.specs.Sheets.{Sheet, Serves, spans}
use Rattle.grid_box.specs.Surfaces.{Surfaces, has_sheet, sheet_number}
use Rattle.cnf_base.specs.Literals.{Values, Clause, all_true, clause_true, values_of}
use Rattle.cnf_table.specs.Variables.{diagram_var, sheet_var, exist_member, colour_member}
use Rattle.cnf_table.specs.Clauses.{absent_colour_clauses, absent_colour_clauses_at, absent_sheet_clauses, absent_sheet_clauses_at, letter_clauses, y_sheet_clauses, joint_clauses, flow_clauses, clause_table, box_clauses, port_clauses, forbidden_clauses, y_cube_clauses, dead_end_clauses, three_axes_clauses, colour_clauses, port_colour_clauses, diagram_clauses}
use Rattle.cnf_decode.specs.Building.{exists_by, pipe_by, sheet_by, shows_sheet, IsDecoded, AreDecoded}
use Rattle.cnf_table.specs.Values.{pipe_passes}
use Rattle.cnf_table.specs.Shown.{ShowsDiagram, ShowsSheets, AreShown}
use Rattle.cnf_table.proofs.ListLemmas.{list_all-flat_map, all_get}
use Rattle.cnf_table.proofs.CellLemmas.{all_of}
use Rattle.cnf_table.proofs.LiteralLemmas.{lit_true-literal}
use Rattle.cnf_table.specs.Values.{AreValuesOf}
use Rattle.cnf_table.proofs.TableLemmas.{shown_is_exact}
use Rattle.cnf_decode.proofs.AgreeLemmas.{shown_are_values}

module _ (v : Values) where
  front : (x y : List Clause) → all_true v (x ++ y) ≡ true → all_true v x ≡ true
  front x y e = (and_parts (all_true v x) (all_true v y) (sym (list_all-append (clause_true v) x y) ∙ e)).0

  behind : (x y : List Clause) → all_true v (x ++ y) ≡ true → all_true v y ≡ true
  behind x y e = (and_parts (all_true v x) (all_true v y) (sym (list_all-append (clause_true v) x y) ∙ e)).1

  ninth : (a b c e f g h i j : List Clause) → all_true v (a ++ (b ++ (c ++ (e ++ (f ++ (g ++ (h ++ (i ++ j)))))))) ≡ true → all_true v j ≡ true
  ninth a b c e f g h i j all =
      behind i j (behind h (i ++ j) (behind g (h ++ (i ++ j)) (behind f (g ++ (h ++ (i ++ j))) (behind e (f ++ (g ++ (h ++ (i ++ j)))) (behind c (e ++ (f ++ (g ++ (h ++ (i ++ j))))) (behind b (c ++ (e ++ (f ++ (g ++ (h ++ (i ++ j)))))) (behind a (b ++ (c ++ (e ++ (f ++ (g ++ (h ++ (i ++ j))))))) all)))))))

  table_parts : (t : Task) → all_true v (clause_table t).clauses ≡ true → (all_true v (absent_colour_clauses t) ≡ true) × (all_true v (flat_map (flow_clauses t) (enumerate_from 0 t.flows)) ≡ true)
  unfolding clause_table
  table_parts t all = (
    ninth (box_clauses t) (port_clauses t) (forbidden_clauses t) (y_cube_clauses t) (dead_end_clauses t) (three_axes_clauses t) (colour_clauses t) (port_colour_clauses t) (absent_colour_clauses t) (front (diagram_clauses t) (flat_map (flow_clauses t) (enumerate_from 0 t.flows)) all),
    behind (diagram_clauses t) (flat_map (flow_clauses t) (enumerate_from 0 t.flows)) all,
  )

  on_axis : (f : Axis → Bool) (a : Axis) → list_all f axes ≡ true → f a ≡ true
  on_axis f I e = (and_parts (f I) (f J && (f K && true)) e).0
  on_axis f J e = (and_parts (f J) (f K && true) (and_parts (f I) (f J && (f K && true)) e).1).0
  on_axis f K e = (and_parts (f K) true (and_parts (f J) (f K && true) (and_parts (f I) (f J && (f K && true)) e).1).1).0

  -- the clauses of one pipe
  at_pipe : (t : Task) (at : Axis → Cell → List Clause) → all_true v (flat_map (λ a. flat_map (at a) (cells t.size)) axes) ≡ true → (a : Axis) (c : Cell) → holds t.size c ≡ true → all_true v (at a c) ≡ true
  at_pipe t at all a c h =
      let along : all_true v (flat_map (at a) (cells t.size)) ≡ true = on_axis (λ a. all_true v (flat_map (at a) (cells t.size))) a (sym (list_all-flat_map (clause_true v) (λ a. flat_map (at a) (cells t.size)) axes) ∙ all) in
      all_of (λ c. all_true v (at a c)) t.size (sym (list_all-flat_map (clause_true v) (at a) (cells t.size)) ∙ along) c h

  module _ (t : Task) (all : all_true v (clause_table t).clauses ≡ true) where
    colours_here : (a : Axis) (c : Cell) → holds t.size c ≡ true → all_true v (absent_colour_clauses_at t.size a c) ≡ true
    colours_here a c h = at_pipe t (absent_colour_clauses_at t.size) (table_parts t all).0 a c h

    one_i : (c : Cell) → all_true v (absent_colour_clauses_at t.size I c) ≡ (v (diagram_var t.size 1 c) || not (v (diagram_var t.size 4 c)))
    one_i c = simp (lit_true-literal, or-false, and-true)

    one_j : (c : Cell) → all_true v (absent_colour_clauses_at t.size J c) ≡ (v (diagram_var t.size 2 c) || not (v (diagram_var t.size 5 c)))
    one_j c = simp (lit_true-literal, or-false, and-true)

    two_k : (c : Cell) → all_true v (absent_colour_clauses_at t.size K c) ≡ ((v (diagram_var t.size 3 c) || not (v (diagram_var t.size 6 c))) && (v (diagram_var t.size 3 c) || not (v (diagram_var t.size 7 c))))
    two_k c = simp (lit_true-literal, or-false, and-true)

    colour_off : (p : Position) (c : Cell) → holds t.size c ≡ true → (v (diagram_var t.size (exist_member p.0) c) || not (v (diagram_var t.size (colour_member p) c))) ≡ true
    colour_off (I, w) c h = sym (one_i c) ∙ colours_here I c h
    colour_off (J, w) c h = sym (one_j c) ∙ colours_here J c h
    colour_off (K, Plus) c h = (and_parts (v (diagram_var t.size 3 c) || not (v (diagram_var t.size 6 c))) (v (diagram_var t.size 3 c) || not (v (diagram_var t.size 7 c))) (sym (two_k c) ∙ colours_here K c h)).0
    colour_off (K, Minus) c h = (and_parts (v (diagram_var t.size 3 c) || not (v (diagram_var t.size 6 c))) (v (diagram_var t.size 3 c) || not (v (diagram_var t.size 7 c))) (sym (two_k c) ∙ colours_here K c h)).1

    numbered_get : {X : Type 0} (first : ℕ) (xs : List X) (n : ℕ) (w : X) → slice_get xs n ≡ Some w → slice_get (enumerate_from first xs) n ≡ Some (first + n, w)
    numbered_get first [] n w e = absurd (cc)
    numbered_get first (x ∷ xs) zero w e =
        let same : x ≡ w = cc in
        let k : first ≡ first + 0 = omega arith in
        λ i. Some (k i, same i)
    numbered_get first (x ∷ xs) (suc n) w e = let k : first + 1 + n ≡ first + suc n = omega arith in rw k at (numbered_get (first + 1) xs n w e)

    sheets_here : (flow : ℕ) → flow < length t.flows → (a : Axis) (c : Cell) → holds t.size c ≡ true → all_true v (absent_sheet_clauses_at t.size flow a c) ≡ true
    sheets_here flow low a c h =
        let word : List Pauli = get_or t.flows flow [] in
        let k : 0 + flow ≡ flow = omega arith in
        let there : slice_get (enumerate_from 0 t.flows) flow ≡ Some (0 + flow, word) = numbered_get 0 t.flows flow word (slice_get-get_or t.flows flow [] low) in
        let whole : all_true v (flow_clauses t (0 + flow, word)) ≡ true =
        all_get (λ x. all_true v (flow_clauses t x)) (enumerate_from 0 t.flows) flow (0 + flow, word) (sym (list_all-flat_map (clause_true v) (flow_clauses t) (enumerate_from 0 t.flows)) ∙ (table_parts t all).1) there in
        let of_flow : all_true v (flow_clauses t (flow, word)) ≡ true = subst (λ n. all_true v (flow_clauses t (n, word)) ≡ true) k whole in
        at_pipe t (absent_sheet_clauses_at t.size flow) (front (absent_sheet_clauses t flow) (letter_clauses t flow word ++ (y_sheet_clauses t flow ++ joint_clauses t flow)) of_flow) a c h

    two_i : (flow : ℕ) (c : Cell) → all_true v (absent_sheet_clauses_at t.size flow I c) ≡ ((v (diagram_var t.size 1 c) || not (v (sheet_var t.size flow 0 c))) && (v (diagram_var t.size 1 c) || not (v (sheet_var t.size flow 1 c))))
    two_i flow c = simp (lit_true-literal, or-false, and-true)

    two_j : (flow : ℕ) (c : Cell) → all_true v (absent_sheet_clauses_at t.size flow J c) ≡ ((v (diagram_var t.size 2 c) || not (v (sheet_var t.size flow 2 c))) && (v (diagram_var t.size 2 c) || not (v (sheet_var t.size flow 3 c))))
    two_j flow c = simp (lit_true-literal, or-false, and-true)

    two_sheets_k : (flow : ℕ) (c : Cell) → all_true v (absent_sheet_clauses_at t.size flow K c) ≡ ((v (diagram_var t.size 3 c) || not (v (sheet_var t.size flow 4 c))) && (v (diagram_var t.size 3 c) || not (v (sheet_var t.size flow 5 c))))
    two_sheets_k flow c = simp (lit_true-literal, or-false, and-true)

    sheet_off : (flow : ℕ) → flow < length t.flows → (a b : Axis) (c : Cell) → same_axis a b ≡ false → holds t.size c ≡ true → (v (diagram_var t.size (exist_member a) c) || not (v (sheet_var t.size flow (sheet_number a b) c))) ≡ true
    sheet_off flow low I I c other h = absurd (cc)
    sheet_off flow low J J c other h = absurd (cc)
    sheet_off flow low K K c other h = absurd (cc)
    sheet_off flow low I J c other h = (and_parts (v (diagram_var t.size 1 c) || not (v (sheet_var t.size flow 0 c))) _ (sym (two_i flow c) ∙ sheets_here flow low I c h)).0
    sheet_off flow low I K c other h = (and_parts (v (diagram_var t.size 1 c) || not (v (sheet_var t.size flow 0 c))) (v (diagram_var t.size 1 c) || not (v (sheet_var t.size flow 1 c))) (sym (two_i flow c) ∙ sheets_here flow low I c h)).1
    sheet_off flow low J I c other h = (and_parts (v (diagram_var t.size 2 c) || not (v (sheet_var t.size flow 2 c))) _ (sym (two_j flow c) ∙ sheets_here flow low J c h)).0
    sheet_off flow low J K c other h = (and_parts (v (diagram_var t.size 2 c) || not (v (sheet_var t.size flow 2 c))) (v (diagram_var t.size 2 c) || not (v (sheet_var t.size flow 3 c))) (sym (two_j flow c) ∙ sheets_here flow low J c h)).1
    sheet_off flow low K I c other h = (and_parts (v (diagram_var t.size 3 c) || not (v (sheet_var t.size flow 4 c))) _ (sym (two_sheets_k flow c) ∙ sheets_here flow low K c h)).0
    sheet_off flow low K J c other h = (and_parts (v (diagram_var t.size 3 c) || not (v (sheet_var t.size flow 4 c))) (v (diagram_var t.size 3 c) || not (v (sheet_var t.size flow 5 c))) (sym (two_sheets_k flow c) ∙ sheets_here flow low K c h)).1

    kind_is : (b : Bool) → same_kind (kind_by b) Kind.Z ≡ b
    kind_is true = refl
    kind_is false = refl

    -- a fact of an absent pipe is off
    off : (e x : Bool) → e ≡ false → (e || not x) ≡ true → x ≡ false
    off true x f g = absurd (cc)
    off false true f g = absurd (cc)
    off false false f g = refl

    module _ (d : Drawing) (built : IsDecoded v t.size d) where
      by_colour : (w : Way) (a : Axis) (c : Cell) → same_kind (kind_at (pipe_by v t.size a c) (end_of_way w)) Kind.Z ≡ v (diagram_var t.size (colour_member (a, w)) c)
      by_colour Plus a c = kind_is (v (diagram_var t.size (colour_member (a, Plus)) c))
      by_colour Minus a c = kind_is (v (diagram_var t.size (colour_member (a, Minus)) c))

      pipe_here : (a : Axis) (c : Cell) → holds t.size c ≡ true → pipe_at d a c ≡ cond (exists_by v t.size a c) (Some (pipe_by v t.size a c)) None
      pipe_here a c h = built.pipes a c ∙ ap (λ b. cond (b && exists_by v t.size a c) (Some (pipe_by v t.size a c)) None) h

      pub diagram_shown : ShowsDiagram t.size d v
      diagram_shown = record {
        y_cells = λ c h. sym (built.y_cells c ∙ ap (λ b. b && v (diagram_var t.size 0 c)) h);
        pipes = λ a c h. sym (ap is_some (pipe_here a c h) ∙ some_if (exists_by v t.size a c) (pipe_by v t.size a c));
        colours = λ p c h. sym (ap (λ o. pipe_passes o (λ q. same_kind (kind_at q (end_of_way p.1)) Kind.Z)) (pipe_here p.0 c h) ∙ by_exist p c h (exists_by v t.size p.0 c) refl);
      }
        where
          some_if : {X : Type 0} (b : Bool) (x : X) → is_some (cond b (Some x) None) ≡ b
          some_if true x = refl
          some_if false x = refl

          by_exist : (p : Position) (c : Cell) → holds t.size c ≡ true → (e : Bool) → exists_by v t.size p.0 c ≡ e → pipe_passes (cond e (Some (pipe_by v t.size p.0 c)) None) (λ q. same_kind (kind_at q (end_of_way p.1)) Kind.Z) ≡ v (diagram_var t.size (colour_member p) c)
          by_exist p c h true e = by_colour p.1 p.0 c
          by_exist p c h false e = sym (off (exists_by v t.size p.0 c) (v (diagram_var t.size (colour_member p) c)) e (colour_off p c h))

      pub sheets_shown : (S : Surfaces) → AreDecoded v t.size (length t.flows) (length t.flows) S → (flow : ℕ) (ss : List Sheet) → slice_get S.flows flow ≡ Some ss → ShowsSheets t.size d flow ss v
      sheets_shown S are flow ss there = record {
        sheets = λ a b other c h. sym (ap (λ o. pipe_passes o (λ p. spans ss p b)) (pipe_here a c h) ∙ by_exist a b other c h (exists_by v t.size a c) refl);
      }
        where
          low : flow < length t.flows
          low = let within : flow < length S.flows = slice_get_within S.flows flow ss there in omega (arith, within, are.count)

          has : (x : Sheet) → has_sheet ss x ≡ (nat_lt flow (length t.flows) && shows_sheet v t.size flow x)
          has x = ap (λ xs. has_sheet xs x) (sym (get_or_from_slice_get S.flows flow ss [] there)) ∙ are.sheets flow x

          by_exist : (a b : Axis) → same_axis a b ≡ false → (c : Cell) → holds t.size c ≡ true → (e : Bool) → exists_by v t.size a c ≡ e → pipe_passes (cond e (Some (pipe_by v t.size a c)) None) (λ p. spans ss p b) ≡ v (sheet_var t.size flow (sheet_number a b) c)
          by_exist a b other c h true e =
              has (record { axis = a; cell = c; span = b }) ∙ ap (λ n. n && (not (same_axis a b) && (holds t.size c && sheet_by v t.size flow a b c))) (lt-ltb flow (length t.flows) low)
              ∙ ap (λ n. not n && (holds t.size c && sheet_by v t.size flow a b c)) other
              ∙ ap (λ n. n && sheet_by v t.size flow a b c) h
          by_exist a b other c h false e = sym (off (exists_by v t.size a c) (v (sheet_var t.size flow (sheet_number a b) c)) e (sheet_off flow low a b c other h))

      pub decoded : (S : Surfaces) → AreDecoded v t.size (length t.flows) (length t.flows) S → AreShown t.size d S.flows v
      decoded S are = record { diagram = diagram_shown; sheets = sheets_shown S are }

-- values that make every clause true show a valid diagram, with sheets that serve each flow
pub decoded_serves : (v : Values) (t : Task) → IsTask t → all_true v (clause_table t).clauses ≡ true → (d : Drawing) → IsDecoded v t.size d → (S : Surfaces) → AreDecoded v t.size (length t.flows) (length t.flows) S → IsValid t d × AllZip (Serves t d) S.flows t.flows
decoded_serves v t task all d built S are = (shown_is_exact t d S.flows v task built.drawn built.size are.count (decoded v t all d built S are)).0 all

-- the values are those of what they show
pub decoded_same : (t : Task) (bits : List Bool) → all_true (values_of bits) (clause_table t).clauses ≡ true → (d : Drawing) → IsDecoded (values_of bits) t.size d → (S : Surfaces) → AreDecoded (values_of bits) t.size (length t.flows) (length t.flows) S → length bits ≡ (8 + 6 * length t.flows) * volume t.size → AreValuesOf d S.flows bits
decoded_same t bits all d built S are long =
    shown_are_values d S.flows bits built.drawn (long ∙ (λ i. (8 + 6 * sym are.count i) * volume (sym built.size i)))
    (subst (λ s. AreShown s d S.flows (values_of bits)) (sym built.size) (decoded (values_of bits) t all d built S are))
