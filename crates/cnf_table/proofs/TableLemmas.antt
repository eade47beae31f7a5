-- The clause table is exact.
use Rattle.std.proofs.Common.{◌≡◌, ℕ, suc, ◌+◌, true, ◌&&◌, List, [], ◌∷◌, ◌++◌, length, Some, refl, sym, ◌∙◌, subst, arith}
use Rattle.std.specs.List.{AllZip, enumerate_from, flat_map, slice_get}
use Rattle.std.proofs.lemmas.Bool.{and_parts, and_from}
use Rattle.std.proofs.lemmas.List.Folds.{list_all-append}
use Rattle.las_base.specs.declared.Pauli.{Pauli}
use Rattle.las_base.specs.Jobs.{Task, IsTask}
use Rattle.grid_box.specs.Drawings.{Drawing, IsDrawing}
use Rattle.grid_box.specs.PipeRules.{IsValid}
use Rattle.grid_box.specs.Sheets.{Sheet, Serves}
use Rattle.cnf_base.specs.Literals.{Values, all_true, clause_true, values_of}
use Rattle.cnf_table.specs.Clauses.{flow_clauses, diagram_clauses, clause_table}
use Rattle.cnf_table.specs.Values.{values}
use Rattle.cnf_table.specs.Shown.{ShowsDiagram, ShowsSheets, AreShown}
use Rattle.cnf_table.specs.Exact.{ShownIsExact, TableIsExact}
use Rattle.cnf_table.proofs.DiagramLemmas.{valid_from, true_of_valid}
use Rattle.cnf_table.proofs.SheetLemmas.{serves_from, true_of_serves}
use Rattle.cnf_table.proofs.ValueLemmas.{shows_diagram, shows_sheets}

module _ (t : Task) (d : Drawing) (v : Values) (task : IsTask t) (drawn : IsDrawing d) (size : d.size ≡ t.size) (shows : ShowsDiagram t.size d v) (valid : IsValid t d) where
  all_more : (k : ℕ) (word : List Pauli) (words : List (List Pauli)) → all_true v (flat_map (flow_clauses t) (enumerate_from k (word ∷ words))) ≡ (all_true v (flow_clauses t (k, word)) && all_true v (flat_map (flow_clauses t) (enumerate_from (k + 1) words)))
  all_more k word words = list_all-append (clause_true v) (flow_clauses t (k, word)) (flat_map (flow_clauses t) (enumerate_from (k + 1) words))

  later : (k : ℕ) (ss : List Sheet) (sss : List (List Sheet)) → ((f : ℕ) (xs : List Sheet) → slice_get (ss ∷ sss) f ≡ Some xs → ShowsSheets t.size d (k + f) xs v) → (f : ℕ) (xs : List Sheet) → slice_get sss f ≡ Some xs → ShowsSheets t.size d (k + 1 + f) xs v
  later k ss sss shown f xs e = let n : k + suc f ≡ k + 1 + f = omega arith in subst (λ m. ShowsSheets t.size d m xs v) n (shown (suc f) xs e)

  first : (k : ℕ) (ss : List Sheet) (sss : List (List Sheet)) → ((f : ℕ) (xs : List Sheet) → slice_get (ss ∷ sss) f ≡ Some xs → ShowsSheets t.size d (k + f) xs v) → ShowsSheets t.size d k ss v
  first k ss sss shown = let n : k + 0 ≡ k = omega arith in subst (λ m. ShowsSheets t.size d m ss v) n (shown 0 ss refl)

  serve_from : (k : ℕ) (sss : List (List Sheet)) (words : List (List Pauli)) → length sss ≡ length words → ((f : ℕ) (xs : List Sheet) → slice_get sss f ≡ Some xs → ShowsSheets t.size d (k + f) xs v) → all_true v (flat_map (flow_clauses t) (enumerate_from k words)) ≡ true → AllZip (Serves t d) sss words
  serve_from k [] [] long shown all = tt
  serve_from k [] (word ∷ words) long shown all = absurd (omega arith)
  serve_from k (ss ∷ sss) [] long shown all = absurd (omega arith)
  serve_from k (ss ∷ sss) (word ∷ words) long shown all =
      let parts = and_parts (all_true v (flow_clauses t (k, word))) (all_true v (flat_map (flow_clauses t) (enumerate_from (k + 1) words))) (sym (all_more k word words) ∙ all) in
      (serves_from t d v task drawn size shows k ss (first k ss sss shown) valid.in_box valid.ports valid.y_cells word parts.0, serve_from (k + 1) sss words (omega arith) (later k ss sss shown) parts.1)

  true_from : (k : ℕ) (sss : List (List Sheet)) (words : List (List Pauli)) → length sss ≡ length words → ((f : ℕ) (xs : List Sheet) → slice_get sss f ≡ Some xs → ShowsSheets t.size d (k + f) xs v) → AllZip (Serves t d) sss words → all_true v (flat_map (flow_clauses t) (enumerate_from k words)) ≡ true
  true_from k [] [] long shown all = refl
  true_from k [] (word ∷ words) long shown all = absurd (omega arith)
  true_from k (ss ∷ sss) [] long shown all = absurd (omega arith)
  true_from k (ss ∷ sss) (word ∷ words) long shown all =
      all_more k word words
      ∙ and_from _ _ (true_of_serves t d v task drawn size shows k ss (first k ss sss shown) valid.in_box valid.ports valid.y_cells word all.0) (true_from (k + 1) sss words (omega arith) (later k ss sss shown) all.1)

pub shown_is_exact : ShownIsExact
unfolding clause_table
shown_is_exact t d sss v task drawn size long shown = (to, from)
  where
    split : all_true v (diagram_clauses t ++ flat_map (flow_clauses t) (enumerate_from 0 t.flows)) ≡ (all_true v (diagram_clauses t) && all_true v (flat_map (flow_clauses t) (enumerate_from 0 t.flows)))
    split = list_all-append (clause_true v) (diagram_clauses t) (flat_map (flow_clauses t) (enumerate_from 0 t.flows))

    at : (f : ℕ) (xs : List Sheet) → slice_get sss f ≡ Some xs → ShowsSheets t.size d (0 + f) xs v
    at f xs e = let n : f ≡ 0 + f = omega arith in subst (λ m. ShowsSheets t.size d m xs v) n (shown.sheets f xs e)

    to : all_true v (diagram_clauses t ++ flat_map (flow_clauses t) (enumerate_from 0 t.flows)) ≡ true → IsValid t d × AllZip (Serves t d) sss t.flows
    to all =
        let parts = and_parts (all_true v (diagram_clauses t)) (all_true v (flat_map (flow_clauses t) (enumerate_from 0 t.flows))) (sym split ∙ all) in
        let valid = valid_from t d v task drawn size shown.diagram parts.0 in
        (valid, serve_from t d v task drawn size shown.diagram valid 0 sss t.flows long at parts.1)

    from : IsValid t d × AllZip (Serves t d) sss t.flows → all_true v (diagram_clauses t ++ flat_map (flow_clauses t) (enumerate_from 0 t.flows)) ≡ true
    from both = split ∙ and_from _ _ (true_of_valid t d v task drawn size shown.diagram both.0) (true_from t d v task drawn size shown.diagram both.0 0 sss t.flows long at both.1)

pub values_show : (d : Drawing) (sss : List (List Sheet)) → IsDrawing d → AreShown d.size d sss (values_of (values d sss))
values_show d sss drawn = record { diagram = shows_diagram d sss drawn; sheets = shows_sheets d sss }

pub table_is_exact : TableIsExact
table_is_exact t d sss task drawn size long =
    shown_is_exact t d sss (values_of (values d sss)) task drawn size long (subst (λ s. AreShown s d sss (values_of (values d sss))) size (values_show d sss drawn))
