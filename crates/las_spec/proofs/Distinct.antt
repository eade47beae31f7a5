-- Lists in which nothing stands twice.
use Rattle.std.proofs.Common.{◌≡◌, Bool, true, false, not, List, [], ◌∷◌, ◌++◌, refl, sym, ◌∙◌, append_assoc, append-nil}
use Rattle.std.specs.List.{list_all, list_any}
use Rattle.std.proofs.lemmas.Bool.{and_parts, or_parts, not-true}
use Rattle.las_base.specs.declared.Cell.{Cell}
use Rattle.las_base.specs.declared.Size.{Size}
use Rattle.las_base.specs.Cells.{same_cell, same_size}
use Rattle.las_base.specs.Jobs.{distinct_cells}
use Rattle.las_base.proofs.Same.{same_cell-sym, same_size-sym, none_any}
use Rattle.las_base.proofs.Lists.{all_more}
use Rattle.las_spec.specs.Briefs.{once, distinct_sizes}
use Rattle.las_spec.proofs.Lists.{all_push}
use Rattle.las_spec.proofs.OnceLemmas.{apart, apart-cells, apart-sizes}

-- none of those that were seen stands in the list
abbrev pub unseen : {X : Type 0} → (X → X → Bool) → List X → List X → Bool
unseen same seen xs = list_all (λ y. not (list_any (same y) xs)) seen

module _ {X : Type 0} (same : X → X → Bool) (both_ways : (x y : X) → same x y ≡ same y x) where
  -- none of those that were seen is the first
  pub first_is_new : (seen : List X) (x : X) (xs : List X) → unseen same seen (x ∷ xs) ≡ true → list_all (λ y. not (same x y)) seen ≡ true
  first_is_new seen x xs e = all_more (λ y. not (list_any (same y) (x ∷ xs))) (λ y. not (same x y)) (λ y t. rw (both_ways x y, (or_parts (same y x) (list_any (same y) xs) (not-true _ t)).0) refl) seen e

  pub first_not_seen : (seen : List X) (x : X) (xs : List X) → unseen same seen (x ∷ xs) ≡ true → list_any (same x) seen ≡ false
  first_not_seen seen x xs e = none_any (same x) seen (first_is_new seen x xs e)

  -- with the first one seen too
  pub rest_is_apart : (seen : List X) (x : X) (xs : List X) → unseen same seen (x ∷ xs) ≡ true → not (list_any (same x) xs) ≡ true → unseen same (seen ++ x ∷ []) xs ≡ true
  rest_is_apart seen x xs e new =
      all_push (λ y. not (list_any (same y) xs)) seen x
      (all_more (λ y. not (list_any (same y) (x ∷ xs))) (λ y. not (list_any (same y) xs)) (λ y t. rw ((or_parts (same y x) (list_any (same y) xs) (not-true _ t)).1) refl) seen e) new

  all_kept : (seen xs : List X) → unseen same seen xs ≡ true → apart same xs ≡ true → once same seen xs ≡ seen ++ xs
  all_kept seen [] e d = sym (append-nil seen)
  all_kept seen (x ∷ xs) e d =
      let p = and_parts (not (list_any (same x) xs)) (apart same xs) d in
      rw (first_not_seen seen x xs e) (all_kept (seen ++ x ∷ []) xs (rest_is_apart seen x xs e p.0) p.1 ∙ append_assoc seen (x ∷ []) xs)

  -- once each is all
  pub once_each : (xs : List X) → apart same xs ≡ true → once same [] xs ≡ xs
  once_each xs d = all_kept [] xs refl d

pub cells_once : (cs : List Cell) → distinct_cells cs ≡ true → once same_cell [] cs ≡ cs
cells_once cs d = once_each same_cell same_cell-sym cs (apart-cells cs ∙ d)

pub sizes_once : (ss : List Size) → distinct_sizes ss ≡ true → once same_size [] ss ≡ ss
sizes_once ss d = once_each same_size same_size-sym ss (apart-sizes ss ∙ d)
