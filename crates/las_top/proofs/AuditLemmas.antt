-- Listed boxes and served flows, as loops find them.
use Rattle.std.proofs.Common.{◌≡◌, ℕ, zero, suc, ◌+◌, ◌<◌, ◌≤◌, Bool, true, false, ◌||◌, List, [], ◌∷◌, length, take, drop, get_or, Some, None, slice_get, refl, sym, ap, ◌∙◌, arith, add-one, drop_of_length-le}
use Rattle.std.specs.List.{list_any}
use Rattle.std.proofs.lemmas.List.{at_drop_more}
use Rattle.las_base.specs.declared.Pauli.{Pauli}
use Rattle.las_base.specs.Jobs.{Task}
use Rattle.grid_box.specs.declared.Broken.{Broken}
use Rattle.grid_box.specs.Drawings.{Drawing}
use Rattle.grid_box.specs.Sheets.{sheet_breach}
use Rattle.grid_box.specs.Surfaces.{Surfaces, sheets_of}
use Rattle.las_top.specs.Audit.{or_later, first_unserved}

-- ---- whether some element passes

module _ {X : Type 0} (test : X → Bool) where
  none_of : (x : X) (xs : List X) → (test x || list_any test xs) ≡ false → (test x ≡ false) × (list_any test xs ≡ false)
  none_of x xs e = go (test x) refl e
    where
      go : (b : Bool) → test x ≡ b → (b || list_any test xs) ≡ false → (test x ≡ false) × (list_any test xs ≡ false)
      go true t e = absurd (cc)
      go false t e = (t, e)

  pub any_passed : (xs : List X) (n : ℕ) (x : X) → list_any test (take n xs) ≡ false → slice_get xs n ≡ Some x → test x ≡ false → list_any test (take (n + 1) xs) ≡ false
  any_passed xs n x none at t = rw add-one (go xs n none at)
    where
      go : (xs : List X) (n : ℕ) → list_any test (take n xs) ≡ false → slice_get xs n ≡ Some x → list_any test (take (suc n) xs) ≡ false
      go [] n none at = absurd (cc)
      go (y ∷ ys) zero none at = let same : y ≡ x = cc in rw (same, t) refl
      go (y ∷ ys) (suc n) none at = let p = none_of y (take n ys) none in rw p.0 (go ys n p.1 at)

  pub any_none : (xs : List X) (n : ℕ) → list_any test (take n xs) ≡ false → length xs ≤ n → list_any test xs ≡ false
  any_none [] n none end = refl
  any_none (y ∷ ys) zero none end = absurd (omega arith)
  any_none (y ∷ ys) (suc n) none end = let p = none_of y (take n ys) none in rw p.0 (any_none ys n p.1 (omega arith))

-- ---- the first flow that is not served

module _ (t : Task) (d : Drawing) (s : Surfaces) (words : List (List Pauli)) where
  from_flow : (n : ℕ) → n < length words → first_unserved t d s n (drop n words) ≡ or_later n (sheet_breach t d (sheets_of s n) (get_or words n [])) (first_unserved t d s (n + 1) (drop (n + 1) words))
  from_flow n low = at_drop_more (first_unserved t d s n) words n [] low ∙ ap (λ m. or_later n (sheet_breach t d (sheets_of s n) (get_or words n [])) (first_unserved t d s m (drop (n + 1) words))) next
    where
      next : suc n ≡ n + 1
      next = omega arith

  pub unserved_here : (n : ℕ) (broken : Broken) → n < length words → first_unserved t d s 0 words ≡ first_unserved t d s n (drop n words) → sheet_breach t d (sheets_of s n) (get_or words n []) ≡ Some broken → Some (n, broken) ≡ first_unserved t d s 0 words
  unserved_here n broken low before found = sym (before ∙ from_flow n low ∙ ap (λ o. or_later n o (first_unserved t d s (n + 1) (drop (n + 1) words))) found)

  pub served_here : (n : ℕ) → n < length words → first_unserved t d s 0 words ≡ first_unserved t d s n (drop n words) → sheet_breach t d (sheets_of s n) (get_or words n []) ≡ None → first_unserved t d s 0 words ≡ first_unserved t d s (n + 1) (drop (n + 1) words)
  served_here n low before none = before ∙ from_flow n low ∙ ap (λ o. or_later n o (first_unserved t d s (n + 1) (drop (n + 1) words))) none

  pub all_served : (n : ℕ) → length words ≤ n → first_unserved t d s 0 words ≡ first_unserved t d s n (drop n words) → None ≡ first_unserved t d s 0 words
  all_served n end before = sym (before ∙ ap (first_unserved t d s n) (drop_of_length-le words {i = n} end))
