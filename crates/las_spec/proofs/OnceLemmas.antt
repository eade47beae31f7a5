-- Things once each, in the order in which they stand first, and things apart.
use Rattle.std.proofs.Common.{◌≡◌, suc, ◌+◌, ◌<◌, ◌≤◌, Bool, true, false, cond, not, ◌&&◌, ◌||◌, List, [], ◌∷◌, ◌++◌, length, refl, ◌∙◌, arith, length-append}
use Rattle.std.specs.List.{list_all, list_any, filter}
use Rattle.std.proofs.lemmas.Bool.{and_parts}
use Rattle.std.proofs.lemmas.List.Folds.{list_all-append, list_any-append}
use Rattle.las_base.specs.declared.Cell.{Cell}
use Rattle.las_base.specs.declared.Size.{Size}
use Rattle.las_base.specs.Cells.{same_cell, same_size}
use Rattle.las_base.specs.Jobs.{distinct_cells}
use Rattle.las_spec.specs.Briefs.{once, distinct_sizes}

pub and_true : (a b : Bool) → a ≡ true → b ≡ true → (a && b) ≡ true
and_true a b p q = rw (p, q) refl

pub or_false : (a b : Bool) → (a || b) ≡ false → (a ≡ false) × (b ≡ false)
or_false true b e = absurd (cc)
or_false false b e = (refl, e)

module _ {A : Type 0} (same : A → A → Bool) where
  -- no thing stands twice
  abbrev pub apart : List A → Bool
  apart [] = true
  apart (x ∷ xs) = not (list_any (same x) xs) && apart xs

  -- one thing more, where it is new
  abbrev pub with_new : List A → A → List A
  with_new seen x = cond (list_any (same x) seen) seen (seen ++ x ∷ [])

  all-with : (test : A → Bool) (seen : List A) (x : A) (b : Bool) → list_all test seen ≡ true → test x ≡ true → list_all test (cond b seen (seen ++ x ∷ [])) ≡ true
  all-with test seen x true h e = h
  all-with test seen x false h e = list_all-append test seen (x ∷ []) ∙ rw (h, e) refl

  -- what holds of all things holds of them once each
  pub once-all : (test : A → Bool) (seen xs : List A) → list_all test seen ≡ true → list_all test xs ≡ true → list_all test (once same seen xs) ≡ true
  once-all test seen [] h g = h
  once-all test seen (x ∷ xs) h g =
      let p = and_parts (test x) (list_all test xs) g in
      once-all test (with_new seen x) xs (all-with test seen x (list_any (same x) seen) h p.0) p.1

  longer-with : (seen : List A) (x : A) (b : Bool) → (length seen ≤ length (cond b seen (seen ++ x ∷ []))) × (length (cond b seen (seen ++ x ∷ [])) ≤ suc (length seen))
  longer-with seen x true = (omega arith, omega arith)
  longer-with seen x false = let e = length-append seen (x ∷ []) in (omega (arith, e), omega (arith, e))

  -- once each they are no more
  pub once-most : (seen xs : List A) → length (once same seen xs) ≤ length seen + length xs
  once-most seen [] = omega arith
  once-most seen (x ∷ xs) = omega (arith, once-most (with_new seen x) xs, (longer-with seen x (list_any (same x) seen)).1)

  once-grows : (seen xs : List A) → length seen ≤ length (once same seen xs)
  once-grows seen [] = omega arith
  once-grows seen (x ∷ xs) = omega (arith, once-grows (with_new seen x) xs, (longer-with seen x (list_any (same x) seen)).0)

  -- where there are things, some are left
  pub once-some : (xs : List A) → 0 < length xs → 0 < length (once same [] xs)
  once-some [] h = absurd (omega arith)
  once-some (x ∷ xs) h = omega (arith, once-grows (x ∷ []) xs)

  module _ (turns : (x y : A) → same x y ≡ same y x) where
    pub apart-push : (xs : List A) (x : A) → apart xs ≡ true → list_any (same x) xs ≡ false → apart (xs ++ x ∷ []) ≡ true
    apart-push [] x h new = refl
    apart-push (y ∷ ys) x h new =
        let p = and_parts (not (list_any (same y) ys)) (apart ys) h in
        let q = or_false (same x y) (list_any (same x) ys) new in
        and_true (not (list_any (same y) (ys ++ x ∷ []))) (apart (ys ++ x ∷ [])) (still (list_any (same y) ys) p.0 q.0) (apart-push ys x p.1 q.1)
      where
        still : (b : Bool) → not (list_any (same y) ys) ≡ true → same x y ≡ false → not (list_any (same y) (ys ++ x ∷ [])) ≡ true
        still b free other = by_test (list_any (same y) ys) refl
          where
            by_test : (b : Bool) → list_any (same y) ys ≡ b → not (list_any (same y) (ys ++ x ∷ [])) ≡ true
            by_test true e = absurd (cc)
            by_test false e = rw (list_any-append (same y) ys (x ∷ []), e, turns y x, other) refl

    apart-with : (seen : List A) (x : A) (b : Bool) → list_any (same x) seen ≡ b → apart seen ≡ true → apart (cond b seen (seen ++ x ∷ [])) ≡ true
    apart-with seen x true e h = h
    apart-with seen x false e h = apart-push seen x h e

    -- once each they are apart
    pub once-apart : (seen xs : List A) → apart seen ≡ true → apart (once same seen xs) ≡ true
    once-apart seen [] h = h
    once-apart seen (x ∷ xs) h = once-apart (with_new seen x) xs (apart-with seen x (list_any (same x) seen) refl h)

  none-kept : (keep test : A → Bool) (xs : List A) → list_any test xs ≡ false → list_any test (filter keep xs) ≡ false
  none-kept keep test [] h = refl
  none-kept keep test (x ∷ xs) h =
      let p = or_false (test x) (list_any test xs) h in
      by_test (keep x) p.0 (none-kept keep test xs p.1)
    where
      by_test : (b : Bool) → test x ≡ false → list_any test (filter keep xs) ≡ false → list_any test (cond b (x ∷ filter keep xs) (filter keep xs)) ≡ false
      by_test true e ih = rw e ih
      by_test false e ih = ih

  -- things apart, some of which are left out, are apart
  pub filter-apart : (keep : A → Bool) (xs : List A) → apart xs ≡ true → apart (filter keep xs) ≡ true
  filter-apart keep [] h = refl
  filter-apart keep (x ∷ xs) h =
      let p = and_parts (not (list_any (same x) xs)) (apart xs) h in
      by_test (keep x) (list_any (same x) xs) refl p.0 (filter-apart keep xs p.1)
    where
      by_test : (b c : Bool) → list_any (same x) xs ≡ c → not c ≡ true → apart (filter keep xs) ≡ true → apart (cond b (x ∷ filter keep xs) (filter keep xs)) ≡ true
      by_test false c e n ih = ih
      by_test true true e n ih = absurd (cc)
      by_test true false e n ih = rw (none-kept keep (same x) xs e) ih

pub apart-cells : (cs : List Cell) → apart same_cell cs ≡ distinct_cells cs
apart-cells [] = refl
apart-cells (c ∷ cs) = rw (apart-cells cs) refl

pub apart-sizes : (ss : List Size) → apart same_size ss ≡ distinct_sizes ss
apart-sizes [] = refl
apart-sizes (s ∷ ss) = rw (apart-sizes ss) refl
