-- The first of a list that passes, as a loop finds it.
use Rattle.std.proofs.Common.{◌≡◌, ℕ, zero, suc, ◌+◌, ◌≤◌, Bool, true, false, cond, List, [], ◌∷◌, length, take, Some, None, slice_get, refl, arith, add-one}
use Rattle.std.specs.List.{find}

module _ {X : Type 0} (test : X → Bool) where
  not_first : (x : X) (xs : List X) → cond (test x) (Some x) (find test xs) ≡ None → (test x ≡ false) × (find test xs ≡ None)
  not_first x xs e = by_test (test x) refl e
    where
      by_test : (b : Bool) → test x ≡ b → cond b (Some x) (find test xs) ≡ None → (test x ≡ false) × (find test xs ≡ None)
      by_test true t e = absurd (cc)
      by_test false t e = (t, e)

  -- none of the first n passes, and the next does
  pub found_next : (xs : List X) (n : ℕ) (x : X) → find test (take n xs) ≡ None → slice_get xs n ≡ Some x → test x ≡ true → find test xs ≡ Some x
  found_next [] n x none at t = absurd (cc)
  found_next (y ∷ ys) zero x none at t = let same : y ≡ x = cc in rw (same, t) refl
  found_next (y ∷ ys) (suc n) x none at t =
      let p = not_first y (take n ys) none in
      rw p.0 (found_next ys n x p.1 at t)

  -- none of the first n passes, and the next does not
  pub passed_next : (xs : List X) (n : ℕ) (x : X) → find test (take n xs) ≡ None → slice_get xs n ≡ Some x → test x ≡ false → find test (take (n + 1) xs) ≡ None
  passed_next xs n x none at t = rw add-one (go xs n none at)
    where
      go : (xs : List X) (n : ℕ) → find test (take n xs) ≡ None → slice_get xs n ≡ Some x → find test (take (suc n) xs) ≡ None
      go [] n none at = absurd (cc)
      go (y ∷ ys) zero none at = let same : y ≡ x = cc in rw (same, t) refl
      go (y ∷ ys) (suc n) none at =
          let p = not_first y (take n ys) none in
          rw p.0 (go ys n p.1 at)

  -- none of all passes
  pub none_passed : (xs : List X) (n : ℕ) → find test (take n xs) ≡ None → length xs ≤ n → find test xs ≡ None
  none_passed [] n none h = refl
  none_passed (y ∷ ys) zero none h = absurd (omega arith)
  none_passed (y ∷ ys) (suc n) none h =
      let p = not_first y (take n ys) none in
      rw p.0 (none_passed ys n p.1 (omega arith))
