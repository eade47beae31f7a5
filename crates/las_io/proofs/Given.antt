-- What a source has given, after one read more and after a whole input.
use Rattle.std.proofs.Common.{◌≡◌, ℕ, ◌+◌, ◌≤◌, List, [], ◌++◌, length, take, Option, refl, sym, ap, ◌∙◌, subst, arith, append-nil, length-append, length-take}
use Rattle.std.specs.Io.KnownBytes.{Consumes, Keeps}
use Rattle.std.proofs.KnownBytes.{Consumes-nil, Consumes-trans, Consumes-kept, Consumes-whole}
use Rattle.las_io.specs.Counts.{count_after}
use Rattle.las_io.specs.Moves.{Gives, GivesAll, IsAllLeft}

-- counting twice counts the sum
pub count_after-twice : (before n m : ℕ) → count_after (count_after before n) m ≡ count_after before (n + m)
count_after-twice before n m = omega arith

-- counting nothing
pub count_after-zero : (before n : ℕ) → n ≡ 0 → count_after before n ≡ before
count_after-zero before n e = omega arith

module _ {S : Type 0} (left : S → Option (List ℕ)) (given : S → ℕ) where
  -- before the first read nothing came
  pub nothing_came : (s : S) (bytes : List ℕ) → bytes ≡ [] → Gives left given s s bytes
  nothing_came s bytes e = subst (Gives left given s s) (sym e) (record {
    consumed = Consumes-nil (left s);
    counted = sym (count_after-zero (given s) (length {A = ℕ} []) refl);
  })

  -- a read that fails adds nothing
  pub none_more : (before mid after : S) (bytes : List ℕ) → Gives left given before mid bytes
      → Keeps (left mid) (left after) → given after ≡ given mid → Gives left given before after bytes
  none_more before mid after bytes came kept same = record {
    consumed = Consumes-kept _ _ _ _ came.consumed kept;
    counted = same ∙ came.counted;
  }

  -- a read that gives n bytes of the buffer adds them
  pub more_came : (before mid after : S) (bytes buf : List ℕ) (n : ℕ) → Gives left given before mid bytes → n ≤ length buf
      → Consumes (left mid) (left after) (take n buf) → given after ≡ count_after (given mid) n
      → Gives left given before after (bytes ++ take n buf)
  more_came before mid after bytes buf n came within next count =
      let both : length bytes + n ≡ length (bytes ++ take n buf) = omega (arith, length-append {A = ℕ}, length-take {A = ℕ}) in record {
        consumed = Consumes-trans _ _ _ _ _ came.consumed next;
        counted = count ∙ ap (λ k. count_after k n) came.counted ∙ count_after-twice (given before) (length bytes) n ∙ ap (count_after (given before)) both;
      }

  -- a read that gives no byte adds none
  pub no_byte_came : (before mid after : S) (bytes buf : List ℕ) (n : ℕ) → n ≡ 0 → Gives left given before mid bytes
      → Consumes (left mid) (left after) (take n buf) → given after ≡ count_after (given mid) n
      → Gives left given before after bytes
  no_byte_came before mid after bytes buf n none came next count = record {
    consumed = subst (Consumes (left before) (left after)) (append-nil bytes) (Consumes-trans _ _ _ _ _ came.consumed (subst (λ k. Consumes (left mid) (left after) (take k buf)) none next));
    counted = count ∙ count_after-zero (given mid) n none ∙ came.counted;
  }

  -- an input that came to its end is all that was left
  pub all_was_left : (before after : S) (bytes : List ℕ) → GivesAll left given before after bytes → IsAllLeft (left before) bytes
  all_was_left before after bytes all = Consumes-whole _ _ _ (λ xs. xs ≡ bytes) all.came.consumed all.end refl
