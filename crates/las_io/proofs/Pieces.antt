-- Parts of lists of bytes, as reads and writes move them.
use Rattle.std.proofs.Common.{◌≡◌, ℕ, ◌+◌, ◌-◌, List, ◌++◌, length, take, drop, sym, ap, ◌∙◌, subst, drop-drop, take-append-drop}
use Rattle.std.proofs.lemmas.List.{take_rest}
use Rattle.std.proofs.Math.Seq.{take-append_seam, take-add}

-- the bytes from `at` on are the next n and those after them
pub next_bytes : (bytes : List ℕ) (at n : ℕ) → drop at bytes ≡ take n (drop at bytes) ++ drop (at + n) bytes
next_bytes bytes at n = sym (take-append-drop n (drop at bytes)) ∙ ap (λ l. take n (drop at bytes) ++ l) (drop-drop n at bytes)

-- what stands at the front of a buffer after a copy to its front
pub front_of_copy : (ys more : List ℕ) (n : ℕ) → length ys ≡ n → take n (ys ++ more) ≡ ys
front_of_copy ys more n e = subst (λ k. take k (ys ++ more) ≡ ys) e (take-append_seam ys more)

-- a sink holds the first `done` bytes and takes the next n
pub take_on : (bytes : List ℕ) (done n : ℕ) → take done bytes ++ take n (take (length bytes - done) (drop done bytes)) ≡ take (done + n) bytes
take_on bytes done n = ap (λ l. take done bytes ++ take n l) (take_rest bytes done) ∙ sym (take-add done n bytes)
