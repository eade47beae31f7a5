-- Line feeds in bytes, and the lines that they end.
use Rattle.std.proofs.Common.{◌≡◌, ℕ, zero, suc, ◌+◌, ◌-◌, ◌<◌, ◌≤◌, Bool, true, false, not, List, [], ◌∷◌, ◌++◌, length, take, drop, refl, sym, ap, ◌∙◌, arith, nat_eq, slice_index}
use Rattle.std.proofs.lemmas.Bool.{and_parts, and_from, not-true, eqb-true, eq-eqb}
use Rattle.std.proofs.lemmas.List.{drop_more, take-append-drop, take_all}
use Rattle.memchr.specs.Find.{NoneBefore, Nowhere, Passes, is_byte}
use Rattle.cnf_base.specs.Logs.{LogStep, Tail, LogEnd, Malformed, Limit}
use Rattle.clause_log.specs.LogText.{whole_lines, onto_lines, onto_step, read_lines, read_log, step_of}
use Rattle.clause_log.specs.Steps.{BadLine, ahead_of, follows_in}
use Rattle.clause_log.specs.Pieces.{HasFeedAt, is_one_line}
use Rattle.clause_log.proofs.ReadBack.{one_line}

-- bytes with no line feed are no line
pub not_ended : (bytes : List ℕ) → is_one_line bytes ≡ true → whole_lines bytes ≡ ([], bytes)
not_ended [] all = refl
not_ended (b ∷ bs) all =
    let parts = and_parts (not (nat_eq b 10)) (is_one_line bs) all in
    ap (λ feed. onto_lines feed b (whole_lines bs)) (not-true (nat_eq b 10) parts.0) ∙ ap (onto_lines false b) (not_ended bs parts.1)

-- bytes of which no line feed is the last are a line that is not of the form
pub torn_line : (bytes : List ℕ) → is_one_line bytes ≡ true → 0 < length bytes → read_log bytes ≡ ([], Malformed)
unfolding read_log
torn_line [] all some = absurd (omega arith)
torn_line (b ∷ bs) all some = ap (λ (p : List (List ℕ) × List ℕ). read_lines p.0 p.1) (not_ended (b ∷ bs) all)

pub line_then : (line more : List ℕ) → is_one_line line ≡ true → read_log (line ++ 10 ∷ more) ≡ onto_step (step_of line) (read_log more)
unfolding read_log
line_then line more all = ap (λ (p : List (List ℕ) × List ℕ). read_lines p.0 p.1) (one_line line more all)

-- bytes, by their first line feed
pub cut_at_feed : (rest : List ℕ) (n : ℕ) → HasFeedAt rest n → rest ≡ take n rest ++ 10 ∷ drop (n + 1) rest
cut_at_feed rest n h = sym (take-append-drop n rest) ∙ ap (λ xs. take n rest ++ xs) (drop_more rest n 0 h.within ∙ ap (λ b. b ∷ drop (n + 1) rest) h.feed)

pub bad_line : (line : ℕ) → ahead_of line ([], Malformed) ≡ ([], BadLine line)
bad_line line = let none : line + length {A = ℕ} [] ≡ line = omega arith in ap (λ n. ([], BadLine n)) none

pub next_line : (line : ℕ) (s : LogStep) (ss : List LogStep) (tail : Tail) → follows_in line (s ∷ ss) tail ≡ follows_in (line + 1) ss tail
next_line line s ss LogEnd = refl
next_line line s ss Malformed = let same : line + suc (length ss) ≡ line + 1 + length ss = omega arith in ap BadLine same
next_line line s ss Limit = refl

-- bytes none of which is a line feed, up to a place
no_test : (x : Bool) → (x ≡ true → ⊥) → not x ≡ true
no_test true f = absurd (f refl)
no_test false f = refl

one_line_before : (bytes : List ℕ) (n : ℕ) → n ≤ length bytes → ((k : ℕ) → k < n → slice_index bytes k ≡ 10 → ⊥) → is_one_line (take n bytes) ≡ true
one_line_before bytes zero within none = refl
one_line_before [] (suc n) within none = absurd (omega arith)
one_line_before (b ∷ bs) (suc n) within none =
    and_from (not (nat_eq b 10)) (is_one_line (take n bs)) (no_test (nat_eq b 10) (λ is. none 0 (omega arith) (eqb-true b 10 is)))
    (one_line_before bs n (omega arith) (λ k less. none (suc k) (omega arith)))

-- what a search for a line feed says
pub first_feed : (bytes : List ℕ) (n : ℕ) → NoneBefore (Passes (is_byte 10) bytes) 0 (length bytes) n → Passes (is_byte 10) bytes n → HasFeedAt bytes n
first_feed bytes n before here = record {
  within = before.high;
  line = one_line_before bytes n (omega (arith, before.high)) (λ k less is. before.before k (omega arith) less (eq-eqb (slice_index bytes k) 10 is));
  feed = eqb-true (slice_index bytes n) 10 here;
}

pub no_feed : (bytes : List ℕ) → Nowhere (Passes (is_byte 10) bytes) 0 (length bytes) → is_one_line bytes ≡ true
no_feed bytes none = ap is_one_line (sym (take_all (length bytes) bytes (omega arith))) ∙ one_line_before bytes (length bytes) (omega arith) (λ k less is. none k (omega arith) less (eq-eqb (slice_index bytes k) 10 is))

pub width : (at n : ℕ) → at + n - at ≡ n
width at n = omega arith
