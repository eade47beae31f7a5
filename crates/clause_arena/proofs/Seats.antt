-- Seats of an arena: what of heads, spans, tails and literals decides on them.
use Rattle.std.proofs.Common.{◌≡◌, ℕ, ◌+◌, ◌*◌, ◌<◌, ◌≤◌, true, false, List, length, take, drop, set, refl, ap, ◌∙◌, arith}
use Rattle.std.proofs.lemmas.List.{get_or-set_same, get_or-set_other}
use Rattle.cnf_base.specs.declared.literal.Lit.{Lit}
use Rattle.clause_arena.specs.declared.arena.Tail.{Tail}
use Rattle.clause_arena.specs.Clauses.{Live, is_live, lits_of, id_of, link_of, link_in, clause_at, with_clause, without}
use Rattle.clause_arena.specs.Words.{Block, seat_at, lits_at, head_in, span_in, tail_in, no_tail, word, word_in, clauses_in}
use Rattle.clause_arena.proofs.Scanning.{AreSeated, found, Agree, changed, removed}
use Rattle.clause_arena.proofs.Writing.{run_is, run-length}

pub are_seated : (b : Block) → AreSeated (seat_at b)
are_seated b = λ p. (refl, omega arith)

-- what is known of a live clause
pub record Here (b : Block) (r : ℕ) : Type 0 where
  pub within : r < length b.spans
  pub ends : (span_in b.spans r).start + (span_in b.spans r).size ≤ length b.lits
  pub seen : (seat_at b r).is_seen ≡ true
  pub clause : clause_at (clauses_in b) r ≡ (seat_at b r).clause

pub here : (b : Block) (r : ℕ) → is_live (clauses_in b) r ≡ true → Here b r
unfolding clauses_in
here b r h =
    let f = found (seat_at b) (length b.spans) (length b.lits) r (are_seated b) h in
    record { within = f.within; ends = f.ends; seen = f.seen; clause = f.clause }

pub lits_in : (b : Block) (r : ℕ) → is_live (clauses_in b) r ≡ true → lits_of (clauses_in b) r ≡ lits_at b r
lits_in b r h = ap (λ (c : Live). c.lits) (here b r h).clause

pub lits_taken : (b : Block) (r : ℕ) → is_live (clauses_in b) r ≡ true → lits_of (clauses_in b) r ≡ take (span_in b.spans r).size (drop (span_in b.spans r).start b.lits)
lits_taken b r h = lits_in b r h ∙ run_is b.lits (span_in b.spans r).start (span_in b.spans r).size (here b r h).ends

pub size_is : (b : Block) (r : ℕ) → is_live (clauses_in b) r ≡ true → length (lits_of (clauses_in b) r) ≡ (span_in b.spans r).size
size_is b r h = ap length (lits_in b r h) ∙ run-length (word_in b.lits) (span_in b.spans r).start (span_in b.spans r).size

pub id_is : (b : Block) (r : ℕ) → is_live (clauses_in b) r ≡ true → id_of (clauses_in b) r ≡ (tail_in b.tails r).id
id_is b r h = ap (λ (c : Live). c.id) (here b r h).clause

pub link_is : (b : Block) (r slot : ℕ) → is_live (clauses_in b) r ≡ true → link_of (clauses_in b) r slot ≡ link_in (seat_at b r).clause slot
link_is b r slot h = ap (λ (c : Live). link_in c slot) (here b r h).clause

-- one clause of an arena is changed where its seat is
pub changed_in : (b d : Block) (r : ℕ) (f : Live → Live) → is_live (clauses_in b) r ≡ true → length d.spans ≡ length b.spans → length d.lits ≡ length b.lits → Agree (seat_at b) (seat_at d) r → (seat_at d r).is_seen ≡ true → (seat_at d r).clause ≡ f (seat_at b r).clause → clauses_in d ≡ with_clause (clauses_in b) r f
unfolding clauses_in
changed_in b d r f h spans lits a seen is = rw (spans, lits) (changed (seat_at b) (seat_at d) (length b.spans) (length b.lits) r f (are_seated b) h a seen is)

pub removed_in : (b d : Block) (r : ℕ) → is_live (clauses_in b) r ≡ true → length d.spans ≡ length b.spans → length d.lits ≡ length b.lits → Agree (seat_at b) (seat_at d) r → (seat_at d r).is_seen ≡ false → clauses_in d ≡ without (clauses_in b) r
unfolding clauses_in
removed_in b d r h spans lits a gone = rw (spans, lits) (removed (seat_at b) (seat_at d) (length b.spans) (length b.lits) r (are_seated b) h a gone)

-- a seat is decided by its head, its span, its tail and its literals
pub seat-same : (b d : Block) (p : ℕ) → span_in d.spans p ≡ span_in b.spans p → tail_in d.tails p ≡ tail_in b.tails p → ((k : ℕ) → k < 4 → head_in d.heads p k ≡ head_in b.heads p k) → lits_at d p ≡ lits_at b p → seat_at d p ≡ seat_at b p
seat-same b d p span tail head lits =
    let e0 : head_in d.heads p 0 ≡ head_in b.heads p 0 = head 0 (omega arith) in
    let e1 : head_in d.heads p 1 ≡ head_in b.heads p 1 = head 1 (omega arith) in
    let e2 : head_in d.heads p 2 ≡ head_in b.heads p 2 = head 2 (omega arith) in
    let e3 : head_in d.heads p 3 ≡ head_in b.heads p 3 = head 3 (omega arith) in
    rw (lits, e0, e1, e2, e3, span, tail) refl

-- a word of one head is written: all others stay
pub head-other : (hs : List Lit) (r k p j : ℕ) (x : Lit) → k < 4 → j < 4 → (p ≡ r → ⊥) → head_in (set hs (4 * r + k) x) p j ≡ head_in hs p j
head-other hs r k p j x kn jn apart = get_or-set_other hs (4 * r + k) (4 * p + j) x (word 0) (λ q. apart (omega arith))

pub head-else : (hs : List Lit) (r k j : ℕ) (x : Lit) → (j ≡ k → ⊥) → head_in (set hs (4 * r + k) x) r j ≡ head_in hs r j
head-else hs r k j x apart = get_or-set_other hs (4 * r + k) (4 * r + j) x (word 0) (λ q. apart (omega arith))

pub head-put : (hs : List Lit) (r k : ℕ) (x : Lit) → 4 * r + k < length hs → head_in (set hs (4 * r + k) x) r k ≡ x
head-put hs r k x lt = get_or-set_same hs (4 * r + k) x (word 0) lt

pub tail-other : (ts : List Tail) (r p : ℕ) (x : Tail) → (p ≡ r → ⊥) → tail_in (set ts r x) p ≡ tail_in ts p
tail-other ts r p x apart = get_or-set_other ts r p x no_tail apart

pub tail-put : (ts : List Tail) (r : ℕ) (x : Tail) → r < length ts → tail_in (set ts r x) r ≡ x
tail-put ts r x lt = get_or-set_same ts r x no_tail lt

-- head and tail of one clause are written, and nothing else
pub agree_on : (b d : Block) (r : ℕ) → d.lits ≡ b.lits → d.spans ≡ b.spans → ((p : ℕ) → (p ≡ r → ⊥) → tail_in d.tails p ≡ tail_in b.tails p) → ((p k : ℕ) → k < 4 → (p ≡ r → ⊥) → head_in d.heads p k ≡ head_in b.heads p k) → Agree (seat_at b) (seat_at d) r
agree_on b d r lits spans tails heads =
    record {
      starts = λ p. rw spans refl;
      stops = λ p. rw spans refl;
      others = λ p apart _. seat-same b d p (rw spans refl) (tails p apart) (λ k lt. heads p k lt apart) (rw (lits, spans) refl);
    }
