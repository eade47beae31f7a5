-- What becomes of the clauses where the head, the tail or the literals of one are written.
use Rattle.std.proofs.Common.{◌≡◌, ℕ, zero, suc, ◌+◌, ◌-◌, ◌*◌, ◌/◌, ◌<◌, ◌≤◌, ◌⊎◌, Bool, true, false, cond, nat_eq, List, [], ◌∷◌, ◌++◌, length, take, drop, set, get_or, Option, Some, None, if◌then◌else◌, refl, sym, ap, ap₂, ◌∙◌, arith, inl, inr, add-zero}
use Rattle.std.proofs.lemmas.Bool.{both_ways, cases_eq, cases_lt, lt-ltb, le-ltb}
use Rattle.std.proofs.lemmas.List.{length-set, length-append, get_or-set_same, get_or-set_other, get_or_append_left, get_or-append-add, get_or_read}
use Rattle.cnf_base.specs.declared.literal.Lit.{Lit}
use Rattle.clause_arena.specs.declared.ClauseRef.{ClauseRef}
use Rattle.clause_arena.specs.declared.arena.Span.{Span}
use Rattle.clause_arena.specs.declared.arena.Tail.{Tail}
use Rattle.clause_arena.specs.Clauses.{Live, is_live, lits_of, with_clause, with_link, with_lits, put_link, without, place_of, added}
use Rattle.clause_arena.specs.Words.{Block, seat_at, lits_at, head_in, span_in, tail_in, word, word_in, run, link_at, hidden, overwritten, rewritten, clauses_in, clauses_to, tells_right, AreAligned}
use Rattle.clause_arena.specs.Links.{near_of, far_put}
use Rattle.clause_arena.proofs.Scanning.{newest}
use Rattle.clause_arena.proofs.Seats.{Here, here, are_seated, changed_in, removed_in, seat-same, agree_on, head-other, head-else, head-put, tail-other, tail-put, lits_in, lits_taken, size_is}
use Rattle.clause_arena.proofs.Updates.{with_clause-live, put_link-place}
use Rattle.clause_arena.proofs.Writing.{run-same, run_spells, over-length, over-below, over-within, over-above}

-- a seen clause is not retired
pub kept : (b : Block) (r : ℕ) → Here b r → (tail_in b.tails r).is_retired ≡ false
kept b r k = at (tail_in b.tails r).is_retired k.seen
  where
    at : (x : Bool) → cond x false (tells_right (head_in b.heads r 0) (head_in b.heads r 1) (lits_at b r)) ≡ true → x ≡ false
    at false h = refl
    at true h = absurd (both_ways false refl h)

-- the place that the tail has for a link
abbrev pub far_of : ℕ → Tail → Option ClauseRef
far_of slot t = if nat_eq slot 0 then t.left else t.right

-- the word of a link is written
pub link_put : (b : Block) (r slot : ℕ) (x : Lit) → is_live (clauses_in b) r ≡ true → slot < 2 → 4 * r + 4 ≤ length b.heads → clauses_in (record b { heads = set b.heads (4 * r + (2 + slot)) x }) ≡ with_link (clauses_in b) r slot (link_at x.0 (far_of slot (tail_in b.tails r)))
link_put b r slot x h lt room =
    elim (cases_eq slot 0) [
      | inl e ↦ rw e (first b r x h room)
      | inr n ↦ (let e : slot ≡ 1 = omega arith in rw e (second b r x h room))
    ]
  where
    first : (b : Block) (r : ℕ) (x : Lit) → is_live (clauses_in b) r ≡ true → 4 * r + 4 ≤ length b.heads → clauses_in (record b { heads = set b.heads (4 * r + 2) x }) ≡ with_link (clauses_in b) r 0 (link_at x.0 (tail_in b.tails r).left)
    first b r x h room =
        let k = here b r h in
        let e0 : head_in (set b.heads (4 * r + 2) x) r 0 ≡ head_in b.heads r 0 = head-else b.heads r 2 0 x (λ q. omega arith) in
        let e1 : head_in (set b.heads (4 * r + 2) x) r 1 ≡ head_in b.heads r 1 = head-else b.heads r 2 1 x (λ q. omega arith) in
        let e2 : head_in (set b.heads (4 * r + 2) x) r 2 ≡ x = head-put b.heads r 2 x (omega arith) in
        let e3 : head_in (set b.heads (4 * r + 2) x) r 3 ≡ head_in b.heads r 3 = head-else b.heads r 2 3 x (λ q. omega arith) in
        changed_in b (record b { heads = set b.heads (4 * r + 2) x }) r (put_link 0 (link_at x.0 (tail_in b.tails r).left)) h refl refl
        (agree_on b (record b { heads = set b.heads (4 * r + 2) x }) r refl refl (λ p n. refl) (λ p j lt n. head-other b.heads r 2 p j x (omega arith) lt n))
        (rw (e0, e1) k.seen) (rw (e2, e3) refl)

    second : (b : Block) (r : ℕ) (x : Lit) → is_live (clauses_in b) r ≡ true → 4 * r + 4 ≤ length b.heads → clauses_in (record b { heads = set b.heads (4 * r + 3) x }) ≡ with_link (clauses_in b) r 1 (link_at x.0 (tail_in b.tails r).right)
    second b r x h room =
        let k = here b r h in
        let e0 : head_in (set b.heads (4 * r + 3) x) r 0 ≡ head_in b.heads r 0 = head-else b.heads r 3 0 x (λ q. omega arith) in
        let e1 : head_in (set b.heads (4 * r + 3) x) r 1 ≡ head_in b.heads r 1 = head-else b.heads r 3 1 x (λ q. omega arith) in
        let e2 : head_in (set b.heads (4 * r + 3) x) r 2 ≡ head_in b.heads r 2 = head-else b.heads r 3 2 x (λ q. omega arith) in
        let e3 : head_in (set b.heads (4 * r + 3) x) r 3 ≡ x = head-put b.heads r 3 x (omega arith) in
        changed_in b (record b { heads = set b.heads (4 * r + 3) x }) r (put_link 1 (link_at x.0 (tail_in b.tails r).right)) h refl refl
        (agree_on b (record b { heads = set b.heads (4 * r + 3) x }) r refl refl (λ p n. refl) (λ p j lt n. head-other b.heads r 3 p j x (omega arith) lt n))
        (rw (e0, e1) k.seen) (rw (e2, e3) refl)

pub far_is : (slot : ℕ) (to : Option ClauseRef) (t : Tail) → far_of slot (far_put slot to t) ≡ to
far_is slot to t = at (nat_eq slot 0)
  where
    at : (x : Bool) → cond x (cond x (record t { left = to }) (record t { right = to })).left (cond x (record t { left = to }) (record t { right = to })).right ≡ to
    at true = refl
    at false = refl

-- the place of a link is written into the tail
pub far_written : (b : Block) (r slot : ℕ) (to : Option ClauseRef) → is_live (clauses_in b) r ≡ true → r < length b.tails → slot < 2 → clauses_in (record b { tails = set b.tails r (far_put slot to (tail_in b.tails r)) }) ≡ with_link (clauses_in b) r slot (link_at (head_in b.heads r (2 + slot)).0 to)
far_written b r slot to h room lt =
    elim (cases_eq slot 0) [
      | inl e ↦ rw e (at b r 0 to h room (put_link 0 (link_at (head_in b.heads r 2).0 to)) refl refl)
      | inr n ↦ (let e : slot ≡ 1 = omega arith in rw e (at b r 1 to h room (put_link 1 (link_at (head_in b.heads r 3).0 to)) refl refl))
    ]
  where
    at : (b : Block) (r slot : ℕ) (to : Option ClauseRef) → is_live (clauses_in b) r ≡ true → r < length b.tails → (f : Live → Live) → (far_put slot to (tail_in b.tails r)).is_retired ≡ (tail_in b.tails r).is_retired
        → record { place = r; id = (far_put slot to (tail_in b.tails r)).id; lits = lits_at b r; first = link_at (head_in b.heads r 2).0 (far_put slot to (tail_in b.tails r)).left; second = link_at (head_in b.heads r 3).0 (far_put slot to (tail_in b.tails r)).right } ≡ f (seat_at b r).clause
        → clauses_in (record b { tails = set b.tails r (far_put slot to (tail_in b.tails r)) }) ≡ with_clause (clauses_in b) r f
    at b r slot to h room f retired cell =
        let k = here b r h in
        let x : Tail = far_put slot to (tail_in b.tails r) in
        let put : tail_in (set b.tails r (far_put slot to (tail_in b.tails r))) r ≡ far_put slot to (tail_in b.tails r) = tail-put b.tails r x room in
        changed_in b (record b { tails = set b.tails r (far_put slot to (tail_in b.tails r)) }) r f h refl refl
        (agree_on b (record b { tails = set b.tails r (far_put slot to (tail_in b.tails r)) }) r refl refl (λ p n. tail-other b.tails r p x n) (λ p j lt n. refl))
        (rw (put, retired) k.seen)
        (rw put cell)

link_again : (d : Live) (r slot : ℕ) (a c : Option ℕ) (x y : Bool) → nat_eq d.place r ≡ x → nat_eq slot 0 ≡ y → cond (nat_eq (cond (nat_eq d.place r) (put_link slot a d) d).place r) (put_link slot c (cond (nat_eq d.place r) (put_link slot a d) d)) (cond (nat_eq d.place r) (put_link slot a d) d) ≡ cond (nat_eq d.place r) (put_link slot c d) d
link_again d r slot a c true true e f = rw (e, f) (rw e refl)
link_again d r slot a c true false e f = rw (e, f) (rw e refl)
link_again d r slot a c false y e f = rw e (rw e refl)

-- a link that is written twice is as it was written last
pub linked_again : (cs : List Live) (r slot : ℕ) (a c : Option ℕ) → with_link (with_link cs r slot a) r slot c ≡ with_link cs r slot c
linked_again [] r slot a c = refl
linked_again (d ∷ cs) r slot a c = ap₂ (λ (x : Live) (xs : List Live). x ∷ xs) (link_again d r slot a c (nat_eq d.place r) (nat_eq slot 0) refl refl) (linked_again cs r slot a c)

pub live_linked : (b d : Block) (r slot : ℕ) (to : Option ℕ) → is_live (clauses_in b) r ≡ true → clauses_in d ≡ with_link (clauses_in b) r slot to → is_live (clauses_in d) r ≡ true
live_linked b d r slot to h e = ap (λ cs. is_live cs r) e ∙ with_clause-live (clauses_in b) r r (put_link slot to) (put_link-place slot to) ∙ h

-- the word of a link tells its place, beside what the tail has
pub near_tells : (to : Option ClauseRef) (g : ℕ) (far : Option ClauseRef) → g < 2 → (near_of to g ≡ 4294967294 → far ≡ to) → link_at (near_of to g) far ≡ place_of to
near_tells None g far near h = refl
near_tells (Some r) g far near h =
    elim (cases_lt r.0 2147483647) [
      | inl lt ↦ (let e : near_of (Some r) g ≡ 2 * r.0 + g = rw (lt-ltb r.0 2147483647 lt) refl in
          let half : (2 * r.0 + g) / 2 ≡ r.0 = omega arith in
          rw (e, lt-ltb (2 * r.0 + g) 4294967294 (omega arith), half) refl)
      | inr le ↦ (let e : near_of (Some r) g ≡ 4294967294 = rw (le-ltb r.0 2147483647 le) refl in rw (e, h e) refl)
    ]

with_same : (cs : List Live) (r : ℕ) → with_clause cs r (λ c. c) ≡ cs
with_same [] r = refl
with_same (c ∷ cs) r = ap₂ (λ (d : Live) (ds : List Live). d ∷ ds) (at (nat_eq c.place r)) (with_same cs r)
  where
    at : (x : Bool) → cond x c c ≡ c
    at true = refl
    at false = refl

two_other : (hs : List Lit) (r p j : ℕ) (x y : Lit) → j < 4 → (p ≡ r → ⊥) → head_in (set (set hs (4 * r) x) (4 * r + 1) y) p j ≡ head_in hs p j
two_other hs r p j x y lt n = get_or-set_other (set hs (4 * r) x) (4 * r + 1) (4 * p + j) y (word 0) (λ q. n (omega arith)) ∙ get_or-set_other hs (4 * r) (4 * p + j) x (word 0) (λ q. n (omega arith))

two_else : (hs : List Lit) (r j : ℕ) (x y : Lit) → 2 ≤ j → head_in (set (set hs (4 * r) x) (4 * r + 1) y) r j ≡ head_in hs r j
two_else hs r j x y le = get_or-set_other (set hs (4 * r) x) (4 * r + 1) (4 * r + j) y (word 0) (λ q. omega arith) ∙ get_or-set_other hs (4 * r) (4 * r + j) x (word 0) (λ q. omega arith)

two_first : (hs : List Lit) (r : ℕ) (x y : Lit) → head_in (set (set hs (4 * r) x) (4 * r + 1) y) r 0 ≡ word_in (set hs (4 * r) x) (4 * r)
two_first hs r x y = ap (word_in (set (set hs (4 * r) x) (4 * r + 1) y)) (add-zero (4 * r)) ∙ get_or-set_other (set hs (4 * r) x) (4 * r + 1) (4 * r) y (word 0) (λ q. omega arith)

-- the head of a clause tells its first two literals, or nothing
pub told : (b : Block) (r : ℕ) (x y : Lit) → is_live (clauses_in b) r ≡ true → 4 * r + 4 ≤ length b.heads → tells_right x y (lits_of (clauses_in b) r) ≡ true → clauses_in (record b { heads = set (set b.heads (4 * r) x) (4 * r + 1) y }) ≡ clauses_in b
told b r x y h room right =
    let k = here b r h in
    let e0 : head_in (set (set b.heads (4 * r) x) (4 * r + 1) y) r 0 ≡ x = two_first b.heads r x y ∙ get_or-set_same b.heads (4 * r) x (word 0) (omega arith) in
    let e1 : head_in (set (set b.heads (4 * r) x) (4 * r + 1) y) r 1 ≡ y = get_or-set_same (set b.heads (4 * r) x) (4 * r + 1) y (word 0) (let e = length-set b.heads (4 * r) x in omega arith) in
    let e2 : head_in (set (set b.heads (4 * r) x) (4 * r + 1) y) r 2 ≡ head_in b.heads r 2 = two_else b.heads r 2 x y (omega arith) in
    let e3 : head_in (set (set b.heads (4 * r) x) (4 * r + 1) y) r 3 ≡ head_in b.heads r 3 = two_else b.heads r 3 x y (omega arith) in
    let tells : tells_right x y (lits_at b r) ≡ true = ap (tells_right x y) (sym (lits_in b r h)) ∙ right in
    changed_in b (record b { heads = set (set b.heads (4 * r) x) (4 * r + 1) y }) r (λ c. c) h refl refl
    (agree_on b (record b { heads = set (set b.heads (4 * r) x) (4 * r + 1) y }) r refl refl (λ p n. refl) (λ p j lt n. two_other b.heads r p j x y lt n))
    (rw (kept b r k, e0, e1) tells) (rw (e2, e3) refl)
    ∙ with_same (clauses_in b) r

-- a clause is marked as retired
pub clause_removed : (b : Block) (r : ℕ) → is_live (clauses_in b) r ≡ true → r < length b.tails → clauses_in (record b { tails = set b.tails r (record (tail_in b.tails r) { is_retired = true }) }) ≡ without (clauses_in b) r
clause_removed b r h room =
    let x : Tail = record (tail_in b.tails r) { is_retired = true } in
    let put : tail_in (set b.tails r (record (tail_in b.tails r) { is_retired = true })) r ≡ record (tail_in b.tails r) { is_retired = true } = tail-put b.tails r x room in
    removed_in b (record b { tails = set b.tails r (record (tail_in b.tails r) { is_retired = true }) }) r h refl refl
    (agree_on b (record b { tails = set b.tails r (record (tail_in b.tails r) { is_retired = true }) }) r refl refl (λ p n. tail-other b.tails r p x n) (λ p j lt n. refl))
    (rw put refl)

zero_put : (ws : List Lit) (i : ℕ) → word_in (set ws i (word 0)) i ≡ word 0
zero_put [] i = refl
zero_put (w ∷ ws) zero = refl
zero_put (w ∷ ws) (suc i) = zero_put ws i

-- other literals in a clause, as many as it has
pub lits_changed : (b : Block) (r : ℕ) (xs : List Lit) → is_live (clauses_in b) r ≡ true → length xs ≡ length (lits_of (clauses_in b) r) → clauses_in (rewritten b r xs) ≡ with_lits (clauses_in b) r xs
lits_changed b r xs h long =
    let k = here b r h in
    let a : ℕ = (span_in b.spans r).start in
    let size : length xs ≡ (span_in b.spans r).size = long ∙ size_is b r h in
    let ends : (span_in b.spans r).start + (span_in b.spans r).size ≤ length b.lits = k.ends in
    let le : (span_in b.spans r).start + length xs ≤ length b.lits = omega arith in
    let e0 : head_in (hidden b.heads r) r 0 ≡ word 0 = two_first b.heads r (word 0) (word 0) ∙ zero_put b.heads (4 * r) in
    let e1 : head_in (hidden b.heads r) r 1 ≡ word 0 = zero_put (set b.heads (4 * r) (word 0)) (4 * r + 1) in
    let e2 : head_in (hidden b.heads r) r 2 ≡ head_in b.heads r 2 = two_else b.heads r 2 (word 0) (word 0) (omega arith) in
    let e3 : head_in (hidden b.heads r) r 3 ≡ head_in b.heads r 3 = two_else b.heads r 3 (word 0) (word 0) (omega arith) in
    let spelt : run (word_in (overwritten b.lits (span_in b.spans r).start xs)) (span_in b.spans r).start (span_in b.spans r).size ≡ xs = ap (run (word_in (overwritten b.lits (span_in b.spans r).start xs)) (span_in b.spans r).start) (sym size) ∙ run_spells (word_in (overwritten b.lits (span_in b.spans r).start xs)) (span_in b.spans r).start xs (λ j lt. over-within b.lits (span_in b.spans r).start xs j le lt) in
    changed_in b (rewritten b r xs) r (λ c. record c { lits = xs }) h refl (over-length b.lits (span_in b.spans r).start xs le)
    (record {
      starts = λ p. refl;
      stops = λ p. refl;
      others = λ p n order. seat-same b (rewritten b r xs) p refl refl (λ j lt. two_other b.heads r p j (word 0) (word 0) lt n) (apart p le size order);
    })
    (rw (kept b r k, e0, e1) refl) (rw (e2, e3, spelt) refl)
  where
    apart : (p : ℕ) → (span_in b.spans r).start + length xs ≤ length b.lits → length xs ≡ (span_in b.spans r).size → ((seat_at b p).stop ≤ (seat_at b r).start) ⊎ ((seat_at b r).stop ≤ (seat_at b p).start) → lits_at (rewritten b r xs) p ≡ lits_at b p
    apart p le size (inl below) = run-same (word_in (overwritten b.lits (span_in b.spans r).start xs)) (word_in b.lits) (span_in b.spans p).start (span_in b.spans p).size (λ i ge lt. over-below b.lits (span_in b.spans r).start xs i le (omega arith))
    apart p le size (inr above) = run-same (word_in (overwritten b.lits (span_in b.spans r).start xs)) (word_in b.lits) (span_in b.spans p).start (span_in b.spans p).size (λ i ge lt. over-above b.lits (span_in b.spans r).start xs i le (omega arith))

-- the span of a new clause
abbrev pub new_span : ℕ → ℕ → Span
new_span start size = record { start = start; size = size }

-- the tail of a new clause
abbrev pub new_tail : ℕ → Tail
new_tail id = record { id = id; is_retired = false; left = None; right = None }

-- a clause behind all others: its head, its span, its tail and its literals
pub clause_added : (b : Block) (ls : List Lit) (id : ℕ) (x y : Lit) → AreAligned (length b.heads) (length b.spans) (length b.tails) → tells_right x y ls ≡ true → clauses_in (record { heads = b.heads ++ (x ∷ y ∷ word 4294967295 ∷ word 4294967295 ∷ []); spans = b.spans ++ new_span (length b.lits) (length ls) ∷ []; tails = b.tails ++ new_tail id ∷ []; lits = b.lits ++ ls }) ≡ added (length b.spans) id ls ∷ clauses_in b
unfolding clauses_in
clause_added b ls id x y aligned right =
    ap₂ (λ (n e : ℕ). clauses_to (seat_at d) n e) count end
    ∙ newest (seat_at b) (seat_at d) (length b.spans) (length b.lits) (length b.lits + length ls) (are_seated b) stops same start stop seen
    ∙ ap (λ (c : Live). c ∷ clauses_to (seat_at b) (length b.spans) (length b.lits)) cell
  where
    d : Block
    d = record { heads = b.heads ++ (x ∷ y ∷ word 4294967295 ∷ word 4294967295 ∷ []); spans = b.spans ++ new_span (length b.lits) (length ls) ∷ []; tails = b.tails ++ new_tail id ∷ []; lits = b.lits ++ ls }

    count : length (b.spans ++ new_span (length b.lits) (length ls) ∷ []) ≡ suc (length b.spans)
    count = length-append b.spans (new_span (length b.lits) (length ls) ∷ []) ∙ omega arith

    end : length (b.lits ++ ls) ≡ length b.lits + length ls
    end = length-append b.lits ls

    span_was : (p : ℕ) → p < length b.spans → span_in d.spans p ≡ span_in b.spans p
    span_was p lt = get_or_append_left b.spans (new_span (length b.lits) (length ls) ∷ []) _ p lt

    span_new : span_in d.spans (length b.spans) ≡ new_span (length b.lits) (length ls)
    span_new = ap (span_in d.spans) (sym (add-zero (length b.spans))) ∙ get_or-append-add b.spans (new_span (length b.lits) (length ls) ∷ []) 0 _

    heads : length b.heads ≡ 4 * length b.spans
    heads = aligned.four

    tails : length b.tails ≡ length b.spans
    tails = aligned.one

    tail_was : (p : ℕ) → p < length b.spans → tail_in d.tails p ≡ tail_in b.tails p
    tail_was p lt = get_or_append_left b.tails (new_tail id ∷ []) _ p (omega arith)

    tail_new : tail_in d.tails (length b.spans) ≡ new_tail id
    tail_new = ap (tail_in d.tails) (sym tails ∙ sym (add-zero (length b.tails))) ∙ get_or-append-add b.tails (new_tail id ∷ []) 0 _

    head_was : (p k : ℕ) → p < length b.spans → k < 4 → head_in d.heads p k ≡ head_in b.heads p k
    head_was p k lt near = get_or_append_left b.heads (x ∷ y ∷ word 4294967295 ∷ word 4294967295 ∷ []) (word 0) (4 * p + k) (omega arith)

    head_new : (k : ℕ) → head_in d.heads (length b.spans) k ≡ get_or (x ∷ y ∷ word 4294967295 ∷ word 4294967295 ∷ []) k (word 0)
    head_new k = ap (λ (n : ℕ). word_in d.heads (n + k)) (sym heads) ∙ get_or-append-add b.heads (x ∷ y ∷ word 4294967295 ∷ word 4294967295 ∷ []) k (word 0)

    stops : (p : ℕ) → p < length b.spans → (seat_at d p).stop ≡ (seat_at b p).stop
    stops p lt = ap (λ (s : Span). s.start + s.size) (span_was p lt)

    same : (p : ℕ) → p < length b.spans → (seat_at b p).stop ≤ length b.lits → seat_at d p ≡ seat_at b p
    same p lt fits =
        seat-same b d p (span_was p lt) (tail_was p lt) (λ k near. head_was p k lt near)
        (ap (λ (s : Span). run (word_in (b.lits ++ ls)) s.start s.size) (span_was p lt) ∙ run-same (word_in (b.lits ++ ls)) (word_in b.lits) (span_in b.spans p).start (span_in b.spans p).size (λ i ge less. get_or_append_left b.lits ls (word 0) i (omega arith)))

    start : (seat_at d (length b.spans)).start ≡ length b.lits
    start = ap (λ (s : Span). s.start) span_new

    stop : (seat_at d (length b.spans)).stop ≤ length b.lits + length ls
    stop = (let e : (seat_at d (length b.spans)).stop ≡ length b.lits + length ls = ap (λ (s : Span). s.start + s.size) span_new in omega arith)

    spelt : run (word_in (b.lits ++ ls)) (length b.lits) (length ls) ≡ ls
    spelt = run_spells (word_in (b.lits ++ ls)) (length b.lits) ls (λ k lt. get_or-append-add b.lits ls k (word 0))

    seen : (seat_at d (length b.spans)).is_seen ≡ true
    seen = rw (span_new, tail_new, head_new 0, head_new 1, spelt) right

    cell : (seat_at d (length b.spans)).clause ≡ added (length b.spans) id ls
    cell = rw (span_new, tail_new, head_new 2, head_new 3, spelt) refl

-- the same facts of an arena whose fields are at hand
pub told_in : (v b : Block) (r : ℕ) (x y : Lit) → v ≡ b → is_live (clauses_in b) r ≡ true → 4 * r + 4 ≤ length b.heads → tells_right x y (lits_of (clauses_in b) r) ≡ true → clauses_in (record v { heads = set (set v.heads (4 * r) x) (4 * r + 1) y }) ≡ clauses_in b
told_in v b r x y e h room right = ap (λ (w : Block). clauses_in (record w { heads = set (set w.heads (4 * r) x) (4 * r + 1) y })) e ∙ told b r x y h room right

pub removed_when : (v b : Block) (r : ℕ) (x : Tail) → v ≡ b → x ≡ tail_in b.tails r → is_live (clauses_in b) r ≡ true → r < length b.tails → clauses_in (record v { tails = set v.tails r (record x { is_retired = true }) }) ≡ without (clauses_in b) r
removed_when v b r x e is h room = ap₂ (λ (w : Block) (y : Tail). clauses_in (record w { tails = set w.tails r (record y { is_retired = true }) })) e is ∙ clause_removed b r h room

pub tail_read : (v b : Block) (i : ℕ) (x : Tail) → v ≡ b → i < length b.tails → x ≡ get_or v.tails i x → x ≡ tail_in b.tails i
tail_read v b i x e lt is = get_or_read b.tails i x lt (is ∙ ap (λ (w : Block). get_or w.tails i x) e) _

pub span_read : (v b : Block) (i : ℕ) (x : Span) → v ≡ b → i < length b.spans → x ≡ get_or v.spans i x → x ≡ span_in b.spans i
span_read v b i x e lt is = get_or_read b.spans i x lt (is ∙ ap (λ (w : Block). get_or w.spans i x) e) _

pub head_read : (v b : Block) (i : ℕ) (x : Lit) → v ≡ b → i < length b.heads → x ≡ get_or v.heads i x → x ≡ word_in b.heads i
head_read v b i x e lt is = get_or_read b.heads i x lt (is ∙ ap (λ (w : Block). get_or w.heads i x) e) (word 0)

-- the literals of a live clause, cut out of the block
pub lits_cut : (v b : Block) (r start stop : ℕ) (s : Span) → v ≡ b → s ≡ span_in b.spans r → is_live (clauses_in b) r ≡ true → start ≡ s.start → stop ≡ s.start + s.size → take (stop - start) (drop start v.lits) ≡ lits_of (clauses_in b) r
lits_cut v b r start stop s e is h from to =
    let n : stop - start ≡ s.size = omega arith in
    rw (n, from, e, is) (sym (lits_taken b r h))
