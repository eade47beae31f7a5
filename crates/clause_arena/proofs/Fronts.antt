-- What is read of a clause's head, and how its links are written.
use Rattle.std.proofs.Common.{◌≡◌, ℕ, suc, ◌+◌, ◌-◌, ◌*◌, ◌/◌, ◌<◌, ◌≤◌, true, false, nat_eq, List, [], ◌∷◌, ◌++◌, map, length, take, drop, set, get_or, Option, Some, None, refl, sym, ap, ◌∙◌, subst, arith, inl, inr, add-zero, append_assoc, append-nil}
use Rattle.std.proofs.lemmas.Bool.{both_ways, cases_eq, and_parts, or_cases, eqb-true, lt-ltb, ne_eqb}
use Rattle.std.proofs.lemmas.List.{map-append}
use Rattle.cnf_base.specs.declared.literal.Lit.{Lit}
use Rattle.clause_arena.specs.declared.ClauseRef.{ClauseRef}
use Rattle.clause_arena.specs.declared.arena.Span.{Span}
use Rattle.clause_arena.specs.declared.arena.Tail.{Tail}
use Rattle.clause_arena.specs.Clauses.{StandsBeside, is_live, lits_of, link_of, with_link, place_of, places}
use Rattle.clause_arena.specs.Words.{Block, seat_at, lits_at, head_in, span_in, tail_in, word, word_in, run, link_at, begins, tells_right, clauses_in, clauses_to}
use Rattle.clause_arena.specs.Links.{near_of, far_put}
use Rattle.clause_arena.proofs.Scanning.{scan_seen, scan_passed, scan_over}
use Rattle.clause_arena.proofs.Seats.{here, link_is, lits_in, tail-put}
use Rattle.clause_arena.proofs.Heads.{far_of, far_is, kept, link_put, far_written, linked_again, live_linked, near_tells, head_read, tail_read}
use Rattle.clause_arena.proofs.Writing.{run_is}

-- a link by the word of the head and the tail
pub link_read : (b : Block) (r slot : ℕ) (x : Lit) → is_live (clauses_in b) r ≡ true → slot < 2 → x ≡ head_in b.heads r (2 + slot) → link_of (clauses_in b) r slot ≡ link_at x.0 (far_of slot (tail_in b.tails r))
link_read b r slot x h lt is =
    elim (cases_eq slot 0) [
      | inl e ↦ rw e (link_is b r 0 h ∙ ap (λ (y : Lit). link_at y.0 (tail_in b.tails r).left) (sym (is ∙ ap (λ k. head_in b.heads r (2 + k)) e)))
      | inr n ↦ (let e : slot ≡ 1 = omega arith in rw e (link_is b r 1 h ∙ ap (λ (y : Lit). link_at y.0 (tail_in b.tails r).right) (sym (is ∙ ap (λ k. head_in b.heads r (2 + k)) e))))
    ]

pub link_near : (x : ℕ) (far : Option ClauseRef) → x < 4294967294 → Some (x / 2) ≡ link_at x far
link_near x far lt = rw (lt-ltb x 4294967294 lt) refl

pub link_far : (x : ℕ) (far : Option ClauseRef) → x ≡ 4294967294 → place_of far ≡ link_at x far
link_far x far e = rw e refl

pub link_none : (x : ℕ) (far : Option ClauseRef) → x ≡ 4294967295 → None ≡ link_at x far
link_none x far e = rw e refl

-- an arena in which the tail of a clause is ready for a link
pub record IsReady (b m : Block) (r slot : ℕ) (to : Option ClauseRef) (g : ℕ) : Type 0 where
  pub live : is_live (clauses_in m) r ≡ true
  pub far : near_of to g ≡ 4294967294 → far_of slot (tail_in m.tails r) ≡ to
  pub again : (x : Option ℕ) → with_link (clauses_in m) r slot x ≡ with_link (clauses_in b) r slot x

pub ready_far : (b m : Block) (r slot : ℕ) (to : Option ClauseRef) (g : ℕ) → is_live (clauses_in b) r ≡ true → r < length b.tails → slot < 2 → m ≡ record b { tails = set b.tails r (far_put slot to (tail_in b.tails r)) } → IsReady b m r slot to g
ready_far b m r slot to g h room lt e =
    let w : clauses_in m ≡ with_link (clauses_in b) r slot (link_at (head_in b.heads r (2 + slot)).0 to) = ap clauses_in e ∙ far_written b r slot to h room lt in
    record {
      live = live_linked b m r slot (link_at (head_in b.heads r (2 + slot)).0 to) h w;
      far = λ _. ap (λ (d : Block). far_of slot (tail_in d.tails r)) e ∙ ap (far_of slot) (tail-put b.tails r (far_put slot to (tail_in b.tails r)) room) ∙ far_is slot to (tail_in b.tails r);
      again = λ x. ap (λ cs. with_link cs r slot x) w ∙ linked_again (clauses_in b) r slot (link_at (head_in b.heads r (2 + slot)).0 to) x;
    }

pub ready_near : (b m : Block) (r slot : ℕ) (to : Option ClauseRef) (g : ℕ) → is_live (clauses_in b) r ≡ true → (near_of to g ≡ 4294967294 → ⊥) → m ≡ b → IsReady b m r slot to g
ready_near b m r slot to g h near e =
    record { live = ap (λ (d : Block). is_live (clauses_in d) r) e ∙ h; far = λ q. absurd (near q); again = λ x. ap (λ (d : Block). with_link (clauses_in d) r slot x) e }

-- a link is written
pub link_written : (b m d : Block) (r slot : ℕ) (to : Option ClauseRef) (g : ℕ) → IsReady b m r slot to g → slot < 2 → g < 2 → 4 * r + 4 ≤ length m.heads → d ≡ record m { heads = set m.heads (4 * r + (2 + slot)) (word (near_of to g)) } → clauses_in d ≡ with_link (clauses_in b) r slot (place_of to)
link_written b m d r slot to g k lt near room e =
    ap clauses_in e ∙ link_put m r slot (word (near_of to g)) k.live lt room ∙ ap (λ x. with_link (clauses_in m) r slot x) (near_tells to g (far_of slot (tail_in m.tails r)) near k.far) ∙ k.again (place_of to)

begins_tells : (a b : Lit) (ls : List Lit) → begins a b ls ≡ true → (a ≡ get_or ls 0 (word 0)) × (b ≡ get_or ls 1 (word 0))
begins_tells a b [] h = absurd (both_ways false refl h)
begins_tells a b (x ∷ []) h = absurd (both_ways false refl h)
begins_tells a b (x ∷ y ∷ ls) h =
    let p = and_parts (nat_eq x.0 a.0) (nat_eq y.0 b.0) h in
    (ap word (sym (eqb-true x.0 a.0 p.0)), ap word (sym (eqb-true y.0 b.0 p.1)))

-- two different words at the front of a head are the first two literals
pub front_read : (b : Block) (r k : ℕ) → is_live (clauses_in b) r ≡ true → k < 2 → nat_eq (head_in b.heads r 0).0 (head_in b.heads r 1).0 ≡ false → head_in b.heads r k ≡ get_or (lits_of (clauses_in b) r) k (word 0)
front_read b r k h near apart =
    let w = here b r h in
    let told : tells_right (head_in b.heads r 0) (head_in b.heads r 1) (lits_at b r) ≡ true = rw (kept b r w) at w.seen in
    let begin : begins (head_in b.heads r 0) (head_in b.heads r 1) (lits_at b r) ≡ true = elim (or_cases (nat_eq (head_in b.heads r 0).0 (head_in b.heads r 1).0) (begins (head_in b.heads r 0) (head_in b.heads r 1) (lits_at b r)) told) [ inl q ↦ absurd (both_ways (nat_eq (head_in b.heads r 0).0 (head_in b.heads r 1).0) apart q) | inr q ↦ q ] in
    let two = begins_tells (head_in b.heads r 0) (head_in b.heads r 1) (lits_at b r) begin in
    elim (cases_eq k 0) [
      | inl e ↦ rw e (two.0 ∙ ap (λ ls. get_or ls 0 (word 0)) (sym (lits_in b r h)))
      | inr n ↦ (let e : k ≡ 1 = omega arith in rw e (two.1 ∙ ap (λ ls. get_or ls 1 (word 0)) (sym (lits_in b r h))))
    ]

-- whether a clause is seen, by its words and its literals
pub seen_read : (v b : Block) (p : ℕ) (s : Span) (t : Tail) (x y : Lit) (ls : List Lit) → v ≡ b → s ≡ span_in b.spans p → t ≡ get_or v.tails p t → t.is_retired ≡ false → p < length b.tails → s.start + s.size ≤ length b.lits → 4 * p + 4 ≤ length b.heads → x ≡ get_or v.heads (4 * p) x → y ≡ get_or v.heads (4 * p + 1) y → ls ≡ v.lits → tells_right x y (take (s.start + s.size - s.start) (drop s.start ls)) ≡ (seat_at b p).is_seen
seen_read v b p s t x y ls e is at kept in_tails fits room xs ys l =
    let a : x ≡ head_in b.heads p 0 = head_read v b (4 * p) x e (omega arith) xs ∙ ap (word_in b.heads) (sym (add-zero (4 * p))) in
    let c : y ≡ head_in b.heads p 1 = head_read v b (4 * p + 1) y e (omega arith) ys in
    let n : s.start + s.size - s.start ≡ s.size = omega arith in
    let all : ls ≡ b.lits = l ∙ ap (λ (d : Block). d.lits) e in
    let part : take s.size (drop s.start b.lits) ≡ run (word_in b.lits) s.start s.size = sym (run_is b.lits s.start s.size fits) in
    let tail : t ≡ tail_in b.tails p = tail_read v b p t e in_tails at in
    rw (n, all, part, a, c, ← is, ← tail, kept) refl

-- the clauses found so far, from the newest on
abbrev pub Scans : Block → ℕ → ℕ → List ClauseRef → Type 0
Scans b left end rs = map (λ r. r.0) rs ++ places (clauses_to (seat_at b) left end) ≡ places (clauses_in b)

pub scans_on : (b : Block) (p end : ℕ) (rs : List ClauseRef) (s : Span) → Scans b (suc p) end rs → s ≡ span_in b.spans p → s.start + s.size ≤ end → (seat_at b p).is_seen ≡ true → Scans b p s.start (rs ++ record { 0 = p } ∷ [])
scans_on b p end rs s so is fits seen =
    let at : s.start ≡ (seat_at b p).start = ap (λ (x : Span). x.start) is in
    let stop : (seat_at b p).stop ≤ end = subst (λ (x : Span). x.start + x.size ≤ end) is fits in
    let one : clauses_to (seat_at b) (suc p) end ≡ (seat_at b p).clause ∷ clauses_to (seat_at b) p (seat_at b p).start = scan_seen (seat_at b) p end stop seen in
    rw at
    (ap (λ xs. xs ++ places (clauses_to (seat_at b) p (seat_at b p).start)) (map-append (λ (r : ClauseRef). r.0) rs (record { 0 = p } ∷ []))
    ∙ append_assoc (map (λ r. r.0) rs) (p ∷ []) (places (clauses_to (seat_at b) p (seat_at b p).start))
    ∙ sym (ap (λ cs. map (λ r. r.0) rs ++ places cs) one) ∙ so)

pub scans_past : (b : Block) (p end : ℕ) (rs : List ClauseRef) (s : Span) → Scans b (suc p) end rs → s ≡ span_in b.spans p → s.start + s.size ≤ end → (seat_at b p).is_seen ≡ false → Scans b p s.start rs
scans_past b p end rs s so is fits seen =
    let at : s.start ≡ (seat_at b p).start = ap (λ (x : Span). x.start) is in
    let stop : (seat_at b p).stop ≤ end = subst (λ (x : Span). x.start + x.size ≤ end) is fits in
    rw at (sym (ap (λ cs. map (λ r. r.0) rs ++ places cs) (scan_passed (seat_at b) p end stop seen)) ∙ so)

pub scan_ends : (b : Block) (p end : ℕ) (rs : List ClauseRef) (s : Span) → Scans b (suc p) end rs → s ≡ span_in b.spans p → end < s.start + s.size → map (λ r. r.0) rs ≡ places (clauses_in b)
scan_ends b p end rs s so is over =
    let stop : end < (seat_at b p).stop = subst (λ (x : Span). end < x.start + x.size) is over in
    sym (append-nil (map (λ r. r.0) rs)) ∙ sym (ap (λ cs. map (λ r. r.0) rs ++ places cs) (scan_over (seat_at b) p end stop)) ∙ so

pub scan_done : (b : Block) (left end : ℕ) (rs : List ClauseRef) → left ≡ 0 → Scans b left end rs → map (λ r. r.0) rs ≡ places (clauses_in b)
scan_done b left end rs e so = sym (append-nil (map (λ r. r.0) rs)) ∙ subst (λ n. Scans b n end rs) e so

-- a head that has the literal at one of its first two places, and another at the other, tells both
pub beside_read : (b : Block) (r k : ℕ) (here other lit : Lit) → is_live (clauses_in b) r ≡ true → k < 2 → here ≡ head_in b.heads r k → other ≡ head_in b.heads r (1 - k) → here ≡ lit → (other ≡ lit → ⊥) → StandsBeside (lits_of (clauses_in b) r) k lit other
beside_read b r k here other lit h near one two is apart =
    let differ : nat_eq (head_in b.heads r 0).0 (head_in b.heads r 1).0 ≡ false =
    elim (cases_eq k 0) [
      | inl e ↦ ne_eqb (head_in b.heads r 0).0 (head_in b.heads r 1).0 (λ q. apart (two ∙ ap (λ j. head_in b.heads r (1 - j)) e ∙ ap word (sym q) ∙ ap (head_in b.heads r) (sym e) ∙ sym one ∙ is))
      | inr n ↦ (let e : k ≡ 1 = omega arith in ne_eqb (head_in b.heads r 0).0 (head_in b.heads r 1).0 (λ q. apart (two ∙ ap (λ j. head_in b.heads r (1 - j)) e ∙ ap word q ∙ ap (head_in b.heads r) (sym e) ∙ sym one ∙ is)))
    ] in
    record {
      here = sym (front_read b r k h near differ) ∙ sym one ∙ is;
      beside = sym (front_read b r (1 - k) h (omega arith) differ) ∙ sym two;
      apart = apart;
    }

-- a head whose first two words differ tells no other where the literal is not at the place, or is at both
pub beside_none : (b : Block) (r k : ℕ) (here other lit : Lit) → is_live (clauses_in b) r ≡ true → k < 2 → here ≡ head_in b.heads r k → other ≡ head_in b.heads r (1 - k) → (here.0 ≡ other.0 → ⊥) → (here ≡ lit → other ≡ lit) → StandsBeside (lits_of (clauses_in b) r) k lit (get_or (lits_of (clauses_in b) r) (1 - k) (word 0)) → ⊥
beside_none b r k here other lit h near one two apart both s =
    let differ : nat_eq (head_in b.heads r 0).0 (head_in b.heads r 1).0 ≡ false =
    elim (cases_eq k 0) [
      | inl e ↦ ne_eqb (head_in b.heads r 0).0 (head_in b.heads r 1).0 (λ q. apart (ap (λ (l : Lit). l.0) (one ∙ ap (head_in b.heads r) e) ∙ q ∙ ap (λ (l : Lit). l.0) (sym (two ∙ ap (λ j. head_in b.heads r (1 - j)) e))))
      | inr n ↦ (let e : k ≡ 1 = omega arith in ne_eqb (head_in b.heads r 0).0 (head_in b.heads r 1).0 (λ q. apart (ap (λ (l : Lit). l.0) (one ∙ ap (head_in b.heads r) e) ∙ sym q ∙ ap (λ (l : Lit). l.0) (sym (two ∙ ap (λ j. head_in b.heads r (1 - j)) e)))))
    ] in
    let at : here ≡ get_or (lits_of (clauses_in b) r) k (word 0) = one ∙ front_read b r k h near differ in
    let beside : other ≡ get_or (lits_of (clauses_in b) r) (1 - k) (word 0) = two ∙ front_read b r (1 - k) h (omega arith) differ in
    s.apart (sym beside ∙ both (at ∙ s.here))
