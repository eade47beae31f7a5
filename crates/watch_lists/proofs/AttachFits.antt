-- A clause that comes into the lists of its first two literals, and a trail that fits.
use Rattle.std.proofs.Common.{◌≡◌, ℕ, suc, ◌*◌, ◌<◌, ◌≤◌, Bool, true, false, cond, ◌&&◌, nat_eq, nat_le, List, [], ◌∷◌, ◌++◌, length, set, Option, Some, None, refl, sym, ap, ◌∙◌, subst, arith, inl, inr}
use Rattle.std.proofs.lemmas.Bool.{both_ways, cases_eq, leb-true, and_parts, or_cases}
use Rattle.std.proofs.lemmas.List.{length-set, get_or-set_same, get_or-set_other, length_push, get_or_append_left}
use Rattle.cnf_base.specs.declared.literal.Lit.{Lit}
use Rattle.cnf_base.specs.Literals.{negation, variable, same_lit}
use Rattle.cnf_base.proofs.LitLemmas.{same_lit-is}
use Rattle.clause_arena.specs.declared.ClauseRef.{ClauseRef}
use Rattle.clause_arena.specs.Clauses.{Live, clause_at, is_live, lits_of, place_of, with_link, put_link}
use Rattle.clause_arena.proofs.Updates.{with_clause-other, with_clause-same, with_clause-live, put_link-place, linked-lits}
use Rattle.watch_lists.specs.declared.trail.Entry.{Entry}
use Rattle.watch_lists.specs.Entries.{entry, no_entry, entry_for, is_true, value_in, depth_of, true_by}
use Rattle.watch_lists.specs.Trails.{Seen, IsTrail}
use Rattle.watch_lists.specs.Rows.{lit_in, watch, IsRow, put, Lists}
use Rattle.watch_lists.specs.Guards.{AreGuarded}
use Rattle.watch_lists.specs.Fits.{heads_in, attached_in, IsClause, AreOthersFalse, FitsWith, Fits, KeepsClauses}
use Rattle.watch_lists.specs.Attaching.{IsFalseNow, CanBeAttached}
use Rattle.watch_lists.proofs.EntryLemmas.{at_true, value_none, pushed_true, last_level-push, pushed_negation, value_false}
use Rattle.watch_lists.proofs.TrailLemmas.{true_by-true, true_by-depth}
use Rattle.watch_lists.proofs.RowLemmas.{put-same, put-other}
use Rattle.watch_lists.proofs.AttachLemmas.{attach_lists}
use Rattle.watch_lists.proofs.GuardLemmas.{open_guards, true_by-up, true_by-some}
use Rattle.watch_lists.proofs.ClauseLemmas.{has_at, at_has, keeps_both, keeps_linked}
use Rattle.watch_lists.proofs.OverLemmas.{reasons_kept}
use Rattle.watch_lists.proofs.FitLemmas.{fits_itself, fits_closed}
use Rattle.watch_lists.proofs.AssignLemmas.{implied_with}

-- the clauses after a clause came into two lists
abbrev pub both_linked : List Live → ℕ → Option ℕ → Option ℕ → List Live
both_linked cs r h k = with_link (with_link cs r 0 h) r 1 k

pub both_lits : (cs : List Live) (r x : ℕ) (h k : Option ℕ) → is_live cs r ≡ true → lits_of (both_linked cs r h k) x ≡ lits_of cs x
both_lits cs r x h k live =
    linked-lits (with_link cs r 0 h) r 1 x k (with_clause-live cs r r (put_link 0 h) (put_link-place 0 h) ∙ live) ∙ linked-lits cs r 0 x h live

pub both_keep : (cs : List Live) (r : ℕ) (h k : Option ℕ) → is_live cs r ≡ true → KeepsClauses cs (both_linked cs r h k)
both_keep cs r h k live =
    keeps_both cs (with_link cs r 0 h) (both_linked cs r h k) (keeps_linked cs r 0 h live) (keeps_linked (with_link cs r 0 h) r 1 k (with_clause-live cs r r (put_link 0 h) (put_link-place 0 h) ∙ live))

-- with one more clause attached
pub attached_with : (attached : ℕ → Bool) (t : Seen) (cs : List Live) (r : ClauseRef) (a b : Lit) → FitsWith attached t cs → attached r.0 ≡ false → is_live cs r.0 ≡ true → IsClause t.vars (lits_of cs r.0) → a ≡ lit_in (lits_of cs r.0) 0 → b ≡ lit_in (lits_of cs r.0) 1 → AreGuarded t.entries t.walked a b
    → FitsWith (put attached r.0 true) (record t { heads = set (set t.heads a.0 (Some r)) b.0 (Some r) }) (both_linked cs r.0 (heads_in t.heads a.0) (heads_in (set t.heads a.0 (Some r)) b.0))
attached_with attached t cs r a b f off live cl a_is b_is guard =
    record {
      trail = record { few = f.trail.few; below = f.trail.below; apart = f.trail.apart; levels = f.trail.levels; short = f.trail.short; within = f.trail.within; wide = length-set (set t.heads a.0 (Some r)) b.0 (Some r) ∙ length-set t.heads a.0 (Some r) ∙ f.trail.wide };
      clauses = λ x on. elim (cases_eq x r.0) [
        | inl e ↦ subst (λ (y : ℕ). (is_live es y ≡ true) × IsClause t.vars (lits_of es y)) (sym e) (keeps.live r.0 ∙ live, subst (IsClause t.vars) (sym (both_lits cs r.0 r.0 h k live)) cl)
        | inr n ↦ (let was = f.clauses x (sym (put-other attached r.0 true x n) ∙ on) in (keeps.live x ∙ was.0, subst (IsClause t.vars) (sym (both_lits cs r.0 x h k live)) was.1))
      ];
      lists = (put (put rows a.0 (r.0 ∷ rows a.0)) b.0 (r.0 ∷ rows b.0), record { rows_are = λ l. subst (λ (o : Option ℕ). IsRow es l o (put (put rows a.0 (r.0 ∷ rows a.0)) b.0 (r.0 ∷ rows b.0) l)) (sym (heads_are l)) (lists.rows_are l); exact = lists.exact });
      reasons = reasons_kept cs es t.entries keeps f.reasons;
      lower = f.lower;
      guards = λ x on. subst (λ (ls : List Lit). AreGuarded t.entries t.walked (lit_in ls 0) (lit_in ls 1)) (sym (both_lits cs r.0 x h k live)) (elim (cases_eq x r.0) [
        | inl e ↦ subst (λ (y : ℕ). AreGuarded t.entries t.walked (lit_in (lits_of cs y) 0) (lit_in (lits_of cs y) 1)) (sym e) (rw (← a_is, ← b_is) guard)
        | inr n ↦ f.guards x (sym (put-other attached r.0 true x n) ∙ on)
      ]);
    }
  where
    h : Option ℕ
    h = heads_in t.heads a.0

    k : Option ℕ
    k = heads_in (set t.heads a.0 (Some r)) b.0

    ds : List Live
    ds = with_link cs r.0 0 h

    es : List Live
    es = both_linked cs r.0 (heads_in t.heads a.0) (heads_in (set t.heads a.0 (Some r)) b.0)

    rows : ℕ → List ℕ
    rows = f.lists.0

    keeps : KeepsClauses cs (both_linked cs r.0 (heads_in t.heads a.0) (heads_in (set t.heads a.0 (Some r)) b.0))
    keeps = both_keep cs r.0 h k live

    long : 2 ≤ length (lits_of cs r.0)
    long = cl.long

    apart : b.0 ≡ a.0 → ⊥
    apart q =
        let two : 2 ≤ length (lits_of cs r.0) = long in
        let z : ◌≡◌ {A = ℕ} 1 0 = cl.apart 1 0 (omega arith) (omega arith) (ap (λ (l : Lit). l.0) (sym b_is) ∙ q ∙ ap (λ (l : Lit). l.0) a_is) in omega arith

    in_heads : (l : Lit) (i : ℕ) → i < length (lits_of cs r.0) → l ≡ lit_in (lits_of cs r.0) i → l.0 < length t.heads
    in_heads l i p e = let q : variable l < t.vars = rw e (cl.below i p) in let w : length t.heads ≡ 2 * t.vars = f.trail.wide in omega arith

    live1 : is_live (with_link cs r.0 0 (heads_in t.heads a.0)) r.0 ≡ true
    live1 = with_clause-live cs r.0 r.0 (put_link 0 h) (put_link-place 0 h) ∙ live

    c1 : clause_at (with_link cs r.0 0 (heads_in t.heads a.0)) r.0 ≡ put_link 0 (heads_in t.heads a.0) (clause_at cs r.0)
    c1 = with_clause-same cs r.0 (put_link 0 h) (put_link-place 0 h) live

    c2 : clause_at (both_linked cs r.0 (heads_in t.heads a.0) (heads_in (set t.heads a.0 (Some r)) b.0)) r.0 ≡ put_link 1 (heads_in (set t.heads a.0 (Some r)) b.0) (put_link 0 (heads_in t.heads a.0) (clause_at cs r.0))
    c2 = with_clause-same ds r.0 (put_link 1 k) (put_link-place 1 k) live1 ∙ ap (put_link 1 k) c1

    k_is : heads_in (set t.heads a.0 (Some r)) b.0 ≡ heads_in t.heads b.0
    k_is = ap place_of (get_or-set_other t.heads a.0 b.0 (Some r) None apart)

    lists : Lists (both_linked cs r.0 (heads_in t.heads a.0) (heads_in (set t.heads a.0 (Some r)) b.0)) (put (put (heads_in t.heads) a.0 (Some r.0)) b.0 (Some r.0)) (put attached r.0 true) (put (put rows a.0 (r.0 ∷ rows a.0)) b.0 (r.0 ∷ rows b.0))
    lists =
        attach_lists cs ds es (heads_in t.heads) attached rows r.0 a.0 b.0 f.lists.1 off apart
        (λ x n. with_clause-other cs r.0 x (put_link 0 h) (put_link-place 0 h) n)
        (λ x n. with_clause-other ds r.0 x (put_link 1 k) (put_link-place 1 k) n)
        (ap (watch 0) c1 ∙ ap (λ (l : Lit). l.0) (sym a_is)) (ap (watch 1) c1 ∙ ap (λ (l : Lit). l.0) (sym b_is))
        (ap (watch 0) c2 ∙ ap (λ (l : Lit). l.0) (sym a_is)) (ap (watch 1) c2 ∙ ap (λ (l : Lit). l.0) (sym b_is))
        (ap (λ (c : Live). c.first) c1) (ap (λ (c : Live). c.first) c2) (ap (λ (c : Live). c.second) c2 ∙ k_is)

    heads_are : (l : ℕ) → heads_in (set (set t.heads a.0 (Some r)) b.0 (Some r)) l ≡ put (put (heads_in t.heads) a.0 (Some r.0)) b.0 (Some r.0) l
    heads_are l =
        elim (cases_eq l b.0) [
          | inl e ↦ rw (put-same (put (heads_in t.heads) a.0 (Some r.0)) b.0 (Some r.0) l e, e) (ap place_of (get_or-set_same (set t.heads a.0 (Some r)) b.0 (Some r) None (rw (length-set t.heads a.0 (Some r)) (in_heads b 1 (omega arith) b_is))))
          | inr n ↦ rw (put-other (put (heads_in t.heads) a.0 (Some r.0)) b.0 (Some r.0) l n) (ap place_of (get_or-set_other (set t.heads a.0 (Some r)) b.0 l (Some r) None n) ∙ elim (cases_eq l a.0) [
            | inl e ↦ rw (put-same (heads_in t.heads) a.0 (Some r.0) l e, e) (ap place_of (get_or-set_same t.heads a.0 (Some r) None (in_heads a 0 (omega arith) a_is)))
            | inr m ↦ rw (put-other (heads_in t.heads) a.0 (Some r.0) l m) (ap place_of (get_or-set_other t.heads a.0 l (Some r) None m))
          ])
        ]

-- neither watch is false
pub open_watches : (es : List Entry) (n : ℕ) (a b : Lit) → is_true es (negation a) ≡ false → is_true es (negation b) ≡ false → AreGuarded es n a b
open_watches es n a b p q = (
  open_guards es n a b (λ v h. both_ways (is_true es (negation a)) p (true_by-true v es (negation a) h)),
  open_guards es n b a (λ v h. both_ways (is_true es (negation b)) q (true_by-true v es (negation b) h)),
)

-- a literal that is true by a level has its entry there at most
by_entry : (t : Seen) (l : Lit) (v i : ℕ) → IsTrail t → i < length t.entries → (entry t.entries i).lit ≡ l → true_by v t.entries l ≡ true → (entry t.entries i).level ≤ v
by_entry t l v i k lt is h =
    let j = by_at v t.entries l h in
    let same : j.0 ≡ i = k.apart j.0 i j.1 lt (ap variable (j.2 ∙ sym is)) in
    subst (λ x. (entry t.entries x).level ≤ v) same j.3
  where
    by_at : (v : ℕ) (es : List Entry) (l : Lit) → true_by v es l ≡ true → (j : ℕ) × (j < length es) × ((entry es j).lit ≡ l) × ((entry es j).level ≤ v)
    by_at v [] l h = absurd (both_ways false refl h)
    by_at v (e ∷ es) l h =
        elim (or_cases (nat_le e.level v && same_lit l e.lit) (true_by v es l) h) [
          | inl q ↦ (let p = and_parts (nat_le e.level v) (same_lit l e.lit) q in (0, (omega arith), sym (same_lit-is l e.lit p.1), leb-true e.level v p.0))
          | inr q ↦ (let r = by_at v es l q in (suc r.0, (let z : r.0 < length es = r.1 in omega arith), r.2, r.3))
        ]

-- the second watch became false at the present level, and the first is now true there
pub unit_watches : (t : Seen) (a b : Lit) (r : ClauseRef) → IsTrail (record t { entries = t.entries ++ entry_for t.entries a (Some r) ∷ [] }) → value_in t.entries a ≡ None → IsFalseNow t.entries b → AreGuarded (t.entries ++ entry_for t.entries a (Some r) ∷ []) t.walked a b
unit_watches t a b r sound free now = (
  open_guards es t.walked a b (λ v h. both_ways (is_true es (negation a)) a_open (true_by-true v es (negation a) h)),
  λ v h. (let any : true_by v es (negation b) ≡ true = true_by-some v t.walked es (negation b) h in
      let le : (entry es now.0).level ≤ v = by_entry t' (negation b) v now.0 sound in_es (ap (λ (x : Entry). x.lit) there ∙ now.2) any in
      let deep : depth_of es ≤ v = (let q : (entry es now.0).level ≡ depth_of es = ap (λ (x : Entry). x.level) there ∙ now.3 ∙ sym (last_level-push 0 t.entries e) in omega arith) in
      true_by-up (depth_of es) v es a deep (true_by-depth es a sound.levels (pushed_true t.entries e))),
)
  where
    e : Entry
    e = entry_for t.entries a (Some r)

    es : List Entry
    es = t.entries ++ entry_for t.entries a (Some r) ∷ []

    t' : Seen
    t' = record t { entries = t.entries ++ entry_for t.entries a (Some r) ∷ [] }

    in_es : now.0 < length (t.entries ++ entry_for t.entries a (Some r) ∷ [])
    in_es = let l = length_push t.entries e in let p : now.0 < length t.entries = now.1 in omega arith

    there : entry (t.entries ++ entry_for t.entries a (Some r) ∷ []) now.0 ≡ entry t.entries now.0
    there = get_or_append_left t.entries (e ∷ []) no_entry now.0 now.1

    a_open : is_true (t.entries ++ entry_for t.entries a (Some r) ∷ []) (negation a) ≡ false
    a_open = (value_false' (pushed_negation t.entries e (value_none t.entries a free).1))
      where
        value_false' : value_in es (negation a) ≡ Some false → is_true es (negation a) ≡ false
        value_false' h = (value_false es (negation a) h).0

-- the others of a clause that is one literal away from false
pub rest_false : (t : Seen) (cs : List Live) (r : ℕ) → IsFalseNow t.entries (lit_in (lits_of cs r) 1) → ((i : ℕ) → 2 ≤ i → i < length (lits_of cs r) → is_true t.entries (negation (lit_in (lits_of cs r) i)) ≡ true) → AreOthersFalse t.entries (lits_of cs r) (lit_in (lits_of cs r) 0)
rest_false t cs r now rest m h n =
    let i = has_at (lits_of cs r) m h in
    subst (λ (x : Lit). is_true t.entries (negation x) ≡ true) i.2 (at i.0 i.1 (λ z. n (ap (λ (l : Lit). l.0) (sym i.2 ∙ ap (lit_in (lits_of cs r)) z))))
  where
    at : (i : ℕ) → i < length (lits_of cs r) → (i ≡ 0 → ⊥) → is_true t.entries (negation (lit_in (lits_of cs r) i)) ≡ true
    at i lt m =
        elim (cases_eq i 1) [
          | inl e ↦ subst (λ (j : ℕ). is_true t.entries (negation (lit_in (lits_of cs r) j)) ≡ true) (sym e) (at_true t.entries now.0 (negation (lit_in (lits_of cs r) 1)) now.1 now.2)
          | inr k ↦ rest i (omega arith) lt
        ]

-- what attach leaves
pub record Attaches (t : Seen) (cs : List Live) (u : Seen) (es : List Live) (r : ℕ) : Type 0 where
  pub fits : Fits u es
  pub attached : (x : ℕ) → attached_in u es x ≡ cond (nat_eq x r) true (attached_in t cs x)

pub attaches : (t u : Seen) (cs es : List Live) (r : ℕ) → FitsWith (put (attached_in t cs) r true) u es → Attaches t cs u es r
attaches t u cs es r f = record { fits = fits_closed (put (attached_in t cs) r true) u es f; attached = λ x. sym (fits_itself (put (attached_in t cs) r true) u es f x) }

pub attach_open : (t : Seen) (cs : List Live) (r : ClauseRef) → Fits t cs → attached_in t cs r.0 ≡ false → is_live cs r.0 ≡ true → IsClause t.vars (lits_of cs r.0) → CanBeAttached t.entries (lits_of cs r.0) → is_true t.entries (negation (lit_in (lits_of cs r.0) 1)) ≡ false
    → Attaches t cs (record t { heads = set (set t.heads (lit_in (lits_of cs r.0) 0).0 (Some r)) (lit_in (lits_of cs r.0) 1).0 (Some r) }) (both_linked cs r.0 (heads_in t.heads (lit_in (lits_of cs r.0) 0).0) (heads_in (set t.heads (lit_in (lits_of cs r.0) 0).0 (Some r)) (lit_in (lits_of cs r.0) 1).0)) r.0
attach_open t cs r f off live cl ready open2 =
    attaches t (record t { heads = set (set t.heads a.0 (Some r)) b.0 (Some r) }) cs (both_linked cs r.0 (heads_in t.heads a.0) (heads_in (set t.heads a.0 (Some r)) b.0)) r.0
    (attached_with (attached_in t cs) t cs r a b f off live cl refl refl (open_watches t.entries t.walked a b (first ready) open2))
  where
    a : Lit
    a = lit_in (lits_of cs r.0) 0

    b : Lit
    b = lit_in (lits_of cs r.0) 1

    first : CanBeAttached t.entries (lits_of cs r.0) → is_true t.entries (negation (lit_in (lits_of cs r.0) 0)) ≡ false
    first (inl (p, q)) = p
    first (inr (p, now, rest)) = (value_none t.entries a p).1

pub is_unit : (t : Seen) (cs : List Live) (r : ℕ) → CanBeAttached t.entries (lits_of cs r) → is_true t.entries (negation (lit_in (lits_of cs r) 1)) ≡ true → (value_in t.entries (lit_in (lits_of cs r) 0) ≡ None) × IsFalseNow t.entries (lit_in (lits_of cs r) 1) × ((i : ℕ) → 2 ≤ i → i < length (lits_of cs r) → is_true t.entries (negation (lit_in (lits_of cs r) i)) ≡ true)
is_unit t cs r (inl (p, q)) h = absurd (both_ways (is_true t.entries (negation (lit_in (lits_of cs r) 1))) q h)
is_unit t cs r (inr u) h = u

pub attach_unit : (t : Seen) (cs : List Live) (r : ClauseRef) → Fits t cs → attached_in t cs r.0 ≡ false → is_live cs r.0 ≡ true → IsClause t.vars (lits_of cs r.0) → CanBeAttached t.entries (lits_of cs r.0) → is_true t.entries (negation (lit_in (lits_of cs r.0) 1)) ≡ true → IsTrail (record t { entries = t.entries ++ entry_for t.entries (lit_in (lits_of cs r.0) 0) (Some r) ∷ [] })
    → Attaches t cs (record t { entries = t.entries ++ entry_for t.entries (lit_in (lits_of cs r.0) 0) (Some r) ∷ []; heads = set (set t.heads (lit_in (lits_of cs r.0) 0).0 (Some r)) (lit_in (lits_of cs r.0) 1).0 (Some r) }) (both_linked cs r.0 (heads_in t.heads (lit_in (lits_of cs r.0) 0).0) (heads_in (set t.heads (lit_in (lits_of cs r.0) 0).0 (Some r)) (lit_in (lits_of cs r.0) 1).0)) r.0
attach_unit t cs r f off live cl ready false2 sound =
    let u = is_unit t cs r.0 ready false2 in
    let long : 2 ≤ length (lits_of cs r.0) = cl.long in
    attaches t (record t' { heads = set (set t.heads a.0 (Some r)) b.0 (Some r) }) cs (both_linked cs r.0 (heads_in t.heads a.0) (heads_in (set t.heads a.0 (Some r)) b.0)) r.0
    (attached_with (attached_in t cs) t' cs r a b
    (implied_with (attached_in t cs) t a r cs sound live (at_has (lits_of cs r.0) 0 (omega arith)) (rest_false t cs r.0 u.1 u.2) f)
    off live cl refl refl (unit_watches t a b r sound u.0 u.1))
  where
    a : Lit
    a = lit_in (lits_of cs r.0) 0

    b : Lit
    b = lit_in (lits_of cs r.0) 1

    t' : Seen
    t' = record t { entries = t.entries ++ entry_for t.entries (lit_in (lits_of cs r.0) 0) (Some r) ∷ [] }
