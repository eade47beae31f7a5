-- Marked clauses are taken out of all lists.
use Rattle.std.proofs.Common.{◌≡◌, ℕ, zero, suc, ◌+◌, ◌*◌, ◌<◌, ◌≤◌, Bool, true, false, cond, ◌&&◌, ◌||◌, nat_eq, List, [], ◌∷◌, ◌++◌, length, get_or, Option, Some, None, refl, sym, ap, ◌∙◌, subst, arith, inl, inr, append_assoc}
use Rattle.std.proofs.lemmas.Bool.{both_ways, eq-eqb, ne_eqb, cases_eq, cases_lt, lt-ltb, le-ltb}
use Rattle.std.proofs.lemmas.List.{length-append}
use Rattle.cnf_base.specs.declared.literal.Lit.{Lit}
use Rattle.cnf_base.specs.Literals.{variable}
use Rattle.clause_arena.specs.declared.ClauseRef.{ClauseRef}
use Rattle.clause_arena.specs.Clauses.{Live, clause_at, is_live, lits_of, place_of}
use Rattle.watch_lists.specs.Trails.{Seen}
use Rattle.watch_lists.specs.Rows.{lit_in, watches, next, IsRow, times, wanted, left}
use Rattle.watch_lists.specs.Guards.{AreGuarded}
use Rattle.watch_lists.specs.Fits.{heads_in, attached_in, IsClause, AreReasons, AreLowerWalked, FitsWith, Fits}
use Rattle.watch_lists.specs.Walks.{unlinked_heads, unlinked_clauses}
use Rattle.watch_lists.specs.Detaching.{count_in, IsListing, less, Found}
use Rattle.watch_lists.specs.Leaving.{is_marked, without_marked, without_below, without_done, KeepsBut, Leaves, HasLeft}
use Rattle.watch_lists.proofs.RowLemmas.{times-here, times-other}
use Rattle.watch_lists.proofs.CountLemmas.{left_is}
use Rattle.watch_lists.proofs.MoveLemmas.{times-append, last-push, counts_of}
use Rattle.watch_lists.proofs.ClauseLemmas.{keeps_same, keeps_both}
use Rattle.watch_lists.proofs.OverLemmas.{reasons_kept}
use Rattle.watch_lists.proofs.FitLemmas.{fits_itself, fits_closed}
use Rattle.std.specs.Option.{IfSome}
use Rattle.watch_lists.proofs.DetachLemmas.{seek_before, list_short, same_want, counted, IsCut, cut_out}

pub keeps_itself : (t : Seen) (cs : List Live) → KeepsBut t cs t cs
keeps_itself t cs = record { same = refl; keeps = keeps_same cs; lits = λ x. refl }

pub keeps_twice : (t : Seen) (cs : List Live) (u : Seen) (ds : List Live) (v : Seen) (es : List Live) → KeepsBut t cs u ds → KeepsBut u ds v es → KeepsBut t cs v es
keeps_twice t cs u ds v es a b = record { same = b.same ∙ ap (λ (z : Seen). record z { heads = v.heads }) a.same; keeps = keeps_both cs ds es a.keeps b.keeps; lits = λ x. b.lits x ∙ a.lits x }

-- the walk sets out: all clauses of the list are ahead
pub leave_begins : (want : ℕ → ℕ → ℕ) (t : Seen) (cs : List Live) (f : ℕ) (marks : List Bool) → IsListing want t cs → Leaves want t cs f marks t cs None (heads_in t.heads f)
leave_begins want t cs f marks k =
    record {
      done = [];
      rest = k.rows f;
      listing = same_want want (without_done want f marks (k.rows f)) t cs all k;
      split = refl;
      hand_is = k.rows_are f;
      before_is = refl;
      keeps = keeps_itself t cs;
    }
  where
    none : (n : ℕ) (w : ℕ) (m : Bool) → n ≡ w → w ≡ cond (m && nat_eq n 0) 0 w
    none n w false e = refl
    none n w true e = elim (cases_eq n 0) [ inl z ↦ rw (eq-eqb n 0 z) (sym e ∙ z) | inr o ↦ rw (ne_eqb n 0 o) refl ]

    all : (l x : ℕ) → want l x ≡ without_done want f marks (k.rows f) l x
    all l x =
        elim (cases_eq l f) [
          | inl e ↦ rw (e, eq-eqb f f refl) (none (times x (k.rows f)) (want f x) (is_marked marks x) (k.exact f x))
          | inr n ↦ rw (ne_eqb l f n) refl
        ]

-- the walk stands at a clause
pub record Stands (want : ℕ → ℕ → ℕ) (f : ℕ) (marks : List Bool) (u : Seen) (ds : List Live) (x : ℕ) (before : Option ℕ) (rest : List ℕ) : Type 0 where
  pub found : Found (without_done want f marks rest) u ds f x x before
  pub rest_is : rest ≡ x ∷ found.tail

pub leave_at : (want : ℕ → ℕ → ℕ) (t : Seen) (cs : List Live) (f : ℕ) (marks : List Bool) (u : Seen) (ds : List Live) (before : Option ℕ) (x : ℕ) (w : Leaves want t cs f marks u ds before (Some x)) → Stands want f marks u ds x before w.rest
leave_at want t cs f marks u ds before x w = at w.rest refl w.hand_is
  where
    at : (rest : List ℕ) → w.rest ≡ rest → IsRow ds f (Some x) rest → Stands want f marks u ds x before w.rest
    at [] e row = absurd (cc)
    at (y ∷ ys) e row =
        let q : y ≡ x = (let z = row.0 in cc) in
        let rest : w.rest ≡ x ∷ ys = e ∙ ap (λ (z : ℕ). z ∷ ys) q in
        let split : w.listing.rows f ≡ w.done ++ x ∷ ys = w.split ∙ ap (λ zs. w.done ++ zs) rest in
        let some : 1 ≤ times x (w.listing.rows f) = (let a = ap (times x) split in let b = times-append x w.done (x ∷ ys) in let c = times-here x x ys refl in omega arith) in
        let law = w.listing.lawful f x (let z = w.listing.exact f x in omega arith) in
        record {
          found = record {
            listing = w.listing;
            done = w.done;
            tail = ys;
            split = split;
            behind = subst (λ (z : ℕ). IsRow ds f (next (clause_at ds z) f) ys) q row.2;
            on = subst (λ (z : ℕ). watches (clause_at ds z) f ≡ true) q row.1;
            before_is = w.before_is;
            ahead = (let c = times-here x x ys refl in omega arith);
            live = law.0;
            long = law.1.long;
          };
          rest_is = rest;
        }

-- the walk behind a clause, with fewer ahead
pub record Onward (want : ℕ → ℕ → ℕ) (t : Seen) (cs : List Live) (f : ℕ) (marks : List Bool) (u : Seen) (ds : List Live) (before hand : Option ℕ) (rest : List ℕ) : Type 0 where
  pub leaves : Leaves want t cs f marks u ds before hand
  pub shorter : suc (length leaves.rest) ≡ length rest

-- a clause without a mark stays
pub leave_past : (want : ℕ → ℕ → ℕ) (t : Seen) (cs : List Live) (f : ℕ) (marks : List Bool) (u : Seen) (ds : List Live) (before : Option ℕ) (x : ℕ) (w : Leaves want t cs f marks u ds before (Some x)) → is_marked marks x ≡ false → Onward want t cs f marks u ds (Some x) (next (clause_at ds x) f) w.rest
leave_past want t cs f marks u ds before x w unmarked =
    record {
      leaves = record {
        done = s.found.done ++ x ∷ [];
        rest = s.found.tail;
        listing = same_want (without_done want f marks w.rest) (without_done want f marks s.found.tail) u ds same s.found.listing;
        split = s.found.split ∙ sym (append_assoc s.found.done (x ∷ []) s.found.tail);
        hand_is = s.found.behind;
        before_is = last-push s.found.done x;
        keeps = w.keeps;
      };
      shorter = sym (ap length s.rest_is);
    }
  where
    s : Stands want f marks u ds x before w.rest
    s = leave_at want t cs f marks u ds before x w

    none : (a b c : Bool) (n : ℕ) → cond (a && (false && b)) 0 n ≡ cond (a && (false && c)) 0 n
    none true b c n = refl
    none false b c n = refl

    same : (l z : ℕ) → without_done want f marks w.rest l z ≡ without_done want f marks s.found.tail l z
    same l z =
        elim (cases_eq x z) [
          | inl e ↦ (let m : is_marked marks z ≡ false = ap (is_marked marks) (sym e) ∙ unmarked in rw m (none (nat_eq l f) (nat_eq (times z w.rest) 0) (nat_eq (times z s.found.tail) 0) (want l z)))
          | inr n ↦ (let e : times z w.rest ≡ times z s.found.tail = ap (times z) s.rest_is ∙ times-other z x s.found.tail n in rw e refl)
        ]

-- a marked clause goes
pub leave_cut : (want : ℕ → ℕ → ℕ) (t : Seen) (cs : List Live) (f : Lit) (marks : List Bool) (u : Seen) (ds : List Live) (before n : Option ClauseRef) (x : ℕ) (w : Leaves want t cs f.0 marks u ds (place_of before) (Some x)) → is_marked marks x ≡ true → variable f < u.vars → place_of n ≡ next (clause_at ds x) f.0
    → Onward want t cs f.0 marks (record u { heads = unlinked_heads u.heads f before n }) (unlinked_clauses ds f before n) (place_of before) (next (clause_at ds x) f.0) w.rest
leave_cut want t cs f marks u ds before n x w marked below to =
    record {
      leaves = record {
        done = s.found.done;
        rest = s.found.tail;
        listing = same_want (less (without_done want f.0 marks w.rest) f.0 x) (without_done want f.0 marks s.found.tail) _ _ same k.out.listing;
        split = k.row;
        hand_is = k.behind;
        before_is = s.found.before_is;
        keeps = keeps_twice t cs u ds _ _ w.keeps (record { same = k.out.same; keeps = k.out.keeps; lits = k.out.lits });
      };
      shorter = sym (ap length s.rest_is);
    }
  where
    s : Stands want f.0 marks u ds x (place_of before) w.rest
    s = leave_at want t cs f.0 marks u ds (place_of before) x w

    k : IsCut (without_done want f.0 marks w.rest) u ds f.0 x s.found.done s.found.tail (record u { heads = unlinked_heads u.heads f before n }) (unlinked_clauses ds f before n)
    k = cut_out (without_done want f.0 marks w.rest) u ds f before n x s.found below to

    gone : times x s.found.tail ≡ 0
    gone = (counts_of s.found.listing.rows f.0 x s.found.done s.found.tail (let e = s.found.listing.exact f.0 x in let m = s.found.listing.few f.0 x in omega arith) s.found.split).behind

    same : (l z : ℕ) → less (without_done want f.0 marks w.rest) f.0 x l z ≡ without_done want f.0 marks s.found.tail l z
    same l z =
        elim (cases_eq l f.0) [
          | inr n ↦ rw (ne_eqb l f.0 n) refl
          | inl e ↦ rw (eq-eqb l f.0 e) (elim (cases_eq z x) [
            | inl q ↦ (let m : is_marked marks z ≡ true = ap (is_marked marks) q ∙ marked in let g : times z s.found.tail ≡ 0 = ap (λ y. times y s.found.tail) q ∙ gone in rw (eq-eqb z x q, m, g) refl)
            | inr n ↦ (let g : times z w.rest ≡ times z s.found.tail = ap (times z) s.rest_is ∙ times-other z x s.found.tail (λ y. n (sym y)) in rw (ne_eqb z x n, g) refl)
          ])
        ]

-- how many clauses are ahead
pub leave_left : (want : ℕ → ℕ → ℕ) (t : Seen) (cs : List Live) (f : ℕ) (marks : List Bool) (u : Seen) (ds : List Live) (before hand : Option ℕ) (w : Leaves want t cs f marks u ds before hand) → left (length ds) ds f hand ≡ length w.rest
leave_left want t cs f marks u ds before hand w =
    let short : length (w.listing.rows f) ≤ length ds = list_short (without_done want f marks w.rest) u ds f w.listing in
    let long : length (w.listing.rows f) ≡ length w.done + length w.rest = ap length w.split ∙ length-append w.done w.rest in
    left_is (length ds) ds f hand w.rest w.hand_is (omega arith)

-- the end of the list
pub leave_ends : (want : ℕ → ℕ → ℕ) (t : Seen) (cs : List Live) (f : ℕ) (marks : List Bool) (u : Seen) (ds : List Live) (before : Option ℕ) → Leaves want t cs f marks u ds before None → HasLeft want t cs f marks u ds
leave_ends want t cs f marks u ds before w = record { listing = same_want (without_done want f marks w.rest) (without_marked want f marks) u ds same w.listing; keeps = w.keeps }
  where
    at : (rest : List ℕ) → w.rest ≡ rest → IsRow ds f None rest → w.rest ≡ []
    at [] e row = e
    at (y ∷ ys) e row = let z = row.0 in absurd (cc)

    none : w.rest ≡ []
    none = at w.rest refl w.hand_is

    all : (a m : Bool) (n : ℕ) → cond (a && (m && true)) 0 n ≡ cond (a && m) 0 n
    all true true n = refl
    all true false n = refl
    all false m n = refl

    same : (l x : ℕ) → without_done want f marks w.rest l x ≡ without_marked want f marks l x
    same l x = ap (λ (xs : List ℕ). without_done want f marks xs l x) none ∙ all (nat_eq l f) (is_marked marks x) (want l x)

-- the lists of the first literals are done
pub record AllLeft (want : ℕ → ℕ → ℕ) (t : Seen) (cs : List Live) (n : ℕ) (marks : List Bool) (u : Seen) (ds : List Live) : Type 0 where
  pub listing : IsListing (without_below want n marks) u ds
  pub keeps : KeepsBut t cs u ds

pub all_go_on : (want : ℕ → ℕ → ℕ) (t : Seen) (cs : List Live) (n : ℕ) (marks : List Bool) (u : Seen) (ds : List Live) (v : Seen) (es : List Live) → AllLeft want t cs n marks u ds → HasLeft (count_in u ds) u ds n marks v es → AllLeft want t cs (suc n) marks v es
all_go_on want t cs n marks u ds v es a h =
    record {
      listing = same_want (without_marked (count_in u ds) n marks) (without_below want (suc n) marks) v es same h.listing;
      keeps = keeps_twice t cs u ds v es a.keeps h.keeps;
    }
  where
    twice : (m : Bool) (w : ℕ) → cond m 0 (cond (false && m) 0 w) ≡ cond m 0 w
    twice m w = refl

    same : (l x : ℕ) → without_marked (count_in u ds) n marks l x ≡ without_below want (suc n) marks l x
    same l x =
        let was : count_in u ds l x ≡ without_below want n marks l x = counted (without_below want n marks) u ds a.listing l x in
        elim (cases_eq l n) [
          | inl e ↦ rw (was, eq-eqb l n e, le-ltb l n (omega arith), lt-ltb l (suc n) (omega arith)) refl
          | inr o ↦ elim (cases_lt l n) [
            | inl lt ↦ rw (was, ne_eqb l n o, lt-ltb l n lt, lt-ltb l (suc n) (omega arith)) refl
            | inr ge ↦ rw (was, ne_eqb l n o, le-ltb l n ge, le-ltb l (suc n) (omega arith)) refl
          ]
        ]

beyond : (hs : List (Option ClauseRef)) (l : ℕ) → length hs ≤ l → get_or hs l None ≡ None
beyond [] l le = refl
beyond (h ∷ hs) zero le = absurd (omega arith)
beyond (h ∷ hs) (suc l) le = beyond hs l (omega arith)

-- all lists are done: the clauses that are attached still are those without a mark
pub record IsLeft (t : Seen) (cs : List Live) (marks : List Bool) (u : Seen) (ds : List Live) : Type 0 where
  pub fits : Fits u ds
  pub attached : (x : ℕ) → attached_in u ds x ≡ cond (is_marked marks x) false (attached_in t cs x)

pub all_end : (t : Seen) (cs : List Live) (marks : List Bool) (u : Seen) (ds : List Live) → Fits t cs → AllLeft (wanted (attached_in t cs) cs) t cs (2 * t.vars) marks u ds → IsLeft t cs marks u ds
all_end t cs marks u ds f w =
    record { fits = fits_closed on u ds whole; attached = λ x. sym (fits_itself on u ds whole x) }
  where
    on : ℕ → Bool
    on x = cond (is_marked marks x) false (attached_in t cs x)

    k : IsListing (without_below (wanted (attached_in t cs) cs) (2 * t.vars) marks) u ds
    k = w.listing

    vars : u.vars ≡ t.vars
    vars = ap (λ (v : Seen). v.vars) w.keeps.same

    entries : u.entries ≡ t.entries
    entries = ap (λ (v : Seen). v.entries) w.keeps.same

    was_on : (x : ℕ) → cond (is_marked marks x) false (attached_in t cs x) ≡ true → attached_in t cs x ≡ true
    was_on x h = at (is_marked marks x) h
      where
        at : (m : Bool) → cond m false (attached_in t cs x) ≡ true → attached_in t cs x ≡ true
        at true e = absurd (both_ways false refl e)
        at false e = e

    same_watches : (l x : ℕ) → watches (clause_at ds x) l ≡ watches (clause_at cs x) l
    same_watches l x = ap (λ (ls : List Lit). nat_eq (lit_in ls 0).0 l || nat_eq (lit_in ls 1).0 l) (w.keeps.lits x)

    no_rows : (l x : ℕ) → 2 * t.vars ≤ l → wanted (attached_in t cs) cs l x ≡ 0
    no_rows l x le = sym (f.lists.1.exact l x) ∙ ap (times x) (at (f.lists.0 l) refl (subst (λ (h : Option ℕ). IsRow cs l h (f.lists.0 l)) (ap place_of (beyond t.heads l (let e : length t.heads ≡ 2 * t.vars = f.trail.wide in omega arith))) (f.lists.1.rows_are l)))
      where
        at : (xs : List ℕ) → f.lists.0 l ≡ xs → IsRow cs l None xs → f.lists.0 l ≡ []
        at [] e row = e
        at (y ∷ ys) e row = let z = row.0 in absurd (cc)

    count : (l x : ℕ) → without_below (wanted (attached_in t cs) cs) (2 * t.vars) marks l x ≡ wanted (λ y. cond (is_marked marks y) false (attached_in t cs y)) ds l x
    count l x = at (is_marked marks x) refl
      where
        at : (m : Bool) → is_marked marks x ≡ m → without_below (wanted (attached_in t cs) cs) (2 * t.vars) marks l x ≡ wanted (λ y. cond (is_marked marks y) false (attached_in t cs y)) ds l x
        at true e =
            elim (cases_lt l (2 * t.vars)) [
              | inl lt ↦ rw (e, lt-ltb l (2 * t.vars) lt) refl
              | inr ge ↦ rw (e, le-ltb l (2 * t.vars) ge) (no_rows l x ge)
            ]
        at false e =
            elim (cases_lt l (2 * t.vars)) [
              | inl lt ↦ rw (e, lt-ltb l (2 * t.vars) lt, same_watches l x) refl
              | inr ge ↦ rw (e, le-ltb l (2 * t.vars) ge, same_watches l x) refl
            ]

    whole : FitsWith on u ds
    whole =
        record {
          trail = k.trail;
          clauses = λ x h. (let was = f.clauses x (was_on x h) in (w.keeps.keeps.live x ∙ was.0, subst (λ (n : ℕ). IsClause n (lits_of ds x)) (sym vars) (subst (IsClause t.vars) (sym (w.keeps.lits x)) was.1)));
          lists = (k.rows, record { rows_are = k.rows_are; exact = λ l x. k.exact l x ∙ count l x });
          reasons = subst (λ es. AreReasons ds es) (sym entries) (reasons_kept cs ds t.entries w.keeps.keeps f.reasons);
          lower = subst (λ (v : Seen). AreLowerWalked v.entries v.walked) (sym w.keeps.same) f.lower;
          guards = λ x h. subst (λ (v : Seen). AreGuarded v.entries v.walked (lit_in (lits_of ds x) 0) (lit_in (lits_of ds x) 1)) (sym w.keeps.same) (subst (λ (ls : List Lit). AreGuarded t.entries t.walked (lit_in ls 0) (lit_in ls 1)) (sym (w.keeps.lits x)) (f.guards x (was_on x h)));
        }

-- the same with a clause in hand
pub leaves_some : (want : ℕ → ℕ → ℕ) (t : Seen) (cs : List Live) (f : ℕ) (marks : List Bool) (u : Seen) (ds : List Live) (before : Option ℕ) (h : Option ClauseRef) (x : ClauseRef) → h ≡ Some x → Leaves want t cs f marks u ds before (place_of h) → Leaves want t cs f marks u ds before (Some x.0)
leaves_some want t cs f marks u ds before h x e w = subst (λ (o : Option ClauseRef). Leaves want t cs f marks u ds before (place_of o)) e w

pub leave_found : (want : ℕ → ℕ → ℕ) (t : Seen) (cs : List Live) (f : ℕ) (marks : List Bool) (u : Seen) (ds : List Live) (before : Option ℕ) (h : Option ClauseRef) (x : ClauseRef) → h ≡ Some x → (w : Leaves want t cs f marks u ds before (place_of h)) → (is_live ds x.0 ≡ true) × (2 ≤ length (lits_of ds x.0))
leave_found want t cs f marks u ds before h x e w = (let s = leave_at want t cs f marks u ds before x.0 (leaves_some want t cs f marks u ds before h x e w) in (s.found.live, s.found.long))

pub leave_before : (want : ℕ → ℕ → ℕ) (t : Seen) (cs : List Live) (f : ℕ) (marks : List Bool) (u : Seen) (ds : List Live) (before : Option ClauseRef) (h : Option ClauseRef) (x : ClauseRef) → h ≡ Some x → (w : Leaves want t cs f marks u ds (place_of before) (place_of h)) → IfSome before (λ p. (is_live ds p.0 ≡ true) × (2 ≤ length (lits_of ds p.0)))
leave_before want t cs f marks u ds None h x e w = tt
leave_before want t cs f marks u ds (Some p) h x e w =
    let v = leaves_some want t cs f marks u ds (Some p.0) h x e w in
    let s = leave_at want t cs f marks u ds (Some p.0) x.0 v in
    seek_before (without_done want f marks v.rest) u ds f x.0 x.0 p.0 s.found

-- a step of the walk, whatever became of the clause: the invariant, and fewer clauses ahead
pub record Steps (want : ℕ → ℕ → ℕ) (t : Seen) (cs : List Live) (f : ℕ) (marks : List Bool) (u : Seen) (ds : List Live) (before hand : Option ℕ) (n : ℕ) : Type 0 where
  pub leaves : Leaves want t cs f marks u ds before hand
  pub falls : left (length ds) ds f hand < n

steps_of : (want : ℕ → ℕ → ℕ) (t : Seen) (cs : List Live) (f : ℕ) (marks : List Bool) (u : Seen) (ds : List Live) (b : Option ℕ) (x : ℕ) (w : Leaves want t cs f marks u ds b (Some x)) (v : Seen) (es : List Live) (before hand : Option ℕ) → Onward want t cs f marks v es before hand w.rest → Steps want t cs f marks v es before hand (left (length ds) ds f (Some x))
steps_of want t cs f marks u ds b x w v es before hand o =
    record {
      leaves = o.leaves;
      falls = (let was = leave_left want t cs f marks u ds b (Some x) w in let now = leave_left want t cs f marks v es before hand o.leaves in let less = o.shorter in omega arith);
    }

pub step_past : (want : ℕ → ℕ → ℕ) (t : Seen) (cs : List Live) (f : ℕ) (marks : List Bool) (u : Seen) (ds : List Live) (before : Option ℕ) (h n : Option ClauseRef) (x : ClauseRef) → h ≡ Some x → Leaves want t cs f marks u ds before (place_of h) → is_marked marks x.0 ≡ false → place_of n ≡ next (clause_at ds x.0) f → Steps want t cs f marks u ds (Some x.0) (place_of n) (left (length ds) ds f (place_of h))
step_past want t cs f marks u ds before h n x e w unmarked to =
    let v = leaves_some want t cs f marks u ds before h x e w in
    let o = leave_past want t cs f marks u ds before x.0 v unmarked in
    subst (λ (k : Option ℕ). Steps want t cs f marks u ds (Some x.0) k (left (length ds) ds f (place_of h))) (sym to)
    (subst (λ (g : Option ClauseRef). Steps want t cs f marks u ds (Some x.0) (next (clause_at ds x.0) f) (left (length ds) ds f (place_of g))) (sym e) (steps_of want t cs f marks u ds before x.0 v u ds (Some x.0) (next (clause_at ds x.0) f) o))

pub step_cut : (want : ℕ → ℕ → ℕ) (t : Seen) (cs : List Live) (f : Lit) (marks : List Bool) (u : Seen) (ds : List Live) (before h n : Option ClauseRef) (x : ClauseRef) (v : Seen) (es : List Live) → h ≡ Some x → Leaves want t cs f.0 marks u ds (place_of before) (place_of h) → is_marked marks x.0 ≡ true → variable f < t.vars → place_of n ≡ next (clause_at ds x.0) f.0 → v ≡ record u { heads = unlinked_heads u.heads f before n } → es ≡ unlinked_clauses ds f before n → Steps want t cs f.0 marks v es (place_of before) (place_of n) (left (length ds) ds f.0 (place_of h))
step_cut want t cs f marks u ds before h n x v es e w marked below to vs ess =
    let k = leaves_some want t cs f.0 marks u ds (place_of before) h x e w in
    let vars : u.vars ≡ t.vars = ap (λ (z : Seen). z.vars) w.keeps.same in
    let o = leave_cut want t cs f marks u ds before n x.0 k marked (omega arith) to in
    rw (vs, ess, to)
    (subst (λ (g : Option ClauseRef). Steps want t cs f.0 marks (record u { heads = unlinked_heads u.heads f before n }) (unlinked_clauses ds f before n) (place_of before) (next (clause_at ds x.0) f.0) (left (length ds) ds f.0 (place_of g))) (sym e)
    (steps_of want t cs f.0 marks u ds (place_of before) x.0 k (record u { heads = unlinked_heads u.heads f before n }) (unlinked_clauses ds f before n) (place_of before) (next (clause_at ds x.0) f.0) o))
