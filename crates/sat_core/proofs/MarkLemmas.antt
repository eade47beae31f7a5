-- Marks of clauses, set one by one.
use Rattle.std.proofs.Common.{◌≡◌, ℕ, zero, suc, ◌+◌, ◌<◌, ◌≤◌, Bool, true, false, nat_lt, List, [], ◌∷◌, length, take, get_or, set, replicate, refl, sym, ap, ◌∙◌, subst, arith, inl, inr}
use Rattle.std.proofs.lemmas.Bool.{cases_eq, lt-ltb}
use Rattle.std.proofs.lemmas.List.{length-set, get_or-set_same, get_or-set_other}
use Rattle.clause_arena.specs.declared.ClauseRef.{ClauseRef}
use Rattle.watch_lists.specs.Rows.{times}
use Rattle.watch_lists.specs.Leaving.{is_marked}
use Rattle.watch_lists.proofs.RowLemmas.{times-here, times-other}
use Rattle.watch_lists.proofs.MoveLemmas.{times-append}
use Rattle.sat_core.specs.Reducing.{AreMarked, places_of}
use Rattle.sat_core.proofs.GoLemmas.{take_at, take_whole}

-- the first n places are marked
pub record Marking (marks : List Bool) (long : ℕ) (ps : List ℕ) (n : ℕ) : Type 0 where
  pub long_is : length marks ≡ long
  pub marked : AreMarked marks (take n ps)

all_false : (long x : ℕ) → get_or (replicate long false) x false ≡ false
all_false zero x = refl
all_false (suc long) zero = refl
all_false (suc long) (suc x) = all_false long x

pub marks_begin : (marks : List Bool) (long : ℕ) (ps : List ℕ) → marks ≡ replicate long false → Marking marks (length marks) ps 0
marks_begin marks long ps e = record { long_is = refl; marked = λ x. ap (λ ms. is_marked ms x) e ∙ all_false long x }

pub marks_go_on : (marks : List Bool) (long : ℕ) (rs : List ClauseRef) (n : ℕ) → n < length rs → (get_or rs n (record { 0 = 0 })).0 < long → Marking marks long (places_of rs) n → Marking (set marks (get_or rs n (record { 0 = 0 })).0 true) long (places_of rs) (n + 1)
marks_go_on marks long rs n lt below k =
    let r : ℕ = (get_or rs n (record { 0 = 0 })).0 in
    let long_is : length marks ≡ long = k.long_is in
    record {
      long_is = length-set marks r true ∙ k.long_is;
      marked = λ x. (let all : times x (take (n + 1) (places_of rs)) ≡ times x (take n (places_of rs)) + times x ((get_or rs n (record { 0 = 0 })).0 ∷ []) = ap (times x) (take_at rs n lt) ∙ times-append x (take n (places_of rs)) (r ∷ []) in
          elim (cases_eq x r) [
            | inl e ↦ (let here = times-here x r [] (sym e) in ap (is_marked (set marks r true)) e ∙ get_or-set_same marks r true false (omega arith) ∙ sym (lt-ltb 0 (times x (take (n + 1) (places_of rs))) (omega arith)))
            | inr m ↦ (let other = times-other x r [] (λ e. m (sym e)) in get_or-set_other marks r x true false m ∙ k.marked x ∙ ap (nat_lt 0) (let e : times x (take n (places_of rs)) ≡ times x (take (n + 1) (places_of rs)) = omega arith in e))
          ]);
    }

pub marks_end : (marks : List Bool) (long : ℕ) (rs : List ClauseRef) (n : ℕ) → length rs ≤ n → Marking marks long (places_of rs) n → AreMarked marks (places_of rs)
marks_end marks long rs n le k = subst (AreMarked marks) (take_whole rs n le) k.marked
