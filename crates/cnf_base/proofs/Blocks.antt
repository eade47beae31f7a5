-- Clauses in one block of literals.
use Rattle.std.proofs.Common.{◌≡◌, ℕ, zero, suc, ◌+◌, ◌-◌, ◌<◌, ◌≤◌, Bool, true, List, [], ◌∷◌, ◌++◌, length, get_or, take, drop, Some, refl, sym, ap, ◌∙◌, subst, arith, slice_range, slice_get}
use Rattle.std.specs.List.{list_all}
use Rattle.std.proofs.lemmas.Bool.{and_parts, and_from}
use Rattle.std.proofs.lemmas.List.{take-append-drop, take-append-le, drop-append-le, drop_at, take_all, length-append, length-drop}
use Rattle.std.proofs.lemmas.List.Folds.{list_all-append}
use Rattle.cnf_base.specs.declared.literal.Lit.{Lit}
use Rattle.cnf_base.specs.Literals.{IsCnf, are_below}
use Rattle.cnf_base.specs.Blocks.{AreEnds, IsBlock, cut_at, start_at}

-- what holds of all holds of a part
pub all_of_range : {X : Type 0} (p : X → Bool) (xs : List X) (from end : ℕ) → list_all p xs ≡ true → list_all p (slice_range xs from end) ≡ true
all_of_range p xs from end all =
    let behind = and_parts (list_all p (take from xs)) (list_all p (drop from xs)) (sym (list_all-append p (take from xs) (drop from xs)) ∙ ap (list_all p) (take-append-drop from xs) ∙ all) in
    let rest : List _ = drop from xs in
    (and_parts (list_all p (take (end - from) rest)) (list_all p (drop (end - from) rest)) (sym (list_all-append p (take (end - from) rest) (drop (end - from) rest)) ∙ ap (list_all p) (take-append-drop (end - from) rest) ∙ behind.1)).0

pub length_of_cut : (from : ℕ) (ends : List ℕ) (lits : List Lit) → length (cut_at from ends lits) ≡ length ends
length_of_cut from [] lits = refl
length_of_cut from (end ∷ ends) lits = ap suc (length_of_cut end ends lits)

pub cut_at-get : (from : ℕ) (ends : List ℕ) (lits : List Lit) (n : ℕ) → n < length ends → slice_get (cut_at from ends lits) n ≡ Some (slice_range lits (start_at from ends n) (get_or ends n 0))
cut_at-get from [] lits n h = absurd (omega arith)
cut_at-get from (end ∷ ends) lits zero h = refl
cut_at-get from (end ∷ ends) lits (suc zero) h = cut_at-get end ends lits zero (omega arith)
cut_at-get from (end ∷ ends) lits (suc (suc n)) h = cut_at-get end ends lits (suc n) (omega arith)

pub rising : (from : ℕ) (ends : List ℕ) (last : ℕ) → AreEnds from ends last → from ≤ last
rising from [] last h = omega (arith, h)
rising from (end ∷ ends) last h = omega (arith, h.0, rising end ends last h.1)

-- the places of a clause lie in the block
pub places_within : (from : ℕ) (ends : List ℕ) (last n : ℕ) → AreEnds from ends last → n < length ends → (start_at from ends n ≤ get_or ends n 0) × (get_or ends n 0 ≤ last)
places_within from [] last n rise h = absurd (omega arith)
places_within from (end ∷ ends) last zero rise h = (rise.0, rising end ends last rise.1)
places_within from (end ∷ ends) last (suc zero) rise h = places_within end ends last zero rise.1 (omega arith)
places_within from (end ∷ ends) last (suc (suc n)) rise h = places_within end ends last (suc n) rise.1 (omega arith)

-- a clause more
pub rising_more : (from : ℕ) (ends : List ℕ) (last end : ℕ) → AreEnds from ends last → last ≤ end → AreEnds from (ends ++ end ∷ []) end
rising_more from [] last end rise h = (omega (arith, rise), refl)
rising_more from (e ∷ ends) last end rise h = (rise.0, rising_more e ends last end rise.1 h)

pub cut_at_more : (from : ℕ) (ends : List ℕ) (lits c : List Lit) (end : ℕ) → AreEnds from ends (length lits) → end ≡ length lits + length c → cut_at from (ends ++ end ∷ []) (lits ++ c) ≡ cut_at from ends lits ++ c ∷ []
cut_at_more from [] lits c end rise is =
    let behind : drop from (lits ++ c) ≡ c = drop_at lits c from (sym rise) in
    let whole : take (end - from) c ≡ c = take_all (end - from) c (omega (arith, rise, is)) in
    ap (λ xs. take (end - from) xs ∷ []) behind ∙ ap (λ xs. xs ∷ []) whole
cut_at_more from (e ∷ ends) lits c end rise is =
    let high : e ≤ length lits = rising e ends (length lits) rise.1 in
    let low : from ≤ e = rise.0 in
    let behind : drop from (lits ++ c) ≡ drop from lits ++ c = drop-append-le from lits c (omega arith) in
    let front : take (e - from) (drop from lits ++ c) ≡ take (e - from) (drop from lits) = take-append-le (e - from) (drop from lits) c (omega (arith, length-drop from lits)) in
    ap (λ x. x ∷ cut_at e (ends ++ end ∷ []) (lits ++ c)) (ap (take (e - from)) behind ∙ front) ∙ ap (λ xs. slice_range lits from e ∷ xs) (cut_at_more e ends lits c end rise.1 is)

-- a block is a formula
pub all_below : (vars from : ℕ) (ends : List ℕ) (lits : List Lit) → are_below vars lits ≡ true → list_all (are_below vars) (cut_at from ends lits) ≡ true
all_below vars from [] lits all = refl
all_below vars from (end ∷ ends) lits all =
    and_from (are_below vars (slice_range lits from end)) (list_all (are_below vars) (cut_at end ends lits)) (all_of_range _ lits from end all) (all_below vars end ends lits all)

pub block_is_cnf : (vars : ℕ) (ends : List ℕ) (lits : List Lit) → IsBlock vars ends lits → IsCnf (record { vars = vars; clauses = cut_at 0 ends lits })
block_is_cnf vars ends lits block = record {
  few = block.few;
  below = all_below vars 0 ends lits block.below;
}

-- the block of a formula with one clause more
pub block_more : (vars : ℕ) (ends : List ℕ) (lits c : List Lit) (end : ℕ) → IsBlock vars ends lits → are_below vars c ≡ true → end ≡ length lits + length c → IsBlock vars (ends ++ end ∷ []) (lits ++ c)
block_more vars ends lits c end block below is = record {
  few = block.few;
  below = list_all-append _ lits c ∙ and_from (are_below vars lits) (are_below vars c) block.below below;
  rising =
      let all : end ≡ length (lits ++ c) = is ∙ sym (length-append lits c) in
      let up : AreEnds 0 (ends ++ end ∷ []) end = rising_more 0 ends (length lits) end block.rising (omega (arith, is)) in
      subst (AreEnds 0 (ends ++ end ∷ [])) all up;
}
