-- Lessons as numbers to base 3, and chains of unit steps.
use Rattle.std.proofs.Common.{◌≡◌, ℕ, suc, ◌*◌, ◌^◌, ◌<◌, Bool, true, false, cond, ◌||◌, List, [], ◌∷◌, ◌++◌, map, length, refl, sym, ap, ◌∙◌, arith, inl, inr, ◌⊎◌}
use Rattle.std.specs.List.{list_all, fold}
use Rattle.std.proofs.lemmas.Bool.{and_parts, and_from, or_cases, or_left, or_right}
use Rattle.cnf_base.specs.declared.literal.Lit.{Lit}
use Rattle.cnf_base.specs.Literals.{negation, same_lit, has_lit, plain, negated, Clause}
use Rattle.cnf_base.specs.Units.{Falsified, OneOpen, open_lits, look_of, look, UnitIn, FalseIn, IsChain, after_chain}
use Rattle.cnf_base.specs.Lessons.{Along, IsLesson, progress_after, standing, code_on, CodesTell, CodesAreFew, LessonsJoin, ChainsGrow, TwinIsAbsorbed}
use Rattle.cnf_base.proofs.Closed.{open_all, open_more, unit_all, all_same_as}
use Rattle.cnf_base.proofs.LitLemmas.{same_lit-refl, same_lit-is, has_lit-negations}

standing_below : (c : Clause) (x : ℕ) → standing c x < 3
standing_below c x = at (has_lit c (plain x)) (has_lit c (negated x))
  where
    at : (p q : Bool) → cond p 1 (cond q 2 0) < 3
    at true q = omega arith
    at false true = omega arith
    at false false = omega arith

pow_three : (n : ℕ) → 3 ^ suc n ≡ 3 * 3 ^ n
pow_three n = grind (arith)

pub codes_are_few : CodesAreFew
codes_are_few [] c = omega arith
codes_are_few (x ∷ xs) c =
    let low = standing_below c x in
    let high = codes_are_few xs c in
    rw (pow_three (length xs)) (omega (arith, low, high))

pub codes_tell : CodesTell
codes_tell [] c d e = tt
codes_tell (x ∷ xs) c d e =
    let p = standing_below c x in
    let q = standing_below d x in
    let same : code_on xs c ≡ code_on xs d = omega (arith, p, q, e) in
    (omega (arith, p, q, e, same), codes_tell xs c d same)

module _ {S X : Type 0} (P : S → X → Type 0) (next : S → X → S) where
  along_join : (s : S) (xs ys : List X) → Along P next s xs → Along P next (fold next s xs) ys → Along P next s (xs ++ ys)
  along_join s [] ys h k = k
  along_join s (x ∷ xs) ys h k = (h.0, along_join (next s x) xs ys h.1 k)

  along_parts : (s : S) (xs ys : List X) → Along P next s (xs ++ ys) → Along P next s xs × Along P next (fold next s xs) ys
  along_parts s [] ys h = (tt, h)
  along_parts s (x ∷ xs) ys h =
      let rest = along_parts (next s x) xs ys h.1 in
      ((h.0, rest.0), rest.1)

pub lessons_join : LessonsJoin
lessons_join f s xs ys =
    (along_parts (IsLesson (length f.clauses)) progress_after s xs ys, λ h. along_join (IsLesson (length f.clauses)) progress_after s xs ys h.0 h.1)

-- where every open literal is one, the clause is false or unit
false_or_unit : (l : Lit) (os : List Lit) → list_all (same_lit l) os ≡ true → (look_of os ≡ Falsified) ⊎ (look_of os ≡ OneOpen l)
false_or_unit l [] e = inl refl
false_or_unit l (m ∷ ms) e =
    let parts = and_parts (same_lit l m) (list_all (same_lit l) ms) e in
    inr (rw (all_same_as l m ms parts.0 parts.1) (ap OneOpen (sym (same_lit-is l m parts.0))))

still_unit : (xs ys : List Lit) (l : Lit) (c : Clause) → ((m : Lit) → has_lit xs m ≡ true → has_lit ys m ≡ true) → look xs c ≡ OneOpen l → (look ys c ≡ Falsified) ⊎ (look ys c ≡ OneOpen l)
still_unit xs ys l c sub u =
    false_or_unit l (open_lits ys c) (sym (open_all ys (same_lit l) c) ∙ open_more xs ys (same_lit l) c sub (open_all xs (same_lit l) c ∙ unit_all (open_lits xs c) l u))

with_both : (xs ys : List Lit) (l : Lit) → ((m : Lit) → has_lit xs m ≡ true → has_lit ys m ≡ true) → (m : Lit) → has_lit (l ∷ xs) m ≡ true → has_lit (l ∷ ys) m ≡ true
with_both xs ys l sub m h =
    elim (or_cases (same_lit m l) (has_lit xs m) h) as (λ _. has_lit (l ∷ ys) m ≡ true) [ inl e ↦ or_left (same_lit m l) (has_lit ys m) e | inr e ↦ or_right (same_lit m l) (has_lit ys m) (sub m e) ]

pub chains_grow : ChainsGrow
chains_grow cs xs ys [] sub chain = inl ([], tt, sub)
chains_grow cs xs ys (l ∷ ls) sub chain =
    at (still_unit xs ys l chain.0.0 sub chain.0.4) (chains_grow cs (l ∷ xs) (l ∷ ys) ls (with_both xs ys l sub) chain.1)
  where
    Grown : List Lit → Type 0
    Grown zs = ((ms : List Lit) × IsChain cs zs ms × ((m : Lit) → has_lit (after_chain (l ∷ xs) ls) m ≡ true → has_lit (after_chain zs ms) m ≡ true)) ⊎ ((ms : List Lit) × IsChain cs zs ms × FalseIn cs (after_chain zs ms))

    at : (look ys chain.0.0 ≡ Falsified) ⊎ (look ys chain.0.0 ≡ OneOpen l) → Grown (l ∷ ys) → Grown ys
    at (inl f) g = inr ([], tt, (chain.0.0, chain.0.1, chain.0.2, chain.0.3, f))
    at (inr u) (inl g) = inl (l ∷ g.0, ((chain.0.0, chain.0.1, chain.0.2, chain.0.3, u), g.1), g.2)
    at (inr u) (inr g) = inr (l ∷ g.0, ((chain.0.0, chain.0.1, chain.0.2, chain.0.3, u), g.1), g.2)

-- a chain loses nothing
pub chain_keeps : (xs ls : List Lit) (m : Lit) → has_lit xs m ≡ true → has_lit (after_chain xs ls) m ≡ true
chain_keeps xs [] m h = h
chain_keeps xs (l ∷ ls) m h = chain_keeps (l ∷ xs) ls m (or_right (same_lit m l) (has_lit xs m) h)

chain_then : (cs : List Clause) (xs ms : List Lit) (l : Lit) → IsChain cs xs ms → UnitIn cs (after_chain xs ms) l → IsChain cs xs (ms ++ l ∷ [])
chain_then cs xs [] l chain u = (u, tt)
chain_then cs xs (m ∷ ms) l chain u = (chain.0, chain_then cs (m ∷ xs) ms l chain.1 u)

after_then : (xs ms : List Lit) (l : Lit) → after_chain xs (ms ++ l ∷ []) ≡ l ∷ after_chain xs ms
after_then xs [] l = refl
after_then xs (m ∷ ms) l = after_then (m ∷ xs) ms l

-- each literal is false or the one
narrowed : (g trues others : List Lit) (l : Lit) (c : Clause) → ((m : Lit) → has_lit g m ≡ true → has_lit trues m ≡ true) → ((m : Lit) → has_lit others m ≡ true → has_lit trues (negation m) ≡ true) → list_all (λ m. has_lit g (negation m) || has_lit (l ∷ others) m) c ≡ true → list_all (λ m. has_lit trues (negation m) || same_lit l m) c ≡ true
narrowed g trues others l [] from_g from_others e = refl
narrowed g trues others l (m ∷ ms) from_g from_others e =
    let parts = and_parts (has_lit g (negation m) || has_lit (l ∷ others) m) (list_all (λ m. has_lit g (negation m) || has_lit (l ∷ others) m) ms) e in
    and_from (has_lit trues (negation m) || same_lit l m) (list_all (λ m. has_lit trues (negation m) || same_lit l m) ms)
    (elim (or_cases (has_lit g (negation m)) (has_lit (l ∷ others) m) parts.0) as (λ _. (has_lit trues (negation m) || same_lit l m) ≡ true) [
      | inl h ↦ or_left (has_lit trues (negation m)) (same_lit l m) (from_g (negation m) h)
      | inr h ↦ (elim (or_cases (same_lit m l) (has_lit others m) h) as (λ _. (has_lit trues (negation m) || same_lit l m) ≡ true) [
        | inl k ↦ or_right (has_lit trues (negation m)) (same_lit l m) (ap (λ n. same_lit l n) (same_lit-is m l k) ∙ same_lit-refl l)
        | inr k ↦ or_left (has_lit trues (negation m)) (same_lit l m) (from_others m k)
      ])
    ])
    (narrowed g trues others l ms from_g from_others parts.1)

pub twin_is_absorbed : TwinIsAbsorbed
twin_is_absorbed before after c ls l others chain e = at (chains_grow cs [] ys ls (λ m h. cc) chain)
  where
    cs : List Clause
    cs = before ++ c ∷ after

    ys : List Lit
    ys = map negation others

    Grown : Type 0
    Grown = ((ms : List Lit) × IsChain cs ys ms × ((m : Lit) → has_lit (after_chain [] ls) m ≡ true → has_lit (after_chain ys ms) m ≡ true)) ⊎ ((ms : List Lit) × IsChain cs ys ms × FalseIn cs (after_chain ys ms))

    closes : (ms : List Lit) → IsChain cs ys ms → (look (after_chain ys ms) c ≡ Falsified) ⊎ (look (after_chain ys ms) c ≡ OneOpen l) → (ns : List Lit) × IsChain cs ys ns × ((has_lit (after_chain ys ns) l ≡ true) ⊎ FalseIn cs (after_chain ys ns))
    closes ms d (inl f) = (ms, d, inr (c, before, after, refl, f))
    closes ms d (inr u) = (ms ++ l ∷ [], chain_then cs ys ms l d (c, before, after, refl, u), inl (ap (λ ts. has_lit ts l) (after_then ys ms l) ∙ or_left (same_lit l l) (has_lit (after_chain ys ms) l) (same_lit-refl l)))

    at : Grown → (ns : List Lit) × IsChain cs ys ns × ((has_lit (after_chain ys ns) l ≡ true) ⊎ FalseIn cs (after_chain ys ns))
    at (inr g) = (g.0, g.1, inr g.2)
    at (inl g) =
        closes g.0 g.1 (false_or_unit l (open_lits (after_chain ys g.0) c) (sym (open_all (after_chain ys g.0) (same_lit l) c) ∙ narrowed (after_chain [] ls) (after_chain ys g.0) others l c g.2 (λ m h. chain_keeps ys g.0 (negation m) (has_lit-negations others m h)) e))
