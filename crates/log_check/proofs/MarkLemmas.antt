-- Marks and the trail.
use Rattle.std.proofs.Common.{◌≡◌, ℕ, ◌+◌, ◌<◌, ◌≤◌, Bool, true, false, List, [], ◌∷◌, length, get_or, set, drop, refl, sym, ap, ◌∙◌, arith, inl, inr, nat_eq}
use Rattle.std.proofs.lemmas.Bool.{both_ways, cases_Bool, cases_eq, ne_eqb, or_cases}
use Rattle.std.proofs.lemmas.List.{drop_more, drop_all, get_or-set_same, get_or-set_other, length-set}
use Rattle.cnf_base.specs.declared.literal.Lit.{Lit}
use Rattle.cnf_base.specs.Literals.{has_lit, same_lit}
use Rattle.log_check.specs.Marked.{IsMarked, numbered}

-- marks that may still be there, of these literals alone
abbrev pub LeftOf : List Bool → List Lit → Type 0
LeftOf marks rest = (n : ℕ) → n < length marks → get_or marks n false ≡ true → has_lit rest (numbered n) ≡ true

pub all_are_left : (marks : List Bool) (trail : List Lit) → IsMarked marks trail → LeftOf marks trail
all_are_left marks trail m n h e = sym (m.each n h) ∙ e

not_first : (n : ℕ) (t : Lit) (rest : List Lit) → (n ≡ t.0 → ⊥) → has_lit (t ∷ rest) (numbered n) ≡ true → has_lit rest (numbered n) ≡ true
not_first n t rest other e =
    elim (or_cases (same_lit (numbered n) t) (has_lit rest (numbered n)) e) as (λ _. has_lit rest (numbered n) ≡ true) [
      | inl same ↦ absurd (both_ways (nat_eq n t.0) (ne_eqb n t.0 other) same)
      | inr later ↦ later
    ]

pub one_less : (marks : List Bool) (trail : List Lit) (i : ℕ) (d : Lit) → i < length trail → LeftOf marks (drop i trail) → LeftOf (set marks (get_or trail i d).0 false) (drop (i + 1) trail)
one_less marks trail i d within left n h e =
    let t = get_or trail i d in
    let small : n < length marks = omega (arith, h, length-set marks t.0 false) in
    elim (cases_eq n t.0) as (λ _. has_lit (drop (i + 1) trail) (numbered n) ≡ true) [
      | inl is ↦ absurd (both_ways (get_or (set marks t.0 false) n false) (ap (λ k. get_or (set marks t.0 false) k false) is ∙ get_or-set_same marks t.0 false false (omega (arith, small, is))) e)
      | inr other ↦ not_first n t (drop (i + 1) trail) other (ap (λ xs. has_lit xs (numbered n)) (sym (drop_more trail i d within)) ∙ left n small (sym (get_or-set_other marks t.0 n false false other) ∙ e))
    ]

pub none_is_left : (marks : List Bool) (trail : List Lit) (i : ℕ) → length trail ≤ i → LeftOf marks (drop i trail) → IsMarked marks []
none_is_left marks trail i end left = record {
  each = λ n h. elim (cases_Bool (get_or marks n false)) as (λ _. get_or marks n false ≡ false) [
    | inl e ↦ absurd (both_ways false refl (ap (λ xs. has_lit xs (numbered n)) (sym (drop_all i trail end)) ∙ left n h e))
    | inr e ↦ e
  ];
  within = refl;
}
