-- Ports and words that are refused by no row are those of a job, written.
use Rattle.std.proofs.Common.{◌≡◌, ℕ, suc, ◌+◌, ◌≤◌, Bool, true, false, cond, not, ◌&&◌, nat_lt, List, [], ◌∷◌, map, length, Option, Some, None, refl, sym, ap, ◌∙◌, arith}
use Rattle.std.specs.Prelude.{position, option_map, is_none}
use Rattle.std.specs.Option.{option_or}
use Rattle.std.specs.List.{list_all, position_or_len, filter_map}
use Rattle.std.proofs.lemmas.Bool.{and_parts, ltb-false}
use Rattle.las_base.specs.declared.Axis.{Axis}
use Rattle.las_base.specs.declared.Way.{Way}
use Rattle.las_base.specs.declared.Pauli.{Pauli}
use Rattle.las_base.specs.declared.Port.{Port}
use Rattle.las_spec.specs.declared.draft.WrittenPort.{WrittenPort}
use Rattle.las_spec.specs.Written.{port_written}
use Rattle.las_spec.specs.Refusals.{has_bad_basis, first_bad_letter}
use Rattle.las_spec.specs.Briefs.{port_by, port_of, letters_of}

module _ {X : Type 0} (test : X → Bool) where
  none_within : (xs : List X) → length xs ≤ position_or_len test xs → list_all (λ x. not (test x)) xs ≡ true
  none_within [] h = refl
  none_within (x ∷ xs) h = by_test (test x) refl (λ low. none_within xs low)
    where
      by_test : (b : Bool) → test x ≡ b → (length xs ≤ position_or_len test xs → list_all (λ x. not (test x)) xs ≡ true) → (not b && list_all (λ x. not (test x)) xs) ≡ true
      by_test true e ih = let low : length (x ∷ xs) ≤ 0 = rw e at h in absurd (omega arith)
      by_test false e ih = let low : length (x ∷ xs) ≤ 1 + position_or_len test xs = rw e at h in ih (omega arith)

  -- where none is found, all fail
  pub none_found : (xs : List X) → position test xs ≡ None → list_all (λ x. not (test x)) xs ≡ true
  none_found xs e = none_within xs (by_test (nat_lt (position_or_len test xs) (length xs)) refl e)
    where
      by_test : (b : Bool) → nat_lt (position_or_len test xs) (length xs) ≡ b → cond b (Some (position_or_len test xs)) None ≡ None → length xs ≤ position_or_len test xs
      by_test true t g = absurd (cc)
      by_test false t g = ltb-false (position_or_len test xs) (length xs) t

-- a port that has a direction and a basis is read, and is written again as it was
record IsRead (p : WrittenPort) : Type 0 where
  port : Port
  read : port_of p ≡ Some port
  written : port_written port ≡ p

is_read : (p : WrittenPort) → not (is_none p.direction) ≡ true → not (has_bad_basis p) ≡ true → IsRead p
is_read p way basis = by_parts p.direction p.z_axis refl refl
  where
    by_parts : (d : Option (Way × Axis)) (z : Option Axis) → p.direction ≡ d → p.z_axis ≡ z → IsRead p
    by_parts None z ed ez = let no : not (is_none {T = Way × Axis} None) ≡ true = rw ed at way in absurd (cc)
    by_parts (Some d) None ed ez = let no : false ≡ true = rw ez at basis in absurd (cc)
    by_parts (Some d) (Some z) ed ez = record {
      port = record { place = p.place; axis = d.1; way = d.0; z_axis = z };
      read = ap (λ o. port_by p.place o p.z_axis) ed ∙ ap (port_by p.place (Some d)) ez;
      written = λ t. record { place = p.place; direction = sym ed t; z_axis = sym ez t };
    }

pub ports_written : (ps : List WrittenPort) → list_all (λ p. not (is_none p.direction)) ps ≡ true → list_all (λ p. not (has_bad_basis p)) ps ≡ true → map port_written (filter_map port_of ps) ≡ ps
ports_written [] h g = refl
ports_written (p ∷ ps) h g =
    let a = and_parts (not (is_none p.direction)) (list_all (λ p. not (is_none p.direction)) ps) h in
    let b = and_parts (not (has_bad_basis p)) (list_all (λ p. not (has_bad_basis p)) ps) g in
    let r = is_read p a.0 b.0 in
    rw (r.read) (ap (λ q. q ∷ map port_written (filter_map port_of ps)) r.written ∙ ap (λ qs. p ∷ qs) (ports_written ps a.1 b.1))

letters_written : (word : List (Option Pauli)) → list_all (λ o. not (is_none o)) word ≡ true → map Some (letters_of word) ≡ word
letters_written [] h = refl
letters_written (None ∷ word) h = absurd (cc)
letters_written (Some x ∷ word) h = ap (λ w. Some x ∷ w) (letters_written word h)

pub words_written : (words : List (List (Option Pauli))) (n : ℕ) → first_bad_letter n words ≡ None → map (map Some) (map letters_of words) ≡ words
words_written [] n h = refl
words_written (word ∷ words) n h = by_found (position is_none word) refl (λ rest. words_written words (suc n) rest)
  where
    by_found : (o : Option ℕ) → position is_none word ≡ o → (first_bad_letter (suc n) words ≡ None → map (map Some) (map letters_of words) ≡ words) → map (map Some) (map letters_of (word ∷ words)) ≡ word ∷ words
    by_found (Some p) e ih = let no = ap (λ o. option_or (option_map (λ k. (n, k)) o) (first_bad_letter (suc n) words)) (sym e) ∙ h in absurd (cc no)
    by_found None e ih =
        let rest : first_bad_letter (suc n) words ≡ None = rw e at h in
        ap (λ w. w ∷ map (map Some) (map letters_of words)) (letters_written word (none_found is_none word e)) ∙ ap (λ ws. word ∷ ws) (ih rest)
