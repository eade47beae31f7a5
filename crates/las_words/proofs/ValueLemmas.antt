-- Numbers and the sides of a box, as texts.
use Rattle.std.proofs.Common.{◌≡◌, ◌≢◌, ℕ, ◌^◌, ◌<◌, ◌≤◌, true, List, ◌∷◌, ◌++◌, codes, length, get_or, Option, Some, None, sym, ap, subst, ◌∙◌, arith, Bor}
use Rattle.std.specs.Fmt.{decimal}
use Rattle.std.specs.Int.{IsInRange}
use Rattle.std.specs.Option.{MatchOption}
use Rattle.std.specs.Str.Parse.{IsNumeral, AllDigits, digits_value, without_leading_plus}
use Rattle.std.proofs.lemmas.Fmt.{decimal_injective, first_decimal, decimal_nonempty, digits_decimal, decimal-digits_value}
use Rattle.std.proofs.lemmas.Str.Parse.{IsNumeralModel, numerals_by_value, tells_digits, tells_by_index, without_leading_plus_none, not_in_digits}
use Rattle.std.proofs.lemmas.Str.Pattern.{IsSplitOnceResult, split_after}
use Rattle.std.proofs.lemmas.Bool.{and_parts, ltb-true, leb-true}
use Rattle.las_base.specs.declared.Size.{Size}
use Rattle.las_base.specs.Jobs.{within_limits}
use Rattle.las_base.specs.Texts.{size_text}
use Rattle.las_words.specs.Forms.{Text}
use Rattle.las_words.specs.Verbs.{ReadsNumber, ReadsBox, ReadsSize}

own : IsNumeralModel (AllDigits 10) (digits_value 10)
own = numerals_by_value (AllDigits 10) tells_digits

each : IsNumeralModel (λ ds. (i : ℕ) → i < length ds → IsInRange 48 57 (get_or ds i 0)) (digits_value 10)
each = numerals_by_value (λ ds. (i : ℕ) → i < length ds → IsInRange 48 57 (get_or ds i 0)) tells_by_index

-- a number that is not 0 begins with a digit that is not 0
pub begins : (n : ℕ) → 0 < n → n < 2 ^ 64 → (48 < get_or (decimal n) 0 0) × (get_or (decimal n) 0 0 < 58)
begins n pos small =
    let range = digits_decimal each n small 0 (decimal_nonempty n small) in
    (first_decimal n pos small, omega (arith, range.1))

-- what is parsed is written so, where it begins so
pub written : (text : Text) (n : ℕ) → 48 < get_or text 0 0 → IsNumeral 10 (without_leading_plus text) → digits_value 10 (without_leading_plus text) < 2 ^ 64 → n ≡ digits_value 10 (without_leading_plus text) → text ≡ decimal n
written text n first numeral small is =
    let plain : without_leading_plus text ≡ text = without_leading_plus_none text (λ e. omega arith) in
    let digits : AllDigits 10 text = let P : List ℕ → Type 0 = AllDigits 10 in subst P plain numeral.1 in
    let some : 0 < length text = let P : List ℕ → Type 0 = λ t. 0 < length t in subst P plain numeral.0 in
    let little : digits_value 10 text < 2 ^ 64 = let P : List ℕ → Type 0 = λ t. digits_value 10 t < 2 ^ 64 in subst P plain small in
    let value : n ≡ digits_value 10 text = is ∙ ap (digits_value 10) plain in
    sym (ap decimal value ∙ decimal-digits_value own text digits some (λ e. absurd (omega arith)) little)

-- the sides of a box within limits
pub sides : (s : Size) → within_limits s ≡ true → ((1 ≤ s.i) × (s.i ≤ 32)) × ((1 ≤ s.j) × (s.j ≤ 32)) × ((1 ≤ s.k) × (s.k ≤ 32))
sides s h =
    let a = and_parts _ _ h in
    let ai = and_parts _ _ a.0 in
    let b = and_parts _ _ a.1 in
    let bj = and_parts _ _ b.0 in
    let d = and_parts _ _ b.1 in
    let dk = and_parts _ _ d.0 in
    ((ltb-true _ _ ai.0, leb-true _ _ ai.1), (ltb-true _ _ bj.0, leb-true _ _ bj.1), (ltb-true _ _ dk.0, leb-true _ _ dk.1))

pub no_x : (n : ℕ) → n < 2 ^ 64 → (i : ℕ) → i < length (decimal n) → get_or (decimal n) i 0 ≢ 120
no_x n small i within = not_in_digits own (decimal n) 120 (digits_decimal own n small) (λ h. omega (arith, h.1)) i within

-- the text of a box is cut behind its first side
pub cut_first : (text : Text) (r : Option (Bor (List ℕ) × Bor (List ℕ))) → IsSplitOnceResult 120 text r → (s : Size) → within_limits s ≡ true → text ≡ size_text s → MatchOption r ⊥ (λ x. (x.0.now ≡ decimal s.i) × (x.1.now ≡ decimal s.j ++ (codes "x" ++ decimal s.k)))
cut_first text r cut s limits is =
    let in_range = sides s limits in
    split_after 120 text (decimal s.i) (decimal s.j ++ (codes "x" ++ decimal s.k)) r cut (omega arith) is (no_x s.i (omega (arith, in_range.0.1)))

pub cut_second : (text : Text) (r : Option (Bor (List ℕ) × Bor (List ℕ))) → IsSplitOnceResult 120 text r → (s : Size) → within_limits s ≡ true → text ≡ decimal s.j ++ (codes "x" ++ decimal s.k) → MatchOption r ⊥ (λ x. (x.0.now ≡ decimal s.j) × (x.1.now ≡ decimal s.k))
cut_second text r cut s limits is =
    let in_range = sides s limits in
    split_after 120 text (decimal s.j) (decimal s.k) r cut (omega arith) is (no_x s.j (omega (arith, in_range.1.1)))

-- a side that is written so is read so
side_read : (text : Text) (r : Option ℕ) → ReadsNumber 1 32 text r → (n : ℕ) → 1 ≤ n → n ≤ 32 → text ≡ decimal n → r ≡ Some n
side_read text None h n low high is = absurd (h n low high is)
side_read text (Some m) h n low high is = ap Some (decimal_injective m n (omega (arith, h.1)) (omega arith) (sym h.2 ∙ is))

-- no box where its sides are not read
no_box : (text i_text j_text k_text : Text) (i j k : Option ℕ) → ((s : Size) → within_limits s ≡ true → text ≡ size_text s → (i_text ≡ decimal s.i) × (j_text ≡ decimal s.j) × (k_text ≡ decimal s.k)) → ReadsNumber 1 32 i_text i → ReadsNumber 1 32 j_text j → ReadsNumber 1 32 k_text k → ReadsBox i j k None → ReadsSize text None
no_box text i_text j_text k_text i j k cuts i_is j_is k_is h = λ s limits is.
    let in_range = sides s limits in
    let parts = cuts s limits is in
    h s limits (side_read i_text i i_is s.i in_range.0.0 in_range.0.1 parts.0) (side_read j_text j j_is s.j in_range.1.0 in_range.1.1 parts.1) (side_read k_text k k_is s.k in_range.2.0 in_range.2.1 parts.2)

number_is : (t : Text) (o : Option ℕ) (n : ℕ) → ReadsNumber 1 32 t o → o ≡ Some n → t ≡ decimal n
number_is t None n h e = cc
number_is t (Some m) n h e = let same : m ≡ n = cc in h.2 ∙ ap decimal same

-- a box that is read from its sides is written so, and what is written so is read so
pub box_by_sides : (text i_text rest j_text k_text : Text) (i j k : Option ℕ) (r : Option Size) → text ≡ i_text ++ (120 ∷ rest) → rest ≡ j_text ++ (120 ∷ k_text) → ((s : Size) → within_limits s ≡ true → text ≡ size_text s → (i_text ≡ decimal s.i) × (j_text ≡ decimal s.j) × (k_text ≡ decimal s.k)) → ReadsNumber 1 32 i_text i → ReadsNumber 1 32 j_text j → ReadsNumber 1 32 k_text k → ReadsBox i j k r → ReadsSize text r
box_by_sides text i_text rest j_text k_text i j k None text_is rest_is cuts i_is j_is k_is h = no_box text i_text j_text k_text i j k cuts i_is j_is k_is h
box_by_sides text i_text rest j_text k_text i j k (Some s) text_is rest_is cuts i_is j_is k_is h =
    (h.0, text_is ∙ ap (λ t. t ++ (120 ∷ rest)) (number_is i_text i s.i i_is h.1) ∙ ap (λ t. decimal s.i ++ (120 ∷ t)) (rest_is ∙ ap (λ t. t ++ (120 ∷ k_text)) (number_is j_text j s.j j_is h.2) ∙ ap (λ t. decimal s.j ++ (120 ∷ t)) (number_is k_text k s.k k_is h.3)))
