-- A line feed behind a text changes nothing of what is read from it.
use Rattle.std.proofs.Common.{◌≡◌, ℕ, ◌+◌, ◌-◌, Bool, true, false, cond, ◌&&◌, ◌||◌, ◌==◌, not, nat_eq, nat_lt, List, [], ◌∷◌, ◌++◌, length, take, drop, Option, Some, None, IsUtf8, ◌⊎◌, inl, inr, refl, sym, ap, ap₂, ◌∙◌, subst, arith, length-append, take_at}
use Rattle.std.specs.Prelude.{option_map, option_and_then}
use Rattle.std.specs.Char.{is_digit, is_ascii_digit, encode_utf8}
use Rattle.std.specs.List.{list_all, prefix_len, starts_with}
use Rattle.std.specs.Str.{is_utf8}
use Rattle.std.proofs.lemmas.Bool.{and_parts, not-true, cases_Bool, both_ways}
use Rattle.std.proofs.lemmas.List.{take-append-le, drop-append-le}
use Rattle.std.proofs.lemmas.List.Sums.{prefix_len-le-length}
use Rattle.std.proofs.lemmas.Str.{IsUtf8-append, IsUtf8-take, IsCharBoundary-at_seam, IsUtf8-from_is_utf8, is_utf8-from_IsUtf8}
use Rattle.json.specs.Token.{Token, number, boolean, null, bad}
use Rattle.json.specs.Text.{Within, plain, after_backslash, after_u, after_high, content, prepend, code_unit, short_escape, is_high_surrogate, is_low_surrogate, surrogate_pair}
use Rattle.json.specs.Word.{ends_word, after_digits, after_minus, after_sign, after_whole, after_fraction, after_exponent, after_number, number_before, literal, word}
use Rattle.json.specs.Lex.{token, Class, quote, backslash, operator, space, other, class, string_token, operator_lexeme, Mode, between, in_word, in_string, in_escape, lex_byte, lex, fresh, punctuate}
use Rattle.json.specs.Json as json
use Rattle.json.proofs.Printed.Utf8.{IsUtf8-are_ascii}
use Rattle.serde_json.specs.Data.{Data}
use Rattle.serde_json.specs.Read.{of_json, max_depth, read}
use Rattle.json_shape.specs.Documents.{json_of}

-- a text with a line feed behind it
abbrev fed : List ℕ → List ℕ
fed text = text ++ 10 ∷ []

-- ---- what stands in a string

no_digits : (p q r : Bool) → (p && q && r && is_digit 10 16) ≡ false
no_digits true true true = refl
no_digits true true false = refl
no_digits true false true = refl
no_digits true false false = refl
no_digits false true true = refl
no_digits false true false = refl
no_digits false false true = refl
no_digits false false false = refl

no_unit : (a b c : ℕ) → code_unit a b c 10 ≡ None
unfolding code_unit
no_unit a b c = rw (no_digits (is_digit a 16) (is_digit b 16) (is_digit c 16)) refl

none_either : (b : Bool) (o : Option (List ℕ)) → o ≡ None → cond b o o ≡ None
none_either true o e = e
none_either false o e = e

same_after : {A B : Type 0} (f g : A → Option B) (o : Option A) → ((x : A) → f x ≡ g x) → option_and_then f o ≡ option_and_then g o
same_after f g None h = refl
same_after f g (Some x) h = h x

content_fed : (w : Within) (xs : List ℕ) → content w (fed xs) ≡ content w xs
unfolding content short_escape
content_fed plain [] = refl
content_fed plain (x ∷ xs) = ap₂ (λ p q. cond (x == 34) (Some []) (cond (x == 92) p (cond (nat_lt x 32) None (prepend (x ∷ []) q)))) (content_fed after_backslash xs) (content_fed plain xs)
content_fed after_backslash [] = refl
content_fed after_backslash (x ∷ xs) = ap₂ (λ p q. cond (x == 117) p (option_and_then (λ c. prepend (c ∷ []) q) (short_escape x))) (content_fed after_u xs) (content_fed plain xs)
content_fed after_u [] = refl
content_fed after_u (a ∷ []) = refl
content_fed after_u (a ∷ b ∷ []) = refl
content_fed after_u (a ∷ b ∷ c ∷ []) = rw (no_unit a b c) refl
content_fed after_u (a ∷ b ∷ c ∷ d ∷ xs) =
    same_after _ _ (code_unit a b c d) (λ u. ap₂ (λ p q. cond (is_high_surrogate u) p (cond (is_low_surrogate u) None (prepend (encode_utf8 u) q))) (content_fed (after_high u) xs) (content_fed plain xs))
content_fed (after_high h) [] = refl
content_fed (after_high h) (s ∷ []) = refl
content_fed (after_high h) (s ∷ u ∷ []) = refl
content_fed (after_high h) (s ∷ u ∷ a ∷ []) = refl
content_fed (after_high h) (s ∷ u ∷ a ∷ b ∷ []) = refl
content_fed (after_high h) (s ∷ u ∷ a ∷ b ∷ c ∷ []) = rw (no_unit a b c) (none_either ((s == 92) && (u == 117)) None refl)
content_fed (after_high h) (s ∷ u ∷ a ∷ b ∷ c ∷ d ∷ xs) =
    ap (λ o. cond ((s == 92) && (u == 117)) o None)
    (same_after _ _ (code_unit a b c d) (λ l. ap (λ q. cond (is_low_surrogate l) (prepend (encode_utf8 (surrogate_pair h l)) q) None) (content_fed plain xs)))

-- ---- words

ends_fed : (t : List ℕ) → ends_word (fed t) ≡ ends_word t
ends_fed [] = refl
ends_fed (x ∷ xs) = refl

spelled : (name t : List ℕ) → list_all (λ y. not (nat_eq y 10)) name ≡ true
    → (starts_with nat_eq (fed t) name && ends_word (drop (length name) (fed t))) ≡ (starts_with nat_eq t name && ends_word (drop (length name) t))
spelled [] t h = ends_fed t
spelled (y ∷ ys) [] h =
    let p = and_parts (not (nat_eq y 10)) (list_all (λ z. not (nat_eq z 10)) ys) h in
    rw (not-true (nat_eq y 10) p.0) refl
spelled (y ∷ ys) (x ∷ xs) h = at (nat_eq y x) (spelled ys xs (and_parts (not (nat_eq y 10)) (list_all (λ z. not (nat_eq z 10)) ys) h).1)
  where
    at : (b : Bool) → (starts_with nat_eq (fed xs) ys && ends_word (drop (length ys) (fed xs))) ≡ (starts_with nat_eq xs ys && ends_word (drop (length ys) xs))
        → ((b && starts_with nat_eq (fed xs) ys) && ends_word (drop (length ys) (fed xs))) ≡ ((b && starts_with nat_eq xs ys) && ends_word (drop (length ys) xs))
    at true ih = ih
    at false ih = refl

literal_fed : (name : List ℕ) (k : Token) (t : List ℕ) → list_all (λ y. not (nat_eq y 10)) name ≡ true → literal name k (fed t) ≡ literal name k t
literal_fed name k t h = ap (λ b. cond b k bad) (spelled name t h)

-- what a part of a number leaves has the line feed behind it
abbrev left : Option (List ℕ) → Option (List ℕ)
left o = option_map fed o

left_either : (b : Bool) (o p x y : Option (List ℕ)) → x ≡ left o → y ≡ left p → cond b x y ≡ left (cond b o p)
left_either true o p x y e f = e
left_either false o p x y e f = f

left_then : (f : List ℕ → Option (List ℕ)) → ((t : List ℕ) → f (fed t) ≡ left (f t)) → (o : Option (List ℕ)) → option_and_then f (left o) ≡ left (option_and_then f o)
left_then f h None = refl
left_then f h (Some t) = h t

fed_either : (b : Bool) (s t : List ℕ) → cond b (fed s) (fed t) ≡ fed (cond b s t)
fed_either true s t = refl
fed_either false s t = refl

run_fed : (t : List ℕ) → prefix_len is_ascii_digit (fed t) ≡ prefix_len is_ascii_digit t
run_fed [] = refl
run_fed (x ∷ xs) = ap (λ n. cond (is_ascii_digit x) (1 + n) 0) (run_fed xs)

digits_fed : (t : List ℕ) → after_digits (fed t) ≡ left (after_digits t)
digits_fed t =
    let n = prefix_len is_ascii_digit t in
    ap (λ m. cond (m == 0) None (Some (drop m (fed t)))) (run_fed t)
    ∙ left_either (n == 0) None (Some (drop n t)) None (Some (drop n (fed t))) refl (ap Some (drop-append-le n t (10 ∷ []) (prefix_len-le-length is_ascii_digit t)))

minus_fed : (t : List ℕ) → after_minus (fed t) ≡ fed (after_minus t)
minus_fed [] = refl
minus_fed (x ∷ xs) = fed_either (x == 45) xs (x ∷ xs)

sign_fed : (t : List ℕ) → after_sign (fed t) ≡ fed (after_sign t)
sign_fed [] = refl
sign_fed (x ∷ xs) = fed_either ((x == 45) || (x == 43)) xs (x ∷ xs)

whole_fed : (t : List ℕ) → after_whole (fed t) ≡ left (after_whole t)
whole_fed [] = refl
whole_fed (x ∷ xs) = left_either (x == 48) (Some xs) (after_digits (x ∷ xs)) (Some (fed xs)) (after_digits (fed (x ∷ xs))) refl (digits_fed (x ∷ xs))

fraction_fed : (t : List ℕ) → after_fraction (fed t) ≡ left (after_fraction t)
fraction_fed [] = refl
fraction_fed (x ∷ xs) = left_either (x == 46) (after_digits xs) (Some (x ∷ xs)) (after_digits (fed xs)) (Some (fed (x ∷ xs))) (digits_fed xs) refl

exponent_fed : (t : List ℕ) → after_exponent (fed t) ≡ left (after_exponent t)
exponent_fed [] = refl
exponent_fed (x ∷ xs) =
    left_either ((x == 101) || (x == 69)) (after_digits (after_sign xs)) (Some (x ∷ xs)) (after_digits (after_sign (fed xs))) (Some (fed (x ∷ xs))) (ap after_digits (sign_fed xs) ∙ digits_fed (after_sign xs)) refl

number_fed : (t : List ℕ) → after_number (fed t) ≡ left (after_number t)
unfolding after_number
number_fed t =
    let whole = after_whole (after_minus t) in
    ap (λ o. option_and_then after_exponent (option_and_then after_fraction o)) (ap after_whole (minus_fed t) ∙ whole_fed (after_minus t))
    ∙ ap (option_and_then after_exponent) (left_then after_fraction fraction_fed whole) ∙ left_then after_exponent exponent_fed (option_and_then after_fraction whole)

before_fed : (t : List ℕ) (o : Option (List ℕ)) → number_before (fed t) (left o) ≡ number_before t o
before_fed t None = refl
before_fed t (Some rest) =
    let same : length (fed t) - length (fed rest) ≡ length t - length rest = omega (arith, length-append t (10 ∷ []), length-append rest (10 ∷ [])) in
    ap₂ (λ b s. cond b (number s) bad) (ends_fed rest) (ap (λ n. take n (fed t)) same ∙ take-append-le (length t - length rest) t (10 ∷ []) (omega arith))

word_fed : (t : List ℕ) → word (fed t) ≡ word t
unfolding word after_number
word_fed [] = refl
word_fed (x ∷ xs) =
    let t = x ∷ xs in
    λ i. cond (x == 116) (literal_fed (116 ∷ 114 ∷ 117 ∷ 101 ∷ []) (boolean true) t refl i)
    (cond (x == 102) (literal_fed (102 ∷ 97 ∷ 108 ∷ 115 ∷ 101 ∷ []) (boolean false) t refl i)
    (cond (x == 110) (literal_fed (110 ∷ 117 ∷ 108 ∷ 108 ∷ []) null t refl i) ((ap (number_before (fed t)) (number_fed t) ∙ before_fed t (after_number t)) i)))

-- ---- lexemes

step_fed : (m : Mode) (c : Class) (x : ℕ) (xs : List ℕ) → ((n : Mode) → lex n (fed xs) ≡ lex n xs) → lex_byte m c x (fed xs) (λ n. lex n (fed xs)) ≡ lex_byte m c x xs (λ n. lex n xs)
step_fed between quote x xs ih = ap₂ (λ o ls. token (string_token o) ∷ ls) (content_fed plain xs) (ih in_string)
step_fed between backslash x xs ih = ap (λ ls. token bad ∷ ls) (ih in_word)
step_fed between operator x xs ih = ap (λ ls. operator_lexeme x ∷ ls) (ih between)
step_fed between space x xs ih = ih between
step_fed between other x xs ih = ap₂ (λ w ls. token w ∷ ls) (word_fed (x ∷ xs)) (ih in_word)
step_fed in_word quote x xs ih = ih in_word
step_fed in_word backslash x xs ih = ih in_word
step_fed in_word operator x xs ih = ap (λ ls. operator_lexeme x ∷ ls) (ih between)
step_fed in_word space x xs ih = ih between
step_fed in_word other x xs ih = ih in_word
step_fed in_string quote x xs ih = ih between
step_fed in_string backslash x xs ih = ih in_escape
step_fed in_string operator x xs ih = ih in_string
step_fed in_string space x xs ih = ih in_string
step_fed in_string other x xs ih = ih in_string
step_fed in_escape c x xs ih = ih in_string

lex_fed : (m : Mode) (xs : List ℕ) → lex m (fed xs) ≡ lex m xs
unfolding lex
lex_fed between [] = refl
lex_fed in_word [] = refl
lex_fed in_string [] = refl
lex_fed in_escape [] = refl
lex_fed m (x ∷ xs) = step_fed m (class x) x xs (λ n. lex_fed n xs)

-- ---- values

-- what serde_json makes of tokens
abbrev pub by_tokens : List Token → Option Data
by_tokens ts = option_and_then of_json (option_and_then (λ p. json.if_last p.0 p.1) (json.value max_depth ts))

read_fed : (text : List ℕ) → read (fed text) ≡ read text
read_fed text = ap (λ ls. by_tokens (punctuate fresh ls)) (lex_fed between text)

line_feed_utf8 : IsUtf8 (10 ∷ [])
line_feed_utf8 = IsUtf8-are_ascii (10 ∷ []) refl

utf8_before : (text : List ℕ) → IsUtf8 (fed text) → IsUtf8 text
utf8_before text u =
    subst IsUtf8 (take_at text (10 ∷ []) (length text) refl) (IsUtf8-take (fed text) (length text) u (IsCharBoundary-at_seam (fed text) text (10 ∷ []) refl line_feed_utf8))

utf8_fed : (text : List ℕ) → is_utf8 (fed text) ≡ is_utf8 text
utf8_fed text = by_test (cases_Bool (is_utf8 text)) (cases_Bool (is_utf8 (fed text)))
  where
    by_test : (is_utf8 text ≡ true) ⊎ (is_utf8 text ≡ false) → (is_utf8 (fed text) ≡ true) ⊎ (is_utf8 (fed text) ≡ false) → is_utf8 (fed text) ≡ is_utf8 text
    by_test (inl u) f = is_utf8-from_IsUtf8 (fed text) (IsUtf8-append text (10 ∷ []) (IsUtf8-from_is_utf8 text u) line_feed_utf8) ∙ sym u
    by_test (inr n) (inl u) = absurd (both_ways (is_utf8 text) n (is_utf8-from_IsUtf8 text (utf8_before text (IsUtf8-from_is_utf8 (fed text) u))))
    by_test (inr n) (inr m) = m ∙ sym n

-- the value of a document is the same with a line feed behind it
pub json_of-line_feed : (text : List ℕ) → json_of (text ++ 10 ∷ []) ≡ json_of text
unfolding json_of
json_of-line_feed text = ap₂ (λ b o. cond b o None) (utf8_fed text) (read_fed text)
