-- What is printed for a value is UTF-8, and is read back as that value.
use Rattle.std.proofs.Common.{◌≡◌, ℕ, suc, ◌≤◌, max, Bool, true, false, List, [], ◌∷◌, ◌++◌, Some, decimal, IsUtf8, refl, sym, ap, ap₂, ◌∙◌, arith, append-nil}
use Rattle.std.specs.Prelude.{option_map, option_and_then}
use Rattle.std.specs.Ordering.{nat_cmp, match_ordering}
use Rattle.std.specs.Cmp.Lexicographic.{slice_cmp}
use Rattle.std.specs.declared.cmp.Ordering.{Ordering}
use Rattle.std.specs.declared.cmp.Ordering.TheVariants.{Less, Equal, Greater}
use Rattle.std.proofs.lemmas.Bool.{and_parts}
use Rattle.std.proofs.lemmas.Fmt.{IsAscii-decimal}
use Rattle.std.proofs.lemmas.Str.{IsUtf8-append, IsUtf8-from_ascii, is_utf8-from_IsUtf8}
use Rattle.json.specs.Lex.{tokens}
use Rattle.json.specs.Print.{quoted}
use Rattle.json.specs.Json as json
use Rattle.json.specs.Tree as tree
use Rattle.json.proofs.Printed.Decimals.{IsNumber-decimal}
use Rattle.json.proofs.Printed.Tokens.{tokens-print}
use Rattle.json.proofs.Printed.Trees.{value-json_tokens, ArePrintable-json_tokens}
use Rattle.json.proofs.Printed.Utf8.{are_ascii, IsUtf8-are_ascii, IsUtf8-quoted, IsUtf8-boolean}
use Rattle.serde_json.specs.Data.{Num, unsigned, negative, float, Data, null, boolean, number, string, array, object, Items, no_items, item, Members, no_members, member, put, depth, items_depth, members_depth}
use Rattle.serde_json.specs.Read.{of_json, of_items, of_members, max_depth, read}
use Rattle.serde_json.specs.Written.{number_text, outline, items_outline, members_outline, has_float, items_have_float, members_have_float, comma_if, compact_text, items_text, members_text}
use Rattle.serde_json.proofs.Numbers.{number_of-decimal}
use Rattle.serde_json.proofs.Texts.{print-outline}
use Rattle.json_shape.specs.Documents.{json_of}
use Rattle.json_shape.specs.Plain.{IsWhole, joined, is_last, IsPlain, AreItemsPlain, AreMembersPlain, PlainHasNoFloat, PrintedIsReadBack}
use Rattle.json_shape.proofs.LineFeed.{by_tokens, json_of-line_feed}

-- ---- no floats

whole_is_no_float : (n : Num) → IsWhole n → has_float (number n) ≡ false
whole_is_no_float (unsigned n) h = refl
whole_is_no_float (negative z) h = absurd h
whole_is_no_float (float x) h = absurd h

mutual
  pub no_float : PlainHasNoFloat
  no_float null h = refl
  no_float (boolean b) h = refl
  no_float (number n) h = whole_is_no_float n h
  no_float (string s) h = refl
  no_float (array ds) h = no_float_in_items ds h
  no_float (object ms) h = no_float_in_members no_members ms h

  no_float_in_items : (ds : Items) → AreItemsPlain ds → items_have_float ds ≡ false
  no_float_in_items no_items h = refl
  no_float_in_items (item d ds) h = rw (no_float d h.0) (no_float_in_items ds h.1)

  no_float_in_members : (found ms : Members) → AreMembersPlain found ms → members_have_float ms ≡ false
  no_float_in_members found no_members h = refl
  no_float_in_members found (member k d ms) h = rw (no_float d h.2) (no_float_in_members (joined found (member k d no_members)) ms h.3)

-- ---- the value read back

numbers_stand : (n : Num) → IsWhole n → tree.HasNumbers (json.number (number_text n))
numbers_stand (unsigned n) h = IsNumber-decimal n h
numbers_stand (negative z) h = absurd h
numbers_stand (float x) h = absurd h

mutual
  has_numbers : (d : Data) → IsPlain d → tree.HasNumbers (outline d)
  has_numbers null h = tt
  has_numbers (boolean b) h = tt
  has_numbers (number n) h = numbers_stand n h
  has_numbers (string s) h = tt
  has_numbers (array ds) h = items_have_numbers ds h
  has_numbers (object ms) h = members_have_numbers no_members ms h

  items_have_numbers : (ds : Items) → AreItemsPlain ds → tree.ItemsHaveNumbers (items_outline ds)
  items_have_numbers no_items h = tt
  items_have_numbers (item d ds) h = (has_numbers d h.0, items_have_numbers ds h.1)

  members_have_numbers : (found ms : Members) → AreMembersPlain found ms → tree.MembersHaveNumbers (members_outline ms)
  members_have_numbers found no_members h = tt
  members_have_numbers found (member k d ms) h = (has_numbers d h.2, members_have_numbers (joined found (member k d no_members)) ms h.3)

mutual
  same_depth : (d : Data) → tree.depth (outline d) ≡ depth d
  same_depth null = refl
  same_depth (boolean b) = refl
  same_depth (number n) = refl
  same_depth (string s) = refl
  same_depth (array ds) = ap suc (same_items_depth ds)
  same_depth (object ms) = ap suc (same_members_depth ms)

  same_items_depth : (ds : Items) → tree.items_depth (items_outline ds) ≡ items_depth ds
  same_items_depth no_items = refl
  same_items_depth (item d ds) = ap₂ max (same_depth d) (same_items_depth ds)

  same_members_depth : (ms : Members) → tree.members_depth (members_outline ms) ≡ members_depth ms
  same_members_depth no_members = refl
  same_members_depth (member k d ms) = ap₂ max (same_depth d) (same_members_depth ms)

greater : {A : Type 0} (o : Ordering) (a b c : A) → match_ordering o false false true ≡ true → match_ordering o a b c ≡ c
greater Less a b c e = absurd (cc)
greater Equal a b c e = absurd (cc)
greater Greater a b c e = refl

put_last : (k : List ℕ) (d : Data) (found : Members) → is_last k found ≡ true → put k d found ≡ joined found (member k d no_members)
put_last k d no_members h = refl
put_last k d (member l e ms) h =
    let p = and_parts (match_ordering (slice_cmp nat_cmp k l) false false true) (is_last k ms) h in
    greater (slice_cmp nat_cmp k l) (member k d (member l e ms)) (member l d ms) (member l e (put k d ms)) p.0 ∙ ap (member l e) (put_last k d ms p.1)

joined-none : (found : Members) → joined found no_members ≡ found
joined-none no_members = refl
joined-none (member k d found) = ap (member k d) (joined-none found)

joined-more : (found : Members) (k : List ℕ) (d : Data) (ms : Members) → joined (joined found (member k d no_members)) ms ≡ joined found (member k d ms)
joined-more no_members k d ms = refl
joined-more (member l e found) k d ms = ap (member l e) (joined-more found k d ms)

number_back : (n : Num) → IsWhole n → of_json (json.number (number_text n)) ≡ Some (number n)
number_back (unsigned n) h = ap (option_map number) (number_of-decimal n h)
number_back (negative z) h = absurd h
number_back (float x) h = absurd h

mutual
  value_back : (d : Data) → IsPlain d → of_json (outline d) ≡ Some d
  value_back null h = refl
  value_back (boolean b) h = refl
  value_back (number n) h = number_back n h
  value_back (string s) h = refl
  value_back (array ds) h = ap (option_map array) (items_back ds h)
  value_back (object ms) h = ap (option_map object) (members_back no_members ms h)

  items_back : (ds : Items) → AreItemsPlain ds → of_items (items_outline ds) ≡ Some ds
  items_back no_items h = refl
  items_back (item d ds) h = ap (option_and_then (λ e. option_map (item e) (of_items (items_outline ds)))) (value_back d h.0) ∙ ap (option_map (item d)) (items_back ds h.1)

  members_back : (found ms : Members) → AreMembersPlain found ms → of_members (members_outline ms) found ≡ Some (joined found ms)
  members_back found no_members h = ap Some (sym (joined-none found))
  members_back found (member k d ms) h =
      ap (option_and_then (λ e. of_members (members_outline ms) (put k e found))) (value_back d h.2) ∙ ap (of_members (members_outline ms)) (put_last k d found h.1)
      ∙ members_back (joined found (member k d no_members)) ms h.3 ∙ ap Some (joined-more found k d ms)

text_tokens : (d : Data) → IsPlain d → tokens (compact_text d) ≡ tree.json_tokens (outline d)
text_tokens d h = ap tokens (sym (print-outline d)) ∙ tokens-print (tree.json_tokens (outline d)) (ArePrintable-json_tokens (outline d) (has_numbers d h))

text_back : (d : Data) → IsPlain d → depth d ≤ max_depth → read (compact_text d) ≡ Some d
text_back d h shallow =
    let j = outline d in
    ap by_tokens (text_tokens d h ∙ sym (append-nil (tree.json_tokens j)))
    ∙ ap (λ o. option_and_then of_json (option_and_then (λ p. json.if_last p.0 p.1) o)) (value-json_tokens j max_depth [] (omega (arith, same_depth d)))
    ∙ value_back d h

-- ---- its text is UTF-8

ascii_front : (x : ℕ) (xs : List ℕ) → are_ascii (x ∷ []) ≡ true → IsUtf8 xs → IsUtf8 (x ∷ xs)
ascii_front x xs e h = IsUtf8-append (x ∷ []) xs (IsUtf8-are_ascii (x ∷ []) e) h

number_utf8 : (n : Num) → IsWhole n → IsUtf8 (number_text n)
number_utf8 (unsigned n) h = IsUtf8-from_ascii (decimal n) (IsAscii-decimal n h)
number_utf8 (negative z) h = absurd h
number_utf8 (float x) h = absurd h

comma_utf8 : (later : Bool) → IsUtf8 (comma_if later)
comma_utf8 true = IsUtf8-are_ascii (44 ∷ []) refl
comma_utf8 false = IsUtf8-are_ascii [] refl

mutual
  text_utf8 : (d : Data) → IsPlain d → IsUtf8 (compact_text d)
  text_utf8 null h = IsUtf8-are_ascii _ refl
  text_utf8 (boolean b) h = IsUtf8-boolean b
  text_utf8 (number n) h = number_utf8 n h
  text_utf8 (string s) h = IsUtf8-quoted s h
  text_utf8 (array ds) h = ascii_front 91 (items_text false ds) refl (items_utf8 false ds h)
  text_utf8 (object ms) h = ascii_front 123 (members_text false ms) refl (members_utf8 false no_members ms h)

  items_utf8 : (later : Bool) (ds : Items) → AreItemsPlain ds → IsUtf8 (items_text later ds)
  items_utf8 later no_items h = IsUtf8-are_ascii (93 ∷ []) refl
  items_utf8 later (item d ds) h =
      IsUtf8-append (comma_if later) (compact_text d ++ items_text true ds) (comma_utf8 later) (IsUtf8-append (compact_text d) (items_text true ds) (text_utf8 d h.0) (items_utf8 true ds h.1))

  members_utf8 : (later : Bool) (found ms : Members) → AreMembersPlain found ms → IsUtf8 (members_text later ms)
  members_utf8 later found no_members h = IsUtf8-are_ascii (125 ∷ []) refl
  members_utf8 later found (member k d ms) h =
      let rest = members_text true ms in
      let behind = members_utf8 true (joined found (member k d no_members)) ms h.3 in
      IsUtf8-append (comma_if later) (quoted k ++ 58 ∷ (compact_text d ++ rest)) (comma_utf8 later)
      (IsUtf8-append (quoted k) (58 ∷ (compact_text d ++ rest)) (IsUtf8-quoted k h.0) (ascii_front 58 (compact_text d ++ rest) refl (IsUtf8-append (compact_text d) rest (text_utf8 d h.2) behind)))

-- the compact text of a value, with a line feed behind it, is a document of that value
pub printed_back : PrintedIsReadBack
unfolding json_of
printed_back d h shallow = json_of-line_feed (compact_text d) ∙ rw (is_utf8-from_IsUtf8 (compact_text d) (text_utf8 d h)) (text_back d h shallow)
