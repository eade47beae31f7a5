-- When the bytes of a document have a value.
use Rattle.std.proofs.Common.{◌≡◌, ℕ, List, Bool, true, false, Option, Some, None, refl, sym, cond}
use Rattle.std.specs.Prelude.{IsUtf8}
use Rattle.std.specs.Str.{is_utf8}
use Rattle.std.proofs.lemmas.Str.{IsUtf8-from_is_utf8, is_utf8-from_IsUtf8}
use Rattle.serde_json.specs.Data.{Data}
use Rattle.serde_json.specs.Read.{read}
use Rattle.json_shape.specs.Documents.{json_of}

by_test : (b : Bool) (o p : Option Data) → b ≡ true → o ≡ p → p ≡ cond b o None
by_test true o p t e = sym e
by_test false o p t e = absurd (cc)

by_either : (b : Bool) (o : Option Data) → (b ≡ true → o ≡ None) → None ≡ cond b o None
by_either true o h = sym (h refl)
by_either false o h = refl

pub json_of_text : (bytes : List ℕ) (d : Data) → IsUtf8 bytes → read bytes ≡ Some d → Some d ≡ json_of bytes
unfolding json_of
json_of_text bytes d text e = by_test (is_utf8 bytes) (read bytes) (Some d) (is_utf8-from_IsUtf8 bytes text) e

pub json_of_no_text : (bytes : List ℕ) → (IsUtf8 bytes → read bytes ≡ None) → None ≡ json_of bytes
unfolding json_of
json_of_no_text bytes h = by_either (is_utf8 bytes) (read bytes) (λ t. h (IsUtf8-from_is_utf8 bytes t))
