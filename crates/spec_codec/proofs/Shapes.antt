-- The parts of a specification's value give back what they were made from.
use Rattle.std.proofs.Common.{◌≡◌, ℕ, zero, suc, ◌-◌, ◌<◌, ◌≤◌, ◌^◌, Bool, true, false, cond, nat_eq, List, [], ◌∷◌, map, Option, Some, None, refl, ap, ◌∙◌, arith}
use Rattle.std.specs.Prelude.{option_map, option_and_then, IsAscii}
use Rattle.std.specs.List.{list_all}
use Rattle.std.specs.Option.{option_map_or}
use Rattle.std.proofs.lemmas.Bool.{and_parts, le-leb, leb-true}
use Rattle.std.proofs.lemmas.List.Folds.{list_all-map}
use Rattle.std.proofs.lemmas.Str.{chars-IsAscii}
use Rattle.serde_json.specs.Data.{Data}
use Rattle.serde_json.specs.Find.{as_str}
use Rattle.json_shape.specs.Arrays.{array_items, each, is_object, if_objects, objects}
use Rattle.json_shape.specs.Numbers.{whole_u32, triple}
use Rattle.json_shape.proofs.ArrayLemmas.{list_of-items_of}
use Rattle.las_base.specs.declared.Axis.{Axis}
use Rattle.las_base.specs.declared.Axis.TheVariants.{I, J, K}
use Rattle.las_base.specs.declared.Way.{Way}
use Rattle.las_base.specs.declared.Way.TheVariants.{Plus, Minus}
use Rattle.las_base.specs.declared.Pauli.{Pauli}
use Rattle.las_base.specs.declared.Cell.{Cell}
use Rattle.las_base.specs.declared.Size.{Size}
use Rattle.las_base.specs.declared.Port.{Port}
use Rattle.las_base.specs.Cells.{holds, low_cell}
use Rattle.las_base.specs.Jobs.{within_limits, port_fits}
use Rattle.las_base.proofs.Indices.{held_parts}
use Rattle.las_spec.specs.Written.{port_written}
use Rattle.spec_codec.specs.Documents.{axis_text, direction_text, pauli_letter, word_of, cell_of, size_of, port_in, triples}
use Rattle.las_spec.specs.Texts.{letter_of}
use Rattle.spec_codec.specs.Texts.{array_of, whole_value, cell_value, size_value, axis_word, direction_word, port_value, word_value}
use Rattle.las_spec.proofs.Lists.{all_of_each, map_back}

-- ---- lists

-- what is read from values that were made from things, of which each passes a test
each_made : {A B : Type 0} (test : B → Bool) (f : Data → Option A) (g : B → Data) (h : B → A) → ((x : B) → test x ≡ true → f (g x) ≡ Some (h x)) → (xs : List B) → list_all test xs ≡ true
    → each f (map g xs) ≡ Some (map h xs)
each_made test f g h one [] e = refl
each_made test f g h one (x ∷ xs) e =
    let s = and_parts (test x) (list_all test xs) e in
    ap (option_and_then (λ y. option_map (λ ys. y ∷ ys) (each f (map g xs)))) (one x s.0) ∙ ap (option_map (λ ys. h x ∷ ys)) (each_made test f g h one xs s.1)

-- ---- numbers

pub whole_back : (n : ℕ) → n ≤ 32 → whole_u32 (whole_value n) ≡ Some n
whole_back n h = rw (le-leb n (2 ^ 32 - 1) (omega arith)) refl

pub array_back : (ds : List Data) → array_items (array_of ds) ≡ Some ds
array_back ds = ap Some (list_of-items_of ds)

-- each coordinate is 32 at most
abbrev pub AreNear : ℕ → ℕ → ℕ → Type 0
AreNear i j k = (i ≤ 32) × (j ≤ 32) × (k ≤ 32)

triple_back : (i j k : ℕ) → AreNear i j k → triple (array_of (whole_value i ∷ whole_value j ∷ whole_value k ∷ [])) ≡ Some (i, j, k)
triple_back i j k h = rw (whole_back i h.0, whole_back j h.1, whole_back k h.2) refl

pub limits_near : (s : Size) → within_limits s ≡ true → AreNear s.i s.j s.k
limits_near s e =
    let p = and_parts _ _ e in
    let q = and_parts _ _ p.1 in
    let r = and_parts _ _ q.1 in
    (leb-true s.i 32 (and_parts _ _ p.0).1, leb-true s.j 32 (and_parts _ _ q.0).1, leb-true s.k 32 (and_parts _ _ r.0).1)

pub held_near : (s : Size) (c : Cell) → AreNear s.i s.j s.k → holds s c ≡ true → AreNear c.i c.j c.k
held_near s c near e = let p = held_parts s c e in (omega (arith, near.0, p.0), omega (arith, near.1, p.1), omega (arith, near.2, p.2))

fits_near : (s : Size) (c : Cell) (a : Axis) (w : Way) → AreNear s.i s.j s.k → option_map_or (holds s) (low_cell c a w) false ≡ true → AreNear c.i c.j c.k
fits_near s c a Plus near e = held_near s c near e
fits_near s c I Minus near e = at (nat_eq c.i 0) e
  where
    at : (b : Bool) → option_map_or (holds s) (cond b None (Some (record c { i = c.i - 1 }))) false ≡ true → AreNear c.i c.j c.k
    at true e = absurd (cc)
    at false e = let p = held_parts s (record c { i = c.i - 1 }) e in (omega (arith, near.0, p.0), omega (arith, near.1, p.1), omega (arith, near.2, p.2))
fits_near s c J Minus near e = at (nat_eq c.j 0) e
  where
    at : (b : Bool) → option_map_or (holds s) (cond b None (Some (record c { j = c.j - 1 }))) false ≡ true → AreNear c.i c.j c.k
    at true e = absurd (cc)
    at false e = let p = held_parts s (record c { j = c.j - 1 }) e in (omega (arith, near.0, p.0), omega (arith, near.1, p.1), omega (arith, near.2, p.2))
fits_near s c K Minus near e = at (nat_eq c.k 0) e
  where
    at : (b : Bool) → option_map_or (holds s) (cond b None (Some (record c { k = c.k - 1 }))) false ≡ true → AreNear c.i c.j c.k
    at true e = absurd (cc)
    at false e = let p = held_parts s (record c { k = c.k - 1 }) e in (omega (arith, near.0, p.0), omega (arith, near.1, p.1), omega (arith, near.2, p.2))

pub port_near : (s : Size) (p : Port) → AreNear s.i s.j s.k → port_fits s p ≡ true → AreNear p.place.i p.place.j p.place.k
port_near s p near e = fits_near s p.place p.axis p.way near e

-- ---- cells and boxes

cell_back : (s : Size) (c : Cell) → AreNear s.i s.j s.k → holds s c ≡ true → triple (cell_value c) ≡ Some (c.i, c.j, c.k)
cell_back s c near e = triple_back c.i c.j c.k (held_near s c near e)

size_back : (s : Size) → within_limits s ≡ true → triple (size_value s) ≡ Some (s.i, s.j, s.k)
size_back s e = triple_back s.i s.j s.k (limits_near s e)

triples_back : {B : Type 0} (test : B → Bool) (g : B → Data) (h : B → ℕ × ℕ × ℕ) → ((x : B) → test x ≡ true → triple (g x) ≡ Some (h x)) → (xs : List B) → list_all test xs ≡ true
    → triples (array_of (map g xs)) ≡ Some (map h xs)
triples_back test g h one xs e = ap (option_and_then (each triple)) (array_back (map g xs)) ∙ each_made test triple g h one xs e

pub cells_back : (s : Size) → AreNear s.i s.j s.k → (cs : List Cell) → list_all (holds s) cs ≡ true → option_map (map cell_of) (triples (array_of (map cell_value cs))) ≡ Some cs
cells_back s near cs e =
    ap (option_map (map cell_of)) (triples_back (holds s) cell_value (λ c. (c.i, c.j, c.k)) (λ c. cell_back s c near) cs e) ∙ ap Some (map_back (λ (c : Cell). (c.i, c.j, c.k)) cell_of (λ c. refl) cs)

pub sizes_back : (ss : List Size) → list_all within_limits ss ≡ true → option_map (map size_of) (triples (array_of (map size_value ss))) ≡ Some ss
sizes_back ss e =
    ap (option_map (map size_of)) (triples_back within_limits size_value (λ s. (s.i, s.j, s.k)) size_back ss e) ∙ ap Some (map_back (λ (s : Size). (s.i, s.j, s.k)) size_of (λ s. refl) ss)

-- ---- letters

axis_back : (a : Axis) → axis_text (axis_word a) ≡ Some a
axis_back I = refl
axis_back J = refl
axis_back K = refl

direction_back : (w : Way) (a : Axis) → direction_text (direction_word w a) ≡ Some (w, a)
direction_back Plus I = refl
direction_back Plus J = refl
direction_back Plus K = refl
direction_back Minus I = refl
direction_back Minus J = refl
direction_back Minus K = refl

letter_back : (p : Pauli) → pauli_letter (letter_of p) ≡ Some p
letter_back Pauli.One = refl
letter_back Pauli.X = refl
letter_back Pauli.Y = refl
letter_back Pauli.Z = refl

letter_small : (p : Pauli) → letter_of p < 128
letter_small Pauli.One = omega arith
letter_small Pauli.X = omega arith
letter_small Pauli.Y = omega arith
letter_small Pauli.Z = omega arith

pub letters_are_ascii : (word : List Pauli) → IsAscii (map letter_of word)
letters_are_ascii [] i = omega arith
letters_are_ascii (p ∷ ps) zero = letter_small p
letters_are_ascii (p ∷ ps) (suc i) = letters_are_ascii ps i

letters_back : (word : List Pauli) → map pauli_letter (map letter_of word) ≡ map Some word
letters_back [] = refl
letters_back (p ∷ ps) = ap (λ o. o ∷ map pauli_letter (map letter_of ps)) (letter_back p) ∙ ap (λ os. Some p ∷ os) (letters_back ps)

word_back : (word : List Pauli) → word_of (map letter_of word) ≡ map Some word
word_back word = ap (map pauli_letter) (chars-IsAscii (map letter_of word) (letters_are_ascii word)) ∙ letters_back word

pub words_back : (words : List (List Pauli)) → option_and_then (each (λ t. option_map word_of (as_str t))) (array_items (array_of (map word_value words))) ≡ Some (map (map Some) words)
words_back words =
    ap (option_and_then (each (λ t. option_map word_of (as_str t)))) (array_back (map word_value words))
    ∙ each_made (λ _. true) (λ t. option_map word_of (as_str t)) word_value (map Some) (λ word _. ap Some (word_back word)) words (all_of_each (λ _. true) (λ _. refl) words)

-- ---- ports

port_back : (s : Size) (p : Port) → AreNear s.i s.j s.k → port_fits s p ≡ true → port_in (port_value p) ≡ Some (port_written p)
port_back s p near e =
    rw (triple_back p.place.i p.place.j p.place.k (port_near s p near e), direction_back p.way p.axis, axis_back p.z_axis) refl

objects_back : {B : Type 0} (g : B → Data) → ((x : B) → is_object (g x) ≡ true) → (xs : List B) → objects (array_of (map g xs)) ≡ Some (map g xs)
objects_back g h xs =
    let all : list_all is_object (map g xs) ≡ true = list_all-map is_object g xs ∙ all_of_each (λ x. is_object (g x)) h xs in
    ap (option_and_then if_objects) (array_back (map g xs)) ∙ rw all refl

pub ports_back : (s : Size) → AreNear s.i s.j s.k → (ps : List Port) → list_all (port_fits s) ps ≡ true → option_and_then (each port_in) (objects (array_of (map port_value ps))) ≡ Some (map port_written ps)
ports_back s near ps e =
    ap (option_and_then (each port_in)) (objects_back port_value (λ p. refl) ps) ∙ each_made (port_fits s) port_in port_value port_written (λ p. port_back s p near) ps e
