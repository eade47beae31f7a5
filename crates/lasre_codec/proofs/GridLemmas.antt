-- The value of a grid gives back the bits that it was made from.
use Rattle.std.proofs.Common.{◌≡◌, ℕ, zero, suc, ◌+◌, ◌*◌, ◌<◌, Bool, true, false, ◌&&◌, List, [], ◌∷◌, ◌++◌, map, length, take, drop, Option, Some, refl, sym, ap, ◌∙◌, arith}
use Rattle.std.specs.Prelude.{option_map, option_and_then}
use Rattle.std.proofs.lemmas.Bool.{eq-eqb}
use Rattle.std.specs.List.{flat_map, list_all}
use Rattle.std.specs.Option.{option_map_or}
use Rattle.std.proofs.lemmas.Option.{slice_get-map}
use Rattle.std.proofs.lemmas.List.{length-map, map-append}
use Rattle.std.proofs.lemmas.List.Folds.{list_all-append}
use Rattle.std.proofs.lemmas.List.Concat.{flat_map_single}
use Rattle.std.proofs.Math.Seq.{take-append_seam, drop-append-add}
use Rattle.std.proofs.lemmas.Simd.{map-map}
use Rattle.serde_json.specs.Data.{Data}
use Rattle.json_shape.specs.declared.grid.Entry.{Entry}
use Rattle.json_shape.specs.declared.grid.Entry.TheVariants.{Zero, One}
use Rattle.json_shape.specs.Arrays.{each}
use Rattle.json_shape.specs.Grids.{entries, joined, has_lengths, all_of}
use Rattle.json_shape.proofs.GridLemmas.{entries_flat, entries_deep, lengths_below, no_lengths}
use Rattle.las_base.specs.declared.Cell.{Cell}
use Rattle.las_base.specs.declared.Size.{Size}
use Rattle.las_base.specs.Cells.{holds, volume, index, cells, numbers_from}
use Rattle.las_base.proofs.Blocks.{all_cells, all_indexed, length-numbers_from}
use Rattle.spec_codec.specs.Texts.{array_of}
use Rattle.spec_codec.proofs.Shapes.{array_back}
use Rattle.lasre_codec.specs.Entries.{is_one, is_bit, is_one_at, marks, flow_part}
use Rattle.lasre_codec.specs.Texts.{bit_value, grid_value}

-- the entry that a bit writes
abbrev pub entry_by : Bool → Entry
entry_by true = One
entry_by false = Zero

bit_back : (b : Bool) → entries 0 (bit_value b) ≡ Some (entry_by b ∷ [])
bit_back true = entries_flat (bit_value true)
bit_back false = entries_flat (bit_value false)

-- ---- arrays of values that give their entries

each_back : {A X : Type 0} (f : Data → Option A) (g : X → Data) (h : X → A) → ((x : X) → f (g x) ≡ Some (h x)) → (xs : List X) → each f (map g xs) ≡ Some (map h xs)
each_back f g h one [] = refl
each_back f g h one (x ∷ xs) = rw (one x, each_back f g h one xs) refl

joined-map : {A X : Type 0} (h : X → List A) (xs : List X) → joined (map h xs) ≡ flat_map h xs
joined-map h [] = refl
joined-map h (x ∷ xs) = ap (λ r. h x ++ r) (joined-map h xs)

deep_back : {X : Type 0} (n : ℕ) (g : X → Data) (h : X → List Entry) → ((x : X) → entries n (g x) ≡ Some (h x)) → (xs : List X) → entries (suc n) (array_of (map g xs)) ≡ Some (flat_map h xs)
deep_back n g h one xs =
    entries_deep n (array_of (map g xs))
    ∙ ap (λ o. option_map joined (option_and_then (each (entries n)) o)) (array_back (map g xs))
    ∙ ap (option_map joined) (each_back (entries n) g h one xs)
    ∙ ap Some (joined-map h xs)

all_made : {X : Type 0} (test : Data → Bool) (g : X → Data) → ((x : X) → test (g x) ≡ true) → (xs : List X) → list_all test (map g xs) ≡ true
all_made test g one [] = refl
all_made test g one (x ∷ xs) = rw (one x) (all_made test g one xs)

lengths_back : (n : ℕ) (ns : List ℕ) (g : ℕ → Data) → ((x : ℕ) → has_lengths ns (g x) ≡ true) → has_lengths (n ∷ ns) (array_of (map g (numbers_from 0 n))) ≡ true
lengths_back n ns g one =
    let long : length (map g (numbers_from 0 n)) ≡ n = length-map (numbers_from 0 n) g ∙ length-numbers_from 0 n in
    lengths_below n ns (array_of (map g (numbers_from 0 n)))
    ∙ ap (all_of n (has_lengths ns)) (array_back (map g (numbers_from 0 n)))
    ∙ rw (long, all_made (has_lengths ns) g one (numbers_from 0 n), eq-eqb n n refl) refl

-- ---- one grid

map-flat_map : {X A B : Type 0} (f : A → B) (g : X → List A) (xs : List X) → map f (flat_map g xs) ≡ flat_map (λ x. map f (g x)) xs
map-flat_map f g [] = refl
map-flat_map f g (x ∷ xs) = map-append f (g x) (flat_map g xs) ∙ ap (λ r. map f (g x) ++ r) (map-flat_map f g xs)

flat_map-same : {X A : Type 0} (f g : X → List A) → ((x : X) → f x ≡ g x) → (xs : List X) → flat_map f xs ≡ flat_map g xs
flat_map-same f g same [] = refl
flat_map-same f g same (x ∷ xs) = rw (same x, flat_map-same f g same xs) refl

-- the entries that bits write, cells in their order
abbrev pub written : Size → (Cell → Bool) → List Entry
written s bit = map (λ c. entry_by (bit c)) (cells s)

module _ (s : Size) (bit : Cell → Bool) where
  abbrev at : ℕ → ℕ → ℕ → Cell
  at i j k = record { i = i; j = j; k = k }

  abbrev row : ℕ → ℕ → List Entry
  row i j = map (λ k. entry_by (bit (at i j k))) (numbers_from 0 s.k)

  row_back : (i j : ℕ) → entries 1 (array_of (map (λ k. bit_value (bit (at i j k))) (numbers_from 0 s.k))) ≡ Some (row i j)
  row_back i j =
      deep_back 0 (λ k. bit_value (bit (at i j k))) (λ k. entry_by (bit (at i j k)) ∷ []) (λ k. bit_back (bit (at i j k))) (numbers_from 0 s.k) ∙ ap Some (flat_map_single (λ k. entry_by (bit (at i j k))) (numbers_from 0 s.k))

  plane_back : (i : ℕ) → entries 2 (array_of (map (λ j. array_of (map (λ k. bit_value (bit (at i j k))) (numbers_from 0 s.k))) (numbers_from 0 s.j))) ≡ Some (flat_map (row i) (numbers_from 0 s.j))
  plane_back i = deep_back 1 (λ j. array_of (map (λ k. bit_value (bit (at i j k))) (numbers_from 0 s.k))) (row i) (row_back i) (numbers_from 0 s.j)

  rows_written : flat_map (λ i. flat_map (row i) (numbers_from 0 s.j)) (numbers_from 0 s.i) ≡ written s bit
  rows_written =
      let one : Cell → Entry = λ c. entry_by (bit c) in
      let row_is : (i j : ℕ) → row i j ≡ map one (map (at i j) (numbers_from 0 s.k)) = λ i j. sym (map-map one (at i j) (numbers_from 0 s.k)) in
      let plane_is : (i : ℕ) → flat_map (row i) (numbers_from 0 s.j) ≡ map one (flat_map (λ j. map (at i j) (numbers_from 0 s.k)) (numbers_from 0 s.j)) =
      λ i. flat_map-same (row i) (λ j. map one (map (at i j) (numbers_from 0 s.k))) (row_is i) (numbers_from 0 s.j) ∙ sym (map-flat_map one (λ j. map (at i j) (numbers_from 0 s.k)) (numbers_from 0 s.j)) in
      flat_map-same (λ i. flat_map (row i) (numbers_from 0 s.j)) (λ i. map one (flat_map (λ j. map (at i j) (numbers_from 0 s.k)) (numbers_from 0 s.j))) plane_is (numbers_from 0 s.i)
      ∙ sym (map-flat_map one (λ i. flat_map (λ j. map (at i j) (numbers_from 0 s.k)) (numbers_from 0 s.j)) (numbers_from 0 s.i))

  -- the entries of a grid are those of its bits
  pub grid_back : entries 3 (grid_value s bit) ≡ Some (written s bit)
  grid_back =
      deep_back 2 (λ i. array_of (map (λ j. array_of (map (λ k. bit_value (bit (at i j k))) (numbers_from 0 s.k))) (numbers_from 0 s.j))) (λ i. flat_map (row i) (numbers_from 0 s.j)) plane_back (numbers_from 0 s.i) ∙ ap Some rows_written

  -- its arrays are as long as the box's sides
  pub grid_lengths : has_lengths (s.i ∷ s.j ∷ s.k ∷ []) (grid_value s bit) ≡ true
  grid_lengths =
      lengths_back s.i (s.j ∷ s.k ∷ []) (λ i. array_of (map (λ j. array_of (map (λ k. bit_value (bit (at i j k))) (numbers_from 0 s.k))) (numbers_from 0 s.j)))
      (λ i. lengths_back s.j (s.k ∷ []) (λ j. array_of (map (λ k. bit_value (bit (at i j k))) (numbers_from 0 s.k))) (λ j. lengths_back s.k [] (λ k. bit_value (bit (at i j k))) (λ k. sym (no_lengths [] (bit_value (bit (at i j k))) refl))))

  -- the mark of a cell is its bit
  pub mark_written : (c : Cell) → marks s (written s bit) c ≡ (holds s c && bit c)
  mark_written c = by_holds (holds s c) refl
    where
      one : (b : Bool) → is_one (entry_by b) ≡ b
      one true = refl
      one false = refl

      by_holds : (b : Bool) → holds s c ≡ b → (b && is_one_at (written s bit) (index s c)) ≡ (b && bit c)
      by_holds true h =
          ap (λ o. option_map_or is_one o false) (slice_get-map (λ x. entry_by (bit x)) (cells s) (index s c) ∙ ap (option_map (λ x. entry_by (bit x))) (all_indexed s c h)) ∙ one (bit c)
      by_holds false h = refl

  -- all are bits
  pub bits_written : list_all is_bit (written s bit) ≡ true
  bits_written = all_bits (cells s)
    where
      is_a_bit : (b : Bool) → is_bit (entry_by b) ≡ true
      is_a_bit true = refl
      is_a_bit false = refl

      all_bits : (cs : List Cell) → list_all is_bit (map (λ c. entry_by (bit c)) cs) ≡ true
      all_bits [] = refl
      all_bits (c ∷ cs) = rw (is_a_bit (bit c)) (all_bits cs)

  pub length_written : length (written s bit) ≡ volume s
  length_written = length-map (cells s) (λ c. entry_by (bit c)) ∙ all_cells s

-- ---- grids of several flows

module _ (s : Size) (bit : ℕ → Cell → Bool) where
  -- the entries that bits write, flow after flow
  abbrev pub parts : ℕ → ℕ → List Entry
  parts first n = flat_map (λ f. written s (bit f)) (numbers_from first n)

  pub stack_back : (n : ℕ) → entries 4 (array_of (map (λ f. grid_value s (bit f)) (numbers_from 0 n))) ≡ Some (parts 0 n)
  stack_back n = deep_back 3 (λ f. grid_value s (bit f)) (λ f. written s (bit f)) (λ f. grid_back s (bit f)) (numbers_from 0 n)

  pub stack_lengths : (n : ℕ) → has_lengths (n ∷ s.i ∷ s.j ∷ s.k ∷ []) (array_of (map (λ f. grid_value s (bit f)) (numbers_from 0 n))) ≡ true
  stack_lengths n = lengths_back n (s.i ∷ s.j ∷ s.k ∷ []) (λ f. grid_value s (bit f)) (λ f. grid_lengths s (bit f))

  pub parts_are_bits : (first n : ℕ) → list_all is_bit (parts first n) ≡ true
  parts_are_bits first zero = refl
  parts_are_bits first (suc n) =
      list_all-append is_bit (written s (bit first)) (parts (suc first) n) ∙ rw (bits_written s (bit first)) (parts_are_bits (suc first) n)

  part_from : (first n flow : ℕ) → flow < n → take (volume s) (drop (flow * volume s) (parts first n)) ≡ written s (bit (first + flow))
  part_from first zero flow h = absurd (omega arith)
  part_from first (suc n) zero h =
      let here : first + 0 ≡ first = omega arith in
      let none : 0 * volume s ≡ 0 = omega arith in
      rw (here, none, ← length_written s (bit first)) (take-append_seam (written s (bit first)) (parts (suc first) n))
  part_from first (suc n) (suc flow) h =
      let next : first + suc flow ≡ suc first + flow = omega arith in
      let past : suc flow * volume s ≡ length (written s (bit first)) + flow * volume s = omega (arith, length_written s (bit first)) in
      rw (next, past, drop-append-add (written s (bit first)) (parts (suc first) n) (flow * volume s)) (part_from (suc first) n flow (omega arith))

  -- the part of a flow is what its bits write
  pub part_written : (n flow : ℕ) → flow < n → flow_part s flow (parts 0 n) ≡ written s (bit flow)
  part_written n flow h = let same : 0 + flow ≡ flow = omega arith in part_from 0 n flow h ∙ ap (λ f. written s (bit f)) same
