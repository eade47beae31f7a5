-- What is written is read back: the value first.
use Rattle.std.proofs.Common.{◌≡◌, ℕ, zero, suc, ◌+◌, ◌<◌, Bool, true, false, cond, ◌&&◌, not, List, [], ◌∷◌, map, length, Some, None, Ok, refl, ap, ◌∙◌, arith}
use Rattle.std.specs.Prelude.{option_map, is_none}
use Rattle.std.specs.List.{find, list_all}
use Rattle.std.specs.Option.{option_or}
use Rattle.std.proofs.lemmas.Bool.{and_parts}
use Rattle.std.proofs.Math.Bool.{and-false}
use Rattle.serde_json.specs.Data.{Data}
use Rattle.serde_json.specs.Find.{get}
use Rattle.json_shape.specs.declared.grid.Entry.{Entry}
use Rattle.json_shape.specs.Arrays.{is_object}
use Rattle.json_shape.specs.Grids.{entries, has_lengths}
use Rattle.las_base.specs.declared.Size.{Size}
use Rattle.las_base.specs.Cells.{volume, numbers_from}
use Rattle.spec_codec.specs.Readings.{job_in}
use Rattle.spec_codec.specs.Texts.{array_of}
use Rattle.spec_codec.proofs.JobLemmas.{job_is_read_back}
use Rattle.lasre_codec.specs.declared.member.Member.{Member}
use Rattle.lasre_codec.specs.declared.member.Member.TheVariants.{ColorI, ColorJ, ColorKM, ColorKP, CorrIJ, CorrIK, CorrJI, CorrJK, CorrKI, CorrKJ, ExistI, ExistJ, ExistK, NodeY, MaxI, MaxJ, MaxK, Optional, Ports, Stabilizers}
use Rattle.lasre_codec.specs.declared.refusal.LasreRefused.TheVariants.{Length, Bit}
use Rattle.lasre_codec.specs.Members.{member_name, is_grid, is_needed, is_stack, members, grids, tested}
use Rattle.lasre_codec.specs.Entries.{entries_in, entries_of, or_none, is_bit, is_bit_at, counts_at, is_bad_at, bad_place, first_bad, surfaces_in}
use Rattle.lasre_codec.specs.Documents.{Lasre, IsLasre, lasre_as, without_absent, missing_in, misshapen_in, is_full, wrong_length_in, judged, shown_in, given_for, lasre_in}
use Rattle.lasre_codec.specs.Texts.{grid_value, bit_of, bits_value, member_value, lasre_value}
use Rattle.lasre_codec.proofs.GridLemmas.{written, parts, grid_back, stack_back, grid_lengths, stack_lengths, bits_written, parts_are_bits}
use Rattle.lasre_codec.proofs.ShownLemmas.{writes, drawing_shown}
use Rattle.lasre_codec.proofs.SheetLemmas.{surfaces_shown}

-- ---- none is found

find_none : {X : Type 0} (good test : X → Bool) → ((x : X) → good x ≡ true → test x ≡ false) → (xs : List X) → list_all good xs ≡ true → find test xs ≡ None
find_none good test none [] all = refl
find_none good test none (x ∷ xs) all = let p = and_parts (good x) (list_all good xs) all in rw (none x p.0) (find_none good test none xs p.1)

no_number : (test : ℕ → Bool) (first n : ℕ) → ((i : ℕ) → i < first + n → test i ≡ false) → find test (numbers_from first n) ≡ None
no_number test first zero none = refl
no_number test first (suc n) none = rw (none first (omega arith)) (no_number test (suc first) n (λ i low. none i (omega arith)))

bit_at : (es : List Entry) (n : ℕ) → list_all is_bit es ≡ true → n < length es → is_bit_at es n ≡ true
bit_at [] n all low = absurd (omega arith)
bit_at (e ∷ es) zero all low = (and_parts (is_bit e) (list_all is_bit es) all).0
bit_at (e ∷ es) (suc n) all low = bit_at es n (and_parts (is_bit e) (list_all is_bit es) all).1 (omega arith)

-- ---- members

member_back : (l : Lasre) (m : Member) → get (member_name m) (lasre_value l) ≡ Some (member_value l m)
unfolding lasre_value
member_back l ColorI = refl
member_back l ColorJ = refl
member_back l ColorKM = refl
member_back l ColorKP = refl
member_back l CorrIJ = refl
member_back l CorrIK = refl
member_back l CorrJI = refl
member_back l CorrJK = refl
member_back l CorrKI = refl
member_back l CorrKJ = refl
member_back l ExistI = refl
member_back l ExistJ = refl
member_back l ExistK = refl
member_back l NodeY = refl
member_back l MaxI = refl
member_back l MaxJ = refl
member_back l MaxK = refl
member_back l Optional = refl
member_back l Ports = refl
member_back l Stabilizers = refl

is_value : (l : Lasre) → is_object (lasre_value l) ≡ true
unfolding lasre_value
is_value l = refl

of_bits : (l : Lasre) (m : Member) → is_grid m ≡ true → member_value l m ≡ bits_value l m
of_bits l ColorI g = refl
of_bits l ColorJ g = refl
of_bits l ColorKM g = refl
of_bits l ColorKP g = refl
of_bits l CorrIJ g = refl
of_bits l CorrIK g = refl
of_bits l CorrJI g = refl
of_bits l CorrJK g = refl
of_bits l CorrKI g = refl
of_bits l CorrKJ g = refl
of_bits l ExistI g = refl
of_bits l ExistJ g = refl
of_bits l ExistK g = refl
of_bits l NodeY g = refl
of_bits l MaxI g = absurd (cc)
of_bits l MaxJ g = absurd (cc)
of_bits l MaxK g = absurd (cc)
of_bits l Optional g = absurd (cc)
of_bits l Ports g = absurd (cc)
of_bits l Stabilizers g = absurd (cc)

module _ (l : Lasre) (h : IsLasre l) where
  abbrev s : Size
  s = l.task.size

  abbrev d : Data
  d = lasre_value l

  -- the value of a grid has its entries, which are bits, and its lengths
  entries_back : (m : Member) → is_grid m ≡ true → entries_in d m ≡ Some (writes l m)
  entries_back m g = rw (member_back l m, of_bits l m g) (by_stack (is_stack m))
    where
      by_stack : (b : Bool) → entries (cond b 4 3) (cond b (array_of (map (λ f. grid_value s (bit_of l m f)) (numbers_from 0 (length l.task.flows)))) (grid_value s (bit_of l m 0))) ≡ Some (cond b (parts s (bit_of l m) 0 (length l.task.flows)) (written s (bit_of l m 0)))
      by_stack true = stack_back s (bit_of l m) (length l.task.flows)
      by_stack false = grid_back s (bit_of l m 0)

  full : (m : Member) → is_grid m ≡ true → is_full l.task d m ≡ true
  full m g = rw (member_back l m, of_bits l m g) (by_stack (is_stack m))
    where
      by_stack : (b : Bool) → has_lengths (cond b (length l.task.flows ∷ s.i ∷ s.j ∷ s.k ∷ []) (s.i ∷ s.j ∷ s.k ∷ [])) (cond b (array_of (map (λ f. grid_value s (bit_of l m f)) (numbers_from 0 (length l.task.flows)))) (grid_value s (bit_of l m 0))) ≡ true
      by_stack true = stack_lengths s (bit_of l m) (length l.task.flows)
      by_stack false = grid_lengths s (bit_of l m 0)

  all_bits : (m : Member) → list_all is_bit (writes l m) ≡ true
  all_bits m = by_stack (is_stack m)
    where
      by_stack : (b : Bool) → list_all is_bit (cond b (parts s (bit_of l m) 0 (length l.task.flows)) (written s (bit_of l m 0))) ≡ true
      by_stack true = parts_are_bits s (bit_of l m) 0 (length l.task.flows)
      by_stack false = bits_written s (bit_of l m 0)

  entries_are : (m : Member) → is_grid m ≡ true → entries_of d m ≡ writes l m
  entries_are m g = rw g (ap or_none (entries_back m g))

  -- ---- no refusal holds

  none_missing : missing_in d ≡ None
  none_missing = find_none (λ _. true) (λ m. is_needed m && is_none (get (member_name m) d)) (λ m _. rw (member_back l m) (and-false (is_needed m))) members refl

  none_misshapen : misshapen_in d ≡ None
  none_misshapen = find_none is_grid (λ m. is_none (entries_in d m)) (λ m g. rw (entries_back m g) refl) grids refl

  none_wrong_length : wrong_length_in l.task d ≡ None
  none_wrong_length = find_none is_grid (λ m. not (is_full l.task d m)) (λ m g. ap not (full m g)) grids refl

  no_bad_place : (m : Member) → is_grid m ≡ true → bad_place (entries_of d) (volume s) m ≡ None
  no_bad_place m g =
      no_number (is_bad_at (entries_of d) (volume s) m) 0 (length (entries_of d m))
      (λ i low. ap (λ b. counts_at (entries_of d) (volume s) m i && not b) (bit_at (entries_of d m) i (ap (list_all is_bit) (entries_are m g) ∙ all_bits m) (omega (arith, low))) ∙ and-false (counts_at (entries_of d) (volume s) m i))

  none_bad : (ms : List Member) → list_all is_grid ms ≡ true → first_bad (entries_of d) (volume s) ms ≡ None
  none_bad [] all = refl
  none_bad (m ∷ ms) all =
      let p = and_parts (is_grid m) (list_all is_grid ms) all in
      ap (λ o. option_or (option_map (Bit m) o) (first_bad (entries_of d) (volume s) ms)) (no_bad_place m p.0) ∙ none_bad ms p.1

  job_back : job_in d ≡ Ok l.task
  job_back =
      job_is_read_back d l.task h.task
      (record { i = member_back l MaxI; j = member_back l MaxJ; k = member_back l MaxK; optional = member_back l Optional; ports = member_back l Ports; flows = member_back l Stabilizers })

  shown_back : shown_in l.task d ≡ without_absent l
  shown_back =
      ap (λ g. lasre_as l.task g (surfaces_in (entries_of d) s (length l.task.flows))) (drawing_shown l h (entries_of d) entries_are) ∙ ap (lasre_as l.task l.drawing) (surfaces_shown l h (entries_of d) entries_are)

  given_back : given_for l.task d ≡ Ok (without_absent l)
  given_back =
      ap (λ o. judged (option_or (option_map Length o) (first_bad (entries_of d) (volume s) tested)) (shown_in l.task d)) none_wrong_length
      ∙ ap (λ o. judged o (shown_in l.task d)) (none_bad tested refl)
      ∙ ap Ok shown_back

  -- the value gives what it was made from
  pub value_back : lasre_in d ≡ Ok (without_absent l)
  unfolding lasre_in
  value_back = rw (is_value l, none_missing, none_misshapen, job_back) given_back
