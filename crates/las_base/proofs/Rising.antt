-- The cells of a box stand in order.
use Rattle.std.proofs.Common.{◌≡◌, ℕ, zero, suc, ◌<◌, ◌≤◌, Bool, true, false, cond, List, [], ◌∷◌, ◌++◌, map, refl, ◌∙◌, arith}
use Rattle.std.specs.List.{flat_map, list_all, filter}
use Rattle.std.proofs.lemmas.Bool.{and_parts, and_from, lt-ltb, eq-eqb, ne_eqb}
use Rattle.std.proofs.lemmas.List.Folds.{list_all-append}
use Rattle.las_base.specs.declared.Cell.{Cell}
use Rattle.las_base.specs.Cells.{numbers_from, cell_before, rises, AllRise}

module _ {X : Type 0} (b : X → X → Bool) where
  -- lists that rise, each of the one before each of the other
  pub rises_join : (xs ys : List X) → rises b xs ≡ true → rises b ys ≡ true → list_all (λ x. list_all (b x) ys) xs ≡ true → rises b (xs ++ ys) ≡ true
  rises_join [] ys p q r = q
  rises_join (x ∷ xs) ys p q r =
      let parts = and_parts (list_all (b x) xs) (rises b xs) p in
      let rest = and_parts (list_all (b x) ys) (list_all (λ x. list_all (b x) ys) xs) r in
      and_from (list_all (b x) (xs ++ ys)) (rises b (xs ++ ys)) (list_all-append (b x) xs ys ∙ and_from (list_all (b x) xs) (list_all (b x) ys) parts.0 rest.0) (rises_join xs ys parts.1 q rest.1)

  pub filter_all : (f test : X → Bool) (xs : List X) → list_all test xs ≡ true → list_all test (filter f xs) ≡ true
  filter_all f test [] p = refl
  filter_all f test (x ∷ xs) p =
      let q = and_parts (test x) (list_all test xs) p in
      at (f x) q.0 (filter_all f test xs q.1)
    where
      at : (c : Bool) → test x ≡ true → list_all test (filter f xs) ≡ true → list_all test (cond c (x ∷ filter f xs) (filter f xs)) ≡ true
      at true p ih = and_from (test x) (list_all test (filter f xs)) p ih
      at false p ih = ih

  -- a filter keeps the order
  pub rises-filter : (f : X → Bool) (xs : List X) → rises b xs ≡ true → rises b (filter f xs) ≡ true
  rises-filter f [] p = refl
  rises-filter f (x ∷ xs) p =
      let q = and_parts (list_all (b x) xs) (rises b xs) p in
      at (f x) (filter_all f (b x) xs q.0) (rises-filter f xs q.1)
    where
      at : (c : Bool) → list_all (b x) (filter f xs) ≡ true → rises b (filter f xs) ≡ true → rises b (cond c (x ∷ filter f xs) (filter f xs)) ≡ true
      at true p ih = and_from (list_all (b x) (filter f xs)) (rises b (filter f xs)) p ih
      at false p ih = ih

abbrev cell : ℕ → ℕ → ℕ → Cell
cell i j k = record { i = i; j = j; k = k }

before_column : (i j k m : ℕ) → k < m → cell_before (cell i j k) (cell i j m) ≡ true
before_column i j k m l = rw (eq-eqb i i refl, eq-eqb j j refl) (lt-ltb k m l)

before_row : (i j k m n : ℕ) → j < m → cell_before (cell i j k) (cell i m n) ≡ true
before_row i j k m n l = rw (eq-eqb i i refl, ne_eqb j m (λ e. omega arith)) (lt-ltb j m l)

before_layer : (i j k l m n : ℕ) → i < l → cell_before (cell i j k) (cell l m n) ≡ true
before_layer i j k l m n h = rw (ne_eqb i l (λ e. omega arith)) (lt-ltb i l h)

abbrev column : ℕ → ℕ → ℕ → ℕ → List Cell
column i j first n = map (λ k. record { i = i; j = j; k = k }) (numbers_from first n)

-- a test with a bound from below
low_columns : (test : Cell → Bool) (i j first n : ℕ) → ((k : ℕ) → first ≤ k → test (cell i j k) ≡ true) → list_all test (column i j first n) ≡ true
low_columns test i j first zero h = refl
low_columns test i j first (suc n) h = and_from (test (cell i j first)) (list_all test (column i j (suc first) n)) (h first (omega arith)) (low_columns test i j (suc first) n (λ k l. h k (omega arith)))

low_rows : (test : Cell → Bool) (w i first n : ℕ) → ((j k : ℕ) → first ≤ j → test (cell i j k) ≡ true) → list_all test (flat_map (λ j. column i j 0 w) (numbers_from first n)) ≡ true
low_rows test w i first zero h = refl
low_rows test w i first (suc n) h =
    list_all-append test (column i first 0 w) (flat_map (λ j. column i j 0 w) (numbers_from (suc first) n))
    ∙ and_from (list_all test (column i first 0 w)) (list_all test (flat_map (λ j. column i j 0 w) (numbers_from (suc first) n)))
    (low_columns test i first 0 w (λ k l. h first k (omega arith)))
    (low_rows test w i (suc first) n (λ j k l. h j k (omega arith)))

low_layers : (test : Cell → Bool) (w v first n : ℕ) → ((i j k : ℕ) → first ≤ i → test (cell i j k) ≡ true) → list_all test (flat_map (λ i. flat_map (λ j. column i j 0 w) (numbers_from 0 v)) (numbers_from first n)) ≡ true
low_layers test w v first zero h = refl
low_layers test w v first (suc n) h =
    list_all-append test (flat_map (λ j. column first j 0 w) (numbers_from 0 v)) (flat_map (λ i. flat_map (λ j. column i j 0 w) (numbers_from 0 v)) (numbers_from (suc first) n))
    ∙ and_from (list_all test (flat_map (λ j. column first j 0 w) (numbers_from 0 v))) (list_all test (flat_map (λ i. flat_map (λ j. column i j 0 w) (numbers_from 0 v)) (numbers_from (suc first) n)))
    (low_rows test w first 0 v (λ j k l. h first j k (omega arith)))
    (low_layers test w v (suc first) n (λ i j k l. h i j k (omega arith)))

columns_rise : (i j first n : ℕ) → rises cell_before (column i j first n) ≡ true
columns_rise i j first zero = refl
columns_rise i j first (suc n) = and_from (list_all (cell_before (cell i j first)) (column i j (suc first) n)) (rises cell_before (column i j (suc first) n)) (low_columns (cell_before (cell i j first)) i j (suc first) n (λ k l. before_column i j first k (omega arith))) (columns_rise i j (suc first) n)

rows_rise : (w i first n : ℕ) → rises cell_before (flat_map (λ j. column i j 0 w) (numbers_from first n)) ≡ true
rows_rise w i first zero = refl
rows_rise w i first (suc n) =
    rises_join cell_before (column i first 0 w) (flat_map (λ j. column i j 0 w) (numbers_from (suc first) n)) (columns_rise i first 0 w) (rows_rise w i (suc first) n)
    (low_columns (λ x. list_all (cell_before x) (flat_map (λ j. column i j 0 w) (numbers_from (suc first) n))) i first 0 w (λ k l. low_rows (cell_before (cell i first k)) w i (suc first) n (λ j m h. before_row i first k j m (omega arith))))

layers_rise : (w v first n : ℕ) → rises cell_before (flat_map (λ i. flat_map (λ j. column i j 0 w) (numbers_from 0 v)) (numbers_from first n)) ≡ true
layers_rise w v first zero = refl
layers_rise w v first (suc n) =
    rises_join cell_before (flat_map (λ j. column first j 0 w) (numbers_from 0 v)) (flat_map (λ i. flat_map (λ j. column i j 0 w) (numbers_from 0 v)) (numbers_from (suc first) n)) (rows_rise w first 0 v) (layers_rise w v (suc first) n)
    (low_rows (λ x. list_all (cell_before x) (flat_map (λ i. flat_map (λ j. column i j 0 w) (numbers_from 0 v)) (numbers_from (suc first) n))) w first 0 v (λ j k l. low_layers (cell_before (cell first j k)) w v (suc first) n (λ i m o h. before_layer first j k i m o (omega arith))))

pub all_rise : AllRise
all_rise s = layers_rise s.k s.j 0 s.i
