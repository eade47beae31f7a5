-- Grids, one depth after another.
use Rattle.std.proofs.Common.{◌≡◌, ℕ, zero, suc, ◌+◌, ◌-◌, ◌<◌, ◌≤◌, List, [], ◌∷◌, ◌++◌, map, length, get_or, take, drop, Bool, true, false, Some, None, refl, sym, ap, ◌∙◌, arith, append_assoc, append-nil, drop_of_length-le, eqb, eq-eqb, ne_eqb}
use Rattle.std.specs.Prelude.{option_map, option_and_then, ◌&&◌}
use Rattle.std.specs.List.{list_all}
use Rattle.std.proofs.lemmas.List.{at_drop_more, length-map, take_all}
use Rattle.serde_json.specs.Data.{Data}
use Rattle.serde_json.specs.View.{view}
use Rattle.serde_json.specs.declared.value.Value.{Value}
use Rattle.json_shape.specs.declared.grid.Entry.{Entry}
use Rattle.json_shape.specs.Arrays.{array_items, each}
use Rattle.json_shape.specs.Grids.{entry, joined, entries, all_of, has_lengths}
use Rattle.json_shape.proofs.EachLemmas.{IsOnTheWay, way_goes_on, way_breaks, way_ends}

-- a grid of no depth is one entry
pub entries_flat : (d : Data) → entries 0 d ≡ option_map (λ e. e ∷ []) (entry d)
unfolding entries
entries_flat d = refl

-- a deeper grid is an array of grids
pub entries_deep : (n : ℕ) (d : Data) → entries (suc n) d ≡ option_map joined (option_and_then (each (entries n)) (array_items d))
unfolding entries
entries_deep n d = refl

pub entries_below : (n : ℕ) (d : Data) → 0 < n → entries n d ≡ option_map joined (option_and_then (each (entries (n - 1))) (array_items d))
entries_below zero d h = absurd (omega arith)
entries_below (suc m) d h = let less : m ≡ suc m - 1 = omega arith in entries_deep m d ∙ ap (λ k. option_map joined (option_and_then (each (entries k)) (array_items d))) less

joined-push : {A : Type 0} (xss : List (List A)) (xs : List A) → joined (xss ++ xs ∷ []) ≡ joined xss ++ xs
joined-push [] xs = append-nil xs
joined-push (ys ∷ xss) xs = ap (λ zs. ys ++ zs) (joined-push xss xs) ∙ sym (append_assoc ys (joined xss) xs)

-- the grids before the i-th have been put at the end
pub record IsJoining (n : ℕ) (vs : List Value) (i : ℕ) (old new : List Entry) : Type 0 where
  pub read : List (List Entry)
  pub new_is : new ≡ old ++ joined read
  pub way : IsOnTheWay (entries n) vs i read

pub joining_goes_on : (n : ℕ) (vs : List Value) (i : ℕ) (v : Value) (old mid new xs : List Entry) → IsJoining n vs i old mid → i < length vs → v ≡ get_or vs i v → entries n (view v) ≡ Some xs → new ≡ mid ++ xs
    → IsJoining n vs (i + 1) old new
joining_goes_on n vs i v old mid new xs so_far h e gives appended = record {
  read = so_far.read ++ xs ∷ [];
  new_is = appended ∙ ap (λ l. l ++ xs) so_far.new_is ∙ append_assoc old (joined so_far.read) xs ∙ ap (λ l. old ++ l) (sym (joined-push so_far.read xs));
  way = way_goes_on (entries n) vs i v so_far.read (so_far.read ++ xs ∷ []) xs so_far.way h e gives refl;
}

pub joining_breaks : (n : ℕ) (d : Data) (vs : List Value) (i : ℕ) (v : Value) (old mid : List Entry) → 0 < n → Some (map view vs) ≡ array_items d → IsJoining (n - 1) vs i old mid → i < length vs → v ≡ get_or vs i v → entries (n - 1) (view v) ≡ None
    → entries n d ≡ None
joining_breaks n d vs i v old mid deep items so_far h e gives =
    entries_below n d deep ∙ ap (λ o. option_map joined (option_and_then (each (entries (n - 1))) o)) (sym items) ∙ ap (option_map joined) (way_breaks (entries (n - 1)) vs i v so_far.read so_far.way h e gives)

pub joining_ends : (n : ℕ) (d : Data) (vs : List Value) (i : ℕ) (old new : List Entry) → 0 < n → Some (map view vs) ≡ array_items d → IsJoining (n - 1) vs i old new → length vs ≤ i
    → (xs : List Entry) × (entries n d ≡ Some xs) × (new ≡ old ++ xs)
joining_ends n d vs i old new deep items so_far h = (
  joined so_far.read,
  entries_below n d deep ∙ ap (λ o. option_map joined (option_and_then (each (entries (n - 1))) o)) (sym items) ∙ ap (option_map joined) (way_ends (entries (n - 1)) vs i so_far.read so_far.way h),
  so_far.new_is,
)

-- a value that is no array is no deeper grid
pub entries_of_no_array : (n : ℕ) (d : Data) → 0 < n → None ≡ array_items d → entries n d ≡ None
entries_of_no_array n d deep items = entries_below n d deep ∙ ap (λ o. option_map joined (option_and_then (each (entries (n - 1))) o)) (sym items)

-- with no length every value is right
pub no_lengths : (ns : List ℕ) (d : Data) → length ns ≡ 0 → true ≡ has_lengths ns d
unfolding has_lengths
no_lengths [] d h = refl
no_lengths (n ∷ ns) d h = absurd (omega arith)

-- a first length asks for an array
pub lengths_below : (n : ℕ) (ns : List ℕ) (d : Data) → has_lengths (n ∷ ns) d ≡ all_of n (has_lengths ns) (array_items d)
unfolding has_lengths
lengths_below n ns d = refl

first_apart : (ns : List ℕ) → 1 ≤ length ns → get_or ns 0 0 ∷ take (length ns - 1) (drop 1 ns) ≡ ns
first_apart [] h = absurd (omega arith)
first_apart (n ∷ ns) h = ap (λ ms. n ∷ ms) (take_all (length (n ∷ ns) - 1) ns (omega arith))

-- what holds of the first length and the rest holds of the lengths
pub by_first : (ns : List ℕ) (d : Data) (b : Bool) → 1 ≤ length ns → b ≡ has_lengths (get_or ns 0 0 ∷ take (length ns - 1) (drop 1 ns)) d → b ≡ has_lengths ns d
by_first ns d b h e = e ∙ ap (λ ms. has_lengths ms d) (first_apart ns h)

-- the values before the i-th have the lengths
pub record HaveLengths (ns : List ℕ) (vs : List Value) (i : ℕ) : Type 0 where
  pub whole_is : list_all (has_lengths ns) (map view vs) ≡ list_all (has_lengths ns) (map view (drop i vs))

lengths_from : (ns : List ℕ) (vs : List Value) (i : ℕ) (v : Value) → i < length vs → v ≡ get_or vs i v
    → list_all (has_lengths ns) (map view (drop i vs)) ≡ (has_lengths ns (view v) && list_all (has_lengths ns) (map view (drop (i + 1) vs)))
lengths_from ns vs i v h e =
    at_drop_more (λ ws. list_all (has_lengths ns) (map view ws)) vs i v h ∙ ap (λ w. list_all (has_lengths ns) (map view (w ∷ drop (i + 1) vs))) (sym e)

all_of-so : (n : ℕ) (f : Data → Bool) (vs : List Value) → length vs ≡ n → all_of n f (Some (map view vs)) ≡ list_all f (map view vs)
all_of-so n f vs e = let t : eqb (length (map view vs)) n ≡ true = eq-eqb _ _ (length-map vs view ∙ e) in rw t refl

pub lengths_of_no_array : (n : ℕ) (ns : List ℕ) (d : Data) → None ≡ array_items d → false ≡ has_lengths (n ∷ ns) d
lengths_of_no_array n ns d items = sym (lengths_below n ns d ∙ ap (all_of n (has_lengths ns)) (sym items))

pub lengths_of_another : (n : ℕ) (ns : List ℕ) (d : Data) (vs : List Value) → Some (map view vs) ≡ array_items d → (length vs ≡ n → ⊥) → false ≡ has_lengths (n ∷ ns) d
lengths_of_another n ns d vs items other =
    let t : eqb (length (map view vs)) n ≡ false = ne_eqb _ _ (λ h. other (sym (length-map vs view) ∙ h)) in
    let here : all_of n (has_lengths ns) (Some (map view vs)) ≡ false = rw t refl in
    sym (lengths_below n ns d ∙ ap (all_of n (has_lengths ns)) (sym items) ∙ here)

pub lengths_break : (n : ℕ) (ns : List ℕ) (d : Data) (vs : List Value) (i : ℕ) (v : Value) → Some (map view vs) ≡ array_items d → length vs ≡ n → HaveLengths ns vs i → i < length vs → v ≡ get_or vs i v → has_lengths ns (view v) ≡ false
    → false ≡ has_lengths (n ∷ ns) d
lengths_break n ns d vs i v items long so_far h e wrong =
    sym (lengths_below n ns d ∙ ap (all_of n (has_lengths ns)) (sym items) ∙ all_of-so n (has_lengths ns) vs long ∙ so_far.whole_is ∙ lengths_from ns vs i v h e ∙ ap (λ b. b && list_all (has_lengths ns) (map view (drop (i + 1) vs))) wrong)

pub lengths_end : (n : ℕ) (ns : List ℕ) (d : Data) (vs : List Value) (i : ℕ) → Some (map view vs) ≡ array_items d → length vs ≡ n → HaveLengths ns vs i → length vs ≤ i → true ≡ has_lengths (n ∷ ns) d
lengths_end n ns d vs i items long so_far h =
    sym (lengths_below n ns d ∙ ap (all_of n (has_lengths ns)) (sym items) ∙ all_of-so n (has_lengths ns) vs long ∙ so_far.whole_is ∙ ap (λ ws. list_all (has_lengths ns) (map view ws)) (drop_of_length-le vs {i = i} h))
