-- One thing is read from each of some values: what a loop knows on the way, and what was read.
use Rattle.std.proofs.Common.{◌≡◌, ℕ, suc, ◌+◌, ◌<◌, ◌≤◌, List, [], ◌∷◌, ◌++◌, map, length, get_or, drop, Option, Some, None, refl, sym, ap, ◌∙◌, append_assoc, append-nil, drop_of_length-le}
use Rattle.std.specs.Prelude.{option_map, option_and_then}
use Rattle.std.proofs.lemmas.List.{at_drop_more}
use Rattle.serde_json.specs.Data.{Data}
use Rattle.serde_json.specs.View.{view}
use Rattle.serde_json.specs.declared.value.Value.{Value}
use Rattle.json_shape.specs.Arrays.{each}

-- so much has been read, and what is left of the values gives the rest
pub record IsOnTheWay {A : Type 0} (f : Data → Option A) (vs : List Value) (i : ℕ) (read : List A) : Type 0 where
  pub whole_is : each f (map view vs) ≡ option_map (λ ys. read ++ ys) (each f (map view (drop i vs)))

option_map-nil : {A : Type 0} (o : Option (List A)) → o ≡ option_map (λ ys. [] ++ ys) o
option_map-nil None = refl
option_map-nil (Some x) = refl

option_map-append : {A : Type 0} (xs zs : List A) (o : Option (List A)) → option_map (λ ys. xs ++ ys) (option_map (λ ys. zs ++ ys) o) ≡ option_map (λ ys. (xs ++ zs) ++ ys) o
option_map-append xs zs None = refl
option_map-append xs zs (Some ys) = ap Some (sym (append_assoc xs zs ys))

each_from : {A : Type 0} (f : Data → Option A) (vs : List Value) (i : ℕ) (v : Value) → i < length vs → v ≡ get_or vs i v
    → each f (map view (drop i vs)) ≡ option_and_then (λ x. option_map (λ xs. x ∷ xs) (each f (map view (drop (i + 1) vs)))) (f (view v))
each_from f vs i v h e =
    at_drop_more (λ ws. each f (map view ws)) vs i v h ∙ ap (λ w. each f (map view (w ∷ drop (i + 1) vs))) (sym e)

-- one value more
pub way_goes_on : {A : Type 0} (f : Data → Option A) (vs : List Value) (i : ℕ) (v : Value) (old new : List A) (x : A) → IsOnTheWay f vs i old → i < length vs → v ≡ get_or vs i v → f (view v) ≡ Some x → new ≡ old ++ x ∷ []
    → IsOnTheWay f vs (i + 1) new
way_goes_on f vs i v old new x way h e gives pushed = record {
  whole_is = way.whole_is ∙ ap (option_map (λ ys. old ++ ys)) (each_from f vs i v h e ∙ ap (option_and_then (λ z. option_map (λ xs. z ∷ xs) (each f (map view (drop (i + 1) vs))))) gives)
      ∙ option_map-append old (x ∷ []) (each f (map view (drop (i + 1) vs))) ∙ ap (λ l. option_map (λ ys. l ++ ys) (each f (map view (drop (i + 1) vs)))) (sym pushed);
}

-- a value that gives nothing
pub way_breaks : {A : Type 0} (f : Data → Option A) (vs : List Value) (i : ℕ) (v : Value) (old : List A) → IsOnTheWay f vs i old → i < length vs → v ≡ get_or vs i v → f (view v) ≡ None
    → each f (map view vs) ≡ None
way_breaks f vs i v old way h e gives =
    way.whole_is ∙ ap (option_map (λ ys. old ++ ys)) (each_from f vs i v h e ∙ ap (option_and_then (λ z. option_map (λ xs. z ∷ xs) (each f (map view (drop (i + 1) vs))))) gives)

-- no value is left
pub way_ends : {A : Type 0} (f : Data → Option A) (vs : List Value) (i : ℕ) (read : List A) → IsOnTheWay f vs i read → length vs ≤ i → each f (map view vs) ≡ Some read
way_ends f vs i read way h =
    way.whole_is ∙ ap (λ ws. option_map (λ ys. read ++ ys) (each f (map view ws))) (drop_of_length-le vs {i = i} h) ∙ ap Some (append-nil read)

-- what g makes of a value was made of some value
pub and_then_some : {A B : Type 0} (g : A → Option B) (o : Option A) (y : B) → option_and_then g o ≡ Some y → (x : A) × (o ≡ Some x) × (g x ≡ Some y)
and_then_some g None y e = absurd (cc)
and_then_some g (Some x) y e = (x, refl, e)

-- likewise what f makes
pub map_some : {A B : Type 0} (f : A → B) (o : Option A) (y : B) → option_map f o ≡ Some y → (x : A) × (o ≡ Some x) × (f x ≡ y)
map_some f None y e = absurd (cc)
map_some f (Some x) y e = (x, refl, cc)

-- what is read from the first value and from the others
pub each-cons : {A : Type 0} (f : Data → Option A) (d : Data) (ds : List Data) (xs : List A) → each f (d ∷ ds) ≡ Some xs → (x : A) × (rest : List A) × (f d ≡ Some x) × (each f ds ≡ Some rest) × (x ∷ rest ≡ xs)
each-cons f d ds xs e =
    let (x, here, more) = and_then_some (λ x. option_map (λ ys. x ∷ ys) (each f ds)) (f d) xs e in
    let (rest, there, same) = map_some (λ ys. x ∷ ys) (each f ds) xs more in
    (x, rest, here, there, same)

-- as many things are read as there are values
pub length-each : {A : Type 0} (f : Data → Option A) (ds : List Data) (xs : List A) → each f ds ≡ Some xs → length xs ≡ length ds
length-each f [] xs e = let same : [] ≡ xs = cc in sym (ap length same)
length-each f (d ∷ ds) xs e =
    let (x, rest, here, there, same) = each-cons f d ds xs e in
    sym (ap length same) ∙ ap suc (length-each f ds rest there)
