-- The items of an array, as values and as data.
use Rattle.std.proofs.Common.{◌≡◌, List, [], ◌∷◌, map, Bool, true, false, Some, None, refl, sym, ap, ◌∙◌}
use Rattle.std.specs.Prelude.{option_map, option_and_then}
use Rattle.std.specs.List.{list_all, All}
use Rattle.std.proofs.lemmas.List.Folds.{list_all-map}
use Rattle.std.proofs.lemmas.List.Sums.{AllPass-from_list_all, list_all-from_AllPass}
use Rattle.serde_json.specs.Data.{Data}
use Rattle.serde_json.specs.Find.{as_array}
use Rattle.serde_json.specs.View.{view, items_of}
use Rattle.serde_json.specs.declared.value.Value.{Value}
use Rattle.json_shape.specs.Arrays.{list_of, array_items, is_object, if_objects, objects}

pub list_of-items_of : (ds : List Data) → list_of (items_of ds) ≡ ds
list_of-items_of [] = refl
list_of-items_of (d ∷ ds) = ap (λ es. d ∷ es) (list_of-items_of ds)

pub array_items-some : (d : Data) (vs ws : List Value) → Some (items_of (map view vs)) ≡ as_array d → ws ≡ vs → Some (map view ws) ≡ array_items d
array_items-some d vs ws e same = ap (λ us. Some (map view us)) same ∙ sym (ap Some (list_of-items_of (map view vs))) ∙ ap (option_map list_of) e

pub all-so : (vs : List Value) → All (λ v. is_object (view v) ≡ true) vs → list_all is_object (map view vs) ≡ true
all-so vs h = list_all-map is_object view vs ∙ list_all-from_AllPass (λ v. is_object (view v)) vs h

pub all-not : (vs : List Value) → (All (λ v. is_object (view v) ≡ true) vs → false ≡ true) → list_all is_object (map view vs) ≡ false
all-not vs h = by_test (list_all is_object (map view vs)) (λ t. h (AllPass-from_list_all (λ v. is_object (view v)) vs (sym (list_all-map is_object view vs) ∙ t)))
  where
    by_test : (b : Bool) → (b ≡ true → false ≡ true) → b ≡ false
    by_test true k = sym (k refl)
    by_test false k = refl

-- the objects of an array, by the test of its items
pub objects-some : (d : Data) (vs : List Value) → Some (map view vs) ≡ array_items d → list_all is_object (map view vs) ≡ true → Some (map view vs) ≡ objects d
objects-some d vs e t = let here : if_objects (map view vs) ≡ Some (map view vs) = rw t refl in sym here ∙ ap (option_and_then if_objects) e

pub objects-none : (d : Data) (vs : List Value) → Some (map view vs) ≡ array_items d → list_all is_object (map view vs) ≡ false → None ≡ objects d
objects-none d vs e t = let here : if_objects (map view vs) ≡ None = rw t refl in sym here ∙ ap (option_and_then if_objects) e
