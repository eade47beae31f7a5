-- Values that stand for the boxes of a specification, one by one.
use Rattle.std.proofs.Common.{◌≡◌, ℕ, ◌+◌, ◌≤◌, List, [], ◌∷◌, ◌++◌, map, length, take, Some, refl, ap, ◌∙◌, add-one}
use Rattle.std.specs.List.{slice_get}
use Rattle.std.proofs.lemmas.List.{map_push, take_all}
use Rattle.serde_json.specs.View.{view}
use Rattle.serde_json.specs.declared.value.Value.{Value}
use Rattle.las_base.specs.declared.Size.{Size}
use Rattle.las_base.proofs.Lists.{taken_next}
use Rattle.spec_codec.specs.Texts.{size_value}

-- the values stand for the first n boxes, and one more for the next
pub box_put : (boxes : List Size) (n : ℕ) (box : Size) (old new : List Value) (value : Value) → map view old ≡ map size_value (take n boxes) → slice_get boxes n ≡ Some box → view value ≡ size_value box → new ≡ old ++ value ∷ []
    → map view new ≡ map size_value (take (n + 1) boxes)
box_put boxes n box old new value before at stands put =
    rw (add-one, put, taken_next boxes n box at, map_push view old value, map_push size_value (take n boxes) box, before, stands) refl

-- the values stand for all
pub boxes_put : (boxes : List Size) (n : ℕ) (values : List Value) → map view values ≡ map size_value (take n boxes) → length boxes ≤ n → map view values ≡ map size_value boxes
boxes_put boxes n values before all = before ∙ ap (map size_value) (take_all n boxes all)
