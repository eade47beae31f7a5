-- A specification's value has a text of its own, and nests three deep.
use Rattle.std.proofs.Common.{◌≡◌, ℕ, ◌≤◌, Bool, true, List, [], ◌∷◌, map, IsUtf8, refl, arith}
use Rattle.std.specs.Prelude.{codes}
use Rattle.std.specs.List.{list_all}
use Rattle.std.proofs.lemmas.Bool.{and_parts}
use Rattle.std.proofs.lemmas.Str.{IsUtf8-from_ascii}
use Rattle.json.proofs.Printed.Utf8.{IsUtf8-are_ascii}
use Rattle.serde_json.specs.Data.{Data, depth, items_depth}
use Rattle.serde_json.specs.Read.{max_depth}
use Rattle.serde_json.specs.View.{items_of}
use Rattle.las_base.specs.declared.Axis.{Axis}
use Rattle.las_base.specs.declared.Axis.TheVariants.{I, J, K}
use Rattle.las_base.specs.declared.Way.{Way}
use Rattle.las_base.specs.declared.Way.TheVariants.{Plus, Minus}
use Rattle.las_base.specs.declared.Pauli.{Pauli}
use Rattle.las_base.specs.declared.Cell.{Cell}
use Rattle.las_base.specs.declared.Size.{Size}
use Rattle.las_base.specs.declared.Port.{Port}
use Rattle.las_base.specs.Cells.{holds}
use Rattle.las_base.specs.Jobs.{Task, IsTask, within_limits, port_fits}
use Rattle.las_spec.specs.Briefs.{Brief, IsBrief}
use Rattle.las_spec.specs.Texts.{letter_of}
use Rattle.spec_codec.specs.Texts.{array_of, whole_value, cell_value, size_value, axis_word, direction_word, port_value, word_value, options_value, spec_value}
use Rattle.las_spec.proofs.Lists.{all_of_each}
use Rattle.json_shape.specs.Plain.{IsPlain, AreItemsPlain}
use Rattle.spec_codec.proofs.Shapes.{AreNear, limits_near, held_near, port_near, letters_are_ascii}
use Rattle.las_spec.proofs.Lawful.{boxes_within}

pub items_plain : {B : Type 0} (test : B → Bool) (g : B → Data) → ((x : B) → test x ≡ true → IsPlain (g x)) → (xs : List B) → list_all test xs ≡ true → AreItemsPlain (items_of (map g xs))
items_plain test g one [] e = tt
items_plain test g one (x ∷ xs) e = let p = and_parts (test x) (list_all test xs) e in (one x p.0, items_plain test g one xs p.1)

pub items_shallow : {B : Type 0} (most : ℕ) (g : B → Data) → ((x : B) → depth (g x) ≤ most) → (xs : List B) → items_depth (items_of (map g xs)) ≤ most
items_shallow most g one [] = omega arith
items_shallow most g one (x ∷ xs) = omega (arith, one x, items_shallow most g one xs)

pub whole_plain : (n : ℕ) → n ≤ 32 → IsPlain (whole_value n)
whole_plain n h = omega arith

three_plain : (i j k : ℕ) → AreNear i j k → IsPlain (array_of (whole_value i ∷ whole_value j ∷ whole_value k ∷ []))
three_plain i j k h = (whole_plain i h.0, (whole_plain j h.1, (whole_plain k h.2, tt)))

axis_utf8 : (a : Axis) → IsUtf8 (axis_word a)
axis_utf8 I = IsUtf8-are_ascii _ refl
axis_utf8 J = IsUtf8-are_ascii _ refl
axis_utf8 K = IsUtf8-are_ascii _ refl

direction_utf8 : (w : Way) (a : Axis) → IsUtf8 (direction_word w a)
direction_utf8 Plus I = IsUtf8-are_ascii _ refl
direction_utf8 Plus J = IsUtf8-are_ascii _ refl
direction_utf8 Plus K = IsUtf8-are_ascii _ refl
direction_utf8 Minus I = IsUtf8-are_ascii _ refl
direction_utf8 Minus J = IsUtf8-are_ascii _ refl
direction_utf8 Minus K = IsUtf8-are_ascii _ refl

port_plain : (s : Size) (p : Port) → AreNear s.i s.j s.k → port_fits s p ≡ true → IsPlain (port_value p)
port_plain s p near e = (
  IsUtf8-are_ascii (codes "direction") refl,
  refl,
  direction_utf8 p.way p.axis,
  (IsUtf8-are_ascii (codes "location") refl, refl, three_plain p.place.i p.place.j p.place.k (port_near s p near e), (IsUtf8-are_ascii (codes "z_basis_direction") refl, refl, axis_utf8 p.z_axis, tt)),
)

word_plain : (word : List Pauli) → IsPlain (word_value word)
word_plain word = IsUtf8-from_ascii (map letter_of word) (letters_are_ascii word)

-- ---- the members of a job

pub options_plain : (t : Task) → IsTask t → IsPlain (options_value t.forbidden)
options_plain t h =
    let cells : IsPlain (array_of (map cell_value t.forbidden)) = items_plain (holds t.size) cell_value (λ c e. three_plain c.i c.j c.k (held_near t.size c (limits_near t.size h.size) e)) t.forbidden h.forbidden in
    (IsUtf8-are_ascii (codes "forbidden_cubes") refl, refl, cells, tt)

pub ports_plain : (t : Task) → IsTask t → IsPlain (array_of (map port_value t.ports))
ports_plain t h = items_plain (port_fits t.size) port_value (λ p e. port_plain t.size p (limits_near t.size h.size) e) t.ports h.places

pub words_plain : (words : List (List Pauli)) → IsPlain (array_of (map word_value words))
words_plain words = items_plain (λ _. true) word_value (λ word _. word_plain word) words (all_of_each (λ _. true) (λ _. refl) words)

pub options_shallow : (cs : List Cell) → depth (options_value cs) ≤ 3
options_shallow cs = let cells = items_shallow 1 cell_value (λ c. omega arith) cs in omega (arith, cells)

pub ports_shallow : (ps : List Port) → depth (array_of (map port_value ps)) ≤ 3
ports_shallow ps = let ports = items_shallow 2 port_value (λ p. omega arith) ps in omega (arith, ports)

pub words_shallow : (words : List (List Pauli)) → depth (array_of (map word_value words)) ≤ 1
words_shallow words = let texts = items_shallow 0 word_value (λ w. omega arith) words in omega (arith, texts)

-- ---- the whole

pub spec_plain : (b : Brief) → IsBrief b → IsPlain (spec_value b)
unfolding spec_value
spec_plain b h =
    let near = limits_near b.task.size h.task.size in
    let boxes : IsPlain (array_of (map size_value b.boxes)) = items_plain within_limits size_value (λ s e. three_plain s.i s.j s.k (limits_near s e)) b.boxes (boxes_within b h) in (
      IsUtf8-are_ascii (codes "boxes") refl,
      refl,
      boxes,
      (
        IsUtf8-are_ascii (codes "max_i") refl,
        refl,
        whole_plain b.task.size.i near.0,
        (
          IsUtf8-are_ascii (codes "max_j") refl,
          refl,
          whole_plain b.task.size.j near.1,
          (
            IsUtf8-are_ascii (codes "max_k") refl,
            refl,
            whole_plain b.task.size.k near.2,
            (
              IsUtf8-are_ascii (codes "optional") refl,
              refl,
              options_plain b.task h.task,
              (IsUtf8-are_ascii (codes "ports") refl, refl, ports_plain b.task h.task, (IsUtf8-are_ascii (codes "stabilizers") refl, refl, words_plain b.task.flows, tt)),
            ),
          ),
        ),
      ),
    )

pub spec_shallow : (b : Brief) → depth (spec_value b) ≤ max_depth
unfolding spec_value
spec_shallow b =
    let boxes = items_shallow 1 size_value (λ s. omega arith) b.boxes in
    omega (arith, boxes, options_shallow b.task.forbidden, ports_shallow b.task.ports, words_shallow b.task.flows)
