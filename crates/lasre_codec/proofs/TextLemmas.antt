-- What is written is read back: the text.
use Rattle.std.proofs.Common.{ℕ, ◌+◌, ◌≤◌, Bool, true, false, cond, List, [], ◌∷◌, map, length, refl, ap, ◌∙◌, arith}
use Rattle.std.specs.Prelude.{codes}
use Rattle.json.proofs.Printed.Utf8.{IsUtf8-are_ascii}
use Rattle.serde_json.specs.Data.{Data, depth, members_depth}
use Rattle.serde_json.specs.Read.{max_depth}
use Rattle.las_base.specs.declared.Cell.{Cell}
use Rattle.las_base.specs.declared.Size.{Size}
use Rattle.las_base.specs.Cells.{numbers_from}
use Rattle.spec_codec.specs.Texts.{array_of}
use Rattle.las_spec.proofs.Lists.{all_of_each}
use Rattle.spec_codec.proofs.Shapes.{limits_near}
use Rattle.json_shape.specs.Plain.{IsPlain}
use Rattle.json_shape.proofs.Printed.{printed_back}
use Rattle.spec_codec.proofs.SpecValues.{items_plain, items_shallow, whole_plain, options_plain, ports_plain, words_plain, options_shallow, ports_shallow, words_shallow}
use Rattle.lasre_codec.specs.declared.member.Member.{Member}
use Rattle.lasre_codec.specs.declared.member.Member.TheVariants.{ColorI, ColorJ, ColorKM, ColorKP, CorrIJ, CorrIK, CorrJI, CorrJK, CorrKI, CorrKJ, ExistI, ExistJ, ExistK, NodeY, MaxI, MaxJ, MaxK, Optional, Ports, Stabilizers}
use Rattle.lasre_codec.specs.Members.{members, is_stack}
use Rattle.lasre_codec.specs.Documents.{Lasre, IsLasre, lasre_by, lasre_of}
use Rattle.lasre_codec.specs.Texts.{bit_value, grid_value, bit_of, bits_value, member_value, members_by, lasre_value, TextIsReadBack}
use Rattle.lasre_codec.proofs.ValueLemmas.{value_back}

array_plain : {B : Type 0} (g : B → Data) → ((x : B) → IsPlain (g x)) → (xs : List B) → IsPlain (array_of (map g xs))
array_plain g one xs = items_plain (λ _. true) g (λ x _. one x) xs (all_of_each (λ _. true) (λ _. refl) xs)

bit_plain : (b : Bool) → IsPlain (bit_value b)
bit_plain true = omega arith
bit_plain false = omega arith

bit_shallow : (b : Bool) → depth (bit_value b) ≤ 0
bit_shallow true = omega arith
bit_shallow false = omega arith

grid_plain : (s : Size) (bit : Cell → Bool) → IsPlain (grid_value s bit)
grid_plain s bit =
    array_plain (λ i. array_of (map (λ j. array_of (map (λ k. bit_value (bit (record { i = i; j = j; k = k }))) (numbers_from 0 s.k))) (numbers_from 0 s.j)))
    (λ i. array_plain (λ j. array_of (map (λ k. bit_value (bit (record { i = i; j = j; k = k }))) (numbers_from 0 s.k))) (λ j. array_plain (λ k. bit_value (bit (record { i = i; j = j; k = k }))) (λ k. bit_plain (bit (record { i = i; j = j; k = k }))) (numbers_from 0 s.k)) (numbers_from 0 s.j))
    (numbers_from 0 s.i)

array_shallow : {B : Type 0} (most : ℕ) (g : B → Data) → ((x : B) → depth (g x) ≤ most) → (xs : List B) → depth (array_of (map g xs)) ≤ most + 1
array_shallow most g one xs = omega (arith, items_shallow most g one xs)

grid_shallow : (s : Size) (bit : Cell → Bool) → depth (grid_value s bit) ≤ 3
grid_shallow s bit =
    array_shallow 2 (λ i. array_of (map (λ j. array_of (map (λ k. bit_value (bit (record { i = i; j = j; k = k }))) (numbers_from 0 s.k))) (numbers_from 0 s.j)))
    (λ i. array_shallow 1 (λ j. array_of (map (λ k. bit_value (bit (record { i = i; j = j; k = k }))) (numbers_from 0 s.k))) (λ j. array_shallow 0 (λ k. bit_value (bit (record { i = i; j = j; k = k }))) (λ k. bit_shallow (bit (record { i = i; j = j; k = k }))) (numbers_from 0 s.k)) (numbers_from 0 s.j))
    (numbers_from 0 s.i)

bits_plain : (l : Lasre) (m : Member) → IsPlain (bits_value l m)
bits_plain l m = by_stack (is_stack m)
  where
    by_stack : (b : Bool) → IsPlain (cond b (array_of (map (λ f. grid_value l.task.size (bit_of l m f)) (numbers_from 0 (length l.task.flows)))) (grid_value l.task.size (bit_of l m 0)))
    by_stack true = array_plain (λ f. grid_value l.task.size (bit_of l m f)) (λ f. grid_plain l.task.size (bit_of l m f)) (numbers_from 0 (length l.task.flows))
    by_stack false = grid_plain l.task.size (bit_of l m 0)

bits_shallow : (l : Lasre) (m : Member) → depth (bits_value l m) ≤ 4
bits_shallow l m = by_stack (is_stack m)
  where
    by_stack : (b : Bool) → depth (cond b (array_of (map (λ f. grid_value l.task.size (bit_of l m f)) (numbers_from 0 (length l.task.flows)))) (grid_value l.task.size (bit_of l m 0))) ≤ 4
    by_stack true = array_shallow 3 (λ f. grid_value l.task.size (bit_of l m f)) (λ f. grid_shallow l.task.size (bit_of l m f)) (numbers_from 0 (length l.task.flows))
    by_stack false = omega (arith, grid_shallow l.task.size (bit_of l m 0))

-- ---- members

member_plain : (l : Lasre) → IsLasre l → (m : Member) → IsPlain (member_value l m)
member_plain l h MaxI = whole_plain l.task.size.i (limits_near l.task.size h.task.size).0
member_plain l h MaxJ = whole_plain l.task.size.j (limits_near l.task.size h.task.size).1
member_plain l h MaxK = whole_plain l.task.size.k (limits_near l.task.size h.task.size).2
member_plain l h Optional = options_plain l.task h.task
member_plain l h Ports = ports_plain l.task h.task
member_plain l h Stabilizers = words_plain l.task.flows
member_plain l h ColorI = bits_plain l ColorI
member_plain l h ColorJ = bits_plain l ColorJ
member_plain l h ColorKM = bits_plain l ColorKM
member_plain l h ColorKP = bits_plain l ColorKP
member_plain l h CorrIJ = bits_plain l CorrIJ
member_plain l h CorrIK = bits_plain l CorrIK
member_plain l h CorrJI = bits_plain l CorrJI
member_plain l h CorrJK = bits_plain l CorrJK
member_plain l h CorrKI = bits_plain l CorrKI
member_plain l h CorrKJ = bits_plain l CorrKJ
member_plain l h ExistI = bits_plain l ExistI
member_plain l h ExistJ = bits_plain l ExistJ
member_plain l h ExistK = bits_plain l ExistK
member_plain l h NodeY = bits_plain l NodeY

member_shallow : (l : Lasre) (m : Member) → depth (member_value l m) ≤ 4
member_shallow l MaxI = omega arith
member_shallow l MaxJ = omega arith
member_shallow l MaxK = omega arith
member_shallow l Optional = omega (arith, options_shallow l.task.forbidden)
member_shallow l Ports = omega (arith, ports_shallow l.task.ports)
member_shallow l Stabilizers = omega (arith, words_shallow l.task.flows)
member_shallow l ColorI = bits_shallow l ColorI
member_shallow l ColorJ = bits_shallow l ColorJ
member_shallow l ColorKM = bits_shallow l ColorKM
member_shallow l ColorKP = bits_shallow l ColorKP
member_shallow l CorrIJ = bits_shallow l CorrIJ
member_shallow l CorrIK = bits_shallow l CorrIK
member_shallow l CorrJI = bits_shallow l CorrJI
member_shallow l CorrJK = bits_shallow l CorrJK
member_shallow l CorrKI = bits_shallow l CorrKI
member_shallow l CorrKJ = bits_shallow l CorrKJ
member_shallow l ExistI = bits_shallow l ExistI
member_shallow l ExistJ = bits_shallow l ExistJ
member_shallow l ExistK = bits_shallow l ExistK
member_shallow l NodeY = bits_shallow l NodeY

pub lasre_plain : (l : Lasre) → IsLasre l → IsPlain (lasre_value l)
unfolding lasre_value
lasre_plain l h =
    (IsUtf8-are_ascii (codes "ColorI") refl, refl, member_plain l h ColorI, (IsUtf8-are_ascii (codes "ColorJ") refl, refl, member_plain l h ColorJ, (IsUtf8-are_ascii (codes "ColorKM") refl, refl, member_plain l h ColorKM, (IsUtf8-are_ascii (codes "ColorKP") refl, refl, member_plain l h ColorKP, (IsUtf8-are_ascii (codes "CorrIJ") refl, refl, member_plain l h CorrIJ, (IsUtf8-are_ascii (codes "CorrIK") refl, refl, member_plain l h CorrIK, (IsUtf8-are_ascii (codes "CorrJI") refl, refl, member_plain l h CorrJI, (IsUtf8-are_ascii (codes "CorrJK") refl, refl, member_plain l h CorrJK, (IsUtf8-are_ascii (codes "CorrKI") refl, refl, member_plain l h CorrKI, (IsUtf8-are_ascii (codes "CorrKJ") refl, refl, member_plain l h CorrKJ, (IsUtf8-are_ascii (codes "ExistI") refl, refl, member_plain l h ExistI, (IsUtf8-are_ascii (codes "ExistJ") refl, refl, member_plain l h ExistJ, (IsUtf8-are_ascii (codes "ExistK") refl, refl, member_plain l h ExistK, (IsUtf8-are_ascii (codes "NodeY") refl, refl, member_plain l h NodeY, (IsUtf8-are_ascii (codes "max_i") refl, refl, member_plain l h MaxI, (IsUtf8-are_ascii (codes "max_j") refl, refl, member_plain l h MaxJ, (IsUtf8-are_ascii (codes "max_k") refl, refl, member_plain l h MaxK, (IsUtf8-are_ascii (codes "optional") refl, refl, member_plain l h Optional, (IsUtf8-are_ascii (codes "ports") refl, refl, member_plain l h Ports, (IsUtf8-are_ascii (codes "stabilizers") refl, refl, member_plain l h Stabilizers, tt))))))))))))))))))))

members_shallow : (l : Lasre) (ms : List Member) → members_depth (members_by l ms) ≤ 4
members_shallow l [] = omega arith
members_shallow l (m ∷ ms) = omega (arith, member_shallow l m, members_shallow l ms)

lasre_shallow : (l : Lasre) → depth (lasre_value l) ≤ max_depth
unfolding lasre_value
lasre_shallow l = omega (arith, members_shallow l members)

pub text_is_read_back : TextIsReadBack
unfolding lasre_of
text_is_read_back l h = ap lasre_by (printed_back (lasre_value l) (lasre_plain l h) (lasre_shallow l)) ∙ value_back l h
