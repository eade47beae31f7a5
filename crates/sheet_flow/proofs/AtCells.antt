-- What the rules of sheets say of the labels at one cell.
use Rattle.std.proofs.Common.{◌≡◌, ℕ, zero, suc, ◌+◌, Bool, true, false, cond, ◌&&◌, ◌||◌, not, nat_eq, List, [], ◌∷◌, map, Some, None, refl, sym, ap, ap₂, ◌∙◌, arith}
use Rattle.std.specs.List.{list_all, list_any, filter, find, zip, slice_get, AllByRecursion}
use Rattle.std.proofs.lemmas.Bool.{and_parts, and_from, or_parts, not-true, eqb-true}
use Rattle.las_base.specs.declared.Axis.{Axis}
use Rattle.las_base.specs.declared.Axis.TheVariants.{I, J, K}
use Rattle.las_base.specs.declared.Kind.{Kind}
use Rattle.las_base.specs.declared.Pauli.{Pauli}
use Rattle.las_base.specs.declared.Cell.{Cell}
use Rattle.las_base.specs.declared.Port.{Port}
use Rattle.las_base.specs.Axes.{same_axis, same_kind, same_pauli, has_part, pauli, axes, next_axis, third_axis}
use Rattle.las_base.specs.Cells.{same_cell}
use Rattle.las_base.specs.Jobs.{Task, is_port_place}
use Rattle.grid_box.specs.Drawings.{Drawing, is_y}
use Rattle.grid_box.specs.Legs.{end_of_way, PipeEnd, pipe_ends, legs, leg_of, kind_on, kind_at, kinds_on, along, has_leg_along}
use Rattle.grid_box.specs.PipeRules.{◌==>◌, same_end, is_port_leg, has_port_pipe, port_shows_z, is_bare, is_only, all_kind, all_one_kind, has_no_three_axes, colours_match, y_cube_has_one_k_leg}
use Rattle.grid_box.specs.Sheets.{Sheet, spans, agree, spells, ports_spell, sheets_join_at, y_sheets_match}
use Rattle.zx_graph.specs.declared.nodes.NodeSort.{NodeSort}
use Rattle.zx_graph.specs.Graphs.{sort_at, spider_kind, kind_on_free, first_index}
use Rattle.zx_flow.specs.Flows.{is_port, is_spider, is_y_end, is_kept_by}
use Rattle.sheet_flow.specs.FromSheets.{pauli_at}
use Rattle.sheet_flow.specs.Joints.{Shows, paulis, sheets_join_on}
use Rattle.grid_box.proofs.ScanLemmas.{same_axis-is}
use Rattle.sheet_flow.proofs.JointLemmas.{joint_law, parts_are, same_pauli-parts}
use Rattle.zx_graph.proofs.NumberLemmas.{at_all}
use Rattle.sheet_flow.proofs.NodeLabels.{pauli_chosen}

pub same_kind-is : (j k : Kind) → same_kind j k ≡ true → j ≡ k
same_kind-is Kind.X Kind.X e = refl
same_kind-is Kind.Z Kind.Z e = refl
same_kind-is Kind.X Kind.Z e = cc
same_kind-is Kind.Z Kind.X e = cc

pub same_kind-refl : (k : Kind) → same_kind k k ≡ true
same_kind-refl Kind.X = refl
same_kind-refl Kind.Z = refl

pub at_axis : (test : Axis → Bool) → list_all test axes ≡ true → (a : Axis) → test a ≡ true
at_axis test e a = go a (and_parts (test I) (test J && (test K && true)) e)
  where
    go : (a : Axis) → (test I ≡ true) × ((test J && (test K && true)) ≡ true) → test a ≡ true
    go I p = p.0
    go J p = (and_parts (test J) (test K && true) p.1).0
    go K p = (and_parts (test K) true (and_parts (test J) (test K && true) p.1).1).0

-- where there are not legs on all axes, there is a first axis with none
pub first_free : (h : Axis → Bool) → not (list_all h axes) ≡ true → (a : Axis) × (find (λ b. not (h b)) axes ≡ Some a) × (h a ≡ false)
first_free h e = at (h I) (h J) (h K) refl refl refl e
  where
    at : (x y z : Bool) → h I ≡ x → h J ≡ y → h K ≡ z → not (x && (y && (z && true))) ≡ true → (a : Axis) × (cond (not x) (Some I) (cond (not y) (Some J) (cond (not z) (Some K) None)) ≡ Some a) × (h a ≡ false)
    at false y z p q r n = (I, refl, p)
    at true false z p q r n = (J, refl, q)
    at true true false p q r n = (K, refl, r)
    at true true true p q r n = cc

-- legs of which none is along an axis, with one kind on it
all_shows : (a : Axis) (k : Kind) (ls : List PipeEnd) → list_any (along a) (map leg_of ls) ≡ false → all_kind k (kinds_on a (map leg_of ls)) ≡ true → AllByRecursion (Shows a k) ls
all_shows a k [] n e = tt
all_shows a k (s ∷ ls) n e =
    let p = or_parts (along a (leg_of s)) (list_any (along a) (map leg_of ls)) n in
    let q = and_parts (same_kind k (kind_on (leg_of s) a)) (all_kind k (kinds_on a (map leg_of ls))) (sym (ap (λ b. all_kind k (map (λ l. kind_on l a) (cond (not b) (leg_of s ∷ filter (λ l. not (along a l)) (map leg_of ls)) (filter (λ l. not (along a l)) (map leg_of ls))))) p.0) ∙ e) in
    (record { beside = p.0; kind = sym (same_kind-is k (kind_on (leg_of s) a) q.0) }, all_shows a k ls p.1 q.1)

-- the first leg's kind on an axis with no leg is the kind of all
pub one_kind : (a : Axis) (s : PipeEnd) (ls : List PipeEnd) → list_any (along a) (map leg_of (s ∷ ls)) ≡ false → all_one_kind (kinds_on a (map leg_of (s ∷ ls))) ≡ true → AllByRecursion (Shows a (kind_on (leg_of s) a)) (s ∷ ls)
one_kind a s ls n e =
    let p = or_parts (along a (leg_of s)) (list_any (along a) (map leg_of ls)) n in
    let rest = sym (ap (λ b. all_one_kind (map (λ l. kind_on l a) (cond (not b) (leg_of s ∷ filter (λ l. not (along a l)) (map leg_of ls)) (filter (λ l. not (along a l)) (map leg_of ls))))) p.0) ∙ e in
    (record { beside = p.0; kind = refl }, all_shows a (kind_on (leg_of s) a) ls p.1 rest)

-- the legs of a spider, by the sheets
spider_here : (ss : List Sheet) (k : Kind) (ls : List PipeEnd) → not (is_bare (map leg_of ls)) ≡ true → not (list_all (has_leg_along (map leg_of ls)) axes) ≡ true → list_all (λ b. all_one_kind (kinds_on b (map leg_of ls))) axes ≡ true → list_all (λ b. has_leg_along (map leg_of ls) b || sheets_join_on ss b ls) axes ≡ true → (same_kind (spider_kind (map leg_of ls)) k ==> is_kept_by k (paulis ss ls)) ≡ true
spider_here ss k [] bare flat kinds joins = cc
spider_here ss k (s ∷ ls) bare flat kinds joins = go (first_free (has_leg_along (map leg_of (s ∷ ls))) flat)
  where
    when : (j : Kind) → is_kept_by j (paulis ss (s ∷ ls)) ≡ true → (same_kind j k ==> is_kept_by k (paulis ss (s ∷ ls))) ≡ true
    when j kept = at (same_kind j k) refl
      where
        at : (b : Bool) → same_kind j k ≡ b → (b ==> is_kept_by k (paulis ss (s ∷ ls))) ≡ true
        at true d = ap (λ i. is_kept_by i (paulis ss (s ∷ ls))) (sym (same_kind-is j k d)) ∙ kept
        at false d = refl

    go : (a : Axis) × (find (λ b. not (has_leg_along (map leg_of (s ∷ ls)) b)) axes ≡ Some a) × (has_leg_along (map leg_of (s ∷ ls)) a ≡ false) → (same_kind (spider_kind (map leg_of (s ∷ ls))) k ==> is_kept_by k (paulis ss (s ∷ ls))) ≡ true
    go (a, e, free) =
        let kind_is : spider_kind (map leg_of (s ∷ ls)) ≡ kind_on (leg_of s) a = ap (kind_on_free (leg_of s)) e in
        let joined : sheets_join_on ss a (s ∷ ls) ≡ true = sym (ap (λ b. b || sheets_join_on ss a (s ∷ ls)) free) ∙ at_axis (λ b. has_leg_along (map leg_of (s ∷ ls)) b || sheets_join_on ss b (s ∷ ls)) joins a in
        let shows = one_kind a s ls free (at_axis (λ b. all_one_kind (kinds_on b (map leg_of (s ∷ ls)))) kinds a) in
        let kept : is_kept_by (kind_on (leg_of s) a) (paulis ss (s ∷ ls)) ≡ true = sym (joint_law ss (s ∷ ls) a (kind_on (leg_of s) a) shows) ∙ joined in
        ap (λ j. same_kind j k ==> is_kept_by k (paulis ss (s ∷ ls))) kind_is ∙ when (kind_on (leg_of s) a) kept

-- a spider's labels are kept
pub spider_passes : (t : Task) (d : Drawing) (ss : List Sheet) (k : Kind) (c : Cell) → not (is_bare (legs d c)) ≡ true → has_no_three_axes t d c ≡ true → colours_match t d c ≡ true → sheets_join_at t d ss c ≡ true → (is_spider k (sort_at t d c) ==> is_kept_by k (paulis ss (pipe_ends d c))) ≡ true
spider_passes t d ss k c bare flat kinds joins = at (is_port_place t c) (is_y d c) refl joins
  where
    at : (p y : Bool) → is_y d c ≡ is_y d c → (p || (y || list_all (λ b. has_leg_along (legs d c) b || sheets_join_on ss b (pipe_ends d c)) axes)) ≡ true → (is_spider k (cond p (NodeSort.Port (first_index (λ p. same_cell p.place c) t.ports)) (cond y NodeSort.YEnd (NodeSort.Spider (spider_kind (legs d c))))) ==> is_kept_by k (paulis ss (pipe_ends d c))) ≡ true
    at true y r j = refl
    at false true r j = refl
    at false false r j = spider_here ss k (pipe_ends d c) bare flat kinds j

-- a Y end's label has both parts or none
y_here : (ss : List Sheet) (ls : List PipeEnd) → is_only (along K) (map leg_of ls) ≡ true → list_all (λ s. agree (spans ss s.pipe I) (spans ss s.pipe J)) ls ≡ true → list_all (λ p. agree (has_part Kind.X p) (has_part Kind.Z p)) (paulis ss ls) ≡ true
y_here ss [] only both = cc
y_here ss (s ∷ []) only both =
    let axis : s.pipe.axis ≡ K = same_axis-is s.pipe.axis K only in
    let same : agree (spans ss s.pipe I) (spans ss s.pipe J) ≡ true = (and_parts (agree (spans ss s.pipe I) (spans ss s.pipe J)) true both).0 in
    let is : pauli_at ss s.pipe s.which ≡ pauli (cond (same_kind (kind_at s.pipe s.which) Kind.X) (spans ss s.pipe I) (spans ss s.pipe J)) (cond (same_kind (kind_at s.pipe s.which) Kind.Z) (spans ss s.pipe I) (spans ss s.pipe J)) = pauli_chosen ss s.pipe s.which ∙ ap (λ a. pauli (cond (same_kind (kind_at s.pipe s.which) Kind.X) (spans ss s.pipe (next_axis a)) (spans ss s.pipe (next_axis (next_axis a)))) (cond (same_kind (kind_at s.pipe s.which) Kind.Z) (spans ss s.pipe (next_axis a)) (spans ss s.pipe (next_axis (next_axis a))))) axis in
    and_from (agree (has_part Kind.X (pauli_at ss s.pipe s.which)) (has_part Kind.Z (pauli_at ss s.pipe s.which))) true (ap (λ p. agree (has_part Kind.X p) (has_part Kind.Z p)) is ∙ at (kind_at s.pipe s.which) (spans ss s.pipe I) (spans ss s.pipe J) same) refl
  where
    at : (k : Kind) (x y : Bool) → agree x y ≡ true → agree (has_part Kind.X (pauli (cond (same_kind k Kind.X) x y) (cond (same_kind k Kind.Z) x y))) (has_part Kind.Z (pauli (cond (same_kind k Kind.X) x y) (cond (same_kind k Kind.Z) x y))) ≡ true
    at Kind.X true true e = refl
    at Kind.X true false e = cc
    at Kind.X false true e = cc
    at Kind.X false false e = refl
    at Kind.Z true true e = refl
    at Kind.Z true false e = cc
    at Kind.Z false true e = cc
    at Kind.Z false false e = refl
y_here ss (s ∷ r ∷ rs) only both = cc

pub y_passes : (t : Task) (d : Drawing) (ss : List Sheet) (c : Cell) → y_cube_has_one_k_leg t d c ≡ true → y_sheets_match t d ss c ≡ true → (is_y_end (sort_at t d c) ==> list_all (λ p. agree (has_part Kind.X p) (has_part Kind.Z p)) (paulis ss (pipe_ends d c))) ≡ true
y_passes t d ss c ends both = at (is_port_place t c) (is_y d c) ends both
  where
    at : (p y : Bool) → (y ==> is_only (along K) (legs d c)) ≡ true → (y ==> list_all (λ s. agree (spans ss s.pipe I) (spans ss s.pipe J)) (pipe_ends d c)) ≡ true → (is_y_end (cond p (NodeSort.Port (first_index (λ p. same_cell p.place c) t.ports)) (cond y NodeSort.YEnd (NodeSort.Spider (spider_kind (legs d c))))) ==> list_all (λ p. agree (has_part Kind.X p) (has_part Kind.Z p)) (paulis ss (pipe_ends d c))) ≡ true
    at true y e b = refl
    at false true e b = y_here ss (pipe_ends d c) e b
    at false false e b = refl

pub place_found : {X : Type 0} (test : X → Bool) (xs : List X) → list_any test xs ≡ true → (x : X) × (slice_get xs (first_index test xs) ≡ Some x) × (test x ≡ true)
place_found test [] e = cc
place_found {X = X} test (x ∷ xs) e = at (test x) refl e (place_found test xs)
  where
    shifted : (y : X) → slice_get xs (first_index test xs) ≡ Some y → slice_get (x ∷ xs) (first_index test xs + 1) ≡ Some y
    shifted y g = let n : first_index test xs + 1 ≡ suc (first_index test xs) = omega arith in ap (slice_get (x ∷ xs)) n ∙ g

    at : (b : Bool) → test x ≡ b → (b || list_any test xs) ≡ true → (list_any test xs ≡ true → (y : X) × (slice_get xs (first_index test xs) ≡ Some y) × (test y ≡ true)) → (y : X) × (slice_get (x ∷ xs) (cond b 0 (first_index test xs + 1)) ≡ Some y) × (test y ≡ true)
    at true d e ih = (x, refl, d)
    at false d e ih = let r = ih e in (r.0, shifted r.0 r.1, r.2)

pub zip_at : {X Y : Type 0} (xs : List X) (ys : List Y) (n : ℕ) (x : X) (y : Y) → slice_get xs n ≡ Some x → slice_get ys n ≡ Some y → slice_get (zip xs ys) n ≡ Some (x, y)
zip_at [] ys n x y d e = cc
zip_at (a ∷ us) [] n x y d e = cc
zip_at (a ∷ us) (b ∷ bs) zero x y d e =
    let p : a ≡ x = cc in
    let q : b ≡ y = cc in
    ap₂ (λ u v. Some (u, v)) p q
zip_at (a ∷ us) (b ∷ bs) (suc n) x y d e = zip_at us bs n x y d e

-- the one leg of a port, by the letter that its sheets spell
port_here : (ss : List Sheet) (p : Port) (letter : Pauli) (ls : List PipeEnd) → same_axis p.axis p.z_axis ≡ false → is_only (is_port_leg p) (map leg_of ls) ≡ true → list_all (λ l. is_port_leg p l ==> same_kind (kind_on l p.z_axis) Kind.Z) (map leg_of ls) ≡ true → list_all (λ s. spells ss s.pipe p.z_axis letter) ls ≡ true → list_all (same_pauli letter) (paulis ss ls) ≡ true
port_here ss p letter [] apart only shows spelled = cc
port_here ss p letter (s ∷ []) apart only shows spelled =
    let own = and_parts (same_axis s.pipe.axis p.axis) (same_end s.which (end_of_way p.way)) only in
    let axis : s.pipe.axis ≡ p.axis = same_axis-is s.pipe.axis p.axis own.0 in
    let kind : same_kind (kind_on (leg_of s) p.z_axis) Kind.Z ≡ true = sym (ap (λ b. b ==> same_kind (kind_on (leg_of s) p.z_axis) Kind.Z) only) ∙ (and_parts (is_port_leg p (leg_of s) ==> same_kind (kind_on (leg_of s) p.z_axis) Kind.Z) true shows).0 in
    let parts = parts_are ss s p.z_axis Kind.Z (record { beside = ap (λ a. same_axis a p.z_axis) axis ∙ apart; kind = same_kind-is (kind_on (leg_of s) p.z_axis) Kind.Z kind }) in
    let letters = and_parts (agree (spans ss s.pipe p.z_axis) (has_part Kind.Z letter)) (agree (spans ss s.pipe (third_axis s.pipe.axis p.z_axis)) (has_part Kind.X letter)) (and_parts (spells ss s.pipe p.z_axis letter) true spelled).0 in
    and_from (same_pauli letter (pauli_at ss s.pipe s.which)) true
    (same_pauli-parts letter (pauli_at ss s.pipe s.which)
    ∙ and_from (agree (has_part Kind.X letter) (has_part Kind.X (pauli_at ss s.pipe s.which))) (agree (has_part Kind.Z letter) (has_part Kind.Z (pauli_at ss s.pipe s.which)))
    (ap (agree (has_part Kind.X letter)) parts.1 ∙ flip (spans ss s.pipe (third_axis s.pipe.axis p.z_axis)) (has_part Kind.X letter) letters.1)
    (ap (agree (has_part Kind.Z letter)) parts.0 ∙ flip (spans ss s.pipe p.z_axis) (has_part Kind.Z letter) letters.0))
    refl
  where
    flip : (a b : Bool) → agree a b ≡ true → agree b a ≡ true
    flip true true e = refl
    flip true false e = cc
    flip false true e = cc
    flip false false e = refl
port_here ss p letter (s ∷ r ∷ rs) apart only shows spelled = cc

pub port_passes : (t : Task) (d : Drawing) (ss : List Sheet) (word : List Pauli) (q : ℕ) (letter : Pauli) (c : Cell) → list_all (λ p. not (same_axis p.axis p.z_axis)) t.ports ≡ true → slice_get word q ≡ Some letter → has_port_pipe t d c ≡ true → port_shows_z t d c ≡ true → ports_spell t d ss word c ≡ true → (is_port q (sort_at t d c) ==> list_all (same_pauli letter) (paulis ss (pipe_ends d c))) ≡ true
port_passes t d ss word q letter c apart at_q serves shows spelled = at (is_port_place t c) refl
  where
    number : ℕ
    number = first_index (λ p. same_cell p.place c) t.ports

    there : is_port_place t c ≡ true → q ≡ number → list_all (same_pauli letter) (paulis ss (pipe_ends d c)) ≡ true
    there e n =
        let f = place_found (λ p. same_cell p.place c) t.ports e in
        let own = sym (ap (λ b. b ==> (is_only (is_port_leg f.0) (legs d c) && not (is_y d c))) f.2) ∙ at_all (λ p. same_cell p.place c ==> (is_only (is_port_leg p) (legs d c) && not (is_y d c))) t.ports number f.0 serves f.1 in
        let z = sym (ap (λ b. b ==> list_all (λ l. is_port_leg f.0 l ==> same_kind (kind_on l f.0.z_axis) Kind.Z) (legs d c)) f.2) ∙ at_all (λ p. same_cell p.place c ==> list_all (λ l. is_port_leg p l ==> same_kind (kind_on l p.z_axis) Kind.Z) (legs d c)) t.ports number f.0 shows f.1 in
        let here : slice_get (zip t.ports word) number ≡ Some (f.0, letter) = zip_at t.ports word number f.0 letter f.1 (ap (slice_get word) (sym n) ∙ at_q) in
        let w = sym (ap (λ b. b ==> list_all (λ s. spells ss s.pipe f.0.z_axis letter) (pipe_ends d c)) f.2) ∙ at_all (λ x. same_cell x.0.place c ==> list_all (λ s. spells ss s.pipe x.0.z_axis x.1) (pipe_ends d c)) (zip t.ports word) number (f.0, letter) spelled here in
        port_here ss f.0 letter (pipe_ends d c) (not-true (same_axis f.0.axis f.0.z_axis) (at_all (λ p. not (same_axis p.axis p.z_axis)) t.ports number f.0 apart f.1)) (and_parts (is_only (is_port_leg f.0) (legs d c)) (not (is_y d c)) own).0 z w

    when : is_port_place t c ≡ true → (b : Bool) → nat_eq q number ≡ b → (b ==> list_all (same_pauli letter) (paulis ss (pipe_ends d c))) ≡ true
    when e true n = there e (eqb-true q number n)
    when e false n = refl

    at : (b : Bool) → is_port_place t c ≡ b → (is_port q (cond b (NodeSort.Port number) (cond (is_y d c) NodeSort.YEnd (NodeSort.Spider (spider_kind (legs d c))))) ==> list_all (same_pauli letter) (paulis ss (pipe_ends d c))) ≡ true
    at true e = when e (nat_eq q number) refl
    at false e = no_port (is_y d c)
      where
        no_port : (y : Bool) → (is_port q (cond y NodeSort.YEnd (NodeSort.Spider (spider_kind (legs d c)))) ==> list_all (same_pauli letter) (paulis ss (pipe_ends d c))) ≡ true
        no_port true = refl
        no_port false = refl
