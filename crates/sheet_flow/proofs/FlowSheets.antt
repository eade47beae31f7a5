-- Labels that obey the rules give sheets that serve; and so sheets exist exactly where flows do.
use Rattle.std.proofs.Common.{◌≡◌, ℕ, zero, suc, ◌+◌, Bool, true, false, cond, ◌&&◌, ◌||◌, not, List, [], ◌∷◌, map, length, Some, refl, sym, ap, ap₂, ◌∙◌, subst, arith}
use Rattle.std.specs.List.{list_all, list_any, filter, zip, slice_get, enumerate_from}
use Rattle.std.proofs.lemmas.Bool.{and_parts, and_from, or_right, both_ways, not-true, eq-eqb}
use Rattle.std.proofs.lemmas.List.{length-map}
use Rattle.las_base.specs.declared.Kind.{Kind}
use Rattle.las_base.specs.declared.Pauli.{Pauli}
use Rattle.las_base.specs.declared.Cell.{Cell}
use Rattle.las_base.specs.declared.Port.{Port}
use Rattle.las_base.specs.Axes.{has_part, same_axis, same_kind, same_pauli, axes}
use Rattle.las_base.specs.Cells.{same_cell}
use Rattle.las_base.specs.Jobs.{Task, IsTask, is_port_place, distinct_cells}
use Rattle.grid_box.specs.declared.Leg.{Leg}
use Rattle.grid_box.specs.Drawings.{Drawing, IsDrawing, is_y}
use Rattle.grid_box.specs.Legs.{PipeEnd, pipe_ends, legs, leg_of, kind_on, has_leg_along}
use Rattle.grid_box.specs.PipeRules.{◌==>◌, IsValid, is_bare, is_only, is_port_leg, named_cells, everywhere, has_port_pipe, y_cube_has_one_k_leg, is_no_dead_end, has_no_three_axes, colours_match, port_shows_z}
use Rattle.grid_box.specs.Sheets.{Sheet, Serves, agree, spells, sheets_join_at, y_sheets_match, ports_spell}
use Rattle.grid_box.proofs.ScanLemmas.{same_cell-is}
use Rattle.zx_graph.specs.declared.nodes.NodeSort.{NodeSort}
use Rattle.zx_graph.specs.Graphs.{zx_of, node_cells, sort_at, edge_of, spider_kind, first_index}
use Rattle.zx_flow.specs.Flows.{Labelled, all_pass, at_nodes, labels_at, is_port, is_y_end, is_spider, is_kept_by}
use Rattle.sheet_flow.specs.FromSheets.{pauli_at, labels_from, sheets_from, LabelsGiveSheets, SheetsAreFlows}
use Rattle.sheet_flow.specs.Joints.{paulis, sheets_join_on}
use Rattle.zx_graph.proofs.NumberLemmas.{at_all}
use Rattle.sheet_flow.proofs.NodeLabels.{labels_at_node}
use Rattle.sheet_flow.proofs.AtCells.{same_kind-refl, place_found}
use Rattle.sheet_flow.proofs.LabelSheets.{labels_again}
use Rattle.sheet_flow.proofs.CellsBack.{spider_back, y_back, port_back_here}
use Rattle.sheet_flow.proofs.SheetLabels.{sheets_give_labels}

-- a test of all from a test by number
all_by_number : {X : Type 0} (test : X → Bool) (xs : List X) → ((n : ℕ) (x : X) → slice_get xs n ≡ Some x → test x ≡ true) → list_all test xs ≡ true
all_by_number test [] h = refl
all_by_number test (x ∷ xs) h = and_from (test x) (list_all test xs) (h 0 x refl) (all_by_number test xs (λ n y e. h (suc n) y e))

-- what a filter keeps stands somewhere in it
kept_at : {X : Type 0} (f : X → Bool) (xs : List X) (n : ℕ) (x : X) → slice_get xs n ≡ Some x → f x ≡ true → (m : ℕ) × (slice_get (filter f xs) m ≡ Some x)
kept_at f [] n x e p = cc
kept_at f (y ∷ ys) zero x e p =
    let is : y ≡ x = cc in
    (0, ap (λ b. slice_get (cond b (y ∷ filter f ys) (filter f ys)) 0) (ap f is ∙ p) ∙ ap Some is)
kept_at {X = X} f (y ∷ ys) (suc n) x e p = at (f y) (kept_at f ys n x e p)
  where
    at : (b : Bool) → (m : ℕ) × (slice_get (filter f ys) m ≡ Some x) → (m : ℕ) × (slice_get (cond b (y ∷ filter f ys) (filter f ys)) m ≡ Some x)
    at true r = (suc r.0, r.1)
    at false r = r

number_back : {X Y : Type 0} (test : ℕ × Y → Bool) (g : X → Y) (first : ℕ) (xs : List X) (n : ℕ) (x : X) → all_pass (map test (enumerate_from first (map g xs))) ≡ true → slice_get xs n ≡ Some x → test (first + n, g x) ≡ true
number_back test g first [] n x a e = cc
number_back test g first (y ∷ ys) zero x a e =
    let is : y ≡ x = cc in
    let z : first + 0 ≡ first = omega arith in
    ap₂ (λ k u. test (k, g u)) z (sym is) ∙ (and_parts (test (first, g y)) (all_pass (map test (enumerate_from (first + 1) (map g ys)))) a).0
number_back test g first (y ∷ ys) (suc n) x a e =
    let s : first + suc n ≡ first + 1 + n = omega arith in
    ap (λ k. test (k, g x)) s ∙ number_back test g (first + 1) ys n x (and_parts (test (first, g y)) (all_pass (map test (enumerate_from (first + 1) (map g ys)))) a).1 e

letter_back : (test : ℕ × Pauli → Bool) (first : ℕ) (word : List Pauli) (n : ℕ) (x : Pauli) → all_pass (map test (enumerate_from first word)) ≡ true → slice_get word n ≡ Some x → test (first + n, x) ≡ true
letter_back test first [] n x a e = cc
letter_back test first (y ∷ ys) zero x a e =
    let is : y ≡ x = cc in
    let z : first + 0 ≡ first = omega arith in
    ap₂ (λ k u. test (k, u)) z (sym is) ∙ (and_parts (test (first, y)) (all_pass (map test (enumerate_from (first + 1) ys))) a).0
letter_back test first (y ∷ ys) (suc n) x a e =
    let s : first + suc n ≡ first + 1 + n = omega arith in
    ap (λ k. test (k, x)) s ∙ letter_back test (first + 1) ys n x (and_parts (test (first, y)) (all_pass (map test (enumerate_from (first + 1) ys))) a).1 e

unzip_at : {X Y : Type 0} (xs : List X) (ys : List Y) (n : ℕ) (x : X) (y : Y) → slice_get (zip xs ys) n ≡ Some (x, y) → (slice_get xs n ≡ Some x) × (slice_get ys n ≡ Some y)
unzip_at [] [] n x y e = cc
unzip_at [] (b ∷ bs) n x y e = cc
unzip_at (a ∷ rest) [] n x y e = cc
unzip_at (a ∷ rest) (b ∷ bs) zero x y e =
    let p : (a, b) ≡ (x, y) = some_is (a, b) (x, y) e in
    (ap (λ u. Some u.0) p, ap (λ u. Some u.1) p)
  where
    some_is : {Z : Type 0} (u v : Z) → Some u ≡ Some v → u ≡ v
    some_is u v h = cc
unzip_at (a ∷ rest) (b ∷ bs) (suc n) x y e = unzip_at rest bs n x y e

-- ports at distinct places are found by their places
place_back : (ps : List Port) (q : ℕ) (p : Port) (c : Cell) → distinct_cells (map (λ p. p.place) ps) ≡ true → slice_get ps q ≡ Some p → same_cell p.place c ≡ true → first_index (λ p. same_cell p.place c) ps ≡ q
place_back [] q p c apart e s = cc
place_back (r ∷ rs) zero p c apart e s =
    let is : r ≡ p = cc in
    ap (λ b. cond b 0 (first_index (λ p. same_cell p.place c) rs + 1)) (ap (λ u. same_cell u.place c) is ∙ s)
place_back (r ∷ rs) (suc q) p c apart e s =
    let parts = and_parts (not (list_any (same_cell r.place) (map (λ p. p.place) rs))) (distinct_cells (map (λ p. p.place) rs)) apart in
    at (same_cell r.place c) refl (not-true (list_any (same_cell r.place) (map (λ p. p.place) rs)) parts.0) (place_back rs q p c parts.1 e s)
  where
    among : (x : Cell) (us : List Port) (n : ℕ) → slice_get us n ≡ Some p → same_cell x p.place ≡ true → list_any (same_cell x) (map (λ p. p.place) us) ≡ true
    among x [] n g h = cc
    among x (u ∷ us) zero g h = let is : u ≡ p = cc in ap (λ v. same_cell x v.place || list_any (same_cell x) (map (λ p. p.place) us)) is ∙ ap (λ b. b || list_any (same_cell x) (map (λ p. p.place) us)) h
    among x (u ∷ us) (suc n) g h = or_right (same_cell x u.place) (list_any (same_cell x) (map (λ p. p.place) us)) (among x us n g h)

    at : (b : Bool) → same_cell r.place c ≡ b → list_any (same_cell r.place) (map (λ p. p.place) rs) ≡ false → first_index (λ p. same_cell p.place c) rs ≡ q → cond b 0 (first_index (λ p. same_cell p.place c) rs + 1) ≡ suc q
    at false f n ih = omega (arith, ih)
    at true f n ih =
        let same : same_cell r.place p.place ≡ true = ap (same_cell r.place) (same_cell-is p.place c s) ∙ f in
        absurd (both_ways (list_any (same_cell r.place) (map (λ p. p.place) rs)) n (among r.place rs q e same))

-- a list with one element is not empty
not_bare : (test : Leg → Bool) (ls : List Leg) → is_only test ls ≡ true → not (is_bare ls) ≡ true
not_bare test [] e = cc
not_bare test (x ∷ []) e = refl
not_bare test (x ∷ y ∷ ys) e = refl

among : (ps : List Port) (q : ℕ) (p : Port) (c : Cell) → slice_get ps q ≡ Some p → same_cell p.place c ≡ true → list_any (λ p. same_cell p.place c) ps ≡ true
among [] q p c f h = cc
among (r ∷ rs) zero p c f h = let is : r ≡ p = cc in ap (λ u. same_cell u.place c || list_any (λ p. same_cell p.place c) rs) is ∙ ap (λ u. u || list_any (λ p. same_cell p.place c) rs) h
among (r ∷ rs) (suc q) p c f h = or_right (same_cell r.place c) (list_any (λ p. same_cell p.place c) rs) (among rs q p c f h)

bare_pipe_ends : (ls : List PipeEnd) → is_bare (map leg_of ls) ≡ true → ls ≡ []
bare_pipe_ends [] e = refl
bare_pipe_ends (s ∷ ls) e = cc

pub back : (t : Task) (d : Drawing) (ss : List Sheet) (word : List Pauli) → IsTask t → IsDrawing d → IsValid t d → length word ≡ length t.ports → Labelled (zx_of t d) (labels_from d ss) word → Serves t d ss word
back t d ss word task drawn valid long l =
    record {
      letters = everywhere_by (ports_spell t d ss word) (λ m c e. all_by_number (λ x. same_cell x.0.place c ==> list_all (λ s. spells ss s.pipe x.0.z_axis x.1) (pipe_ends d c)) (zip t.ports word) (λ q x f. letter m c e q x.0 x.1 (unzip_at t.ports word q x.0 x.1 f).0 (unzip_at t.ports word q x.0 x.1 f).1));
      y_cells = everywhere_by (y_sheets_match t d ss) (λ m c e. y_back t d ss c (rule (y_cube_has_one_k_leg t d) valid.y_cells m c e) (y_fact m c e));
      joints = everywhere_by (sheets_join_at t d ss) (λ m c e. joint m c e (is_port_place t c) refl (is_y d c) refl);
    }
  where
    Named : ℕ → Cell → Type 0
    Named m c = slice_get (named_cells d.size) m ≡ Some c

    everywhere_by : (test : Cell → Bool) → ((m : ℕ) (c : Cell) → slice_get (named_cells d.size) m ≡ Some c → test c ≡ true) → everywhere t test ≡ true
    everywhere_by test h = ap (λ s. list_all test (named_cells s)) (sym valid.size) ∙ all_by_number test (named_cells d.size) h

    rule : (test : Cell → Bool) → everywhere t test ≡ true → (m : ℕ) (c : Cell) → slice_get (named_cells d.size) m ≡ Some c → test c ≡ true
    rule test e m c n = at_all test (named_cells d.size) m c (ap (λ s. list_all test (named_cells s)) valid.size ∙ e) n

    -- what holds at a node holds at its cell
    fact : (sort : NodeSort → Bool) (test : List Pauli → Bool) → all_pass (at_nodes (zx_of t d) (labels_from d ss) sort test) ≡ true → (m : ℕ) (c : Cell) → slice_get (named_cells d.size) m ≡ Some c → not (is_bare (legs d c)) ≡ true → (sort (sort_at t d c) ==> test (paulis ss (pipe_ends d c))) ≡ true
    fact sort test all m c e bare =
        let k = kept_at (λ c. not (is_bare (legs d c))) (named_cells d.size) m c e bare in
        let z : k.0 ≡ 0 + k.0 = omega arith in
        sym (ap (λ ps. sort (sort_at t d c) ==> test ps) (labels_at_node t d (pauli_at ss) k.0 c drawn.pipe_order k.1))
        ∙ ap (λ n. sort (sort_at t d c) ==> test (labels_at (zx_of t d) (labels_from d ss) n)) z
        ∙ number_back (λ x. sort x.1.sort ==> test (labels_at (zx_of t d) (labels_from d ss) x.0)) (λ c. record { cell = c; sort = sort_at t d c }) 0 (node_cells d) k.0 c all k.1

    spiders : (kind : Kind) → all_pass (at_nodes (zx_of t d) (labels_from d ss) (is_spider kind) (is_kept_by kind)) ≡ true
    spiders Kind.X = l.x_spiders
    spiders Kind.Z = l.z_spiders

    kept : (m : ℕ) (c : Cell) → slice_get (named_cells d.size) m ≡ Some c → is_port_place t c ≡ false → is_y d c ≡ false → (b : Bool) → is_bare (legs d c) ≡ b → is_kept_by (spider_kind (legs d c)) (paulis ss (pipe_ends d c)) ≡ true
    kept m c e p y true b = ap (λ ls. is_kept_by (spider_kind (legs d c)) (paulis ss ls)) (bare_pipe_ends (pipe_ends d c) b)
    kept m c e p y false b =
        let kind = spider_kind (legs d c) in
        let f = fact (is_spider kind) (is_kept_by kind) (spiders kind) m c e (ap not b) in
        let sorted : sort_at t d c ≡ NodeSort.Spider kind = ap₂ (λ u v. cond u (NodeSort.Port (first_index (λ p. same_cell p.place c) t.ports)) (cond v NodeSort.YEnd (NodeSort.Spider kind))) p y in
        sym (ap (λ u. u ==> is_kept_by kind (paulis ss (pipe_ends d c))) (ap (is_spider kind) sorted ∙ same_kind-refl kind)) ∙ f

    joint : (m : ℕ) (c : Cell) → slice_get (named_cells d.size) m ≡ Some c → (p : Bool) → is_port_place t c ≡ p → (y : Bool) → is_y d c ≡ y → sheets_join_at t d ss c ≡ true
    joint m c e true p y q = ap (λ u. u || (is_y d c || list_all (λ b. has_leg_along (legs d c) b || sheets_join_on ss b (pipe_ends d c)) axes)) p
    joint m c e false p true q = ap₂ (λ u v. u || (v || list_all (λ b. has_leg_along (legs d c) b || sheets_join_on ss b (pipe_ends d c)) axes)) p q
    joint m c e false p false q =
        spider_back t d ss c (rule (is_no_dead_end t d) valid.dead_ends m c e) (rule (has_no_three_axes t d) valid.axes m c e) (rule (colours_match t d) valid.colours m c e) p q (kept m c e p q (is_bare (legs d c)) refl)

    -- a Y cell is no port's place
    y_fact : (m : ℕ) (c : Cell) → slice_get (named_cells d.size) m ≡ Some c → is_y d c ≡ true → list_all (λ p. agree (has_part Kind.X p) (has_part Kind.Z p)) (paulis ss (pipe_ends d c)) ≡ true
    y_fact m c e y = at (is_port_place t c) refl (is_bare (legs d c)) refl
      where
        at : (p : Bool) → is_port_place t c ≡ p → (b : Bool) → is_bare (legs d c) ≡ b → list_all (λ p. agree (has_part Kind.X p) (has_part Kind.Z p)) (paulis ss (pipe_ends d c)) ≡ true
        at p f true b = ap (λ ls. list_all (λ p. agree (has_part Kind.X p) (has_part Kind.Z p)) (paulis ss ls)) (bare_pipe_ends (pipe_ends d c) b)
        at true f false b =
            let o = place_found (λ p. same_cell p.place c) t.ports f in
            let own = sym (ap (λ u. u ==> (is_only (is_port_leg o.0) (legs d c) && not (is_y d c))) o.2) ∙ at_all (λ p. same_cell p.place c ==> (is_only (is_port_leg p) (legs d c) && not (is_y d c))) t.ports (first_index (λ p. same_cell p.place c) t.ports) o.0 (rule (has_port_pipe t d) valid.ports m c e) o.1 in
            absurd (both_ways (is_y d c) (not-true (is_y d c) (and_parts (is_only (is_port_leg o.0) (legs d c)) (not (is_y d c)) own).1) y)
        at false f false b =
            let all = fact is_y_end (list_all (λ p. agree (has_part Kind.X p) (has_part Kind.Z p))) l.y_ends m c e (ap not b) in
            let sorted : sort_at t d c ≡ NodeSort.YEnd = ap₂ (λ u v. cond u (NodeSort.Port (first_index (λ p. same_cell p.place c) t.ports)) (cond v NodeSort.YEnd (NodeSort.Spider (spider_kind (legs d c))))) f y in
            sym (ap (λ u. is_y_end u ==> list_all (λ p. agree (has_part Kind.X p) (has_part Kind.Z p)) (paulis ss (pipe_ends d c))) sorted) ∙ all

    letter : (m : ℕ) (c : Cell) → slice_get (named_cells d.size) m ≡ Some c → (q : ℕ) (p : Port) (w : Pauli) → slice_get t.ports q ≡ Some p → slice_get word q ≡ Some w → (same_cell p.place c ==> list_all (λ s. spells ss s.pipe p.z_axis w) (pipe_ends d c)) ≡ true
    letter m c e q p w f g = at (same_cell p.place c) refl
      where
        here : same_cell p.place c ≡ true → list_all (λ s. spells ss s.pipe p.z_axis w) (pipe_ends d c) ≡ true
        here h =
            let number : first_index (λ p. same_cell p.place c) t.ports ≡ q = place_back t.ports q p c task.distinct_places f h in
            let own = and_parts (is_only (is_port_leg p) (legs d c)) (not (is_y d c)) (sym (ap (λ u. u ==> (is_only (is_port_leg p) (legs d c) && not (is_y d c))) h) ∙ at_all (λ p. same_cell p.place c ==> (is_only (is_port_leg p) (legs d c) && not (is_y d c))) t.ports q p (rule (has_port_pipe t d) valid.ports m c e) f) in
            let shows = sym (ap (λ u. u ==> list_all (λ k. is_port_leg p k ==> same_kind (kind_on k p.z_axis) Kind.Z) (legs d c)) h) ∙ at_all (λ p. same_cell p.place c ==> list_all (λ k. is_port_leg p k ==> same_kind (kind_on k p.z_axis) Kind.Z) (legs d c)) t.ports q p (rule (port_shows_z t d) valid.port_colours m c e) f in
            let apart = not-true (same_axis p.axis p.z_axis) (at_all (λ p. not (same_axis p.axis p.z_axis)) t.ports q p task.z_axes f) in
            let z : 0 + q ≡ q = omega arith in
            let nodes : all_pass (at_nodes (zx_of t d) (labels_from d ss) (is_port q) (list_all (same_pauli w))) ≡ true = sym (ap (λ k. all_pass (at_nodes (zx_of t d) (labels_from d ss) (is_port k) (list_all (same_pauli w)))) z) ∙ letter_back (λ x. all_pass (at_nodes (zx_of t d) (labels_from d ss) (is_port x.0) (list_all (same_pauli x.1)))) 0 word q w l.ports g in
            let all = fact (is_port q) (list_all (same_pauli w)) nodes m c e (not_bare (is_port_leg p) (legs d c) own.0) in
            let sorted : sort_at t d c ≡ NodeSort.Port q = ap₂ (λ u k. cond u (NodeSort.Port k) (cond (is_y d c) NodeSort.YEnd (NodeSort.Spider (spider_kind (legs d c))))) (among t.ports q p c f h) number in
            let same = sym (ap (λ u. u ==> list_all (same_pauli w) (paulis ss (pipe_ends d c))) (ap (is_port q) sorted ∙ eq-eqb q q refl)) ∙ all in
            port_back_here ss p w (pipe_ends d c) apart own.0 shows same

        at : (b : Bool) → same_cell p.place c ≡ b → (b ==> list_all (λ s. spells ss s.pipe p.z_axis w) (pipe_ends d c)) ≡ true
        at true h = here h
        at false h = refl

pub labels_give_sheets : LabelsGiveSheets
labels_give_sheets t d ls word task drawn valid long l =
    let n : length ls ≡ length d.pipes = l.one_each ∙ length-map d.pipes (edge_of d) in
    let again = labels_again d ls drawn.pipe_order n l.edges in
    back t d (sheets_from d ls) word task drawn valid long (subst (λ x. Labelled (zx_of t d) x word) (sym again) l)

pub sheets_are_flows : SheetsAreFlows
sheets_are_flows t d word task drawn valid long =
    ((λ h. (labels_from d h.0, sheets_give_labels t d h.0 word task drawn valid long h.1)), (λ h. (sheets_from d h.0, labels_give_sheets t d h.0 word task drawn valid long h.1)))
