-- What stands at a port's place, at an inner cell and outside the box.
use Rattle.std.proofs.Common.{◌≡◌, Bool, true, false, cond, ◌&&◌, ◌||◌, not, List, [], ◌∷◌, map, Option, Some, None, refl, sym, ap, ◌∙◌}
use Rattle.std.specs.List.{list_all, list_any, filter}
use Rattle.std.specs.Option.{is_some}
use Rattle.std.proofs.lemmas.Bool.{and_parts, and_from, not-true, both_ways}
use Rattle.las_base.specs.declared.Axis.{Axis}
use Rattle.las_base.specs.declared.Axis.TheVariants.{I, J, K}
use Rattle.las_base.specs.declared.Way.{Way}
use Rattle.las_base.specs.declared.Way.TheVariants.{Plus, Minus}
use Rattle.las_base.specs.declared.Cell.{Cell}
use Rattle.las_base.specs.Axes.{axes, same_axis, same_way}
use Rattle.las_base.specs.Cells.{holds, cells, above}
use Rattle.las_base.specs.Jobs.{Task, is_port_place}
use Rattle.las_base.proofs.Blocks.{all_held}
use Rattle.las_base.proofs.Same.{same_axis-is}
use Rattle.las_base.proofs.Widened.{held_wide}
use Rattle.grid_box.specs.declared.Leg.{Leg}
use Rattle.grid_box.specs.Drawings.{Drawing, IsDrawing, pipe_at}
use Rattle.grid_box.specs.Legs.{Position, PipeEnd, positions, pipe_end_at, end_of_way, has_leg_along, kinds_on, kind_on}
use Rattle.grid_box.specs.PipeRules.{is_only, same_end, all_one_kind, everywhere, stays_in_box, stays_along}
use Rattle.grid_box.proofs.StayLemmas.{stays_by_axes}
use Rattle.cnf_table.specs.Positions.{low_of, inner_cells, same_position}
use Rattle.cnf_table.proofs.ListLemmas.{same_where}
use Rattle.cnf_table.proofs.CellLemmas.{all_of, above_low}
use Rattle.cnf_table.proofs.LinkLemmas.{stands, end_told, pipe_held}

pub is_only-map : {X Y : Type 0} (f : Y → Bool) (g : X → Y) (xs : List X) → is_only f (map g xs) ≡ is_only (λ x. f (g x)) xs
is_only-map f g [] = refl
is_only-map f g (x ∷ []) = refl
is_only-map f g (x ∷ y ∷ xs) = refl

same_way-is : (w x : Way) → same_way w x ≡ true → w ≡ x
same_way-is Plus Plus e = refl
same_way-is Minus Minus e = refl
same_way-is Plus Minus e = cc
same_way-is Minus Plus e = cc

same_position-is : (p q : Position) → same_position p q ≡ true → p ≡ q
same_position-is (a, w) (b, x) e =
    let parts = and_parts (same_axis a b) (same_way w x) e in
    λ i. (same_axis-is a b parts.0 i, same_way-is w x parts.1 i)

pub same_way-end : (w x : Way) → same_end (end_of_way w) (end_of_way x) ≡ same_way w x
same_way-end Plus Plus = refl
same_way-end Minus Minus = refl
same_way-end Plus Minus = refl
same_way-end Minus Plus = refl

-- the only position that stands is this one
pub only_there : (o : Position) (ps : List Position) → is_only (λ q. same_position q o) ps ≡ true → ps ≡ o ∷ []
only_there o [] e = absurd (cc)
only_there o (p ∷ []) e = ap (λ x. x ∷ []) (same_position-is p o e)
only_there o (p ∷ q ∷ ps) e = absurd (cc)

-- one element passes one test, and all pass another
pub any_all : {X : Type 0} (f g : X → Bool) (xs : List X) → list_any f xs ≡ true → list_all g xs ≡ true → (x : X) × (f x ≡ true) × (g x ≡ true)
any_all f g [] any all = absurd (cc)
any_all {X = X} f g (x ∷ xs) any all =
    let parts = and_parts (g x) (list_all g xs) all in
    by_test (f x) refl parts.0 any (λ later. any_all f g xs later parts.1)
  where
    by_test : (b : Bool) → f x ≡ b → g x ≡ true → (b || list_any f xs) ≡ true → (list_any f xs ≡ true → (x : X) × (f x ≡ true) × (g x ≡ true)) → (x : X) × (f x ≡ true) × (g x ≡ true)
    by_test true t h any later = (x, t, h)
    by_test false t h any later = later any

filter-none : {X : Type 0} (f : X → Bool) (xs : List X) → ((x : X) → f x ≡ false) → filter f xs ≡ []
filter-none f [] e = refl
filter-none f (x ∷ xs) e = rw (e x) (filter-none f xs e)

-- what a filter keeps passes both tests
pub filter_keeps : {X : Type 0} (f g : X → Bool) (xs : List X) → list_all g xs ≡ true → list_all (λ x. f x && g x) (filter f xs) ≡ true
filter_keeps f g [] a = refl
filter_keeps f g (x ∷ xs) a =
    let parts = and_parts (g x) (list_all g xs) a in
    at (f x) refl parts.0 (filter_keeps f g xs parts.1)
  where
    at : (b : Bool) → f x ≡ b → g x ≡ true → list_all (λ x. f x && g x) (filter f xs) ≡ true → list_all (λ x. f x && g x) (cond b (x ∷ filter f xs) (filter f xs)) ≡ true
    at true d e ih = and_from (f x && g x) (list_all (λ x. f x && g x) (filter f xs)) (and_from (f x) (g x) d e) ih
    at false d e ih = ih

-- tests of the inner cells that agree in the box
pub inner_same : (t : Task) (f g : Cell → Bool) → ((c : Cell) → holds t.size c ≡ true → is_port_place t c ≡ false → f c ≡ g c) → list_all f (inner_cells t) ≡ list_all g (inner_cells t)
inner_same t f g same =
    same_where (λ c. not (is_port_place t c) && holds t.size c) f g (inner_cells t) (filter_keeps (λ c. not (is_port_place t c)) (holds t.size) (cells t.size) (all_held (holds t.size) t.size (λ c h. h)))
    (λ c k.
    let parts = and_parts (not (is_port_place t c)) (holds t.size c) k in
    same c parts.1 (not-true (is_port_place t c) parts.0))

-- tests of the cells of a box that agree there
pub box_same : (t : Task) (f g : Cell → Bool) → ((c : Cell) → holds t.size c ≡ true → f c ≡ g c) → list_all f (cells t.size) ≡ list_all g (cells t.size)
box_same t f g same = same_where (holds t.size) f g (cells t.size) (all_held (holds t.size) t.size (λ c h. h)) same

-- one leg lies along one axis
pub one_leg_axes : (l : Leg) → not (list_all (has_leg_along (l ∷ [])) axes) ≡ true
one_leg_axes l = by_axis l.axis
  where
    by_axis : (a : Axis) → not ((same_axis a I || false) && ((same_axis a J || false) && ((same_axis a K || false) && true))) ≡ true
    by_axis I = refl
    by_axis J = refl
    by_axis K = refl

-- one leg has one kind on each axis
pub one_leg_kinds : (l : Leg) → list_all (λ b. all_one_kind (kinds_on b (l ∷ []))) axes ≡ true
one_leg_kinds l = and_from _ _ (on I) (and_from _ _ (on J) (and_from _ _ (on K) refl))
  where
    on : (b : Axis) → all_one_kind (kinds_on b (l ∷ [])) ≡ true
    on b = by_test (not (same_axis l.axis b))
      where
        by_test : (x : Bool) → all_one_kind (map (λ k. kind_on k b) (cond x (l ∷ []) [])) ≡ true
        by_test true = refl
        by_test false = refl

by_axis : (f : Axis → Bool) (a : Axis) → (f I && (f J && f K)) ≡ true → f a ≡ true
by_axis f I e = (and_parts (f I) (f J && f K) e).0
by_axis f J e = (and_parts (f J) (f K) (and_parts (f I) (f J && f K) e).1).0
by_axis f K e = (and_parts (f J) (f K) (and_parts (f I) (f J && f K) e).1).1

module _ (t : Task) (d : Drawing) (drawn : IsDrawing d) (size : d.size ≡ t.size) where
  -- where no pipe leaves the box, none stands outside it but at a port's place
  pub none_outside : everywhere t (stays_in_box t d) ≡ true → (c : Cell) → is_port_place t c ≡ false → holds t.size c ≡ false → filter (stands d c) positions ≡ []
  none_outside stays c inner out = filter-none (stands d c) positions (λ p. none p)
    where
      leads_here : (a : Axis) (x : Cell) (e : PipeEnd) → holds t.size x ≡ true → pipe_at d a x ≡ Some e.pipe → above a x ≡ c → ⊥
      leads_here a x e held at up =
          let all : stays_in_box t d x ≡ true = all_of (stays_in_box t d) _ stays x (held_wide t.size x held) in
          let one : stays_along t d a x ≡ true = by_axis (λ b. stays_along t d b x) a (sym (stays_by_axes t d x) ∙ all) in
          let leads : (holds t.size (above a x) || is_port_place t (above a x)) ≡ true = rw at at one in
          let here : (holds t.size c || is_port_place t c) ≡ true = ap (λ y. holds t.size y || is_port_place t y) (sym up) ∙ leads in
          let lost : false ≡ true = sym (rw (out, inner) refl) ∙ here in
          absurd (cc)

      none : (p : Position) → stands d c p ≡ false
      none p = by_end p (pipe_end_at d c p) refl
        where
          by_end : (p : Position) (o : Option PipeEnd) → pipe_end_at d c p ≡ o → is_some o ≡ false
          by_end p None f = refl
          by_end (a, Plus) (Some e) f =
              let told = end_told d c (a, Plus) e f in
              absurd (both_ways (holds t.size c) out (pipe_held t.size d (λ n. true) drawn size a c e.pipe told.1))
          by_end (a, Minus) (Some e) f =
              let told = end_told d c (a, Minus) e f in
              let held : holds t.size (low_of c (a, Minus)) ≡ true = pipe_held t.size d (λ n. true) drawn size a (low_of c (a, Minus)) e.pipe told.1 in
              absurd (leads_here a (low_of c (a, Minus)) e held told.1 (above_low c a (low_of c (a, Minus)) told.0))
