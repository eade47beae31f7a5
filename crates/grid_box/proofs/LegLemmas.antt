-- The leg at one position of a cell.
use Rattle.std.proofs.Common.{◌≡◌, ℕ, zero, suc, ◌+◌, ◌<◌, Bool, true, false, cond, List, [], ◌∷◌, ◌++◌, map, length, take, get_or, add-one, append-nil, arith, Option, Some, None, refl, sym, ap, ◌∙◌}
use Rattle.std.specs.List.{find, filter_map, cons_option}
use Rattle.std.specs.Option.{option_map, option_and_then, option_to_list}
use Rattle.std.proofs.lemmas.Bool.{and_parts}
use Rattle.las_base.specs.declared.Axis.{Axis}
use Rattle.las_base.specs.declared.Way.TheVariants.{Plus, Minus}
use Rattle.las_base.specs.declared.Kind.{Kind}
use Rattle.las_base.specs.declared.End.{End}
use Rattle.las_base.specs.declared.Cell.{Cell}
use Rattle.las_base.specs.Axes.{same_axis}
use Rattle.las_base.specs.Cells.{same_cell, below}
use Rattle.las_base.proofs.Same.{same_axis-is, same_cell-is}
use Rattle.grid_box.specs.declared.Leg.{Leg}
use Rattle.grid_box.specs.Drawings.{Pipe, Drawing, is_pipe_at, pipe_at, kinds_at}
use Rattle.grid_box.specs.Legs.{Position, pipe_end_at, leg_of}
use Rattle.grid_box.specs.PipeRules.{is_bare}

found_passes : {X : Type 0} (test : X → Bool) (xs : List X) (x : X) → find test xs ≡ Some x → test x ≡ true
found_passes test [] x e = absurd (cc)
found_passes test (y ∷ ys) x e = by_test (test y) refl e (found_passes test ys x)
  where
    by_test : (b : Bool) → test y ≡ b → cond b (Some y) (find test ys) ≡ Some x → (find test ys ≡ Some x → test x ≡ true) → test x ≡ true
    by_test true t e later = let same : y ≡ x = cc in ap test (sym same) ∙ t
    by_test false t e later = later e

-- the pipe that is found at a place is along the axis and has the low cell
pub found_at : (d : Drawing) (a : Axis) (c : Cell) (p : Pipe) → pipe_at d a c ≡ Some p → (p.axis ≡ a) × (p.cell ≡ c)
found_at d a c p e =
    let parts = and_parts (same_axis p.axis a) (same_cell p.cell c) (found_passes (is_pipe_at a c) d.pipes p e) in
    (same_axis-is p.axis a parts.0, same_cell-is p.cell c parts.1)

pub found_along : (d : Drawing) (a : Axis) (c : Cell) (p : Pipe) → pipe_at d a c ≡ Some p → p.axis ≡ a
found_along d a c p e = (found_at d a c p e).0

low_leg : (a : Axis) (o : Option Pipe) → ((p : Pipe) → o ≡ Some p → p.axis ≡ a) → (k : Kind × Kind) → option_map (λ p. (p.low, p.high)) o ≡ Some k
    → option_map leg_of (option_map (λ p. record { pipe = p; which = End.Low }) o) ≡ Some (record { axis = a; which = End.Low; kind_next = k.0 })
low_leg a None along k e = absurd (cc)
low_leg a (Some p) along k e =
    let kinds : (p.low, p.high) ≡ k = cc in
    let leg : Axis → Kind → Leg = λ b t. record { axis = b; which = End.Low; kind_next = t } in
    ap (λ b. Some (leg b p.low)) (along p refl) ∙ ap (λ t. Some (leg a t.0)) kinds

high_leg : (a : Axis) (o : Option Pipe) → ((p : Pipe) → o ≡ Some p → p.axis ≡ a) → (k : Kind × Kind) → option_map (λ p. (p.low, p.high)) o ≡ Some k
    → option_map leg_of (option_map (λ p. record { pipe = p; which = End.High }) o) ≡ Some (record { axis = a; which = End.High; kind_next = k.1 })
high_leg a None along k e = absurd (cc)
high_leg a (Some p) along k e =
    let kinds : (p.low, p.high) ≡ k = cc in
    let leg : Axis → Kind → Leg = λ b t. record { axis = b; which = End.High; kind_next = t } in
    ap (λ b. Some (leg b p.high)) (along p refl) ∙ ap (λ t. Some (leg a t.1)) kinds

pub leg_at_plus : (d : Drawing) (a : Axis) (c : Cell) (k : Kind × Kind) → kinds_at d a c ≡ Some k → option_map leg_of (pipe_end_at d c (a, Plus)) ≡ Some (record { axis = a; which = End.Low; kind_next = k.0 })
leg_at_plus d a c k e = low_leg a (pipe_at d a c) (found_along d a c) k e

pub leg_at_minus : (d : Drawing) (a : Axis) (c x : Cell) (k : Kind × Kind) → below a c ≡ Some x → kinds_at d a x ≡ Some k → option_map leg_of (pipe_end_at d c (a, Minus)) ≡ Some (record { axis = a; which = End.High; kind_next = k.1 })
leg_at_minus d a c x k low e =
    ap (λ o. option_map leg_of (option_map (λ p. record { pipe = p; which = End.High }) (option_and_then (pipe_at d a) o))) low ∙ high_leg a (pipe_at d a x) (found_along d a x) k e

-- the leg at a position, if there is one
abbrev pub leg_in : Drawing → Cell → Position → Option Leg
leg_in d c p = option_map leg_of (pipe_end_at d c p)

pub map-filter_map : {X Y Z : Type 0} (f : X → Option Y) (g : Y → Z) (xs : List X) → map g (filter_map f xs) ≡ filter_map (λ x. option_map g (f x)) xs
map-filter_map f g [] = refl
map-filter_map f g (x ∷ xs) = by_case (f x) (map-filter_map f g xs)
  where
    by_case : (o : Option _) → map g (filter_map f xs) ≡ filter_map (λ x. option_map g (f x)) xs → map g (cons_option o (filter_map f xs)) ≡ cons_option (option_map g o) (filter_map (λ x. option_map g (f x)) xs)
    by_case None ih = ih
    by_case (Some y) ih = ap (λ zs. g y ∷ zs) ih

module _ {X Y : Type 0} (f : X → Option Y) where
  cons_alone : (o : Option Y) → cons_option o [] ≡ option_to_list o
  cons_alone None = refl
  cons_alone (Some z) = refl

  cons_append : (o : Option Y) (ys zs xs : List Y) → xs ≡ ys ++ zs → cons_option o xs ≡ cons_option o ys ++ zs
  cons_append None ys zs xs e = e
  cons_append (Some y) ys zs xs e = ap (λ l. y ∷ l) e

  one_more : (xs : List X) (n : ℕ) (x : X) → n < length xs → filter_map f (take (suc n) xs) ≡ filter_map f (take n xs) ++ option_to_list (f (get_or xs n x))
  one_more [] n x h = absurd (omega arith)
  one_more (y ∷ ys) zero x h = cons_alone (f y)
  one_more (y ∷ ys) (suc n) x h = cons_append (f y) (filter_map f (take n ys)) (option_to_list (f (get_or ys n x))) (filter_map f (take (suc n) ys)) (one_more ys n x (omega arith))

-- one position more has a leg
pub leg_pushed : (d : Drawing) (c : Cell) (ps : List Position) (n : ℕ) (x : Position) (found : List Leg) (leg : Leg) → n < length ps → leg_in d c (get_or ps n x) ≡ Some leg → found ≡ filter_map (leg_in d c) (take n ps) → found ++ leg ∷ [] ≡ filter_map (leg_in d c) (take (n + 1) ps)
leg_pushed d c ps n x found leg low is before =
    rw add-one (ap (λ l. l ++ leg ∷ []) before ∙ ap (λ o. filter_map (leg_in d c) (take n ps) ++ option_to_list o) (sym is) ∙ sym (one_more (leg_in d c) ps n x low))

-- one position more has none
pub leg_passed : (d : Drawing) (c : Cell) (ps : List Position) (n : ℕ) (x : Position) (found : List Leg) → n < length ps → leg_in d c (get_or ps n x) ≡ None → found ≡ filter_map (leg_in d c) (take n ps) → found ≡ filter_map (leg_in d c) (take (n + 1) ps)
leg_passed d c ps n x found low is before =
    rw add-one (before ∙ sym (append-nil (filter_map (leg_in d c) (take n ps))) ∙ ap (λ o. filter_map (leg_in d c) (take n ps) ++ option_to_list o) (sym is) ∙ sym (one_more (leg_in d c) ps n x low))

pub is_bare-map : {X Y : Type 0} (g : X → Y) (xs : List X) → is_bare (map g xs) ≡ is_bare xs
is_bare-map g [] = refl
is_bare-map g (x ∷ xs) = refl
