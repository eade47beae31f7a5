-- The legs of a cell by their positions and by a scan of the pipes.
use Rattle.std.proofs.Common.{◌≡◌, ℕ, ◌+◌, ◌-◌, Bool, true, false, cond, ◌&&◌, nat_eq, nat_lt, List, [], ◌∷◌, ◌++◌, Option, Some, None, refl, sym, ap, ap₂, ◌∙◌, arith, inl, inr, ◌⊎◌}
use Rattle.std.specs.List.{list_all, flat_map, find, cons_option}
use Rattle.std.specs.Option.{option_map, option_and_then}
use Rattle.std.proofs.lemmas.Bool.{and_parts, and_left, and_right, cases_Bool, eqb-true, eqb-false, eq-eqb, ne_eqb, le-ltb, both_ways}
use Rattle.las_base.specs.declared.Axis.{Axis}
use Rattle.las_base.specs.declared.Axis.TheVariants.{I, J, K}
use Rattle.las_base.specs.declared.Kind.{Kind}
use Rattle.las_base.specs.declared.End.{End}
use Rattle.las_base.specs.declared.Cell.{Cell}
use Rattle.las_base.specs.Axes.{same_axis}
use Rattle.las_base.specs.Cells.{same_cell, cell_before, above, below, coordinate, with_coordinate, rises}
pub use Rattle.las_base.proofs.Same.{same_cell-is, same_cell-refl, same_axis-is}
use Rattle.grid_box.specs.Drawings.{Pipe, is_pipe_at, pipe_before, axis_before}
use Rattle.grid_box.specs.Legs.{PipeEnd}
use Rattle.grid_box.specs.Scans.{ends_at, PipeEndsByScan}

-- nothing before a pipe stands among the ones after it
find_none : (p : Pipe) (a : Axis) (x : Cell) (lo hi : Kind) (ps : List Pipe) → list_all (pipe_before p) ps ≡ true → pipe_before p (record { axis = a; cell = x; low = lo; high = hi }) ≡ false → find (is_pipe_at a x) ps ≡ None
find_none p a x lo hi [] all e = refl
find_none p a x lo hi (q ∷ qs) all e = at (is_pipe_at a x q) refl (find_none p a x lo hi qs parts.1 e)
  where
    parts : (pipe_before p q ≡ true) × (list_all (pipe_before p) qs ≡ true)
    parts = and_parts (pipe_before p q) (list_all (pipe_before p) qs) all

    at : (b : Bool) → is_pipe_at a x q ≡ b → find (is_pipe_at a x) qs ≡ None → cond b (Some q) (find (is_pipe_at a x) qs) ≡ None
    at false d ih = ih
    at true d ih =
        let m = and_parts (same_axis q.axis a) (same_cell q.cell x) d in
        let ax : q.axis ≡ a = same_axis-is q.axis a m.0 in
        let ce : q.cell ≡ x = same_cell-is q.cell x m.1 in
        absurd (both_ways (pipe_before p q) (ap₂ (λ b y. pipe_before p (record { axis = b; cell = y; low = lo; high = hi })) ax ce ∙ e) parts.0)

-- the pipe among these whose low end, or whose high end, stands at a cell along an axis
abbrev low_in : List Pipe → Axis → Cell → Option Pipe
low_in ps a c = find (is_pipe_at a c) ps

abbrev high_in : List Pipe → Axis → Cell → Option Pipe
high_in ps a c = option_and_then (λ y. find (is_pipe_at a y) ps) (below a c)

abbrev low_end : Pipe → PipeEnd
low_end p = record { pipe = p; which = End.Low }

abbrev high_end : Pipe → PipeEnd
high_end p = record { pipe = p; which = End.High }

-- the legs by their six positions
abbrev six : List Pipe → Cell → List PipeEnd
six ps c =
    cons_option (option_map high_end (high_in ps I c))
    (cons_option (option_map low_end (low_in ps I c))
    (cons_option (option_map high_end (high_in ps J c))
    (cons_option (option_map low_end (low_in ps J c))
    (cons_option (option_map high_end (high_in ps K c)) (cons_option (option_map low_end (low_in ps K c)) [])))))

-- one below a cell stands what has the cell one above
below-none : (a : Axis) (x c : Cell) → nat_eq (coordinate c a) 0 ≡ true → same_cell (above a x) c ≡ false
below-none I x c e =
    let z : c.i ≡ 0 = eqb-true c.i 0 e in
    and_left (nat_eq (x.i + 1) c.i) (nat_eq x.j c.j && nat_eq x.k c.k) (ne_eqb (x.i + 1) c.i (λ h. let w : x.i + 1 ≡ c.i = h in omega arith))
below-none J x c e =
    let z : c.j ≡ 0 = eqb-true c.j 0 e in
    and_right (nat_eq x.i c.i) (nat_eq (x.j + 1) c.j && nat_eq x.k c.k) (and_left (nat_eq (x.j + 1) c.j) (nat_eq x.k c.k) (ne_eqb (x.j + 1) c.j (λ h. let w : x.j + 1 ≡ c.j = h in omega arith)))
below-none K x c e =
    let z : c.k ≡ 0 = eqb-true c.k 0 e in
    and_right (nat_eq x.i c.i) (nat_eq x.j c.j && nat_eq (x.k + 1) c.k) (and_right (nat_eq x.j c.j) (nat_eq (x.k + 1) c.k) (ne_eqb (x.k + 1) c.k (λ h. let w : x.k + 1 ≡ c.k = h in omega arith)))

one_less : (n m : ℕ) → nat_eq m 0 ≡ false → nat_eq n (m - 1) ≡ nat_eq (n + 1) m
one_less n m e = at (cases_Bool (nat_eq n (m - 1)))
  where
    ne : m ≡ 0 → ⊥
    ne = eqb-false m 0 e

    at : (nat_eq n (m - 1) ≡ true) ⊎ (nat_eq n (m - 1) ≡ false) → nat_eq n (m - 1) ≡ nat_eq (n + 1) m
    at (inl h) = let w : n ≡ m - 1 = eqb-true n (m - 1) h in h ∙ sym (eq-eqb (n + 1) m (omega (arith, ne)))
    at (inr h) = let w : n ≡ m - 1 → ⊥ = eqb-false n (m - 1) h in h ∙ sym (ne_eqb (n + 1) m (λ k. w (omega (arith, ne))))

below-some : (a : Axis) (x c : Cell) → nat_eq (coordinate c a) 0 ≡ false → same_cell x (with_coordinate c a (coordinate c a - 1)) ≡ same_cell (above a x) c
below-some I x c e = ap (λ b. b && (nat_eq x.j c.j && nat_eq x.k c.k)) (one_less x.i c.i e)
below-some J x c e = ap (λ b. nat_eq x.i c.i && (b && nat_eq x.k c.k)) (one_less x.j c.j e)
below-some K x c e = ap (λ b. nat_eq x.i c.i && (nat_eq x.j c.j && b)) (one_less x.k c.k e)

-- one more pipe in front, at a high position
high-cons : (p : Pipe) (ps : List Pipe) (b : Axis) (c : Cell) → high_in (p ∷ ps) b c ≡ cond (same_axis p.axis b && same_cell (above b p.cell) c) (Some p) (high_in ps b c)
high-cons p ps b c = at (nat_eq (coordinate c b) 0) refl
  where
    at : (z : Bool) → nat_eq (coordinate c b) 0 ≡ z → option_and_then (λ y. find (is_pipe_at b y) (p ∷ ps)) (cond z None (Some (with_coordinate c b (coordinate c b - 1)))) ≡ cond (same_axis p.axis b && same_cell (above b p.cell) c) (Some p) (option_and_then (λ y. find (is_pipe_at b y) ps) (cond z None (Some (with_coordinate c b (coordinate c b - 1)))))
    at true e = rw (and_right (same_axis p.axis b) (same_cell (above b p.cell) c) (below-none b p.cell c e)) refl
    at false e = ap (λ t. cond (same_axis p.axis b && t) (Some p) (find (is_pipe_at b (with_coordinate c b (coordinate c b - 1))) ps)) (below-some b p.cell c e)

-- nothing stands among later pipes at an earlier position
high_none : (p : Pipe) (b : Axis) (c : Cell) (ps : List Pipe) → list_all (pipe_before p) ps ≡ true → pipe_before p (record { axis = b; cell = with_coordinate c b (coordinate c b - 1); low = Kind.X; high = Kind.X }) ≡ false → high_in ps b c ≡ None
high_none p b c ps all e = at (nat_eq (coordinate c b) 0)
  where
    at : (z : Bool) → option_and_then (λ y. find (is_pipe_at b y) ps) (cond z None (Some (with_coordinate c b (coordinate c b - 1)))) ≡ None
    at true = refl
    at false = find_none p b (with_coordinate c b (coordinate c b - 1)) Kind.X Kind.X ps all e

-- a cell is not before itself, nor before the one below it
pub not_before_itself : (x : Cell) → cell_before x x ≡ false
not_before_itself x = rw (eq-eqb x.i x.i refl, eq-eqb x.j x.j refl, le-ltb x.k x.k (omega arith)) refl

not_before_below : (a : Axis) (x : Cell) → cell_before x (with_coordinate x a (coordinate x a - 1)) ≡ false
not_before_below I x = at (nat_eq x.i (x.i - 1))
  where
    at : (b : Bool) → cond b (cond (nat_eq x.j x.j) (nat_lt x.k x.k) (nat_lt x.j x.j)) (nat_lt x.i (x.i - 1)) ≡ false
    at true = rw (eq-eqb x.j x.j refl, le-ltb x.k x.k (omega arith)) refl
    at false = le-ltb x.i (x.i - 1) (omega arith)
not_before_below J x = rw (eq-eqb x.i x.i refl) (at (nat_eq x.j (x.j - 1)))
  where
    at : (b : Bool) → cond b (nat_lt x.k x.k) (nat_lt x.j (x.j - 1)) ≡ false
    at true = le-ltb x.k x.k (omega arith)
    at false = le-ltb x.j (x.j - 1) (omega arith)
not_before_below K x = rw (eq-eqb x.i x.i refl, eq-eqb x.j x.j refl) (le-ltb x.k (x.k - 1) (omega arith))

-- the cell one below the one above
back_down : (a : Axis) (x c : Cell) → same_cell (above a x) c ≡ true → with_coordinate c a (coordinate c a - 1) ≡ x
back_down a x c e = go a (sym (same_cell-is (above a x) c e))
  where
    go : (b : Axis) → c ≡ above b x → with_coordinate c b (coordinate c b - 1) ≡ x
    go I h = ap (λ y. with_coordinate y I (coordinate y I - 1)) h ∙ (let n : x.i + 1 - 1 ≡ x.i = omega arith in λ t. record { i = n t; j = x.j; k = x.k })
    go J h = ap (λ y. with_coordinate y J (coordinate y J - 1)) h ∙ (let n : x.j + 1 - 1 ≡ x.j = omega arith in λ t. record { i = x.i; j = n t; k = x.k })
    go K h = ap (λ y. with_coordinate y K (coordinate y K - 1)) h ∙ (let n : x.k + 1 - 1 ≡ x.k = omega arith in λ t. record { i = x.i; j = x.j; k = n t })

not_above_itself : (a : Axis) (x c : Cell) → same_cell x c ≡ true → same_cell (above a x) c ≡ false
not_above_itself a x c e = at (cases_Bool (same_cell (above a x) c))
  where
    is : x ≡ c
    is = same_cell-is x c e

    differ : (b : Axis) → above b x ≡ x → ⊥
    differ I h = let n : x.i + 1 ≡ x.i = ap (λ y. y.i) h in omega arith
    differ J h = let n : x.j + 1 ≡ x.j = ap (λ y. y.j) h in omega arith
    differ K h = let n : x.k + 1 ≡ x.k = ap (λ y. y.k) h in omega arith

    at : (same_cell (above a x) c ≡ true) ⊎ (same_cell (above a x) c ≡ false) → same_cell (above a x) c ≡ false
    at (inr h) = h
    at (inl h) = absurd (differ a (same_cell-is (above a x) c h ∙ sym is))

-- six options in a row, as pipe ends
abbrev chain : Option Pipe → Option Pipe → Option Pipe → Option Pipe → Option Pipe → Option Pipe → List PipeEnd
chain h1 l1 h2 l2 h3 l3 =
    cons_option (option_map high_end h1) (cons_option (option_map low_end l1) (cons_option (option_map high_end h2) (cons_option (option_map low_end l2) (cons_option (option_map high_end h3) (cons_option (option_map low_end l3) [])))))

abbrev ends : Pipe → Bool → Bool → List PipeEnd
ends p hl hh = cond hl (low_end p ∷ []) [] ++ cond hh (high_end p ∷ []) []

insert_I : (p : Pipe) (h1 l1 h2 l2 h3 l3 : Option Pipe) (hl hh : Bool) → (hl ≡ true → hh ≡ false) → (hh ≡ true → h1 ≡ None) → (hl ≡ true → (h1 ≡ None) × (l1 ≡ None)) → chain (cond hh (Some p) h1) (cond hl (Some p) l1) h2 l2 h3 l3 ≡ ends p hl hh ++ chain h1 l1 h2 l2 h3 l3
insert_I p h1 l1 h2 l2 h3 l3 true true x y z = let e = x refl in cc
insert_I p h1 l1 h2 l2 h3 l3 true false x y z = rw ((z refl).0, (z refl).1) refl
insert_I p h1 l1 h2 l2 h3 l3 false true x y z = rw (y refl) refl
insert_I p h1 l1 h2 l2 h3 l3 false false x y z = refl

insert_J : (p : Pipe) (h1 l1 h2 l2 h3 l3 : Option Pipe) (hl hh : Bool) → (hl ≡ true → hh ≡ false) → (hh ≡ true → (h1 ≡ None) × (l1 ≡ None) × (h2 ≡ None)) → (hl ≡ true → (h1 ≡ None) × (l1 ≡ None) × (h2 ≡ None) × (l2 ≡ None)) → chain h1 l1 (cond hh (Some p) h2) (cond hl (Some p) l2) h3 l3 ≡ ends p hl hh ++ chain h1 l1 h2 l2 h3 l3
insert_J p h1 l1 h2 l2 h3 l3 true true x y z = let e = x refl in cc
insert_J p h1 l1 h2 l2 h3 l3 true false x y z = rw ((z refl).0, (z refl).1, (z refl).2, (z refl).3) refl
insert_J p h1 l1 h2 l2 h3 l3 false true x y z = rw ((y refl).0, (y refl).1, (y refl).2) refl
insert_J p h1 l1 h2 l2 h3 l3 false false x y z = refl

insert_K : (p : Pipe) (h1 l1 h2 l2 h3 l3 : Option Pipe) (hl hh : Bool) → (hl ≡ true → hh ≡ false) → (hh ≡ true → (h1 ≡ None) × (l1 ≡ None) × (h2 ≡ None) × (l2 ≡ None) × (h3 ≡ None)) → (hl ≡ true → (h1 ≡ None) × (l1 ≡ None) × (h2 ≡ None) × (l2 ≡ None) × (h3 ≡ None) × (l3 ≡ None)) → chain h1 l1 h2 l2 (cond hh (Some p) h3) (cond hl (Some p) l3) ≡ ends p hl hh ++ chain h1 l1 h2 l2 h3 l3
insert_K p h1 l1 h2 l2 h3 l3 true true x y z = let e = x refl in cc
insert_K p h1 l1 h2 l2 h3 l3 true false x y z = rw ((z refl).0, (z refl).1, (z refl).2, (z refl).3, (z refl).4, (z refl).5) refl
insert_K p h1 l1 h2 l2 h3 l3 false true x y z = rw ((y refl).0, (y refl).1, (y refl).2, (y refl).3, (y refl).4) refl
insert_K p h1 l1 h2 l2 h3 l3 false false x y z = refl

-- with one more pipe in front, two positions may change
six-step : (p : Pipe) (ps : List Pipe) (c : Cell) → six (p ∷ ps) c ≡ chain (cond (same_axis p.axis I && same_cell (above I p.cell) c) (Some p) (high_in ps I c)) (cond (same_axis p.axis I && same_cell p.cell c) (Some p) (low_in ps I c)) (cond (same_axis p.axis J && same_cell (above J p.cell) c) (Some p) (high_in ps J c)) (cond (same_axis p.axis J && same_cell p.cell c) (Some p) (low_in ps J c)) (cond (same_axis p.axis K && same_cell (above K p.cell) c) (Some p) (high_in ps K c)) (cond (same_axis p.axis K && same_cell p.cell c) (Some p) (low_in ps K c))
six-step p ps c = λ t. chain (high-cons p ps I c t) (low_in (p ∷ ps) I c) (high-cons p ps J c t) (low_in (p ∷ ps) J c) (high-cons p ps K c t) (low_in (p ∷ ps) K c)

-- what stands at a cell before a pipe that stands at it
module _ (a : Axis) (x : Cell) (lo hi : Kind) (ps : List Pipe) (c : Cell) (all : list_all (pipe_before (record { axis = a; cell = x; low = lo; high = hi })) ps ≡ true) where
  earlier_low : (b : Axis) → same_axis a b ≡ false → axis_before a b ≡ false → low_in ps b c ≡ None
  earlier_low b s e = find_none (record { axis = a; cell = x; low = lo; high = hi }) b c Kind.X Kind.X ps all (rw (s, e) refl)

  earlier_high : (b : Axis) → same_axis a b ≡ false → axis_before a b ≡ false → high_in ps b c ≡ None
  earlier_high b s e = high_none (record { axis = a; cell = x; low = lo; high = hi }) b c ps all (rw (s, e) refl)

  own_low : same_axis a a ≡ true → same_cell x c ≡ true → low_in ps a c ≡ None
  own_low s h = find_none (record { axis = a; cell = x; low = lo; high = hi }) a c Kind.X Kind.X ps all (rw s (ap (cell_before x) (sym (same_cell-is x c h)) ∙ not_before_itself x))

  own_high : same_axis a a ≡ true → same_cell x c ≡ true → high_in ps a c ≡ None
  own_high s h = high_none (record { axis = a; cell = x; low = lo; high = hi }) a c ps all (rw s (ap (λ y. cell_before x (with_coordinate y a (coordinate y a - 1))) (sym (same_cell-is x c h)) ∙ not_before_below a x))

  above_high : same_axis a a ≡ true → same_cell (above a x) c ≡ true → high_in ps a c ≡ None
  above_high s h = high_none (record { axis = a; cell = x; low = lo; high = hi }) a c ps all (rw s (ap (cell_before x) (back_down a x c h) ∙ not_before_itself x))

-- with one more pipe in front of later ones, the six positions are its ends in front of theirs
six-cons : (a : Axis) (x : Cell) (lo hi : Kind) (ps : List Pipe) (c : Cell) → list_all (pipe_before (record { axis = a; cell = x; low = lo; high = hi })) ps ≡ true → six (record { axis = a; cell = x; low = lo; high = hi } ∷ ps) c ≡ ends_at c (record { axis = a; cell = x; low = lo; high = hi }) ++ six ps c
six-cons I x lo hi ps c all =
    six-step (record { axis = I; cell = x; low = lo; high = hi }) ps c
    ∙ insert_I (record { axis = I; cell = x; low = lo; high = hi }) (high_in ps I c) (low_in ps I c) (high_in ps J c) (low_in ps J c) (high_in ps K c) (low_in ps K c) (same_cell x c) (same_cell (above I x) c)
    (not_above_itself I x c)
    (above_high I x lo hi ps c all refl)
    (λ h. (own_high I x lo hi ps c all refl h, own_low I x lo hi ps c all refl h))
six-cons J x lo hi ps c all =
    six-step (record { axis = J; cell = x; low = lo; high = hi }) ps c
    ∙ insert_J (record { axis = J; cell = x; low = lo; high = hi }) (high_in ps I c) (low_in ps I c) (high_in ps J c) (low_in ps J c) (high_in ps K c) (low_in ps K c) (same_cell x c) (same_cell (above J x) c)
    (not_above_itself J x c)
    (λ h. (earlier_high J x lo hi ps c all I refl refl, earlier_low J x lo hi ps c all I refl refl, above_high J x lo hi ps c all refl h))
    (λ h. (earlier_high J x lo hi ps c all I refl refl, earlier_low J x lo hi ps c all I refl refl, own_high J x lo hi ps c all refl h, own_low J x lo hi ps c all refl h))
six-cons K x lo hi ps c all =
    six-step (record { axis = K; cell = x; low = lo; high = hi }) ps c
    ∙ insert_K (record { axis = K; cell = x; low = lo; high = hi }) (high_in ps I c) (low_in ps I c) (high_in ps J c) (low_in ps J c) (high_in ps K c) (low_in ps K c) (same_cell x c) (same_cell (above K x) c)
    (not_above_itself K x c)
    (λ h. (earlier_high K x lo hi ps c all I refl refl, earlier_low K x lo hi ps c all I refl refl, earlier_high K x lo hi ps c all J refl refl, earlier_low K x lo hi ps c all J refl refl, above_high K x lo hi ps c all refl h))
    (λ h. (earlier_high K x lo hi ps c all I refl refl, earlier_low K x lo hi ps c all I refl refl, earlier_high K x lo hi ps c all J refl refl, earlier_low K x lo hi ps c all J refl refl, own_high K x lo hi ps c all refl h, own_low K x lo hi ps c all refl h))

six-nil : (c : Cell) → six [] c ≡ []
six-nil c = at (nat_eq c.i 0) (nat_eq c.j 0) (nat_eq c.k 0)
  where
    at : (p q r : Bool) → chain (option_and_then (λ y. find (is_pipe_at I y) []) (cond p None (Some (with_coordinate c I (c.i - 1))))) None (option_and_then (λ y. find (is_pipe_at J y) []) (cond q None (Some (with_coordinate c J (c.j - 1))))) None (option_and_then (λ y. find (is_pipe_at K y) []) (cond r None (Some (with_coordinate c K (c.k - 1))))) None ≡ []
    at true true true = refl
    at true true false = refl
    at true false true = refl
    at true false false = refl
    at false true true = refl
    at false true false = refl
    at false false true = refl
    at false false false = refl

six_by_scan : (ps : List Pipe) (c : Cell) → rises pipe_before ps ≡ true → six ps c ≡ flat_map (ends_at c) ps
six_by_scan [] c e = six-nil c
six_by_scan (p ∷ ps) c e =
    let parts = and_parts (list_all (pipe_before p) ps) (rises pipe_before ps) e in
    six-cons p.axis p.cell p.low p.high ps c parts.0 ∙ ap (λ ss. ends_at c p ++ ss) (six_by_scan ps c parts.1)

pub pipe_ends_by_scan : PipeEndsByScan
pipe_ends_by_scan d c e = six_by_scan d.pipes c e
