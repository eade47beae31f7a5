-- The entries that a diagram and its sheets write show that diagram and those sheets.
use Rattle.std.proofs.Common.{◌≡◌, ℕ, ◌<◌, Bool, true, false, cond, ◌&&◌, ◌||◌, List, [], ◌∷◌, length, Option, Some, None, refl, sym, ap, ◌∙◌}
use Rattle.std.specs.Prelude.{is_some}
use Rattle.std.specs.List.{list_all, list_any, find}
use Rattle.std.specs.Option.{option_map_or}
use Rattle.std.proofs.lemmas.Bool.{and_parts}
use Rattle.std.proofs.Math.Bool.{and-false}
use Rattle.json_shape.specs.declared.grid.Entry.{Entry}
use Rattle.las_base.specs.declared.Axis.{Axis}
use Rattle.las_base.specs.declared.Axis.TheVariants.{I, J, K}
use Rattle.las_base.specs.declared.Kind.{Kind}
use Rattle.las_base.specs.declared.Cell.{Cell}
use Rattle.las_base.specs.declared.Size.{Size}
use Rattle.las_base.specs.Axes.{same_axis, same_kind, kind_by}
use Rattle.las_base.specs.Cells.{holds, same_cell}
use Rattle.las_base.proofs.Same.{same_cell-is, same_axis-is, kind_by-same}
use Rattle.grid_box.specs.Drawings.{Pipe, Drawing, IsDrawing, is_pipe_at, pipe_at, kinds_at, is_y, has_lawful_kinds}
use Rattle.grid_box.specs.LookUps.{pipe_of, kinds_are_lawful}
use Rattle.grid_box.proofs.LookUpLemmas.{pipe_at-drawing_by, is_y-drawing_by}
use Rattle.grid_box.proofs.DrawnLemmas.{drawn}
use Rattle.grid_box.proofs.TellLemmas.{look_ups_tell}
use Rattle.lasre_codec.specs.declared.member.Member.{Member}
use Rattle.lasre_codec.specs.declared.member.Member.TheVariants.{ColorI, ColorJ, ColorKM, ColorKP, ExistI, ExistJ, ExistK, NodeY}
use Rattle.lasre_codec.specs.Members.{is_grid, is_stack}
use Rattle.lasre_codec.specs.Entries.{marks, flow_part, kinds_in, drawing_in}
use Rattle.lasre_codec.specs.Documents.{Lasre, IsLasre}
use Rattle.lasre_codec.specs.Texts.{bit_of}
use Rattle.lasre_codec.proofs.GridLemmas.{written, parts, mark_written, part_written}

-- ---- what a drawing has is lawful and in its box

module _ {X : Type 0} (test good : X → Bool) where
  found_good : (xs : List X) (x : X) → find test xs ≡ Some x → list_all good xs ≡ true → (test x ≡ true) × (good x ≡ true)
  found_good [] x e all = absurd (cc)
  found_good (y ∷ ys) x e all =
      let p = and_parts (good y) (list_all good ys) all in
      by_test (test y) refl e p.0 (λ later. found_good ys x later p.1)
    where
      by_test : (b : Bool) → test y ≡ b → cond b (Some y) (find test ys) ≡ Some x → good y ≡ true → (find test ys ≡ Some x → (test x ≡ true) × (good x ≡ true)) → (test x ≡ true) × (good x ≡ true)
      by_test true t e g rest = let same : y ≡ x = cc in (ap test (sym same) ∙ t, ap good (sym same) ∙ g)
      by_test false t e g rest = rest e

-- what is listed is good where all are
listed_good : {X : Type 0} (same good : X → Bool) (x : X) (is : (y : X) → same y ≡ true → x ≡ y) (ys : List X) → list_any same ys ≡ true → list_all good ys ≡ true → good x ≡ true
listed_good same good x is [] e all = absurd (cc)
listed_good same good x is (y ∷ ys) e all =
    let p = and_parts (good y) (list_all good ys) all in
    by_test (same y) refl e p.0 (λ later. listed_good same good x is ys later p.1)
  where
    by_test : (b : Bool) → same y ≡ b → (b || list_any same ys) ≡ true → good y ≡ true → (list_any same ys ≡ true → good x ≡ true) → good x ≡ true
    by_test true t e g rest = ap good (is y t) ∙ g
    by_test false t e g rest = rest e

module _ (d : Drawing) (h : IsDrawing d) where
  -- a pipe that is found is the one of that place
  found_at : (a : Axis) (c : Cell) (p : Pipe) → pipe_at d a c ≡ Some p → (p.axis ≡ a) × (p.cell ≡ c) × (has_lawful_kinds p ≡ true) × (holds d.size c ≡ true)
  found_at a c p e =
      let f = found_good (is_pipe_at a c) has_lawful_kinds d.pipes p e h.kinds in
      let g = found_good (is_pipe_at a c) (λ p. holds d.size p.cell) d.pipes p e h.in_box in
      let t = and_parts (same_axis p.axis a) (same_cell p.cell c) f.0 in
      let here = same_cell-is p.cell c t.1 in
      (same_axis-is p.axis a t.0, here, f.1, ap (holds d.size) (sym here) ∙ g.1)

  -- the kinds at a place are those of a lawful pipe
  pub kinds_lawful : (a : Axis) (c : Cell) → kinds_are_lawful a (kinds_at d a c) ≡ true
  kinds_lawful a c = by_found (pipe_at d a c) refl
    where
      lawful : (p : Pipe) → has_lawful_kinds p ≡ true → kinds_are_lawful p.axis (Some (p.low, p.high)) ≡ true
      lawful p l = l

      by_found : (o : Option Pipe) → pipe_at d a c ≡ o → kinds_are_lawful a (kinds_at d a c) ≡ true
      by_found None e = rw e refl
      by_found (Some p) e = let f = found_at a c p e in rw (e, ← f.0) (lawful p f.2)

  -- the pipe at a place is that of its kinds, and outside the box there is none
  pub pipe_given : (a : Axis) (c : Cell) → cond (holds d.size c) (pipe_of a c (kinds_at d a c)) None ≡ pipe_at d a c
  pipe_given a c = by_found (pipe_at d a c) refl
    where
      none : (b : Bool) → cond {A = Option Pipe} b None None ≡ None
      none true = refl
      none false = refl

      same_pipe : (p : Pipe) → p.axis ≡ a → p.cell ≡ c → record { axis = a; cell = c; low = p.low; high = p.high } ≡ p
      same_pipe p ea ec = λ t. record { axis = sym ea t; cell = sym ec t; low = p.low; high = p.high }

      by_found : (o : Option Pipe) → pipe_at d a c ≡ o → cond (holds d.size c) (pipe_of a c (kinds_at d a c)) None ≡ pipe_at d a c
      by_found None e = rw e (none (holds d.size c))
      by_found (Some p) e = let f = found_at a c p e in rw (e, f.3) (ap Some (same_pipe p f.0 f.1))

  y_given : (c : Cell) → (holds d.size c && is_y d c) ≡ is_y d c
  y_given c = by_listed (is_y d c) refl
    where
      by_listed : (b : Bool) → is_y d c ≡ b → (holds d.size c && b) ≡ b
      by_listed true e = rw (listed_good (same_cell c) (holds d.size) c (λ y t. same_cell-is c y t) d.y_cells e h.y_cells_in_box) refl
      by_listed false e = and-false (holds d.size c)

-- ---- the diagram

kinds_back : (o : Option (Kind × Kind)) → cond (is_some o) (Some (kind_by (option_map_or (λ k. same_kind k.0 Kind.Z) o false), kind_by (option_map_or (λ k. same_kind k.1 Kind.Z) o false))) None ≡ o
kinds_back None = refl
kinds_back (Some k) = rw (kind_by-same k.0, kind_by-same k.1) refl

one_kind_back : (o : Option (Kind × Kind)) → option_map_or (λ k. same_kind k.0 k.1) o true ≡ true
    → cond (is_some o) (Some (kind_by (option_map_or (λ k. same_kind k.0 Kind.Z) o false), kind_by (option_map_or (λ k. same_kind k.0 Kind.Z) o false))) None ≡ o
one_kind_back None h = refl
one_kind_back (Some k) h = rw (kind_by-same k.0) (ap (λ l. Some (k.0, l)) (same k.0 k.1 h))
  where
    same : (k l : Kind) → same_kind k l ≡ true → k ≡ l
    same Kind.X Kind.X e = refl
    same Kind.X Kind.Z e = absurd (cc)
    same Kind.Z Kind.X e = absurd (cc)
    same Kind.Z Kind.Z e = refl

unwalled : (a : Axis) → same_axis a K ≡ false → (o : Option (Kind × Kind)) → kinds_are_lawful a o ≡ true → option_map_or (λ k. same_kind k.0 k.1) o true ≡ true
unwalled a other None h = refl
unwalled a other (Some k) h = ap (λ b. b || same_kind k.0 k.1) (sym other) ∙ h

-- the entries that a job, a diagram and sheets write in a grid
abbrev pub writes : Lasre → Member → List Entry
writes l m = cond (is_stack m) (parts l.task.size (bit_of l m) 0 (length l.task.flows)) (written l.task.size (bit_of l m 0))

module _ (l : Lasre) (h : IsLasre l) (es : Member → List Entry) (wrote : (m : Member) → is_grid m ≡ true → es m ≡ writes l m) where
  abbrev s : Size
  s = l.task.size

  pub mark : (m : Member) → is_grid m ≡ true → is_stack m ≡ false → (c : Cell) → holds s c ≡ true → marks s (es m) c ≡ bit_of l m 0 c
  mark m g one c held =
      rw (wrote m g, one, mark_written s (bit_of l m 0) c, held) refl

  pub flow_mark : (m : Member) → is_grid m ≡ true → is_stack m ≡ true → (f : ℕ) → f < length l.task.flows → (c : Cell) → holds s c ≡ true → marks s (flow_part s f (es m)) c ≡ bit_of l m f c
  flow_mark m g many f low c held =
      rw (wrote m g, many, part_written s (bit_of l m) (length l.task.flows) f low, mark_written s (bit_of l m f) c, held) refl

  kinds_shown : (a : Axis) (c : Cell) → holds s c ≡ true → kinds_in es s a c ≡ kinds_at l.drawing a c
  kinds_shown I c held =
      rw (mark ExistI refl refl c held, mark ColorI refl refl c held) (one_kind_back (kinds_at l.drawing I c) (unwalled I refl (kinds_at l.drawing I c) (kinds_lawful l.drawing h.drawing I c)))
  kinds_shown J c held =
      rw (mark ExistJ refl refl c held, mark ColorJ refl refl c held) (one_kind_back (kinds_at l.drawing J c) (unwalled J refl (kinds_at l.drawing J c) (kinds_lawful l.drawing h.drawing J c)))
  kinds_shown K c held =
      rw (mark ExistK refl refl c held, mark ColorKM refl refl c held, mark ColorKP refl refl c held) (kinds_back (kinds_at l.drawing K c))

  -- the diagram is shown
  pub drawing_shown : drawing_in es s ≡ l.drawing
  drawing_shown =
      look_ups_tell (drawing_in es s) l.drawing (drawn s (kinds_in es s) (marks s (es NodeY)) h.task.size lawful) h.drawing (sym h.drawing_size) pipes y_cells
    where
      lawful : (a : Axis) (c : Cell) → holds s c ≡ true → kinds_are_lawful a (kinds_in es s a c) ≡ true
      lawful a c held = ap (kinds_are_lawful a) (kinds_shown a c held) ∙ kinds_lawful l.drawing h.drawing a c

      in_box : (a : Axis) (c : Cell) (b : Bool) → holds s c ≡ b → cond b (pipe_of a c (kinds_in es s a c)) None ≡ cond b (pipe_of a c (kinds_at l.drawing a c)) None
      in_box a c true e = ap (pipe_of a c) (kinds_shown a c e)
      in_box a c false e = refl

      pipes : (a : Axis) (c : Cell) → pipe_at (drawing_in es s) a c ≡ pipe_at l.drawing a c
      pipes a c =
          pipe_at-drawing_by s (kinds_in es s) (marks s (es NodeY)) a c ∙ in_box a c (holds s c) refl ∙ ap (λ x. cond (holds x c) (pipe_of a c (kinds_at l.drawing a c)) None) (sym h.drawing_size) ∙ pipe_given l.drawing h.drawing a c

      y_in_box : (c : Cell) (b : Bool) → holds s c ≡ b → (b && marks s (es NodeY) c) ≡ (b && is_y l.drawing c)
      y_in_box c true e = mark NodeY refl refl c e
      y_in_box c false e = refl

      y_cells : (c : Cell) → is_y (drawing_in es s) c ≡ is_y l.drawing c
      y_cells c =
          is_y-drawing_by s (kinds_in es s) (marks s (es NodeY)) c ∙ y_in_box c (holds s c) refl ∙ ap (λ x. holds x c && is_y l.drawing c) (sym h.drawing_size) ∙ y_given l.drawing h.drawing c
