-- The entries that sheets write show those sheets, without those of pipes that do not exist.
use Rattle.std.proofs.Common.{◌≡◌, ℕ, suc, ◌+◌, ◌<◌, Bool, true, false, cond, ◌&&◌, not, List, [], ◌∷◌, ◌++◌, map, length, Option, Some, None, refl, sym, ap, ◌∙◌, arith}
use Rattle.std.specs.Prelude.{option_map, is_some, slice_index_or}
use Rattle.std.specs.List.{list_all, filter}
use Rattle.std.proofs.lemmas.Bool.{and_parts}
use Rattle.std.proofs.lemmas.List.Folds.{list_all-append, list_all-map}
use Rattle.json_shape.specs.declared.grid.Entry.{Entry}
use Rattle.las_base.specs.declared.Axis.{Axis}
use Rattle.las_base.specs.declared.Axis.TheVariants.{I, J, K}
use Rattle.las_base.specs.declared.Kind.{Kind}
use Rattle.las_base.specs.declared.Cell.{Cell}
use Rattle.las_base.specs.declared.Size.{Size}
use Rattle.las_base.specs.Cells.{holds, cells, numbers_from}
use Rattle.las_base.proofs.Blocks.{all_held}
use Rattle.grid_box.specs.Drawings.{Pipe, pipe_at, kinds_at}
use Rattle.grid_box.specs.Sheets.{Sheet}
use Rattle.grid_box.specs.Surfaces.{all_sheets, has_sheet, sheets_by, sheets_of, surfaces_of}
use Rattle.lasre_codec.specs.declared.member.Member.{Member}
use Rattle.lasre_codec.specs.declared.member.Member.TheVariants.{CorrIJ, CorrIK, CorrJI, CorrJK, CorrKI, CorrKJ, ExistI, ExistJ, ExistK}
use Rattle.lasre_codec.specs.Members.{is_grid, pipes_along, sheets_along}
use Rattle.lasre_codec.specs.Entries.{marks, flow_part, shows_sheet, surfaces_in}
use Rattle.lasre_codec.specs.Documents.{Lasre, IsLasre, of_pipes}
use Rattle.lasre_codec.specs.Texts.{exists_at, has_corr}
use Rattle.lasre_codec.proofs.ShownLemmas.{writes, mark, flow_mark}

-- ---- tests that agree on what is listed

abbrev alike : Bool → Bool → Bool
alike true b = b
alike false b = not b

alike_same : (a b : Bool) → a ≡ b → alike a b ≡ true
alike_same true b e = sym e
alike_same false b e = rw (← e) refl

same_alike : (a b : Bool) → alike a b ≡ true → a ≡ b
same_alike true b e = sym e
same_alike false true e = absurd (cc)
same_alike false false e = refl

module _ {X : Type 0} where
  filter_alike : (f g : X → Bool) (xs : List X) → list_all (λ x. alike (f x) (g x)) xs ≡ true → filter f xs ≡ filter g xs
  filter_alike f g [] e = refl
  filter_alike f g (x ∷ xs) e =
      let p = and_parts (alike (f x) (g x)) (list_all (λ x. alike (f x) (g x)) xs) e in
      rw (same_alike (f x) (g x) p.0, filter_alike f g xs p.1) refl

  filter_both : (f g : X → Bool) (xs : List X) → filter g (filter f xs) ≡ filter (λ x. f x && g x) xs
  filter_both f g [] = refl
  filter_both f g (x ∷ xs) = by_test (f x) (filter_both f g xs)
    where
      by_test : (b : Bool) → filter g (filter f xs) ≡ filter (λ x. f x && g x) xs → filter g (cond b (x ∷ filter f xs) (filter f xs)) ≡ cond (b && g x) (x ∷ filter (λ x. f x && g x) xs) (filter (λ x. f x && g x) xs)
      by_test true ih = ap (λ r. cond (g x) (x ∷ r) r) ih
      by_test false ih = ih

-- ---- all sheets of a box

-- the sheets along an axis that span another
abbrev block : Size → Axis → Axis → List Sheet
block s a b = map (λ c. record { axis = a; cell = c; span = b }) (cells s)

module _ (s : Size) (test : Sheet → Bool) where
  in_block : (a b : Axis) → ((c : Cell) → holds s c ≡ true → test (record { axis = a; cell = c; span = b }) ≡ true) → list_all test (block s a b) ≡ true
  in_block a b one =
      list_all-map test (λ c. record { axis = a; cell = c; span = b }) (cells s) ∙ all_held (λ c. test (record { axis = a; cell = c; span = b })) s one

  all_pass : list_all test (block s I J) ≡ true → list_all test (block s I K) ≡ true → list_all test (block s J I) ≡ true → list_all test (block s J K) ≡ true → list_all test (block s K I) ≡ true → list_all test (block s K J) ≡ true
      → list_all test (all_sheets s) ≡ true
  all_pass ij ik ji jk ki kj =
      rw (
        list_all-append test (block s I J) (block s I K ++ (block s J I ++ (block s J K ++ (block s K I ++ (block s K J ++ []))))),
        list_all-append test (block s I K) (block s J I ++ (block s J K ++ (block s K I ++ (block s K J ++ [])))),
        list_all-append test (block s J I) (block s J K ++ (block s K I ++ (block s K J ++ []))),
        list_all-append test (block s J K) (block s K I ++ (block s K J ++ [])),
        list_all-append test (block s K I) (block s K J ++ []),
        list_all-append test (block s K J) [],
        ij,
        ik,
        ji,
        jk,
        ki,
        kj,
      )
      refl

-- ---- lists by their numbers

module _ {A B : Type 0} (g : ℕ → B) (h : A → B) (other : A) where
  by_number : (xs : List A) (first : ℕ) → ((i : ℕ) → i < length xs → g (first + i) ≡ h (slice_index_or xs i other)) → map g (numbers_from first (length xs)) ≡ map h xs
  by_number [] first one = refl
  by_number (x ∷ xs) first one =
      let here : first + 0 ≡ first = omega arith in
      let rest : map g (numbers_from (suc first) (length xs)) ≡ map h xs =
      by_number xs (suc first) (λ i low. let next : suc first + i ≡ first + suc i = omega arith in ap g next ∙ one (suc i) (omega arith)) in
      rw (rest, ← here, one 0 (omega arith)) refl

-- ---- what entries show

module _ (l : Lasre) (h : IsLasre l) (es : Member → List Entry) (wrote : (m : Member) → is_grid m ≡ true → es m ≡ writes l m) where
  abbrev s : Size
  s = l.task.size

  -- the pipe of a sheet exists
  abbrev there : Sheet → Bool
  there x = is_some (pipe_at l.drawing x.axis x.cell)

  is_there : (a : Axis) (c : Cell) → is_some (kinds_at l.drawing a c) ≡ is_some (pipe_at l.drawing a c)
  is_there a c = go (pipe_at l.drawing a c)
    where
      go : (o : Option Pipe) → is_some {T = Kind × Kind} (option_map (λ (p : Pipe). (p.low, p.high)) o) ≡ is_some o
      go None = refl
      go (Some p) = refl

  once : (e b : Bool) → (e && (e && b)) ≡ (b && e)
  once true true = refl
  once true false = refl
  once false true = refl
  once false false = refl

  module _ (f : ℕ) (low : f < length l.task.flows) where
    -- what is shown is what is listed, of a pipe that exists
    abbrev agrees : Sheet → Bool
    agrees x = alike (shows_sheet es s f x) (has_sheet (sheets_of l.surfaces f) x && there x)

    shown_at : (a b : Axis) (c : Cell) → holds s c ≡ true → marks s (es (pipes_along a)) c ≡ exists_at l a c → marks s (flow_part s f (es (sheets_along a b))) c ≡ has_corr l a b f c → agrees (record { axis = a; cell = c; span = b }) ≡ true
    shown_at a b c held pipe sheet =
        alike_same (shows_sheet es s f (record { axis = a; cell = c; span = b })) (has_sheet (sheets_of l.surfaces f) (record { axis = a; cell = c; span = b }) && is_some (pipe_at l.drawing a c)) (rw (pipe, sheet) (once (exists_at l a c) (has_sheet (sheets_of l.surfaces f) (record { axis = a; cell = c; span = b })) ∙ ap (λ e. has_sheet (sheets_of l.surfaces f) (record { axis = a; cell = c; span = b }) && e) (is_there a c)))

    all_agree : list_all agrees (all_sheets s) ≡ true
    all_agree =
        all_pass s agrees
        (in_block s agrees I J (λ c held. shown_at I J c held (mark l h es wrote ExistI refl refl c held) (flow_mark l h es wrote CorrIJ refl refl f low c held)))
        (in_block s agrees I K (λ c held. shown_at I K c held (mark l h es wrote ExistI refl refl c held) (flow_mark l h es wrote CorrIK refl refl f low c held)))
        (in_block s agrees J I (λ c held. shown_at J I c held (mark l h es wrote ExistJ refl refl c held) (flow_mark l h es wrote CorrJI refl refl f low c held)))
        (in_block s agrees J K (λ c held. shown_at J K c held (mark l h es wrote ExistJ refl refl c held) (flow_mark l h es wrote CorrJK refl refl f low c held)))
        (in_block s agrees K I (λ c held. shown_at K I c held (mark l h es wrote ExistK refl refl c held) (flow_mark l h es wrote CorrKI refl refl f low c held)))
        (in_block s agrees K J (λ c held. shown_at K J c held (mark l h es wrote ExistK refl refl c held) (flow_mark l h es wrote CorrKJ refl refl f low c held)))

    in_order : sheets_of l.surfaces f ≡ sheets_by s (has_sheet (sheets_of l.surfaces f))
    in_order =
        let kept = h.surfaces.order f [] (omega (arith, low, h.flows)) in
        kept ∙ ap (λ x. sheets_by x (has_sheet (sheets_of l.surfaces f))) h.surfaces_size

    flow_shown : sheets_by s (shows_sheet es s f) ≡ filter there (sheets_of l.surfaces f)
    flow_shown =
        filter_alike (shows_sheet es s f) (λ x. has_sheet (sheets_of l.surfaces f) x && there x) (all_sheets s) all_agree
        ∙ sym (filter_both (has_sheet (sheets_of l.surfaces f)) there (all_sheets s))
        ∙ ap (filter there) (sym in_order)

  -- the sheets are shown
  pub surfaces_shown : surfaces_in es s (length l.task.flows) ≡ of_pipes l.drawing l.surfaces
  surfaces_shown =
      let same : length l.task.flows ≡ length l.surfaces.flows = sym h.flows in
      let flows = by_number (λ f. sheets_by s (shows_sheet es s f)) (filter there) [] l.surfaces.flows 0 one in
      ap (λ n. surfaces_of s (map (λ f. sheets_by s (shows_sheet es s f)) (numbers_from 0 n))) same ∙ ap (surfaces_of s) flows ∙ ap (λ x. surfaces_of x (map (filter there) l.surfaces.flows)) (sym h.surfaces_size)
    where
      one : (i : ℕ) → i < length l.surfaces.flows → sheets_by s (shows_sheet es s (0 + i)) ≡ filter there (slice_index_or l.surfaces.flows i [])
      one i low = let same : 0 + i ≡ i = omega arith in rw same (flow_shown i (omega (arith, low, h.flows)))
