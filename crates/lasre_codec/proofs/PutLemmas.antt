-- Sheets that are put one after another.
use Rattle.std.proofs.Common.{◌≡◌, ℕ, zero, suc, ◌+◌, ◌*◌, ◌<◌, ◌≤◌, Bool, true, false, ◌&&◌, ◌||◌, not, nat_eq, nat_lt, List, [], ◌∷◌, map, length, take, drop, get_or, Some, slice_get, refl, sym, ap, ◌∙◌, arith, add-one}
use Rattle.std.specs.Prelude.{slice_index_or}
use Rattle.std.specs.List.{list_any}
use Rattle.std.specs.Option.{option_map_or}
use Rattle.std.proofs.lemmas.Bool.{and_parts, ltb-true, ltb-false}
use Rattle.json_shape.specs.declared.grid.Entry.{Entry}
use Rattle.las_base.specs.declared.Axis.{Axis}
use Rattle.las_base.specs.declared.Axis.TheVariants.{I, J, K}
use Rattle.las_base.specs.declared.Cell.{Cell}
use Rattle.las_base.specs.declared.Size.{Size}
use Rattle.las_base.specs.Axes.{same_axis}
use Rattle.las_base.specs.Cells.{holds, volume, index, numbers_from}
use Rattle.las_base.specs.Jobs.{within_limits}
use Rattle.las_base.proofs.Same.{same_axis-is}
use Rattle.las_base.proofs.Indices.{index_below}
use Rattle.las_base.proofs.Blocks.{at_number, length-numbers_from}
use Rattle.las_base.proofs.Lists.{any_push, taken_next}
use Rattle.std.proofs.lemmas.List.{length-map}
use Rattle.grid_box.specs.Sheets.{Sheet}
use Rattle.grid_box.specs.Surfaces.{Surfaces, AreBuilt, IsSurfaces, PutsSheets, has_sheet, is_along, sheet_axes, sheets_by, sheets_of}
use Rattle.grid_box.proofs.SheetLemmas.{fits, has-sheets_by, all_in_order, sheets_tell}
use Rattle.lasre_codec.specs.declared.member.Member.{Member}
use Rattle.lasre_codec.specs.Members.{pipes_along, sheets_along}
use Rattle.lasre_codec.specs.Entries.{is_one, is_one_at, is_one_of, flow_part, shows_sheet, surfaces_in}
use Rattle.lasre_codec.specs.Puts.{PutsAxes, is_among, is_one_in_both}

-- ---- the entries of one flow

at_drop : {A : Type 0} (n : ℕ) (xs : List A) (i : ℕ) → slice_get (drop n xs) i ≡ slice_get xs (n + i)
at_drop zero xs i = let same : zero + i ≡ i = omega arith in rw same refl
at_drop (suc n) [] i = refl
at_drop (suc n) (x ∷ xs) i = let next : suc n + i ≡ suc (n + i) = omega arith in rw next (at_drop n xs i)

at_take : {A : Type 0} (n : ℕ) (xs : List A) (i : ℕ) → i < n → slice_get (take n xs) i ≡ slice_get xs i
at_take zero xs i low = absurd (omega arith)
at_take (suc n) [] i low = refl
at_take (suc n) (x ∷ xs) zero low = refl
at_take (suc n) (x ∷ xs) (suc i) low = at_take n xs i (omega arith)

module _ (s : Size) (flow : ℕ) (exist corr : List Entry) where
  -- the entry of a pipe and that of its sheet, among those of all flows
  pub both_is : (n : ℕ) (cell : Cell) → holds s cell ≡ true → index s cell ≡ n → is_one_in_both s exist (flow_part s flow corr) cell ≡ (is_one_at exist n && is_one_at corr (flow * volume s + n))
  both_is n cell held at = ap (λ b. is_one_of s exist cell && b) part_at ∙ ap (λ m. is_one_at exist m && is_one_at corr (flow * volume s + m)) at
    where
      part_at : is_one_of s (flow_part s flow corr) cell ≡ is_one_at corr (flow * volume s + index s cell)
      part_at = ap (λ o. option_map_or is_one o false) (at_take (volume s) (drop (flow * volume s) corr) (index s cell) (index_below s cell held) ∙ at_drop (flow * volume s) corr (index s cell))

-- ---- all axes of one flow

module _ (es : Member → List Entry) (s : Size) (flow : ℕ) where
  pub axes_put : (ps : List (Axis × Axis)) (n : ℕ) (p : Axis × Axis) (old mid new : Surfaces) → slice_get ps n ≡ Some p → PutsAxes es s flow (take n ps) old mid → PutsSheets s flow p.0 p.1 (is_one_in_both s (es (pipes_along p.0)) (flow_part s flow (es (sheets_along p.0 p.1)))) mid new → PutsAxes es s flow (take (n + 1) ps) old new
  axes_put ps n p old mid new at before puts f x =
      rw (add-one, taken_next ps n p at, any_push (λ q. is_along q.0 q.1 x) (take n ps) p)
      (puts f x ∙ rw (before f x) (by_flow (nat_eq f flow)))
    where
      put : Bool
      put = holds s x.cell && is_one_in_both s (es (pipes_along p.0)) (flow_part s flow (es (sheets_along p.0 p.1))) x.cell

      apart : (h e c : Bool) → (h && (e && c)) ≡ ((h && e) && (h && c))
      apart true e c = refl
      apart false e c = refl

      shown : is_along p.0 p.1 x ≡ true → put ≡ shows_sheet es s flow x
      shown t =
          let q = and_parts (same_axis p.0 x.axis) (same_axis p.1 x.span) t in
          rw (same_axis-is p.0 x.axis q.0, same_axis-is p.1 x.span q.1) (apart (holds s x.cell) (is_one_of s (es (pipes_along x.axis)) x.cell) (is_one_of s (flow_part s flow (es (sheets_along x.axis x.span))) x.cell))

      table : (al : Bool) → is_along p.0 p.1 x ≡ al → (am o sh : Bool) → shows_sheet es s flow x ≡ sh → ((al && put) || ((am && sh) || o)) ≡ (((am || al) && sh) || o)
      table true t true o true e = rw (shown t, e) refl
      table true t true o false e = rw (shown t, e) refl
      table true t false o true e = rw (shown t, e) refl
      table true t false o false e = rw (shown t, e) refl
      table false t true o sh e = refl
      table false t false o sh e = refl

      by_flow : (b : Bool) → ((b && (is_along p.0 p.1 x && put)) || ((b && (is_among (take n ps) x && shows_sheet es s flow x)) || has_sheet (sheets_of old f) x)) ≡ ((b && ((is_among (take n ps) x || is_along p.0 p.1 x) && shows_sheet es s flow x)) || has_sheet (sheets_of old f) x)
      by_flow true = table (is_along p.0 p.1 x) refl (is_among (take n ps) x) (has_sheet (sheets_of old f) x) (shows_sheet es s flow x) refl
      by_flow false = refl

-- ---- all flows

-- the entries show the sheet, of these axes
abbrev pub shows_of_axes : (Member → List Entry) → Size → ℕ → Sheet → Bool
shows_of_axes es s f x = is_among sheet_axes x && shows_sheet es s f x

module _ (es : Member → List Entry) (s : Size) where
  among : (a b : Axis) → list_any (λ (p : Axis × Axis). same_axis p.0 a && same_axis p.1 b) sheet_axes ≡ not (same_axis a b)
  among I I = refl
  among I J = refl
  among I K = refl
  among J I = refl
  among J J = refl
  among J K = refl
  among K I = refl
  among K J = refl
  among K K = refl

  -- what is shown of these axes is in the box
  fits_shown : (f : ℕ) (x : Sheet) → (is_among sheet_axes x && shows_sheet es s f x) ≡ (fits s x && shows_sheet es s f x)
  fits_shown f x = rw (among x.axis x.span) (table (holds s x.cell) (not (same_axis x.axis x.span)) (is_one_at (es (pipes_along x.axis)) (index s x.cell)) (is_one_at (flow_part s f (es (sheets_along x.axis x.span))) (index s x.cell)))
    where
      table : (h n e p : Bool) → (n && ((h && e) && (h && p))) ≡ ((h && n) && ((h && e) && (h && p)))
      table true n e p = refl
      table false true e p = refl
      table false false e p = refl

  beyond : (ss : List (List Sheet)) (f : ℕ) → length ss ≤ f → slice_index_or ss f [] ≡ []
  beyond [] f h = refl
  beyond (x ∷ ss) zero h = absurd (omega arith)
  beyond (x ∷ ss) (suc f) h = beyond ss f (omega arith)

  at_flow : (ss : List (List Sheet)) (f : ℕ) (x : List Sheet) → slice_get ss f ≡ Some x → slice_index_or ss f [] ≡ x
  at_flow [] f x e = absurd (cc)
  at_flow (y ∷ ss) zero x e = cc
  at_flow (y ∷ ss) (suc f) x e = at_flow ss f x e

  -- what is built is what is shown
  pub built_are_shown : (flows n : ℕ) (new : Surfaces) → within_limits s ≡ true → flows ≤ 32 → flows ≤ n → n ≤ flows → AreBuilt (shows_of_axes es s) s flows n new → new ≡ surfaces_in es s flows
  built_are_shown flows n new limits few end top built =
      sheets_tell new (surfaces_in es s flows) built.kept lawful built.size (built.count ∙ sym counted) look_ups
    where
      shown : ℕ → List Sheet
      shown f = sheets_by s (shows_sheet es s f)

      counted : length (map (λ f. sheets_by s (shows_sheet es s f)) (numbers_from 0 flows)) ≡ flows
      counted = length-map (numbers_from 0 flows) (λ f. sheets_by s (shows_sheet es s f)) ∙ length-numbers_from 0 flows

      lawful : IsSurfaces (surfaces_in es s flows)
      lawful = record { limits = limits; count = omega (arith, counted, few); order = all_in_order s (shows_sheet es s) 0 flows }

      by_flow : (f : ℕ) (x : Sheet) (b : Bool) → nat_lt f flows ≡ b → (b && (fits s x && shows_sheet es s f x)) ≡ has_sheet (sheets_of (surfaces_in es s flows) f) x
      by_flow f x true e =
          let low : f < flows = ltb-true f flows e in
          let zero_on : 0 + f ≡ f = omega arith in
          sym (ap (λ ss. has_sheet ss x) (at_flow (map (λ f. sheets_by s (shows_sheet es s f)) (numbers_from 0 flows)) f (sheets_by s (shows_sheet es s (0 + f))) (at_number (λ f. sheets_by s (shows_sheet es s f)) flows 0 f low)) ∙ has-sheets_by s (shows_sheet es s (0 + f)) x ∙ ap (λ g. fits s x && shows_sheet es s g x) zero_on)
      by_flow f x false e =
          let past : flows ≤ f = ltb-false f flows e in
          sym (ap (λ ss. has_sheet ss x) (beyond (map (λ f. sheets_by s (shows_sheet es s f)) (numbers_from 0 flows)) f (omega (arith, counted, past))))

      look_ups : (f : ℕ) (x : Sheet) → has_sheet (sheets_of new f) x ≡ has_sheet (sheets_of (surfaces_in es s flows) f) x
      look_ups f x =
          let all : n ≡ flows = omega (arith, end, top) in
          built.sheets f x ∙ ap (λ m. nat_lt f m && (is_among sheet_axes x && shows_sheet es s f x)) all ∙ ap (λ b. nat_lt f flows && b) (fits_shown f x) ∙ by_flow f x (nat_lt f flows) refl

-- no sheet spans its pipe's own axis
pub spans_another : (n : ℕ) (p : Axis × Axis) → n < length sheet_axes → (get_or sheet_axes n p).1 ≡ (get_or sheet_axes n p).0 → ⊥
spans_another zero p low e = absurd (cc)
spans_another (suc zero) p low e = absurd (cc)
spans_another (suc (suc zero)) p low e = absurd (cc)
spans_another (suc (suc (suc zero))) p low e = absurd (cc)
spans_another (suc (suc (suc (suc zero)))) p low e = absurd (cc)
spans_another (suc (suc (suc (suc (suc zero))))) p low e = absurd (cc)
spans_another (suc (suc (suc (suc (suc (suc n)))))) p low e = absurd (omega arith)
