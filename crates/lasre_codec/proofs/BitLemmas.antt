-- The first bad entry, as loops over places and grids find it.
use Rattle.std.proofs.Common.{◌≡◌, ℕ, zero, suc, ◌+◌, ◌<◌, ◌≤◌, List, length, drop, get_or, Some, None, slice_get, sym, ap, ◌∙◌, arith, drop_of_length-le}
use Rattle.std.specs.Prelude.{option_map}
use Rattle.std.specs.Option.{option_or}
use Rattle.std.proofs.lemmas.List.{at_drop_more, get_or_default}
use Rattle.json_shape.specs.declared.grid.Entry.{Entry}
use Rattle.las_base.specs.Cells.{numbers_from}
use Rattle.lasre_codec.specs.declared.member.Member.{Member}
use Rattle.lasre_codec.specs.declared.refusal.LasreRefused.TheVariants.{Bit}
use Rattle.lasre_codec.specs.Entries.{bad_place, first_bad}

-- a number stands at its place among the numbers
pub number_at : (first n i : ℕ) → i < n → slice_get (numbers_from first n) i ≡ Some (first + i)
number_at first zero i low = absurd (omega arith)
number_at first (suc n) zero low = let same : first ≡ first + 0 = omega arith in ap Some same
number_at first (suc n) (suc i) low = let next : suc first + i ≡ first + suc i = omega arith in number_at (suc first) n i (omega arith) ∙ ap Some next

module _ (es : Member → List Entry) (cells : ℕ) where
  -- the grids from one on: that grid, and those behind it
  from_grid : (ms : List Member) (n : ℕ) (m : Member) → n < length ms → first_bad es cells (drop n ms) ≡ option_or (option_map (Bit (get_or ms n m)) (bad_place es cells (get_or ms n m))) (first_bad es cells (drop (n + 1) ms))
  from_grid ms n m h =
      at_drop_more (first_bad es cells) ms n (get_or ms n m) h ∙ ap (λ x. option_or (option_map (Bit x) (bad_place es cells x)) (first_bad es cells (drop (n + 1) ms))) (get_or_default ms n (get_or ms n m) m h)

  pub bad_here : (ms : List Member) (n : ℕ) (m : Member) (place : ℕ) → n < length ms → first_bad es cells ms ≡ first_bad es cells (drop n ms) → bad_place es cells (get_or ms n m) ≡ Some place → Some (Bit (get_or ms n m) place) ≡ first_bad es cells ms
  bad_here ms n m place h before found =
      sym (before ∙ from_grid ms n m h ∙ ap (λ o. option_or (option_map (Bit (get_or ms n m)) o) (first_bad es cells (drop (n + 1) ms))) found)

  pub good_here : (ms : List Member) (n : ℕ) (m : Member) → n < length ms → first_bad es cells ms ≡ first_bad es cells (drop n ms) → bad_place es cells (get_or ms n m) ≡ None → first_bad es cells ms ≡ first_bad es cells (drop (n + 1) ms)
  good_here ms n m h before none =
      before ∙ from_grid ms n m h ∙ ap (λ o. option_or (option_map (Bit (get_or ms n m)) o) (first_bad es cells (drop (n + 1) ms))) none

  pub all_good : (ms : List Member) (n : ℕ) → length ms ≤ n → first_bad es cells ms ≡ first_bad es cells (drop n ms) → None ≡ first_bad es cells ms
  all_good ms n h before = sym (before ∙ ap (first_bad es cells) (drop_of_length-le ms {i = n} h))
