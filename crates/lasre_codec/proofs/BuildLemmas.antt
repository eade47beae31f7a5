-- What is built entry by entry is the diagram that the entries show.
use Rattle.std.proofs.Common.{◌≡◌, Bool, true, false, cond, ◌&&◌, List, Some, None, refl, sym, ◌∙◌}
use Rattle.json_shape.specs.declared.grid.Entry.{Entry}
use Rattle.las_base.specs.declared.Axis.{Axis}
use Rattle.las_base.specs.declared.Axis.TheVariants.{I, J, K}
use Rattle.las_base.specs.declared.Kind.{Kind}
use Rattle.las_base.specs.declared.End.TheVariants.{Low, High}
use Rattle.las_base.specs.declared.Cell.{Cell}
use Rattle.las_base.specs.declared.Size.{Size}
use Rattle.las_base.specs.Cells.{holds, index}
use Rattle.las_base.specs.Jobs.{within_limits}
use Rattle.las_base.specs.Axes.{kind_by}
use Rattle.grid_box.specs.Drawings.{Drawing, pipe_at, is_y}
use Rattle.grid_box.specs.LookUps.{IsBuilt, pipe_of, kinds_are_lawful}
use Rattle.grid_box.proofs.LookUpLemmas.{pipe_at-drawing_by, is_y-drawing_by}
use Rattle.grid_box.proofs.DrawnLemmas.{drawn}
use Rattle.grid_box.proofs.TellLemmas.{look_ups_tell}
use Rattle.lasre_codec.specs.declared.member.Member.{Member}
use Rattle.lasre_codec.specs.declared.member.Member.TheVariants.{NodeY}
use Rattle.lasre_codec.specs.Members.{pipes_along, colours_of}
use Rattle.lasre_codec.specs.Entries.{is_one_at, is_one_of, marks, kinds_in, drawing_in}
use Rattle.lasre_codec.specs.Puts.{pipe_marked}

-- what is built, look-up by look-up
abbrev pub IsShown : (Member → List Entry) → Size → Drawing → Type 0
IsShown es s d = IsBuilt (λ a. is_one_of s (es (pipes_along a))) (λ a. pipe_marked s a (es (colours_of a Low)) (es (colours_of a High))) (is_one_of s (es NodeY)) s d

module _ (es : Member → List Entry) (s : Size) where
  one_kind : (b : Bool) (a : Axis) (k : Kind) → kinds_are_lawful a (cond b (Some (k, k)) None) ≡ true
  one_kind false a k = refl
  one_kind true I Kind.X = refl
  one_kind true I Kind.Z = refl
  one_kind true J Kind.X = refl
  one_kind true J Kind.Z = refl
  one_kind true K Kind.X = refl
  one_kind true K Kind.Z = refl

  two_kinds : (b : Bool) (k l : Kind) → kinds_are_lawful K (cond b (Some (k, l)) None) ≡ true
  two_kinds true k l = refl
  two_kinds false k l = refl

  lawful : (a : Axis) (c : Cell) → holds s c ≡ true → kinds_are_lawful a (kinds_in es s a c) ≡ true
  lawful I c h = one_kind (marks s (es (pipes_along I)) c) I (kind_by (marks s (es (colours_of I Low)) c))
  lawful J c h = one_kind (marks s (es (pipes_along J)) c) J (kind_by (marks s (es (colours_of J Low)) c))
  lawful K c h = two_kinds (marks s (es (pipes_along K)) c) (kind_by (marks s (es (colours_of K Low)) c)) (kind_by (marks s (es (colours_of K High)) c))

  -- what is built is what is shown
  pub built_is_shown : (d : Drawing) → within_limits s ≡ true → IsShown es s d → d ≡ drawing_in es s
  built_is_shown d limits built =
      look_ups_tell d (drawing_in es s) built.drawn (drawn s (kinds_in es s) (marks s (es NodeY)) limits lawful) built.size pipes y_cells
    where
      by_marks : (a : Axis) (c : Cell) (k l : Kind) (h m : Bool) → cond (h && m) (Some (record { axis = a; cell = c; low = k; high = l })) None ≡ cond h (pipe_of a c (cond (h && m) (Some (k, l)) None)) None
      by_marks a c k l true true = refl
      by_marks a c k l true false = refl
      by_marks a c k l false m = refl

      pipes : (a : Axis) (c : Cell) → pipe_at d a c ≡ pipe_at (drawing_in es s) a c
      pipes a c =
          built.pipes a c
          ∙ by_marks a c (kind_by (marks s (es (colours_of a Low)) c)) (kind_by (marks s (es (colours_of a High)) c)) (holds s c) (is_one_at (es (pipes_along a)) (index s c))
          ∙ sym (pipe_at-drawing_by s (kinds_in es s) (marks s (es NodeY)) a c)

      twice : (h m : Bool) → (h && m) ≡ (h && (h && m))
      twice true m = refl
      twice false m = refl

      y_cells : (c : Cell) → is_y d c ≡ is_y (drawing_in es s) c
      y_cells c = built.y_cells c ∙ twice (holds s c) (is_one_at (es NodeY) (index s c)) ∙ sym (is_y-drawing_by s (kinds_in es s) (marks s (es NodeY)) c)
