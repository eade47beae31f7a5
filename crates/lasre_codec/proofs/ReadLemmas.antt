-- What a value gives, step by step.
use Rattle.std.proofs.Common.{◌≡◌, true, List, length, Option, Some, None, Vec, Ok, Err, refl, sym, ap, ◌∙◌}
use Rattle.std.specs.Prelude.{option_map, Result}
use Rattle.std.specs.Option.{option_or}
use Rattle.std.specs.declared.alloc.Global.{Global}
use Rattle.std.proofs.lemmas.List.{length-map}
use Rattle.serde_json.specs.Data.{Data}
use Rattle.json_shape.specs.declared.grid.Entry.{Entry}
use Rattle.json_shape.specs.Arrays.{is_object}
use Rattle.las_base.specs.Jobs.{Task, IsTask}
use Rattle.las_base.specs.Cells.{volume, numbers_from}
use Rattle.las_base.proofs.Blocks.{length-numbers_from}
use Rattle.grid_box.specs.Drawings.{Drawing, IsDrawing}
use Rattle.grid_box.specs.Surfaces.{Surfaces, IsSurfaces, sheets_by}
use Rattle.las_spec.specs.declared.refusal.SpecRefused.{SpecRefused}
use Rattle.spec_codec.specs.Readings.{job_in}
use Rattle.lasre_codec.specs.declared.member.Member.{Member}
use Rattle.lasre_codec.specs.declared.refusal.LasreRefused.{LasreRefused}
use Rattle.lasre_codec.specs.declared.refusal.LasreRefused.TheVariants.{Length, Shape}
use Rattle.lasre_codec.specs.Members.{tested}
use Rattle.lasre_codec.specs.Entries.{entries_of, first_bad, drawing_in, surfaces_in, shows_sheet}
use Rattle.lasre_codec.specs.Documents.{IsLasre, lasre_as, missing_in, misshapen_in, wrong_length_in, judged, shown_in, given_for, given_by, lasre_in}
use Rattle.lasre_codec.specs.Kept.{entries_kept, AreKept}

module _ (d : Data) (t : Task) (grids : List (Vec Entry Global)) (kept : AreKept d grids) where
  kept_is : entries_kept grids ≡ entries_of d
  kept_is = λ i m. kept m i

  pub given_bad : (r : LasreRefused) → wrong_length_in t d ≡ None → first_bad (entries_kept grids) (volume t.size) tested ≡ Some r → given_for t d ≡ Err r
  given_bad r full bad =
      ap (λ o. judged (option_or (option_map Length o) (first_bad (entries_of d) (volume t.size) tested)) (shown_in t d)) full
      ∙ ap (λ o. judged o (shown_in t d)) (ap (λ es. first_bad es (volume t.size) tested) (sym kept_is) ∙ bad)

  pub given_shown : (g : Drawing) (f : Surfaces) → wrong_length_in t d ≡ None → first_bad (entries_kept grids) (volume t.size) tested ≡ None → g ≡ drawing_in (entries_kept grids) t.size → f ≡ surfaces_in (entries_kept grids) t.size (length t.flows) → given_for t d ≡ Ok (lasre_as t g f)
  given_shown g f full good g_is f_is =
      ap (λ o. judged (option_or (option_map Length o) (first_bad (entries_of d) (volume t.size) tested)) (shown_in t d)) full
      ∙ ap (λ o. judged o (shown_in t d)) (ap (λ es. first_bad es (volume t.size) tested) (sym kept_is) ∙ good)
      ∙ ap (λ es. Ok (lasre_as t (drawing_in es t.size) (surfaces_in es t.size (length t.flows)))) (sym kept_is)
      ∙ ap (λ x. Ok (lasre_as t x (surfaces_in (entries_kept grids) t.size (length t.flows)))) (sym g_is)
      ∙ ap (λ x. Ok (lasre_as t g x)) (sym f_is)

pub shown_fits : (es : Member → List Entry) (t : Task) (g : Drawing) (f : Surfaces) → IsTask t → IsDrawing g → IsSurfaces f → g ≡ drawing_in es t.size → f ≡ surfaces_in es t.size (length t.flows) → IsLasre (lasre_as t g f)
shown_fits es t g f task drawing surfaces g_is f_is = record {
  task = task;
  drawing = drawing;
  surfaces = surfaces;
  drawing_size = ap (λ x. x.size) g_is;
  surfaces_size = ap (λ x. x.size) f_is;
  flows = ap (λ x. length x.flows) f_is ∙ length-map (numbers_from 0 (length t.flows)) (λ n. sheets_by t.size (shows_sheet es t.size n)) ∙ length-numbers_from 0 (length t.flows);
}

-- ---- by the first refusal

pub shape_refused : (o : Option Member) (r : Result Task SpecRefused) (d : Data) (e : LasreRefused) → option_map Shape o ≡ Some e → given_by None o r d ≡ Err e
shape_refused None r d e is = absurd (cc)
shape_refused (Some m) r d e is = let same : Shape m ≡ e = cc in ap Err same

pub misshapen_is_refused : (d : Data) (e : LasreRefused) → is_object d ≡ true → missing_in d ≡ None → option_map Shape (misshapen_in d) ≡ Some e → lasre_in d ≡ Err e
unfolding lasre_in
misshapen_is_refused d e object none is = rw (object, none) (shape_refused (misshapen_in d) (job_in d) d e is)

pub job_given : (d : Data) (t : Task) → is_object d ≡ true → missing_in d ≡ None → misshapen_in d ≡ None → job_in d ≡ Ok t → lasre_in d ≡ given_for t d
unfolding lasre_in
job_given d t object none shaped job = rw (object, none, shaped, job) refl
