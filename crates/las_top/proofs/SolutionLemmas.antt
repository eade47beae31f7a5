-- What is answered with yes solves its job.
use Rattle.std.proofs.Common.{◌≡◌, ◌↔◌, ℕ, zero, suc, ◌+◌, ◌<◌, Bool, true, false, cond, List, [], ◌∷◌, length, get_or, slice_index_or, Option, Some, None, Result, Ok, Err, IfOk, IsOkAnd, codes, refl, sym, subst, ap, ◌∙◌, arith}
use Rattle.std.specs.List.{AllByRecursion}
use Rattle.las_base.specs.declared.Pauli.{Pauli}
use Rattle.las_base.specs.Jobs.{Task}
use Rattle.grid_box.specs.declared.Broken.{Broken}
use Rattle.grid_box.specs.Breaches.{breach}
use Rattle.grid_box.specs.Drawings.{Drawing}
use Rattle.grid_box.specs.PipeRules.{IsValid}
use Rattle.grid_box.specs.Sheets.{Serves, sheet_breach}
use Rattle.grid_box.specs.Surfaces.{Surfaces, sheets_of}
use Rattle.grid_box.proofs.BreachLemmas.{no_breach_is_valid}
use Rattle.surface_rules.proofs.ServeLemmas.{no_breach_serves}
use Rattle.lasre_codec.specs.Documents.{Lasre, IsLasre, lasre_of}
use Rattle.zx_graph.specs.Graphs.{zx_of}
use Rattle.zx_flow.specs.Flows.{HasFlow}
use Rattle.sheet_flow.specs.FromSheets.{labels_from}
use Rattle.sheet_flow.proofs.SheetLabels.{sheets_give_labels}
use Rattle.sheet_flow.proofs.TaskLemmas.{word_long}
use Rattle.las_spec.specs.Briefs.{Brief}
use Rattle.las_top.specs.declared.run.Status.TheVariants.{Good}
use Rattle.las_top.specs.Answers.{Answer, no_with}
use Rattle.las_top.specs.Audit.{or_later, first_unserved, answer_to_breaches, audit_of}
use Rattle.las_top.specs.Zx.{zx_by, zx_of_lasre, zx_text}
use Rattle.las_top.specs.Check.{answer_to_breach, answer_to_lasre}
use Rattle.las_top.specs.Headline.{Solves, AreLabelled}
use Rattle.las_top.specs.Shown.{ServesEach, is_listed}

-- ---- served flows

module _ (t : Task) (d : Drawing) (s : Surfaces) where
  parts : (flow : ℕ) (o : Option Broken) (later : Option (ℕ × Broken)) → or_later flow o later ≡ None → (o ≡ None) × (later ≡ None)
  parts flow (Some b) later e = absurd (cc)
  parts flow None later e = (refl, e)

  no_breach : (words : List (List Pauli)) (n k : ℕ) → first_unserved t d s n words ≡ None → k < length words → sheet_breach t d (sheets_of s (n + k)) (get_or words k []) ≡ None
  no_breach [] n k e low = absurd (omega arith)
  no_breach (w ∷ ws) n zero e low =
      let z : n + 0 ≡ n = omega arith in
      ap (λ f. sheet_breach t d (sheets_of s f) w) z ∙ (parts n (sheet_breach t d (sheets_of s n) w) (first_unserved t d s (suc n) ws) e).0
  no_breach (w ∷ ws) n (suc k) e low =
      let z : n + suc k ≡ suc n + k = omega arith in
      ap (λ f. sheet_breach t d (sheets_of s f) (get_or ws k [])) z ∙ no_breach ws (suc n) k (parts n (sheet_breach t d (sheets_of s n) w) (first_unserved t d s (suc n) ws) e).1 (omega arith)

  pub served : first_unserved t d s 0 t.flows ≡ None → (f : ℕ) → f < length t.flows → Serves t d (sheets_of s f) (slice_index_or t.flows f [])
  served e f low =
      let z : 0 + f ≡ f = omega arith in
      (no_breach_serves t d (sheets_of s f) (slice_index_or t.flows f [])).0 (sym (ap (λ g. sheet_breach t d (sheets_of s g) (slice_index_or t.flows f [])) z) ∙ no_breach t.flows 0 f e low)

  -- and no flow is unserved where each is served
  none_unserved : (words : List (List Pauli)) (n : ℕ) → ((k : ℕ) → k < length words → sheet_breach t d (sheets_of s (n + k)) (get_or words k []) ≡ None) → first_unserved t d s n words ≡ None
  none_unserved [] n each = refl
  none_unserved (w ∷ ws) n each =
      let z : n + 0 ≡ n = omega arith in
      let here : sheet_breach t d (sheets_of s n) w ≡ None = sym (ap (λ f. sheet_breach t d (sheets_of s f) w) z) ∙ each 0 (omega arith) in
      ap (λ o. or_later n o (first_unserved t d s (suc n) ws)) here ∙ none_unserved ws (suc n) (λ k low.
      let y : suc n + k ≡ n + suc k = omega arith in
      ap (λ f. sheet_breach t d (sheets_of s f) (get_or ws k [])) y ∙ each (suc k) (omega arith))

  all_served : ((f : ℕ) → f < length t.flows → Serves t d (sheets_of s f) (slice_index_or t.flows f [])) → first_unserved t d s 0 t.flows ≡ None
  all_served serves = none_unserved t.flows 0 (λ k low.
      let z : 0 + k ≡ k = omega arith in
      ap (λ f. sheet_breach t d (sheets_of s f) (get_or t.flows k [])) z ∙ (no_breach_serves t d (sheets_of s k) (slice_index_or t.flows k [])).1 (serves k low))

pub valid_where : (t : Task) (d : Drawing) → d.size ≡ t.size → breach t d ≡ None → IsValid t d
valid_where t d size e = (no_breach_is_valid t d size).0 e

-- ---- flows

each : {X : Type 0} (P : X → Type 0) (d : X) (xs : List X) → ((k : ℕ) → k < length xs → P (get_or xs k d)) → AllByRecursion P xs
each P d [] h = tt
each P d (x ∷ xs) h = (h 0 (omega arith), each P d xs (λ k low. h (suc k) (omega arith)))

module _ (l : Lasre) (h : IsLasre l) (none : breach l.task l.drawing ≡ None) (all : first_unserved l.task l.drawing l.surfaces 0 l.task.flows ≡ None) where
  pub is_valid : IsValid l.task l.drawing
  is_valid = valid_where l.task l.drawing h.drawing_size none

  pub are_labelled : AreLabelled l
  are_labelled f low =
      sheets_give_labels l.task l.drawing (sheets_of l.surfaces f) (slice_index_or l.task.flows f []) h.task h.drawing is_valid (word_long l.task f h.task low) (served l.task l.drawing l.surfaces all f low)

  pub solves : Solves l.task l.drawing
  solves = record {
    valid = is_valid;
    flows = each (HasFlow (zx_of l.task l.drawing)) [] l.task.flows (λ f low. (labels_from l.drawing (sheets_of l.surfaces f), are_labelled f low));
  }

-- ---- the answers, exactly

unbroken : (o : Option Broken) → (answer_to_breach o).status ≡ Good → o ≡ None
unbroken None e = refl
unbroken (Some b) e = absurd (cc)

pub checked_exactly : (l : Lasre) → IsLasre l → ((answer_to_lasre (Ok l)).status ≡ Good) ↔ IsValid l.task l.drawing
checked_exactly l h =
    let law = no_breach_is_valid l.task l.drawing h.drawing_size in
    (λ good. law.0 (unbroken (breach l.task l.drawing) good), λ valid. ap (λ o. (answer_to_breach o).status) (law.1 valid))

-- ---- the answers

both_none : (listed : Bool) (o : Option Broken) (u : Option (ℕ × Broken)) (other : List ℕ) → (cond listed (answer_to_breaches o u) (no_with other)).status ≡ Good → (o ≡ None) × (u ≡ None)
both_none false o u other e = absurd (cc)
both_none true (Some b) u other e = absurd (cc)
both_none true None (Some x) other e = absurd (cc)
both_none true None None other e = (refl, refl)

pub audited_solves : (b : Brief) (l : Lasre) → IsLasre l → (audit_of b l).status ≡ Good → Solves l.task l.drawing
audited_solves b l h good =
    let k = both_none (is_listed b l.task) (breach l.task l.drawing) (first_unserved l.task l.drawing l.surfaces 0 l.task.flows) _ good in
    solves l h k.0 k.1

pub audited_exactly : (b : Brief) (l : Lasre) → IsLasre l → ((audit_of b l).status ≡ Good) ↔ ((is_listed b l.task ≡ true) × IsValid l.task l.drawing × ServesEach l)
audited_exactly b l h =
    let law = no_breach_is_valid l.task l.drawing h.drawing_size in
    let unserved : Option (ℕ × Broken) = first_unserved l.task l.drawing l.surfaces 0 l.task.flows in
    let other : Answer = no_with (codes "other job\n") in (
      λ good.
          let k = both_none (is_listed b l.task) (breach l.task l.drawing) unserved _ good in
          (listed_where (is_listed b l.task) _ good, law.0 k.0, served l.task l.drawing l.surfaces k.1),
      λ shown.
          ap (λ x. (cond x (answer_to_breaches (breach l.task l.drawing) unserved) other).status) shown.0
          ∙ ap (λ o. (answer_to_breaches o unserved).status) (law.1 shown.1)
          ∙ ap (λ u. (answer_to_breaches None u).status) (all_served l.task l.drawing l.surfaces shown.2),
    )
  where
    listed_where : (listed : Bool) (a : Answer) → (cond listed a (no_with (codes "other job\n"))).status ≡ Good → listed ≡ true
    listed_where true a e = refl
    listed_where false a e = absurd (cc)

shown_none : (o : Option Broken) (u : Option (ℕ × Broken)) (text : List ℕ) → (zx_by o u text).status ≡ Good → (o ≡ None) × (u ≡ None)
shown_none (Some b) u text e = absurd (cc)
shown_none None (Some x) text e = absurd (cc)
shown_none None None text e = (refl, refl)

pub shown_obeys : (l : Lasre) → IsLasre l → (zx_of_lasre l).status ≡ Good → IsValid l.task l.drawing × AreLabelled l
shown_obeys l h good =
    let k = shown_none (breach l.task l.drawing) (first_unserved l.task l.drawing l.surfaces 0 l.task.flows) (zx_text l) good in
    (is_valid l h k.0 k.1, are_labelled l h k.0 k.1)

pub shown_exactly : (l : Lasre) → IsLasre l → ((zx_of_lasre l).status ≡ Good) ↔ (IsValid l.task l.drawing × ServesEach l)
shown_exactly l h =
    let law = no_breach_is_valid l.task l.drawing h.drawing_size in
    let unserved : Option (ℕ × Broken) = first_unserved l.task l.drawing l.surfaces 0 l.task.flows in (
      λ good.
          let k = shown_none (breach l.task l.drawing) unserved (zx_text l) good in
          (law.0 k.0, served l.task l.drawing l.surfaces k.1),
      λ shown.
          ap (λ o. (zx_by o unserved (zx_text l)).status) (law.1 shown.0)
          ∙ ap (λ u. (zx_by None u (zx_text l)).status) (all_served l.task l.drawing l.surfaces shown.1),
    )

-- what is said of an answer is said of the bytes that it answers
pub read_exactly : (P : Lasre → Type 0) (answer asked : Answer) (bytes : List ℕ) (l : Lasre) → lasre_of bytes ≡ Ok l → answer ≡ asked → (asked.status ≡ Good) ↔ P l → (answer.status ≡ Good) ↔ IsOkAnd (lasre_of bytes) P
read_exactly P answer asked bytes l given is exactly = (
  λ good. subst (λ r. IsOkAnd r P) (sym given) (exactly.0 (sym (ap (λ a. a.status) is) ∙ good)),
  λ shown. ap (λ a. a.status) is ∙ exactly.1 (subst (λ r. IsOkAnd r P) given shown),
)

-- what holds of what is given gives what is wanted of it
pub if_ok : {T E : Type 0} {P Q : T → Type 0} (r : Result T E) → IfOk r P → ((x : T) → P x → Q x) → IfOk r Q
if_ok (Ok x) p h = h x p
if_ok (Err e) p h = tt
