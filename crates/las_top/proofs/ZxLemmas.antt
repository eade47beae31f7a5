-- The texts of flows, one after the other.
use Rattle.std.proofs.Common.{◌≡◌, ℕ, suc, ◌+◌, ◌<◌, List, [], ◌++◌, length, drop, get_or, ap, ◌∙◌, arith}
use Rattle.std.proofs.lemmas.List.{at_drop_more}
use Rattle.las_base.specs.declared.Pauli.{Pauli}
use Rattle.grid_box.specs.Drawings.{Drawing}
use Rattle.grid_box.specs.Surfaces.{Surfaces, sheets_of}
use Rattle.sheet_flow.specs.FromSheets.{labels_from}
use Rattle.sheet_flow.specs.LabelTexts.{flow_text}
use Rattle.las_top.specs.Zx.{flow_texts}

module _ (d : Drawing) (s : Surfaces) (words : List (List Pauli)) where
  from_flow : (n : ℕ) → n < length words → flow_texts d s n (drop n words) ≡ flow_text n (get_or words n []) (labels_from d (sheets_of s n)) ++ flow_texts d s (n + 1) (drop (n + 1) words)
  from_flow n low =
      let next : suc n ≡ n + 1 = omega arith in
      at_drop_more (flow_texts d s n) words n [] low ∙ ap (λ m. flow_text n (get_or words n []) (labels_from d (sheets_of s n)) ++ flow_texts d s m (drop (n + 1) words)) next

  -- what is written, before what is left, is the whole
  abbrev pub AreWritten : ℕ → List ℕ → List ℕ → Type 0
  AreWritten n old text = text ++ flow_texts d s n (drop n words) ≡ old ++ flow_texts d s 0 words
