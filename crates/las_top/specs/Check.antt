-- What `check` answers to a document.
use Rattle.std.specs.Prelude.{◌≡◌, ◌↔◌, ℕ, List, ◌++◌, codes, Option, Some, None, Result, Ok, Err}
use Rattle.std.specs.Fmt.{decimal}
use Rattle.grid_box.specs.declared.Broken.{Broken}
use Rattle.grid_box.specs.Breaches.{breach}
use Rattle.lasre_codec.specs.declared.refusal.LasreRefused.{LasreRefused}
use Rattle.lasre_codec.specs.Documents.{Lasre, lasre_of}
use Rattle.lasre_codec.specs.Texts.{refusal_text}
use Rattle.las_top.specs.declared.run.Status.TheVariants.{Good}
use Rattle.las_top.specs.Answers.{Answer, yes_with, no_with, refused, valid_line}
use Rattle.las_top.specs.Shown.{ShowsValid}

-- the line of a rule that is broken
abbrev pub broken_line : Broken → List ℕ
broken_line b = codes "broken V" ++ (decimal b.rule ++ (codes " " ++ (decimal b.cell.i ++ (codes " " ++ (decimal b.cell.j ++ (codes " " ++ (decimal b.cell.k ++ codes "\n")))))))

-- what is answered where the first breach is this
abbrev pub answer_to_breach : Option Broken → Answer
answer_to_breach None = yes_with valid_line
answer_to_breach (Some broken) = no_with (broken_line broken)

-- the refusal of a document of a diagram
abbrev pub refused_lasre : LasreRefused → Answer
refused_lasre refusal = refused (codes "lasre " ++ refusal_text refusal)

-- what is answered to what a document gives. Sheets are not looked at
abbrev pub answer_to_lasre : Result Lasre LasreRefused → Answer
answer_to_lasre (Ok l) = answer_to_breach (breach l.task l.drawing)
answer_to_lasre (Err refusal) = refused_lasre refusal

-- what `check` answers to a document: the first breach of all rules
abbrev pub check_answer : List ℕ → Answer
check_answer bytes = answer_to_lasre (lasre_of bytes)

-- what `check` answers to the bytes of a document. It says yes exactly where the document shows a valid diagram
pub record AnswersCheck (bytes : List ℕ) (answer : Answer) : Type 0 where
  pub answer_is : answer ≡ check_answer bytes
  pub exact : (answer.status ≡ Good) ↔ ShowsValid bytes
