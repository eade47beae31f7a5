-- What `zx` answers to a document.
use Rattle.std.specs.Prelude.{◌≡◌, ◌↔◌, ℕ, suc, List, [], ◌∷◌, ◌++◌, Option, Some, None, Result, Ok, Err}
use Rattle.las_base.specs.declared.Pauli.{Pauli}
use Rattle.grid_box.specs.declared.Broken.{Broken}
use Rattle.grid_box.specs.Breaches.{breach}
use Rattle.grid_box.specs.Drawings.{Drawing}
use Rattle.grid_box.specs.Surfaces.{Surfaces, sheets_of}
use Rattle.lasre_codec.specs.declared.refusal.LasreRefused.{LasreRefused}
use Rattle.lasre_codec.specs.Documents.{Lasre, lasre_of}
use Rattle.zx_graph.specs.Graphs.{zx_of}
use Rattle.zx_graph.specs.Texts.{graph_text}
use Rattle.sheet_flow.specs.FromSheets.{labels_from}
use Rattle.sheet_flow.specs.LabelTexts.{flow_text}
use Rattle.las_top.specs.declared.run.Status.TheVariants.{Good}
use Rattle.las_top.specs.Answers.{Answer, yes_with, no_with}
use Rattle.las_top.specs.Audit.{first_unserved, flow_line}
use Rattle.las_top.specs.Check.{broken_line, refused_lasre}
use Rattle.las_top.specs.Headline.{ShowsFlows}
use Rattle.las_top.specs.Shown.{ShowsServed}

-- the texts of flows with the labels that their sheets give. Flows are numbered on from `flow`
abbrev pub flow_texts : Drawing → Surfaces → ℕ → List (List Pauli) → List ℕ
flow_texts d s flow [] = []
flow_texts d s flow (word ∷ words) = flow_text flow word (labels_from d (sheets_of s flow)) ++ flow_texts d s (suc flow) words

-- the text of a diagram's graph, and of each flow
unfoldable pub zx_text : Lasre → List ℕ
zx_text l = graph_text (zx_of l.task l.drawing) ++ flow_texts l.drawing l.surfaces 0 l.task.flows

-- what is answered by the first breach of a rule of pipes or colours, and then by the first flow that is not served
abbrev pub zx_by : Option Broken → Option (ℕ × Broken) → List ℕ → Answer
zx_by (Some broken) _ text = no_with (broken_line broken)
zx_by None (Some x) text = no_with (flow_line x.0 x.1)
zx_by None None text = yes_with text

-- what is answered to a job, a diagram and sheets
abbrev pub zx_of_lasre : Lasre → Answer
zx_of_lasre l = zx_by (breach l.task l.drawing) (first_unserved l.task l.drawing l.surfaces 0 l.task.flows) (zx_text l)

-- what is answered to what a document gives
abbrev pub zx_given : Result Lasre LasreRefused → Answer
zx_given (Ok l) = zx_of_lasre l
zx_given (Err refusal) = refused_lasre refusal

-- what `zx` answers to a document
abbrev pub zx_answer : List ℕ → Answer
zx_answer bytes = zx_given (lasre_of bytes)

-- what `zx` answers to the bytes of a document. It says yes exactly where the document's own sheets serve, and then the labels that it shows obey the rules
pub record AnswersZx (bytes : List ℕ) (answer : Answer) : Type 0 where
  pub answer_is : answer ≡ zx_answer bytes
  pub exact : (answer.status ≡ Good) ↔ ShowsServed bytes
  pub shows : answer.status ≡ Good → ShowsFlows bytes
