-- What is solved in sheets is solved in flows, and the other way round.
use Rattle.std.proofs.Common.{◌≡◌, ℕ, suc, ◌<◌, Bool, true, false, nat_eq, List, [], ◌∷◌, ◌++◌, map, length, get_or, Option, sym, subst, arith}
use Rattle.std.specs.List.{AllByRecursion, list_all}
use Rattle.std.proofs.lemmas.Bool.{and_parts, eqb-true}
use Rattle.std.proofs.lemmas.Option.{slice_get-get_or}
use Rattle.las_base.specs.declared.Pauli.{Pauli}
use Rattle.las_base.specs.declared.Size.{Size}
use Rattle.las_base.specs.Jobs.{Task, IsTask}
use Rattle.las_io.specs.Shelves.{File}
use Rattle.grid_box.specs.Drawings.{Drawing, IsDrawing}
use Rattle.grid_box.specs.PipeRules.{IsValid}
use Rattle.grid_box.specs.Sheets.{HasSheets}
use Rattle.las_spec.specs.Boxes.{sweep_order}
use Rattle.las_base.specs.Cells.{same_size}
use Rattle.las_spec.specs.Briefs.{Brief, IsBrief, job_of}
use Rattle.las_base.proofs.Same.{any_at, same_size-refl}
use Rattle.zx_graph.specs.Graphs.{zx_of}
use Rattle.zx_flow.specs.Flows.{HasFlow}
use Rattle.sheet_flow.proofs.FlowSheets.{sheets_are_flows}
use Rattle.box_sweep.specs.Lines.{is_found}
use Rattle.box_sweep.specs.Partial.{IsBrokenOff}
use Rattle.box_sweep.specs.Solutions.{SolvesInSheets}
use Rattle.box_sweep.specs.Sweeps.{AreTried, AreTrue, HasSwept, Tried, box_at, boxes_in_order, by_found}
use Rattle.box_sweep.specs.Verdicts.{BoxWord, FoundIt, IsTrueWord, Refuted, Undecided}
use Rattle.box_sweep.specs.declared.ending.Ending.{Ending}
use Rattle.box_sweep.proofs.OrderLemmas.{number_at}
use Rattle.cnf_base.specs.Logs.{LogStep}
use Rattle.las_top.specs.Headline.{NoneSolves, Solves}

-- ---- one diagram

module _ (t : Task) (d : Drawing) (task : IsTask t) (drawn : IsDrawing d) (valid : IsValid t d) where
  law : (word : List Pauli) → nat_eq (length word) (length t.ports) ≡ true → (HasSheets t d word → HasFlow (zx_of t d) word) × (HasFlow (zx_of t d) word → HasSheets t d word)
  law word long = sheets_are_flows t d word task drawn valid (eqb-true (length word) (length t.ports) long)

  flows_of : (words : List (List Pauli)) → list_all (λ w. nat_eq (length w) (length t.ports)) words ≡ true → AllByRecursion (HasSheets t d) words → AllByRecursion (HasFlow (zx_of t d)) words
  flows_of [] long h = tt
  flows_of (w ∷ ws) long (h, hs) =
      let p = and_parts (nat_eq (length w) (length t.ports)) (list_all (λ v. nat_eq (length v) (length t.ports)) ws) long in
      ((law w p.0).0 h, flows_of ws p.1 hs)

  sheets_for : (words : List (List Pauli)) → list_all (λ w. nat_eq (length w) (length t.ports)) words ≡ true → AllByRecursion (HasFlow (zx_of t d)) words → AllByRecursion (HasSheets t d) words
  sheets_for [] long h = tt
  sheets_for (w ∷ ws) long (h, hs) =
      let p = and_parts (nat_eq (length w) (length t.ports)) (list_all (λ v. nat_eq (length v) (length t.ports)) ws) long in
      ((law w p.0).1 h, sheets_for ws p.1 hs)

pub in_flows : (t : Task) (d : Drawing) → IsTask t → IsDrawing d → SolvesInSheets t d → Solves t d
in_flows t d task drawn s = record { valid = s.valid; flows = flows_of t d task drawn s.valid t.flows task.words s.flows }

pub in_sheets : (t : Task) (d : Drawing) → IsTask t → IsDrawing d → Solves t d → SolvesInSheets t d
in_sheets t d task drawn s = record { valid = s.valid; flows = sheets_for t d task drawn s.valid t.flows task.words s.flows }

pub none_in_flows : (t : Task) → IsTask t → NoneSolves SolvesInSheets t → NoneSolves Solves t
none_in_flows t task none d drawn s = none d drawn (in_sheets t d task drawn s)

-- ---- a swept specification

in_order_all : (P : ℕ → Type 0) (ns : List ℕ) → ((n : ℕ) → n < length ns → P (get_or ns n 0)) → AllByRecursion P ns
in_order_all P [] h = tt
in_order_all P (n ∷ ns) h = (h 0 (omega arith), in_order_all P ns (λ k low. h (suc k) (omega arith)))

mapped_all : (f : ℕ → Size) (P : Size → Type 0) (ns : List ℕ) → AllByRecursion (λ n. P (f n)) ns → AllByRecursion P (map f ns)
mapped_all f P [] h = tt
mapped_all f P (n ∷ ns) (h, hs) = (h, mapped_all f P ns hs)

tried_all : (P : Size → Type 0) (ss : List Size) (xs : List Tried) → AllByRecursion P ss → AreTried ss xs → AllByRecursion (λ x. P x.box) xs
tried_all P [] [] h t = tt
tried_all P [] (x ∷ xs) h t = absurd t
tried_all P (s ∷ ss) [] h t = absurd t
tried_all P (s ∷ ss) (x ∷ xs) (h, hs) (is, rest) = (subst P (sym is) h, go (is_found x.word) rest (λ t. tried_all P ss xs hs t))
  where
    go : (found : Bool) → by_found found (xs ≡ []) (AreTried ss xs) → (AreTried ss xs → AllByRecursion (λ y. P y.box) xs) → AllByRecursion (λ y. P y.box) xs
    go true e later = subst (AllByRecursion (λ y. P y.box)) (sym e) tt
    go false t later = later t

module _ (b : Brief) (brief : IsBrief b) where
  box_task : (n : ℕ) → n < length b.boxes → IsTask (job_of b (box_at b n))
  box_task n low =
      let at = slice_get-get_or b.boxes n b.task.size low in
      brief.box_jobs (box_at b n) (any_at (same_size (box_at b n)) b.boxes n (box_at b n) at (same_size-refl (box_at b n)))

  order_tasks : AllByRecursion (λ s. IsTask (job_of b s)) (boxes_in_order b)
  order_tasks = mapped_all (box_at b) (λ s. IsTask (job_of b s)) (sweep_order b.boxes) (in_order_all (λ n. IsTask (job_of b (box_at b n))) (sweep_order b.boxes) (λ n low. box_task (get_or (sweep_order b.boxes) n 0) (number_at b.boxes n low)))

word_in_flows : (t : Task) (budget : ℕ) (word : BoxWord) (steps : List LogStep) → IsTask t → IsTrueWord SolvesInSheets t budget word steps → IsTrueWord Solves t budget word steps
word_in_flows t budget (Refuted n) steps task w = record { accepted = w.accepted; count = w.count; in_budget = w.in_budget; at_once = w.at_once; none = none_in_flows t task w.none }
word_in_flows t budget (Undecided n) steps task w = w
word_in_flows t budget (FoundIt l) steps task w = record {
  task_is = w.task_is;
  solution = w.solution;
  solved = in_flows t l.drawing task w.solution.lasre.drawing w.solved;
  whole = w.whole;
  in_budget = w.in_budget;
}

words_in_flows : (b : Brief) (budget : ℕ) (files files' : Option (List File)) (xs : List Tried) → AllByRecursion (λ x. IsTask (job_of b x.box)) xs → AreTrue SolvesInSheets b budget xs files files' → AreTrue Solves b budget xs files files'
words_in_flows b budget files files' [] tasks h = tt
words_in_flows b budget files files' (x ∷ xs) (task, tasks) (h, hs) =
    (record { steps = h.steps; logged = h.logged; is_true = word_in_flows (job_of b x.box) budget x.word h.steps task h.is_true }, words_in_flows b budget files files' xs tasks hs)

pub swept_in_flows : (b : Brief) (budget : ℕ) (files files' : Option (List File)) (out out' err err' : Option (List ℕ)) (end : Ending) → IsBrief b → HasSwept SolvesInSheets b budget files files' out out' err err' end → HasSwept Solves b budget files files' out out' err err' end
swept_in_flows b budget files files' out out' err err' end brief s = record {
  tried = s.tried;
  in_order = s.in_order;
  are_true = words_in_flows b budget files files' s.tried (tried_all (λ size. IsTask (job_of b size)) (boxes_in_order b) s.tried (order_tasks b brief) s.in_order) s.are_true;
  others_stay = s.others_stay;
  printed = s.printed;
  reported = s.reported;
  ending_is = s.ending_is;
}

-- ---- a sweep that was broken off

front_all : (P : Tried → Type 0) (xs ys : List Tried) → AllByRecursion P (xs ++ ys) → AllByRecursion P xs
front_all P [] ys h = tt
front_all P (x ∷ xs) ys (h, hs) = (h, front_all P xs ys hs)

pub broken_in_flows : (b : Brief) (budget : ℕ) (files files' : Option (List File)) (out out' err err' : Option (List ℕ)) → IsBrief b → IsBrokenOff SolvesInSheets b budget files files' out out' err err' → IsBrokenOff Solves b budget files files' out out' err err'
broken_in_flows b budget files files' out out' err err' brief s =
    let IsTried : Tried → Type 0 = λ x. IsTask (job_of b x.box) in
    record {
      tried = s.tried;
      rest = s.rest;
      in_order = s.in_order;
      work = s.work;
      work_is_next = s.work_is_next;
      are_true = words_in_flows b budget files files' s.tried (front_all IsTried s.tried s.rest (tried_all (λ size. IsTask (job_of b size)) (boxes_in_order b) (s.tried ++ s.rest) (order_tasks b brief) s.in_order)) s.are_true;
      left = s.left;
      printed = s.printed;
      said = s.said;
    }
