-- What a checker of logs answers, as `verify` says it of the file of a box.
use Rattle.std.proofs.Common.{◌≡◌, inl, inr, ℕ, Bool, true, false, List, [], drop, Option, Some, None, is_some, slice_get, option_map, unwrap_or, IfSome, refl, sym, ap, subst, ◌∙◌}
use Rattle.las_base.specs.declared.Size.{Size}
use Rattle.las_base.specs.Jobs.{Task, IsTask}
use Rattle.las_io.specs.Shelves.{File, FilesStay, file_of}
use Rattle.las_base.specs.Cells.{same_size}
use Rattle.las_spec.specs.Briefs.{Brief}
use Rattle.las_base.proofs.Same.{any_at, same_size-refl}
use Rattle.cnf_base.specs.Literals.{Cnf, IsRefuted}
use Rattle.cnf_base.specs.Logs.{LogStep, Tail, LogEnd, Malformed, Limit}
use Rattle.cnf_table.specs.Clauses.{clause_table}
use Rattle.clause_log.specs.Pieces.{bytes_from, log_told, read_to_limit}
use Rattle.clause_log.specs.Steps.{Ahead, Follows, ahead_of, tail_of}
use Rattle.box_sweep.specs.Lines.{log_name}
use Rattle.box_sweep.proofs.SolutionLemmas.{none_solves}
use Rattle.las_top.proofs.FlowLemmas.{none_in_flows}
use Rattle.las_top.specs.Answers.{Answer}
use Rattle.las_top.specs.Moments.{ShelfTells}
use Rattle.las_top.specs.Verify.{AnswersBoxLog, AnswersListed, AnswersLogFile, AnswersSteps, lists_box}

-- ---- the log of a file

abbrev without_line : Ahead → List LogStep × Tail
without_line a = (a.0, tail_of a.1)

log_is : (log : List LogStep × Tail) (steps : List LogStep) (follows : Follows) → ahead_of 1 log ≡ (steps, follows) → log ≡ (steps, tail_of follows)
log_is (ss, LogEnd) steps follows e = ap without_line e
log_is (ss, Malformed) steps follows e = ap without_line e
log_is (ss, Limit) steps follows e = ap without_line e

-- of a file that is there, by what is ahead of its reader
of_file : (file : Option (List ℕ)) (steps : List LogStep) (follows : Follows) → true ≡ is_some file → ahead_of 1 (read_to_limit (drop 0 (unwrap_or file []))) ≡ (steps, follows) → option_map read_to_limit file ≡ Some (steps, tail_of follows)
of_file None steps follows there e = absurd (cc)
of_file (Some bytes) steps follows there e = ap Some (log_is (read_to_limit bytes) steps follows e)

of_files : (files : Option (List File)) (name : List ℕ) (steps : List LogStep) (follows : Follows) → IfSome files (λ fs. true ≡ is_some (file_of fs name)) → IfSome (log_told name files) (λ ahead. ahead ≡ (steps, follows))
    → IfSome files (λ fs. option_map read_to_limit (file_of fs name) ≡ Some (steps, tail_of follows))
of_files None name steps follows there told = tt
of_files (Some fs) name steps follows there told = of_file (file_of fs name) steps follows there told

-- the steps of a log are those of before, where the files stayed
told_before : (before after : Option (List File)) (name : List ℕ) (ahead : Ahead) → FilesStay before after → IfSome (log_told name after) (λ a. a ≡ ahead) → IfSome (log_told name before) (λ a. a ≡ ahead)
told_before None after name ahead stay told = tt
told_before (Some fs) None name ahead stay told = absurd stay
told_before (Some fs) (Some gs) name ahead stay told = ap (λ hs. ahead_of 1 (read_to_limit (bytes_from name 0 hs))) (sym stay) ∙ told

-- of a file that is not there
not_there : (file : Option (List ℕ)) → false ≡ is_some file → file ≡ None
not_there None none = refl
not_there (Some bytes) none = absurd (cc)

module _ {H : Type 0} (shelf : ShelfTells H) (before : H) (answer : Answer) where
  pub log_judged : (f : Cnf) (name own : List ℕ) (mid : H) → shelf.finds before name true → IfSome (shelf.files before) (λ fs. true ≡ is_some (file_of fs name)) → own ≡ name → FilesStay (shelf.files before) (shelf.files mid)
      → AnswersSteps f (log_told own (shelf.files mid)) answer → AnswersLogFile shelf (IsRefuted f.clauses) f name before answer
  log_judged f name own mid present there named stay s = inr (record {
    steps = s.steps;
    tail = tail_of s.follows;
    present = present;
    told = of_files (shelf.files before) name s.steps s.follows there (told_before (shelf.files before) (shelf.files mid) name (s.steps, s.follows) stay (subst (λ n. IfSome (log_told n (shelf.files mid)) (λ a. a ≡ (s.steps, s.follows))) named s.told_are));
    answer_is = s.answer_is;
    shown = s.refuted;
  })

  -- ---- the log of a box

  shown : (t : Task) → IsTask t → AnswersLogFile shelf (IsRefuted (clause_table t).clauses) (clause_table t) (log_name t.size) before answer → AnswersBoxLog shelf t before answer
  shown t task (inl none) = inl none
  shown t task (inr a) = inr (record {
    steps = a.steps;
    tail = a.tail;
    present = a.present;
    told = a.told;
    answer_is = a.answer_is;
    shown = λ good. none_in_flows t task (none_solves t task (a.shown good));
  })

  pub box_judged : (t : Task) (f : Cnf) (name : List ℕ) → IsTask t → f ≡ clause_table t → name ≡ log_name t.size → AnswersLogFile shelf (IsRefuted f.clauses) f name before answer → AnswersBoxLog shelf t before answer
  box_judged t f name task formula_is name_is a =
      shown t task (subst (λ n. AnswersLogFile shelf (IsRefuted (clause_table t).clauses) (clause_table t) n before answer) name_is (subst (λ g. AnswersLogFile shelf (IsRefuted g.clauses) g name before answer) formula_is a))

  pub listed_judged : (after : H) (t u : Task) (listed : Bool) → listed ≡ true → u ≡ t → AnswersBoxLog shelf u before answer → AnswersListed shelf listed t before after answer
  listed_judged after t u true is same a = subst (λ v. AnswersBoxLog shelf v before answer) same a
  listed_judged after t u false is same a = absurd (cc)

-- ---- listed boxes

pub listed_here : (b : Brief) (size : Size) (n : ℕ) → slice_get b.boxes n ≡ Some size → lists_box size b ≡ true
listed_here b size n at = any_at (same_size size) b.boxes n size at (same_size-refl size)
