-- A line that is put, or not, as what its file goes on with.
use Rattle.std.proofs.Common.{◌≡◌, ℕ, ◌^◌, ◌<◌, Bool, true, false, List, [], ◌∷◌, ◌++◌, take, Option, Some, None, IfSome, IsSomeAnd, Result, Ok, Err, refl, sym, ap, ◌∙◌, subst, append-nil, nat_lt}
use Rattle.std.proofs.lemmas.Bool.{and_from, lt-ltb}
use Rattle.las_io.specs.Shelves.{File, AppendsPiece, OthersStay, file_of}
use Rattle.cnf_base.specs.Logs.{LogStep, Remove}
use Rattle.cnf_base.specs.Takes.{is_fault}
use Rattle.cnf_base.specs.declared.traits.LogBad.{LogBad}
use Rattle.cnf_base.specs.declared.traits.LogBad.TheVariants.{Fault, Memory}
use Rattle.clause_log.specs.LogText.{step_text}
use Rattle.clause_log.specs.LogFiles.{OthersAreLeft, Writes, are_writable, as_io, is_writable}
use Rattle.clause_log.specs.Growing.{AreLines, BegunGoesOn, GoesOn, begun_goes_on_itself}

module _ (number : ℕ) (s : LogStep) (fits : number < 2 ^ 64) (good : is_writable s ≡ true) where
  one_fits : are_writable ((number, s) ∷ []) ≡ true
  one_fits = and_from _ true (and_from (nat_lt number (2 ^ 64)) (is_writable s) (lt-ltb number (2 ^ 64) fits) good) refl

  whole_line : AreLines false (step_text number s)
  whole_line = record {
    lines = (number, s) ∷ [];
    next = (0, Remove []);
    cut = 0;
    bytes_are = sym (append-nil (step_text number s ++ []) ∙ append-nil (step_text number s));
    fit = one_fits;
    whole = λ e. refl;
  }

  torn_line : (n : ℕ) → AreLines true (take n (step_text number s))
  torn_line n = record {
    lines = [];
    next = (number, s);
    cut = n;
    bytes_are = refl;
    fit = one_fits;
    whole = λ e. absurd (true_is_no_false e);
  }
    where
      true_is_no_false : true ≡ false → ⊥
      true_is_no_false e = cc

  -- the file where it was, and the file with more behind it
  in_file : (now : Bool) (more : List ℕ) (f g : Option (List ℕ)) → AreLines now more → IsSomeAnd f (λ old. g ≡ Some (old ++ more)) → IfSome f (λ bytes. IsSomeAnd g (GoesOn false now bytes))
  in_file now more None g are grows = tt
  in_file now more (Some bytes) g are grows = subst (λ o. IsSomeAnd o (GoesOn false now bytes)) (sym grows) (more, refl, are)

  put_goes_on : (result : Result (Unit {0}) LogBad) (name : List ℕ) (xs ys : List File) → AppendsPiece name (step_text number s) (as_io result) xs ys → IfSome (file_of xs name) (λ bytes. IsSomeAnd (file_of ys name) (GoesOn false (is_fault result) bytes))
  put_goes_on (Ok x) name xs ys writes = in_file false (step_text number s) (file_of xs name) (file_of ys name) whole_line writes.1
  put_goes_on (Err Fault) name xs ys writes = in_file true (take writes.0 (step_text number s)) (file_of xs name) (file_of ys name) (torn_line writes.0) writes.2.1
  put_goes_on (Err Memory) name xs ys writes = subst (λ zs. IfSome (file_of xs name) (λ bytes. IsSomeAnd (file_of zs name) (GoesOn false false bytes))) (sym writes) (begun_goes_on_itself false (Some name) (Some xs))

  at_files : (result : Result (Unit {0}) LogBad) (begun : Option (List ℕ)) (before after : Option (List File)) → Writes result (step_text number s) begun before after → BegunGoesOn false (is_fault result) begun before after
  at_files result None before after writes = tt
  at_files result (Some name) None after writes = tt
  at_files result (Some name) (Some xs) None writes = absurd writes
  at_files result (Some name) (Some xs) (Some ys) writes = put_goes_on result name xs ys writes

  -- what a writer that was not broken does with a line
  pub line_goes_on : (old now : Bool) (result : Result (Unit {0}) LogBad) (begun : Option (List ℕ)) (before after : Option (List File)) → old ≡ false → now ≡ is_fault result → Writes result (step_text number s) begun before after → BegunGoesOn old now begun before after
  line_goes_on old now result begun before after old_is now_is writes =
      subst (λ b. BegunGoesOn b now begun before after) (sym old_is) (subst (λ b. BegunGoesOn false b begun before after) (sym now_is) (at_files result begun before after writes))

-- a line leaves all other files
piece_leaves : (name text : List ℕ) (result : Result (Unit {0}) LogBad) (xs ys : List File) → AppendsPiece name text (as_io result) xs ys → OthersStay name xs ys
piece_leaves name text (Ok x) xs ys writes = writes.0
piece_leaves name text (Err Fault) xs ys writes = writes.2.0
piece_leaves name text (Err Memory) xs ys writes = λ other no. ap (λ zs. file_of zs other) writes

pub line_leaves : (text : List ℕ) (result : Result (Unit {0}) LogBad) (begun : Option (List ℕ)) (before after : Option (List File)) → Writes result text begun before after → OthersAreLeft begun before after
line_leaves text result None before after writes = tt
line_leaves text result (Some name) None after writes = tt
line_leaves text result (Some name) (Some xs) None writes = absurd writes
line_leaves text result (Some name) (Some xs) (Some ys) writes = piece_leaves name text result xs ys writes
