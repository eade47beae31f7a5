-- The log that a search leaves on a shelf.
use Rattle.std.proofs.Common.{◌≡◌, ℕ, Bool, true, false, ◌||◌, not, is_some, List, [], Option, Some, None, IfSome, Ok, unwrap_or, option_map, refl, sym, ap, ◌∙◌, subst}
use Rattle.std.specs.Option.{option_and_then}
use Rattle.las_io.specs.Shelves.{BeginsFile, File, FilesStay, Told}
use Rattle.cnf_base.specs.Literals.{Cnf}
use Rattle.cnf_base.specs.Logs.{LogStep, Tail, LogEnd}
use Rattle.clause_log.specs.LogText.{read_log}
use Rattle.clause_log.specs.LogFiles.{begun_file, is_broken, steps_in, steps_told}
use Rattle.clause_log.proofs.Taken.{told_is_whole, IsWhole}
use Rattle.sat_core.specs.Standing.{AreTold}
use Rattle.sat_core.specs.Outcomes.{IsTrueOutcome}
use Rattle.sat_core.specs.declared.outcome.Outcome.{Outcome}
use Rattle.box_sweep.specs.Logged.{HasLog, IsEmpty, IsLogged}

-- steps that are told of a whole log are read from its bytes
read_is : (count : ℕ) (bytes : List ℕ) (steps : List LogStep) → steps_in count false bytes ≡ Some steps → read_log bytes ≡ (steps, LogEnd)
read_is count bytes steps e = let w : IsWhole count bytes steps = told_is_whole count bytes steps e in both (read_log bytes) w.read w.end
  where
    both : (log : List LogStep × Tail) → log.0 ≡ steps → log.1 ≡ LogEnd → log ≡ (steps, LogEnd)
    both (xs, t) p q = cc

-- the file that is begun
in_file : (count : ℕ) (begun : Option (List ℕ)) (fs : List File) (steps : List LogStep) → option_and_then (steps_in count false) (begun_file begun fs) ≡ Some steps → HasLog (unwrap_or begun []) steps fs
in_file count begun fs steps e = at (begun_file begun fs) e
  where
    at : (file : Option (List ℕ)) → option_and_then (steps_in count false) file ≡ Some steps → option_map read_log file ≡ Some (steps, LogEnd)
    at None e = cc
    at (Some bytes) e = ap Some (read_is count bytes steps e)

-- steps that are told at the end stand in the file, also once it is ended
logged_at : (first : Option (List LogStep)) (count : ℕ) (begun : Option (List ℕ)) (steps : List LogStep) (before mid after : Option (List File)) → IfSome before (λ _. first ≡ Some []) → AreTold first (steps_told count false begun mid) steps → FilesStay mid after → Told (λ _ fs. HasLog (unwrap_or begun []) steps fs) before after
logged_at first count begun steps None mid after told are_told stay = tt
logged_at first count begun steps (Some xs) None after told are_told stay = let t = subst (λ f. AreTold f None steps) told are_told in absurd (cc t)
logged_at first count begun steps (Some xs) (Some fs) None told are_told stay = absurd stay
logged_at first count begun steps (Some xs) (Some fs) (Some gs) told are_told stay =
    let is : option_and_then (steps_in count false) (begun_file begun fs) ≡ Some steps = subst (λ f. AreTold f (option_and_then (steps_in count false) (begun_file begun fs)) steps) told are_told in
    subst (λ hs. HasLog (unwrap_or begun []) steps hs) (sym stay) (in_file count begun fs steps is)

-- what a search leaves
pub is_logged : (f : Cnf) (budget : ℕ) (outcome : Outcome) (first : Option (List LogStep)) (count : ℕ) (begun : Option (List ℕ)) (before mid after : Option (List File)) → IfSome before (λ _. first ≡ Some []) → IsTrueOutcome f budget first (steps_told count false begun mid) outcome → FilesStay mid after → IsLogged f budget outcome (unwrap_or begun []) before after
is_logged f budget outcome first count begun before mid after told o stay = record {
  steps = o.steps;
  logged = logged_at first count begun o.steps before mid after told o.are_told stay;
  is_true = o.holds;
}

unbroken : (failed b : Bool) → failed || b ≡ false → failed ≡ false
unbroken false b e = refl
unbroken true b e = e

-- no step was taken at first
none_at_first : (begun : Option (List ℕ)) (start now : Option (List File)) (first : Option (List LogStep)) → IsEmpty begun start now → IfSome now (λ fs. begun_file begun fs ≡ Some [] → first ≡ Some []) → IfSome start (λ _. first ≡ Some [])
none_at_first begun None now first empty then = tt
none_at_first begun (Some xs) None first empty then = absurd empty
none_at_first begun (Some xs) (Some ys) first empty then = then empty

-- the same of a shelf that is lent to a writer
pub is_logged_on : {H : Type 0} (files : H → Option (List File)) (begun : H → Option (List ℕ)) (f : Cnf) (budget : ℕ) (outcome : Outcome) (start : Option (List File)) (first : Option (List LogStep)) (old lent now done : H) (count : ℕ) (failed : Bool) → lent ≡ old → is_broken failed (begun now) ≡ false → begun now ≡ begun lent → IfSome (files old) (λ fs. begun_file (begun old) fs ≡ Some [] → first ≡ Some []) → IsTrueOutcome f budget first (steps_told count failed (begun now) (files now)) outcome → FilesStay (files now) (files done) → IsEmpty (begun old) start (files old) → IsLogged f budget outcome (unwrap_or (begun old) []) start (files done)
is_logged_on files begun f budget outcome start first old lent now done count failed lent_is whole same then o stay empty =
    let whole_is : failed ≡ false = unbroken failed (not (is_some (begun now))) whole in
    let begun_is : begun now ≡ begun old = same ∙ ap begun lent_is in
    let now_is : steps_told count failed (begun now) (files now) ≡ steps_told count false (begun old) (files now) = ap (λ b. steps_told count b (begun now) (files now)) whole_is ∙ ap (λ n. steps_told count false n (files now)) begun_is in
    is_logged f budget outcome first count (begun old) start (files now) (files done)
    (none_at_first (begun old) start (files old) first empty then)
    (subst (λ s. IsTrueOutcome f budget first s outcome) now_is o)
    stay

-- a file that was begun is empty
pub is_empty : (begun : Option (List ℕ)) (name : List ℕ) (before now : Option (List File)) → begun ≡ Some name → Told (BeginsFile name (Ok tt)) before now → IsEmpty begun before now
is_empty begun name None now begun_is b = tt
is_empty begun name (Some xs) None begun_is b = absurd b
is_empty begun name (Some xs) (Some ys) begun_is b = ap (λ n. begun_file n ys) begun_is ∙ b.1
