-- What a writer has taken, before a line and behind it.
use Rattle.std.proofs.Common.{◌≡◌, ℕ, ◌+◌, ◌-◌, ◌^◌, ◌<◌, Bool, true, false, ◌&&◌, cond, List, [], ◌∷◌, ◌++◌, length, take, Option, Some, None, IfSome, IsSome, IsSomeAnd, Result, Ok, Err, is_ok, refl, sym, ap, ◌∙◌, subst, arith, suc, nat_eq, nat_le, nat_lt, get_or, length-append}
use Rattle.std.specs.List.{list_all}
use Rattle.std.specs.Option.{option_and_then}
use Rattle.std.proofs.lemmas.Bool.{and_parts, and_from, cond-true, eqb-true, eq-eqb, le-leb, lt-ltb, ltb-true}
use Rattle.std.proofs.lemmas.List.{take_all, take_at}
use Rattle.las_io.specs.Shelves.{File, AppendsPiece, Grows, file_of}
use Rattle.cnf_base.specs.declared.literal.Lit.{Lit}
use Rattle.cnf_base.specs.Literals.{variable, are_below}
use Rattle.cnf_base.specs.Logs.{LogStep, Add, Tail, LogEnd, Malformed, Limit}
use Rattle.cnf_base.specs.Takes.{Takes, steps_after, is_fault}
use Rattle.cnf_base.specs.declared.traits.LogBad.{LogBad}
use Rattle.cnf_base.specs.declared.traits.LogBad.TheVariants.{Fault, Memory}
use Rattle.clause_log.specs.LogText.{step_text, read_log}
use Rattle.clause_log.specs.LogFiles.{is_id, is_writable, begun_file, is_end, has_steps, steps_in, steps_told, as_io, is_broken, Writes}
use Rattle.clause_log.proofs.ReadBack.{log_then, step_is_read, empty_is_read}

-- a whole log, by what is read of its bytes
pub record IsWhole (count : ℕ) (bytes : List ℕ) (steps : List LogStep) : Type 0 where
  pub read : (read_log bytes).0 ≡ steps
  pub end : (read_log bytes).1 ≡ LogEnd
  pub many : count ≡ length steps

tail_is : (t : Tail) → is_end t ≡ true → t ≡ LogEnd
tail_is LogEnd e = refl
tail_is Malformed e = cc
tail_is Limit e = cc

some_is : (b : Bool) (xs ys : List LogStep) → cond b (Some xs) None ≡ Some ys → (b ≡ true) × (xs ≡ ys)
some_is true xs ys e = (refl, cc)
some_is false xs ys e = cc

pub told_is_whole : (count : ℕ) (bytes : List ℕ) (steps : List LogStep) → steps_in count false bytes ≡ Some steps → IsWhole count bytes steps
unfolding steps_in
told_is_whole count bytes steps e =
    let is = some_is (has_steps count false (read_log bytes)) (take count (read_log bytes).0) steps e in
    let parts = and_parts (nat_eq count (length (read_log bytes).0)) (is_end (read_log bytes).1) is.0 in
    let many : count ≡ length (read_log bytes).0 = eqb-true count (length (read_log bytes).0) parts.0 in
    let all : take count (read_log bytes).0 ≡ (read_log bytes).0 = take_all count (read_log bytes).0 (omega (arith, many)) in
    let read : (read_log bytes).0 ≡ steps = sym all ∙ is.1 in
    record {
      read = read;
      end = tail_is (read_log bytes).1 parts.1;
      many = many ∙ ap length read;
    }

pub whole_is_told : (count : ℕ) (bytes : List ℕ) (steps : List LogStep) → IsWhole count bytes steps → steps_in count false bytes ≡ Some steps
unfolding steps_in
whole_is_told count bytes steps w =
    let many : count ≡ length (read_log bytes).0 = w.many ∙ sym (ap length w.read) in
    let test = and_from (nat_eq count (length (read_log bytes).0)) (is_end (read_log bytes).1) (eq-eqb count (length (read_log bytes).0) many) (ap is_end w.end) in
    cond-true (has_steps count false (read_log bytes)) (Some (take count (read_log bytes).0)) None test
    ∙ ap Some (take_all count (read_log bytes).0 (omega (arith, many)) ∙ w.read)

pub broken_is_told : (count : ℕ) (bytes : List ℕ) (steps more : List LogStep) → (read_log bytes).0 ≡ steps ++ more → count ≡ length steps → steps_in count true bytes ≡ Some steps
unfolding steps_in
broken_is_told count bytes steps more read many =
    let test : nat_le count (length (read_log bytes).0) ≡ true = le-leb count (length (read_log bytes).0) (omega (arith, many, ap length read, length-append steps more)) in
    cond-true (nat_le count (length (read_log bytes).0)) (Some (take count (read_log bytes).0)) None test
    ∙ ap (λ xs. Some (take count xs)) read ∙ ap Some (take_at steps more count (sym many))

-- an empty file has no steps
pub empty_is_told : (begun : Option (List ℕ)) (files : Option (List File)) → IfSome files (λ fs. begun_file begun fs ≡ Some []) → IfSome files (λ _. steps_told 0 false begun files ≡ Some [])
empty_is_told begun None e = tt
empty_is_told begun (Some fs) e =
    ap (option_and_then (steps_in 0 false)) e
    ∙ whole_is_told 0 [] [] (record {
      read = ap (λ (p : List LogStep × Tail). p.0) empty_is_read;
      end = ap (λ (p : List LogStep × Tail). p.1) empty_is_read;
      many = refl;
    })

-- a line more
whole_then : (count : ℕ) (bytes text : List ℕ) (steps : List LogStep) (s : LogStep) → IsWhole count bytes steps → read_log text ≡ (s ∷ [], LogEnd) → IsWhole (count + 1) (bytes ++ text) (steps ++ s ∷ [])
whole_then count bytes text steps s w one =
    let both = log_then bytes text w.end in record {
      read = ap (λ (p : List LogStep × Tail). p.0) both ∙ ap (λ xs. xs ++ (read_log text).0) w.read ∙ ap (λ (p : List LogStep × Tail). steps ++ p.0) one;
      end = ap (λ (p : List LogStep × Tail). p.1) both ∙ ap (λ (p : List LogStep × Tail). p.1) one;
      many = omega (arith, w.many, length-append steps (s ∷ []));
    }

-- the bytes of the begun file after an append
grown : (name piece bytes : List ℕ) (fs gs : List File) → Grows name piece fs gs → file_of fs name ≡ Some bytes → file_of gs name ≡ Some (bytes ++ piece)
grown name piece bytes fs gs g is = subst (λ o. IsSomeAnd o (λ old. file_of gs name ≡ Some (old ++ piece))) is g.1

-- what a line does to the steps of a file that is there
step_is_taken_in : (count later : ℕ) (broken : Bool) (name bytes : List ℕ) (then : Option (List ℕ)) (fs gs : List File) (result : Result (Unit {0}) LogBad) (number : ℕ) (s : LogStep) (o : Option (List LogStep))
    → number < 2 ^ 64 → is_writable s ≡ true → then ≡ Some name → file_of fs name ≡ Some bytes → steps_in count false bytes ≡ o → AppendsPiece name (step_text number s) (as_io result) fs gs
    → later ≡ cond (is_ok result) (count + 1) count → broken ≡ is_fault result
    → IfSome o (λ steps. option_and_then (steps_in later broken) (begun_file then gs) ≡ Some (steps_after steps s result))
step_is_taken_in count later broken name bytes then fs gs result number s None fits good same is e writes late torn = tt
step_is_taken_in count later broken name bytes then fs gs (Ok x) number s (Some steps) fits good same is e writes late torn =
    let w = told_is_whole count bytes steps e in
    let more = whole_then count bytes (step_text number s) steps s w (step_is_read number s fits good) in
    let file : begun_file then gs ≡ Some (bytes ++ step_text number s) = ap (λ b. begun_file b gs) same ∙ grown name (step_text number s) bytes fs gs writes is in
    ap (option_and_then (steps_in later broken)) file
    ∙ ap (λ n. steps_in n broken (bytes ++ step_text number s)) late ∙ ap (λ b. steps_in (count + 1) b (bytes ++ step_text number s)) torn
    ∙ whole_is_told (count + 1) (bytes ++ step_text number s) (steps ++ s ∷ []) more
step_is_taken_in count later broken name bytes then fs gs (Err Fault) number s (Some steps) fits good same is e writes late torn =
    let w = told_is_whole count bytes steps e in
    let front : List ℕ = take writes.0 (step_text number s) in
    let file : begun_file then gs ≡ Some (bytes ++ front) = ap (λ b. begun_file b gs) same ∙ grown name front bytes fs gs writes.2 is in
    let both = log_then bytes front w.end in
    ap (option_and_then (steps_in later broken)) file
    ∙ ap (λ n. steps_in n broken (bytes ++ front)) late ∙ ap (λ b. steps_in count b (bytes ++ front)) torn
    ∙ broken_is_told count (bytes ++ front) steps (read_log front).0
    (ap (λ (p : List LogStep × Tail). p.0) both ∙ ap (λ xs. xs ++ (read_log front).0) w.read) w.many
step_is_taken_in count later broken name bytes then fs gs (Err Memory) number s (Some steps) fits good same is e writes late torn =
    let file : begun_file then gs ≡ Some bytes = ap (λ b. begun_file b gs) same ∙ ap (λ hs. file_of hs name) writes ∙ is in
    ap (option_and_then (steps_in later broken)) file
    ∙ ap (λ n. steps_in n broken bytes) late ∙ ap (λ b. steps_in count b bytes) torn ∙ e

-- what a line does to the steps told
pub step_is_taken : (count later : ℕ) (broken : Bool) (begun then : Option (List ℕ)) (before after : Option (List File)) (result : Result (Unit {0}) LogBad) (number : ℕ) (s : LogStep)
    → number < 2 ^ 64 → is_writable s ≡ true → then ≡ begun → Writes result (step_text number s) begun before after → IsSome begun
    → later ≡ cond (is_ok result) (count + 1) count → broken ≡ is_fault result
    → Takes s result (steps_told count false begun before) (steps_told later broken then after)
step_is_taken count later broken begun then None after result number s fits good same writes some late torn = tt
step_is_taken count later broken None then (Some fs) after result number s fits good same writes some late torn = absurd (false_is_no_true some)
  where
    false_is_no_true : false ≡ true → ⊥
    false_is_no_true e = cc
step_is_taken count later broken (Some name) then (Some fs) None result number s fits good same writes some late torn = absurd writes
step_is_taken count later broken (Some name) then (Some fs) (Some gs) result number s fits good same writes some late torn = at (file_of fs name) refl
  where
    at : (file : Option (List ℕ)) → file_of fs name ≡ file
        → IfSome (option_and_then (steps_in count false) file) (λ steps. option_and_then (steps_in later broken) (begun_file then gs) ≡ Some (steps_after steps s result))
    at None is = tt
    at (Some bytes) is = step_is_taken_in count later broken name bytes then fs gs result number s (steps_in count false bytes) fits good same is refl writes late torn

-- ids of 64 bits that are no 0
pub ids_are_good : (ids : List ℕ) → list_all (nat_lt 0) ids ≡ true → ((k : ℕ) → get_or ids k 0 < 2 ^ 64) → list_all is_id ids ≡ true
ids_are_good [] all fits = refl
ids_are_good (id ∷ ids) all fits =
    let parts = and_parts (nat_lt 0 id) (list_all (nat_lt 0) ids) all in
    and_from (is_id id) (list_all is_id ids) (and_from (nat_lt 0 id) (nat_lt id (2 ^ 64)) parts.0 (lt-ltb id (2 ^ 64) (fits 0))) (ids_are_good ids parts.1 (λ k. fits (suc k)))

pub literals_are_good : (lits : List Lit) → are_below (2 ^ 30) lits ≡ true → are_below (2 ^ 31 - 1) lits ≡ true
literals_are_good [] all = refl
literals_are_good (l ∷ ls) all =
    let parts = and_parts (nat_lt (variable l) (2 ^ 30)) (are_below (2 ^ 30) ls) all in
    let small : variable l < 2 ^ 30 = ltb-true (variable l) (2 ^ 30) parts.0 in
    and_from (nat_lt (variable l) (2 ^ 31 - 1)) (are_below (2 ^ 31 - 1) ls) (lt-ltb (variable l) (2 ^ 31 - 1) (omega (arith, small))) (literals_are_good ls parts.1)

pub addition_is_good : (id : ℕ) (lits : List Lit) (hints : List ℕ) → 0 < id → id < 2 ^ 64 → are_below (2 ^ 30) lits ≡ true → list_all (nat_lt 0) hints ≡ true → ((k : ℕ) → get_or hints k 0 < 2 ^ 64) → is_writable (Add id lits hints) ≡ true
addition_is_good id lits hints pos fits below ids each =
    and_from (is_id id) (are_below (2 ^ 31 - 1) lits && list_all is_id hints) (and_from (nat_lt 0 id) (nat_lt id (2 ^ 64)) (lt-ltb 0 id pos) (lt-ltb id (2 ^ 64) fits))
    (and_from (are_below (2 ^ 31 - 1) lits) (list_all is_id hints) (literals_are_good lits below) (ids_are_good hints ids each))

-- a writer that is not broken has not failed, and its file is begun
pub not_broken : (failed : Bool) (begun : Option (List ℕ)) → is_broken failed begun ≡ false → (failed ≡ false) × IsSome begun
not_broken false (Some name) e = (refl, refl)
not_broken false None e = cc
not_broken true begun e = cc

-- the same where it is known of the file
pub empty_then_told : (begun : Option (List ℕ)) (files : Option (List File)) → IfSome files (λ fs. begun_file begun fs ≡ Some [] → steps_told 0 false begun files ≡ Some [])
empty_then_told begun None = tt
empty_then_told begun (Some fs) = λ e. empty_is_told begun (Some fs) e

none_at_first : (b : Bool) (xs : List LogStep) → IfSome (cond b (Some (take 0 xs)) None) (λ steps. steps ≡ [])
none_at_first true xs = refl
none_at_first false xs = tt

none_in : (file : Option (List ℕ)) → IfSome (option_and_then (steps_in 0 false) file) (λ steps. steps ≡ [])
unfolding steps_in
none_in None = tt
none_in (Some bytes) = none_at_first (has_steps 0 false (read_log bytes)) (read_log bytes).0

-- what has taken no step tells none
pub none_are_told : (begun : Option (List ℕ)) (files : Option (List File)) → IfSome (steps_told 0 false begun files) (λ steps. steps ≡ [])
none_are_told begun None = tt
none_are_told begun (Some fs) = none_in (begun_file begun fs)
