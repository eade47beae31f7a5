-- Along a log as many clauses are removed as are due, and none unlawfully.
use Rattle.std.proofs.Common.{◌≡◌, ℕ, suc, ◌+◌, ◌≤◌, true, false, List, [], ◌∷◌, ◌++◌, length, length-append, refl, sym, ap, ◌∙◌, subst, arith, inl, inr, ◌⊎◌}
use Rattle.std.proofs.lemmas.Bool.{both_ways}
use Rattle.std.proofs.lemmas.List.Sums.{fold-append}
use Rattle.cnf_base.specs.Literals.{Clause, Cnf}
use Rattle.cnf_base.specs.Logs.{LogStep, Add, Remove, additions, is_addition}
use Rattle.cnf_base.specs.Lessons.{Along, Progress, IsLesson, IsReductionPlace, Reduces, RemovesDue, RemovesOnce, adds_more, begins_with_removal, progress_after, progress_at_start, removals_due}
use Rattle.sat_core.specs.Standing.{log_state, log_progress, HasReduced, IsReduced}
use Rattle.sat_core.specs.Outcomes.{MayRemove, RemovesLawfully}
use Rattle.sat_core.proofs.StepLemmas.{additions_more}

-- where a list with one more behind it is cut, the cut stands at the last or before it
split_last : {X : Type 0} (xs : List X) (x : X) (before : List X) (a : X) (later : List X) → xs ++ x ∷ [] ≡ before ++ a ∷ later → ((later ≡ []) × (xs ≡ before) × (x ≡ a)) ⊎ ((l : List X) × (later ≡ l ++ x ∷ []) × (xs ≡ before ++ a ∷ l))
split_last [] x [] a later e = inl ((let k : later ≡ [] = cc in k), refl, (let k : x ≡ a = cc in k))
split_last {X} [] x (b ∷ bs) a later e =
    absurd (let n : 1 ≡ suc (length (bs ++ a ∷ later)) = ap length e in let m : length (bs ++ a ∷ later) ≡ length bs + length (a ∷ later) = length-append bs (a ∷ later) in omega arith)
split_last (y ∷ ys) x [] a later e =
    let rest : ys ++ x ∷ [] ≡ later = cc in
    let same : y ≡ a = cc in
    inr (ys, sym rest, ap (λ z. z ∷ ys) same)
split_last {X} (y ∷ ys) x (b ∷ bs) a later e = at (split_last ys x bs a later rest)
  where
    rest : ys ++ x ∷ [] ≡ bs ++ a ∷ later
    rest = cc

    same : y ≡ b
    same = cc

    at : ((later ≡ []) × (ys ≡ bs) × (x ≡ a)) ⊎ ((l : List X) × (later ≡ l ++ x ∷ []) × (ys ≡ bs ++ a ∷ l)) → ((later ≡ []) × (y ∷ ys ≡ b ∷ bs) × (x ≡ a)) ⊎ ((l : List X) × (later ≡ l ++ x ∷ []) × (y ∷ ys ≡ b ∷ bs ++ a ∷ l))
    at (inl k) = inl (k.0, ap (λ zs. y ∷ zs) k.1 ∙ ap (λ z. z ∷ bs) same, k.2)
    at (inr k) = inr (k.0, k.1, ap (λ zs. y ∷ zs) k.2 ∙ ap (λ z. z ∷ (bs ++ a ∷ k.0)) same)

-- how far a log has come behind one step more
pub progress_more : (f : Cnf) (ss : List LogStep) (s : LogStep) → log_progress f (ss ++ s ∷ []) ≡ progress_after (log_progress f ss) s
progress_more f ss s = fold-append progress_after (progress_at_start f) ss (s ∷ [])

pub fresh_more : (f : Cnf) (ss : List LogStep) (s : LogStep) → (log_progress f (ss ++ s ∷ [])).fresh ≡ is_addition s
fresh_more f ss s = ap (λ (p : Progress). p.fresh) (progress_more f ss s)

-- an addition behind a removal does not make it two
once_more : (next : LogStep) (later : List LogStep) (id : ℕ) (lits : Clause) (hints : List ℕ) (q : ℕ) → RemovesOnce (next ∷ later) q → RemovesOnce (next ∷ later ++ Add id lits hints ∷ []) q
once_more (Add i c h) later id lits hints q r = absurd r
once_more (Remove ids) [] id lits hints q r = (r.0, refl)
once_more (Remove ids) (x ∷ xs) id lits hints q r = (r.0, same x r.1)
  where
    same : (x : LogStep) → begins_with_removal (x ∷ xs) ≡ false → begins_with_removal (x ∷ xs ++ Add id lits hints ∷ []) ≡ false
    same (Add i c h) e = refl
    same (Remove js) e = e

-- the steps that are cut behind an addition, cut before it
cut_behind : (before : List LogStep) (a next : LogStep) (later : List LogStep) → before ++ a ∷ next ∷ later ≡ (before ++ a ∷ []) ++ next ∷ later
cut_behind [] a next later = refl
cut_behind (x ∷ xs) a next later = ap (λ ys. x ∷ ys) (cut_behind xs a next later)

-- a log without steps
pub reduced_at_start : (f : Cnf) → HasReduced f []
reduced_at_start f before id lits hints next later e place =
    absurd (let n : 0 ≡ length (before ++ Add id lits hints ∷ next ∷ later) = ap length e in let m : length (before ++ Add id lits hints ∷ next ∷ later) ≡ length before + length (Add id lits hints ∷ next ∷ later) = length-append before (Add id lits hints ∷ next ∷ later) in omega arith)

pub nothing_due_at_start : (f : Cnf) → IsReduced f []
nothing_due_at_start f fresh place due = both_ways false refl fresh

-- an addition, where nothing was due before it
pub reduced_behind_addition : (f : Cnf) (ss : List LogStep) (id : ℕ) (lits : Clause) (hints : List ℕ) → HasReduced f ss → IsReduced f ss → HasReduced f (ss ++ Add id lits hints ∷ [])
reduced_behind_addition f ss id lits hints all end before i c h next later e place =
    at (split_last ss (Add id lits hints) (before ++ Add i c h ∷ []) next later (e ∙ cut_behind before (Add i c h) next later))
  where
    Cut : Type 0
    Cut = ((later ≡ []) × (ss ≡ before ++ Add i c h ∷ []) × (Add id lits hints ≡ next)) ⊎ ((l : List LogStep) × (later ≡ l ++ Add id lits hints ∷ []) × (ss ≡ (before ++ Add i c h ∷ []) ++ next ∷ l))

    at : Cut → RemovesDue f (log_state f (before ++ Add i c h ∷ [])) (next ∷ later)
    at (inl k) =
        λ due. absurd (end (ap (λ xs. (log_progress f xs).fresh) k.1 ∙ fresh_more f before (Add i c h)) (let P : ℕ → Type 0 = λ n. IsReductionPlace n in subst P (sym (ap additions k.1 ∙ additions_more before (Add i c h))) place) (let Q : List LogStep → Type 0 = λ xs. 1 ≤ removals_due f (log_state f xs) in subst Q (sym k.1) due))
    at (inr k) =
        λ due.
        let was = all before i c h next k.0 (k.2 ∙ sym (cut_behind before (Add i c h) next k.0)) place due in
        let P : List LogStep → Type 0 = λ xs. RemovesOnce (next ∷ xs) (removals_due f (log_state f (before ++ Add i c h ∷ []))) in
        subst P (sym k.1) (once_more next k.0 id lits hints (removals_due f (log_state f (before ++ Add i c h ∷ []))) was)

-- a removal of as many clauses as are due, directly behind an addition
pub reduced_behind_removal : (f : Cnf) (ss : List LogStep) (ids : List ℕ) → HasReduced f ss → (log_progress f ss).fresh ≡ true → removals_due f (log_state f ss) ≤ length ids → HasReduced f (ss ++ Remove ids ∷ [])
reduced_behind_removal f ss ids all fresh enough before i c h next later e place =
    at (split_last ss (Remove ids) (before ++ Add i c h ∷ []) next later (e ∙ cut_behind before (Add i c h) next later))
  where
    q : ℕ
    q = removals_due f (log_state f (before ++ Add i c h ∷ []))

    Cut : Type 0
    Cut = ((later ≡ []) × (ss ≡ before ++ Add i c h ∷ []) × (Remove ids ≡ next)) ⊎ ((l : List LogStep) × (later ≡ l ++ Remove ids ∷ []) × (ss ≡ (before ++ Add i c h ∷ []) ++ next ∷ l))

    -- the removal stands behind the addition, or behind a step that is not the last
    longer : (next : LogStep) (l : List LogStep) → ss ≡ (before ++ Add i c h ∷ []) ++ next ∷ l → RemovesOnce (next ∷ l) q → RemovesOnce (next ∷ l ++ Remove ids ∷ []) q
    longer (Add j d g) l same once = absurd once
    longer (Remove js) [] same once = absurd (both_ways (log_progress f ss).fresh (ap (λ xs. (log_progress f xs).fresh) same ∙ fresh_more f (before ++ Add i c h ∷ []) (Remove js)) fresh)
    longer (Remove js) (x ∷ xs) same once = (once.0, on x once.1)
      where
        on : (x : LogStep) → begins_with_removal (x ∷ xs) ≡ false → begins_with_removal (x ∷ xs ++ Remove ids ∷ []) ≡ false
        on (Add j d g) e = refl
        on (Remove ks) e = e

    at : Cut → RemovesDue f (log_state f (before ++ Add i c h ∷ [])) (next ∷ later)
    at (inl k) =
        λ due.
        let P : List LogStep → Type 0 = λ xs. RemovesOnce xs q in
        let R : LogStep → Type 0 = λ s. RemovesOnce (s ∷ later) q in
        let S : List LogStep → Type 0 = λ xs. RemovesOnce (Remove ids ∷ xs) q in
        let here : RemovesOnce (Remove ids ∷ []) q = ((let z : removals_due f (log_state f ss) ≡ q = ap (λ xs. removals_due f (log_state f xs)) k.1 in omega arith), refl) in
        subst R k.2 (subst S (sym k.0) here)
    at (inr k) =
        λ due.
        let was = all before i c h next k.0 (k.2 ∙ sym (cut_behind before (Add i c h) next k.0)) place due in
        let P : List LogStep → Type 0 = λ xs. RemovesOnce (next ∷ xs) q in
        subst P (sym k.1) (longer next k.0 k.2 was)

pub nothing_due_behind_removal : (f : Cnf) (ss : List LogStep) (ids : List ℕ) → IsReduced f (ss ++ Remove ids ∷ [])
nothing_due_behind_removal f ss ids fresh place due = both_ways (log_progress f (ss ++ Remove ids ∷ [])).fresh (fresh_more f ss (Remove ids)) fresh

-- where a log goes on, what was due was removed
pub reduces : (f : Cnf) (ss : List LogStep) → HasReduced f ss → Reduces f ss
reduces f ss all before id lits hints [] e place more = absurd (both_ways false refl more)
reduces f ss all before id lits hints (next ∷ later) e place more = all before id lits hints next later e place

-- also with the empty clause at its end
pub reduces_at_end : (f : Cnf) (ss : List LogStep) (id : ℕ) (hints : List ℕ) → HasReduced f ss → Reduces f (ss ++ Add id [] hints ∷ [])
reduces_at_end f ss id hints all before i c h later e place more = at (split_last ss (Add id [] hints) before (Add i c h) later e)
  where
    q : ℕ
    q = removals_due f (log_state f (before ++ Add i c h ∷ []))

    behind : (l : List LogStep) → ss ≡ before ++ Add i c h ∷ l → adds_more (l ++ Add id [] hints ∷ []) ≡ true → 1 ≤ q → RemovesOnce (l ++ Add id [] hints ∷ []) q
    behind [] same some due = absurd (both_ways false refl some)
    behind (next ∷ l) same some due = once_more next l id [] hints q (all before i c h next l same place due)

    at : ((later ≡ []) × (ss ≡ before) × (Add id [] hints ≡ Add i c h)) ⊎ ((l : List LogStep) × (later ≡ l ++ Add id [] hints ∷ []) × (ss ≡ before ++ Add i c h ∷ l)) → RemovesDue f (log_state f (before ++ Add i c h ∷ [])) later
    at (inl k) = absurd (both_ways false refl (sym (ap adds_more k.0) ∙ more))
    at (inr k) =
        λ due.
        let P : List LogStep → Type 0 = λ xs. RemovesOnce xs q in
        subst P (sym k.1) (behind k.0 k.2 (sym (ap adds_more k.1) ∙ more) due)

-- a log of lessons removes lawfully
pub removes_lawfully : (n : ℕ) (p : Progress) (ss : List LogStep) → Along (IsLesson n) progress_after p ss → Along (MayRemove n) progress_after p ss
removes_lawfully n p [] a = tt
removes_lawfully n p (Add id lits hints ∷ ss) a = (tt, removes_lawfully n (progress_after p (Add id lits hints)) ss a.1)
removes_lawfully n p (Remove ids ∷ ss) a = (a.0, removes_lawfully n (progress_after p (Remove ids)) ss a.1)

along_more : (n : ℕ) (p : Progress) (ss : List LogStep) (id : ℕ) (lits : Clause) (hints : List ℕ) → Along (MayRemove n) progress_after p ss → Along (MayRemove n) progress_after p (ss ++ Add id lits hints ∷ [])
along_more n p [] id lits hints a = (tt, tt)
along_more n p (s ∷ ss) id lits hints a = (a.0, along_more n (progress_after p s) ss id lits hints a.1)

pub removes_lawfully_at_end : (f : Cnf) (ss : List LogStep) (id : ℕ) (hints : List ℕ) → Along (IsLesson (length f.clauses)) progress_after (progress_at_start f) ss → RemovesLawfully f (ss ++ Add id [] hints ∷ [])
removes_lawfully_at_end f ss id hints a = along_more (length f.clauses) (progress_at_start f) ss id [] hints (removes_lawfully (length f.clauses) (progress_at_start f) ss a)
