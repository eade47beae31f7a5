-- The steps of a log that is read in pieces.
use Rattle.std.proofs.Common.{◌≡◌, ◌⊎◌, inl, inr, ℕ, ◌+◌, ◌-◌, ◌^◌, ◌<◌, ◌≤◌, Bool, true, false, not, nat_le, List, [], ◌∷◌, ◌++◌, length, take, drop, Option, Some, None, IfSome, Result, Ok, Err, unwrap_or, refl, sym, ap, ◌∙◌, subst, arith, nat_eq, append-nil, append_assoc, length-append, length-take}
use Rattle.std.specs.Option.{option_map}
use Rattle.std.proofs.lemmas.Bool.{and_parts, and_from, cases_lt, le-leb, lt-leb}
use Rattle.std.proofs.lemmas.List.{take_all, drop-take, take-take, drop_all, length-drop, drop-drop}
use Rattle.std.proofs.Math.Seq.{take-add}
use Rattle.las_io.specs.Shelves.{File, FilesStay, IsFetched, file_of}
use Rattle.cnf_base.specs.Logs.{LogStep, Tail, LogEnd, Malformed, Limit}
use Rattle.clause_log.specs.declared.steps.Step.{Step}
use Rattle.clause_log.specs.declared.steps.StepRefused.{StepRefused}
use Rattle.clause_log.specs.declared.steps.StepRefused as refused
use Rattle.clause_log.specs.LogText.{whole_lines, onto_step, read_lines, read_log, step_of}
use Rattle.clause_log.specs.Steps.{Ahead, Gives, ahead_of, step_is}
use Rattle.clause_log.specs.Pieces.{HasFeedAt, PieceComes, at_limit, bytes_from, hand_in, is_one_line, log_left, read_part, reader_ahead, reader_log}
use Rattle.clause_log.proofs.FeedLemmas.{bad_line, cut_at_feed, next_line, not_ended, torn_line, line_then}
use Rattle.clause_log.proofs.ReadBack.{empty_is_read, one_line}

onto_limit : (o : Option LogStep) (log : List LogStep × Tail) → at_limit (onto_step o log) ≡ onto_step o (at_limit log)
onto_limit None log = refl
onto_limit (Some s) log = refl

-- a line in front of bytes, whether they are cut or not
part_then : (cut : Bool) (line more : List ℕ) → is_one_line line ≡ true → read_part cut (line ++ 10 ∷ more) ≡ onto_step (step_of line) (read_part cut more)
part_then false line more all = line_then line more all
part_then true line more all =
    ap (λ (p : List (List ℕ) × List ℕ). at_limit (read_lines p.0 [])) (one_line line more all) ∙ onto_limit (step_of line) (read_lines (whole_lines more).0 [])

-- a line that has begun goes on over bytes with no line feed
pub torn_more : (xs ys : List ℕ) → is_one_line xs ≡ true → is_one_line ys ≡ true → is_one_line (xs ++ ys) ≡ true
torn_more [] ys p q = q
torn_more (x ∷ xs) ys p q =
    let parts = and_parts (not (nat_eq x 10)) (is_one_line xs) p in
    and_from (not (nat_eq x 10)) (is_one_line (xs ++ ys)) parts.0 (torn_more xs ys parts.1 q)

-- the first line left: what was torn, and the bytes up to the first line feed at hand
pub first_line : (room : ℕ) (torn hand rest : List ℕ) (n : ℕ) → is_one_line torn ≡ true → HasFeedAt hand n
    → log_left room (torn ++ hand) rest ≡ onto_step (step_of (torn ++ take n hand)) (log_left room (drop (n + 1) hand) rest)
first_line room torn hand rest n all h =
    let bytes : (torn ++ hand) ++ take room rest ≡ (torn ++ take n hand) ++ 10 ∷ (drop (n + 1) hand ++ take room rest) =
    ap (λ hs. (torn ++ hs) ++ take room rest) (cut_at_feed hand n h) ∙ simp append_assoc in
    ap (read_part (nat_le room (length rest))) bytes
    ∙ part_then (nat_le room (length rest)) (torn ++ take n hand) (drop (n + 1) hand ++ take room rest) (torn_more torn (take n hand) all h.line)

-- a piece that came leaves the log as it was
le_minus : (n room len : ℕ) → n ≤ room → n ≤ len → nat_le (room - n) (len - n) ≡ nat_le room len
le_minus n room len p q = at (cases_lt len room)
  where
    at : (len < room) ⊎ (room ≤ len) → nat_le (room - n) (len - n) ≡ nat_le room len
    at (inl less) = lt-leb (room - n) (len - n) (omega arith) ∙ sym (lt-leb room len less)
    at (inr more) = le-leb (room - n) (len - n) (omega arith) ∙ sym (le-leb room len more)

pub piece_came : (room n : ℕ) (torn buf rest : List ℕ) → n ≤ room → n ≤ length rest → take n buf ≡ take n rest
    → log_left (room - n) (torn ++ take n buf) (drop n rest) ≡ log_left room torn rest
piece_came room n torn buf rest small within front =
    let sum : n + (room - n) ≡ room = omega arith in
    let cut : nat_le (room - n) (length (drop n rest)) ≡ nat_le room (length rest) = ap (nat_le (room - n)) (length-drop n rest) ∙ le_minus n room (length rest) small within in
    let bytes : (torn ++ take n buf) ++ take (room - n) (drop n rest) ≡ torn ++ take room rest =
    ap (λ xs. (torn ++ xs) ++ take (room - n) (drop n rest)) front
    ∙ append_assoc torn (take n rest) (take (room - n) (drop n rest))
    ∙ ap (λ xs. torn ++ xs) (sym (take-add n (room - n) rest) ∙ ap (λ k. take k rest) sum) in
    ap (λ b. read_part b ((torn ++ take n buf) ++ take (room - n) (drop n rest))) cut ∙ ap (read_part (nat_le room (length rest))) bytes

-- behind the last byte, where the limit is not reached, all bytes are at hand
empty_rest : (room : ℕ) (torn rest : List ℕ) → 0 < room → length rest ≡ 0 → log_left room torn rest ≡ read_log torn
empty_rest room torn [] some none = ap (λ b. read_part b (torn ++ take room [])) (lt-leb room 0 some) ∙ ap (λ xs. read_log (torn ++ xs)) (take_all room [] (omega arith)) ∙ ap read_log (append-nil torn)
empty_rest room torn (b ∷ bs) some none = absurd (omega arith)

-- what follows at the limit
limit_left : (torn rest : List ℕ) → is_one_line torn ≡ true → log_left 0 torn rest ≡ ([], Limit)
limit_left torn rest all = ap (λ b. read_part b (torn ++ [])) (le-leb 0 (length rest) (omega arith)) ∙ ap (λ (p : List (List ℕ) × List ℕ). at_limit (read_lines p.0 [])) (ap whole_lines (append-nil torn) ∙ not_ended torn all)

pub gives_limit : (room line : ℕ) (torn rest : List ℕ) (log : List LogStep × Tail) (after : Option Ahead) → room ≡ 0 → is_one_line torn ≡ true → log_left room torn rest ≡ log
    → Gives (Err refused.TheVariants.TooLong) after (ahead_of line log)
gives_limit room line torn rest log after none all is =
    let here : ([], Limit) ≡ log = sym (limit_left torn rest all) ∙ ap (λ r. log_left r torn rest) (sym none) ∙ is in
    subst (λ l. Gives (Err refused.TheVariants.TooLong) after (ahead_of line l)) here tt

pub gives_torn_end : (room line : ℕ) (torn rest : List ℕ) (log : List LogStep × Tail) (after : Option Ahead) → 0 < room → length rest ≡ 0 → is_one_line torn ≡ true → 0 < length torn → log_left room torn rest ≡ log
    → Gives (Err (refused.TheVariants.Malformed line)) after (ahead_of line log)
gives_torn_end room line torn rest log after some none all long is =
    let here : ([], Malformed) ≡ log = sym (torn_line torn all long) ∙ sym (empty_rest room torn rest some none) ∙ is in
    let P : Ahead → Type 0 = Gives (Err (refused.TheVariants.Malformed line)) after in
    subst P (sym (bad_line line) ∙ ap (ahead_of line) here) refl

pub gives_end_left : (room line : ℕ) (torn rest : List ℕ) (log : List LogStep × Tail) → 0 < room → length rest ≡ 0 → length torn ≡ 0 → log_left room torn rest ≡ log
    → Gives (Ok None) (Some (ahead_of line (log_left room torn rest))) (ahead_of line log)
gives_end_left room line [] rest log some none empty is =
    let end : log_left room [] rest ≡ ([], LogEnd) = empty_rest room [] rest some none ∙ empty_is_read in
    subst (λ l. Gives (Ok None) (Some (ahead_of line (log_left room [] rest))) (ahead_of line l)) is
    (subst (λ l. Gives (Ok None) (Some (ahead_of line l)) (ahead_of line l)) (sym end) refl)
gives_end_left room line (b ∷ bs) rest log some none empty is = absurd (omega arith)

-- the first line left gives its step
pub gives_first : (line : ℕ) (step : Step) (o : Option LogStep) (log more : List LogStep × Tail) → Some (step_is step) ≡ o → log ≡ onto_step o more
    → Gives (Ok (Some step)) (Some (ahead_of (line + 1) more)) (ahead_of line log)
gives_first line step o log more says is =
    let here : log ≡ (step_is step ∷ more.0, more.1) = is ∙ ap (λ p. onto_step p more) (sym says) in
    let ahead : ahead_of line log ≡ (step_is step ∷ more.0, (ahead_of (line + 1) more).1) = ap (ahead_of line) here ∙ ap (λ f. (step_is step ∷ more.0, f)) (next_line line (step_is step) more.0 more.1) in
    subst (Gives (Ok (Some step)) (Some (ahead_of (line + 1) more))) (sym ahead) (refl, refl)

-- or is not of the form
pub gives_bad_first : (line : ℕ) (o : Option LogStep) (log more : List LogStep × Tail) (after : Option Ahead) → None ≡ o → log ≡ onto_step o more
    → Gives (Err (refused.TheVariants.Malformed line)) after (ahead_of line log)
gives_bad_first line o log more after none is =
    let P : Ahead → Type 0 = Gives (Err (refused.TheVariants.Malformed line)) after in
    subst P (sym (bad_line line) ∙ ap (ahead_of line) (sym (is ∙ ap (λ p. onto_step p more) (sym none)))) refl

-- where the files are told, by what holds of them
pub gives_told : (result : Result (Option Step) StepRefused) (now then : List File → Ahead) (before after : Option (List File)) → FilesStay before after
    → IfSome before (λ fs. Gives result (Some (then fs)) (now fs)) → IfSome (option_map now before) (Gives result (option_map then after))
gives_told result now then None after stay gives = tt
gives_told result now then (Some fs) None stay gives = absurd stay
gives_told result now then (Some fs) (Some gs) stay gives = subst (λ hs. Gives result (Some (then hs)) (now fs)) (sym stay) gives

-- a fetch of bytes to the front of a piece
piece_is : (file : Option (List ℕ)) (place : ℕ) (buf : List ℕ) (answer : Option ℕ) → 0 < length buf → IfSome answer (λ n. n ≤ length buf) → IsFetched file place buf answer
    → PieceComes (drop place (unwrap_or file [])) buf (unwrap_or answer 0)
piece_is None place buf None some bound fetched = record {
  front = refl;
  within = omega arith;
  none = λ _. ap length (drop_all place [] (omega arith));
}
piece_is None place buf (Some n) some bound fetched = absurd (cc)
piece_is (Some bytes) place buf None some bound fetched = absurd fetched
piece_is (Some bytes) place buf (Some n) some bound fetched = record {
  front = fetched.front;
  within = fetched.within;
  none = λ none. at (fetched.none.0 none);
}
  where
    at : (length bytes ≤ place) ⊎ (length buf ≡ 0) → length (drop place bytes) ≡ 0
    at (inl end) = ap length (drop_all place bytes end)
    at (inr empty) = absurd (omega arith)

pub piece_told : (name : List ℕ) (place : ℕ) (buf : List ℕ) (answer : Option ℕ) (files : Option (List File)) → 0 < length buf → IfSome answer (λ n. n ≤ length buf)
    → IfSome files (λ fs. IsFetched (file_of fs name) place buf answer) → IfSome files (λ fs. PieceComes (bytes_from name place fs) buf (unwrap_or answer 0))
piece_told name place buf answer None some bound fetched = tt
piece_told name place buf answer (Some fs) some bound fetched = piece_is (file_of fs name) place buf answer some bound fetched

-- the line at hand, in the piece
pub line_in : (piece : List ℕ) (at filled n : ℕ) → at + n ≤ filled → take n (drop at (take filled piece)) ≡ take n (drop at piece)
line_in piece at filled n within =
    let sum : at + (filled - at) ≡ filled = omega arith in
    let less : n ≤ filled - at = omega arith in
    ap (λ k. take n (drop at (take k piece))) (sym sum) ∙ ap (take n) (drop-take at (filled - at) piece) ∙ take-take n (filled - at) (drop at piece) less

pub hand_later : (piece : List ℕ) (at filled n : ℕ) → drop (at + n + 1) (take filled piece) ≡ drop (n + 1) (drop at (take filled piece))
hand_later piece at filled n = let same : at + n + 1 ≡ at + (n + 1) = omega arith in ap (λ k. drop k (take filled piece)) same ∙ sym (drop-drop (n + 1) at (take filled piece))

pub line_given : (files : Option (List File)) (name torn hand later : List ℕ) (taken line n : ℕ) (step : Step) → is_one_line torn ≡ true → HasFeedAt hand n → later ≡ drop (n + 1) hand
    → Some (step_is step) ≡ step_of (torn ++ take n hand) → IfSome (reader_ahead name (torn ++ hand) taken line files) (Gives (Ok (Some step)) (reader_ahead name later taken (line + 1) files))
line_given None name torn hand later taken line n step all h place says = tt
line_given (Some fs) name torn hand later taken line n step all h place says =
    let rest : List ℕ = bytes_from name taken fs in
    let room : ℕ = 2 ^ 40 - taken in
    subst (λ l. Gives (Ok (Some step)) (Some (ahead_of (line + 1) (log_left room l rest))) (ahead_of line (log_left room (torn ++ hand) rest))) (sym place)
    (gives_first line step (step_of (torn ++ take n hand)) (log_left room (torn ++ hand) rest) (log_left room (drop (n + 1) hand) rest) says (first_line room torn hand rest n all h))

pub line_is_bad : (files : Option (List File)) (name torn hand : List ℕ) (taken line n : ℕ) (after : Option Ahead) → is_one_line torn ≡ true → HasFeedAt hand n
    → None ≡ step_of (torn ++ take n hand) → IfSome (reader_ahead name (torn ++ hand) taken line files) (Gives (Err (refused.TheVariants.Malformed line)) after)
line_is_bad None name torn hand taken line n after all h none = tt
line_is_bad (Some fs) name torn hand taken line n after all h none =
    let rest : List ℕ = bytes_from name taken fs in
    let room : ℕ = 2 ^ 40 - taken in
    gives_bad_first line (step_of (torn ++ take n hand)) (log_left room (torn ++ hand) rest) (log_left room (drop (n + 1) hand) rest) after none (first_line room torn hand rest n all h)

-- ---- the reader's loop, where files are told

-- the bytes at hand are part of the line that was torn
pub log_torn : (files : Option (List File)) (name torn hand both first : List ℕ) (taken start : ℕ) → both ≡ torn ++ hand
    → IfSome files (λ fs. reader_log name (torn ++ hand) taken fs ≡ reader_log name first start fs)
    → IfSome files (λ fs. reader_log name both taken fs ≡ reader_log name first start fs)
log_torn files name torn hand both first taken start is log = subst (λ b. IfSome files (λ fs. reader_log name b taken fs ≡ reader_log name first start fs)) (sym is) log

-- a piece that came at the end of a log is empty, and the piece is that of the name that the reader began with
comes_by : (name own : List ℕ) (taken : ℕ) (fs : List File) (piece : List ℕ) (filled : ℕ) → own ≡ name → PieceComes (bytes_from own taken fs) piece filled → PieceComes (bytes_from name taken fs) piece filled
comes_by name own taken fs piece filled is comes = subst (λ n. PieceComes (bytes_from n taken fs) piece filled) is comes

-- at the limit
pub limit_told : (files : Option (List File)) (name torn first : List ℕ) (taken start line : ℕ) (after : Option Ahead) → taken ≡ 2 ^ 40 → is_one_line torn ≡ true
    → IfSome files (λ fs. reader_log name torn taken fs ≡ reader_log name first start fs)
    → IfSome (reader_ahead name first start line files) (Gives (Err refused.TheVariants.TooLong) after)
limit_told None name torn first taken start line after end all log = tt
limit_told (Some fs) name torn first taken start line after end all log =
    let none : 2 ^ 40 - taken ≡ 0 = ap (λ k. 2 ^ 40 - k) end in
    gives_limit (2 ^ 40 - taken) line torn (bytes_from name taken fs) (reader_log name first start fs) after none all log

-- behind the last byte, where a line is torn
pub torn_told : (files : Option (List File)) (name own torn first piece : List ℕ) (taken start line later filled : ℕ) (after : Option Ahead) → own ≡ name → later ≡ line → taken < 2 ^ 40 → filled ≡ 0
    → IfSome files (λ fs. PieceComes (bytes_from own taken fs) piece filled) → is_one_line torn ≡ true → 0 < length torn
    → IfSome files (λ fs. reader_log name torn taken fs ≡ reader_log name first start fs)
    → IfSome (reader_ahead name first start line files) (Gives (Err (refused.TheVariants.Malformed later)) after)
torn_told None name own torn first piece taken start line later filled after named same room empty comes all some log = tt
torn_told (Some fs) name own torn first piece taken start line later filled after named same room empty comes all some log =
    let left : 0 < 2 ^ 40 - taken = omega arith in
    let none : length (bytes_from name taken fs) ≡ 0 = (comes_by name own taken fs piece filled named comes).none empty in
    subst (λ l. Gives (Err (refused.TheVariants.Malformed l)) after (ahead_of line (reader_log name first start fs))) (sym same)
    (gives_torn_end (2 ^ 40 - taken) line torn (bytes_from name taken fs) (reader_log name first start fs) after left none all some log)

-- behind the last byte, where none is
no_bytes : (xs : List ℕ) → length xs ≡ 0 → xs ≡ []
no_bytes [] none = refl
no_bytes (x ∷ xs) none = absurd (omega arith)

none_at_hand : (piece : List ℕ) (at filled : ℕ) → filled ≡ 0 → hand_in piece at filled ≡ []
none_at_hand piece at filled none = ap (λ k. drop at (take k piece)) none ∙ drop_all at [] (omega arith)

pub end_told : (files last : Option (List File)) (name own later_name torn first piece : List ℕ) (taken start line later filled at taken_later : ℕ) → FilesStay files last → own ≡ name → later_name ≡ name → later ≡ line → taken < 2 ^ 40 → filled ≡ 0 → taken_later ≡ taken + filled
    → IfSome files (λ fs. PieceComes (bytes_from own taken fs) piece filled) → length torn ≡ 0
    → IfSome files (λ fs. reader_log name torn taken fs ≡ reader_log name first start fs)
    → IfSome (reader_ahead name first start line files) (Gives (Ok None) (reader_ahead later_name (hand_in piece at filled) taken_later later last))
end_told files last name own later_name torn first piece taken start line later filled at taken_later stay named renamed same room empty sum comes none log =
    gives_told (Ok None) (λ fs. ahead_of line (reader_log name first start fs)) (λ fs. ahead_of later (reader_log later_name (hand_in piece at filled) taken_later fs)) files last stay (told files comes log)
  where
    hand_is : hand_in piece at filled ≡ torn
    hand_is = none_at_hand piece at filled empty ∙ sym (no_bytes torn none)

    taken_is : taken_later ≡ taken
    taken_is = omega (arith, sum, empty)

    told : (files : Option (List File)) → IfSome files (λ fs. PieceComes (bytes_from own taken fs) piece filled) → IfSome files (λ fs. reader_log name torn taken fs ≡ reader_log name first start fs)
        → IfSome files (λ fs. Gives (Ok None) (Some (ahead_of later (reader_log later_name (hand_in piece at filled) taken_later fs))) (ahead_of line (reader_log name first start fs)))
    told None c l = tt
    told (Some fs) c l =
        let left : 0 < 2 ^ 40 - taken = omega arith in
        let over : length (bytes_from name taken fs) ≡ 0 = (comes_by name own taken fs piece filled named c).none empty in
        let here : ahead_of later (reader_log later_name (hand_in piece at filled) taken_later fs) ≡ ahead_of line (reader_log name torn taken fs) =
        ap (λ n. ahead_of n (reader_log later_name (hand_in piece at filled) taken_later fs)) same ∙ ap (λ n. ahead_of line (reader_log n (hand_in piece at filled) taken_later fs)) renamed
        ∙ ap (λ h. ahead_of line (reader_log name h taken_later fs)) hand_is ∙ ap (λ k. ahead_of line (reader_log name torn k fs)) taken_is in
        subst (λ a. Gives (Ok None) (Some a) (ahead_of line (reader_log name first start fs))) (sym here)
        (gives_end_left (2 ^ 40 - taken) line torn (bytes_from name taken fs) (reader_log name first start fs) left over none l)

-- a piece came, and the log left is the same
pub log_kept : (files : Option (List File)) (name own torn first piece : List ℕ) (taken start filled at later : ℕ) → own ≡ name → at ≡ 0 → later ≡ taken + filled → later ≤ 2 ^ 40
    → IfSome files (λ fs. PieceComes (bytes_from own taken fs) piece filled)
    → IfSome files (λ fs. reader_log name torn taken fs ≡ reader_log name first start fs)
    → IfSome files (λ fs. reader_log name (torn ++ hand_in piece at filled) later fs ≡ reader_log name first start fs)
log_kept None name own torn first piece taken start filled at later named front sum few comes log = tt
log_kept (Some fs) name own torn first piece taken start filled at later named front sum few comes log =
    let came = comes_by name own taken fs piece filled named comes in
    let file : List ℕ = unwrap_or (file_of fs name) [] in
    let small : filled ≤ 2 ^ 40 - taken = omega (arith, sum, few) in
    let room : 2 ^ 40 - later ≡ 2 ^ 40 - taken - filled = omega (arith, sum) in
    let rest : drop later file ≡ drop filled (drop taken file) = ap (λ k. drop k file) sum ∙ sym (drop-drop filled taken file) in
    let hand : hand_in piece at filled ≡ take filled piece = ap (λ k. drop k (take filled piece)) front in
    ap (λ h. log_left (2 ^ 40 - later) (torn ++ h) (drop later file)) hand
    ∙ ap (λ r. log_left r (torn ++ take filled piece) (drop later file)) room
    ∙ ap (log_left (2 ^ 40 - taken - filled) (torn ++ take filled piece)) rest
    ∙ piece_came (2 ^ 40 - taken) filled torn piece (drop taken file) small came.within came.front
    ∙ log

-- as many bytes were taken as are torn, at hand and given
pub place_after : (torn both piece : List ℕ) (at filled start at_later filled_later taken later : ℕ) → both ≡ torn ++ hand_in piece at filled → at ≤ filled → filled ≤ length piece → at_later ≡ 0 → later ≡ taken + filled_later
    → length torn + (filled - at) + start ≡ taken → length both + (filled_later - at_later) + start ≡ later
place_after torn both piece at filled start at_later filled_later taken later joined left within front sum place =
    let long : length both ≡ length torn + length (hand_in piece at filled) = ap length joined ∙ length-append torn (hand_in piece at filled) in
    omega (arith, long, length-drop at (take filled piece), length-take filled piece, left, within, front, sum, place)

-- a piece that came is no fault
pub came_well : (more : Bool) (bad : StepRefused) → (let r : Result Bool StepRefused = Ok more in r ≡ Err bad) → ⊥
came_well more bad e = cc
