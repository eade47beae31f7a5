-- What a sweep leaves that was broken off.
use Rattle.std.proofs.Common.{◌≡◌, ℕ, ◌+◌, ◌<◌, Bool, true, false, ◌||◌, List, [], ◌∷◌, ◌++◌, map, take, drop, get_or, length, Option, Some, None, refl, sym, ap, ◌∙◌, subst, inl, inr, append-nil}
use Rattle.std.specs.List.{AllByRecursion}
use Rattle.std.proofs.lemmas.Bool.{or_parts}
use Rattle.std.proofs.lemmas.List.{map-append, drop_more, take-append-drop}
use Rattle.las_base.specs.declared.Size.{Size}
use Rattle.las_base.specs.Jobs.{Task}
use Rattle.las_base.proofs.Lists.{any_push}
use Rattle.las_io.specs.Moves.{AppendsFront}
use Rattle.las_io.specs.Shelves.{File, OthersStay, Told, file_of}
use Rattle.las_spec.specs.Boxes.{sweep_order}
use Rattle.las_spec.specs.Briefs.{Brief, IsBrief, job_of}
use Rattle.box_sweep.specs.declared.ending.Ending.{Ending}
use Rattle.box_sweep.specs.Lines.{ending_line, is_found, log_name}
use Rattle.box_sweep.specs.Logged.{IsTrueBox}
use Rattle.box_sweep.specs.Partial.{HasItsWord, IsBrokenBox, IsBrokenOff, IsInWork, IsLogInPart, LeavesFiles, LeavesLog, lines_so_far}
use Rattle.box_sweep.specs.Solutions.{SolvesInSheets}
use Rattle.box_sweep.specs.Sweeps.{AreTried, HasTriedAll, IsLogOf, IsSoFar, OtherFilesStay, Tried, box_at, boxes_in_order, by_found, document_of, documents, ending_of, has_found, last_box, tried_line, tried_lines}
use Rattle.box_sweep.specs.Verdicts.{Undecided}
use Rattle.box_sweep.proofs.Fronts.{front_behind, front_of_all, front_of_more, front_of_nothing}
use Rattle.box_sweep.proofs.OrderLemmas.{next_is_apart}
use Rattle.box_sweep.proofs.SweepLemmas.{all_push, found_order, others_pushed, push_text, since_first, so_far_begins, still_all}

-- ---- the boxes that have no word yet

-- a box with any word
abbrev any_word : Size → Tried
any_word s = record { box = s; word = Undecided 0 }

abbrev any_words : List Size → List Tried
any_words ss = map any_word ss

-- boxes of which none is found are tried in their order, and so are any behind them
order_goes_on : (xs : List Tried) (ss : List Size) → has_found xs ≡ false → AreTried (map (λ x. x.box) xs ++ ss) (xs ++ any_words ss)
order_goes_on [] [] none = tt
order_goes_on [] (s ∷ ss) none = (refl, order_goes_on [] ss refl)
order_goes_on (x ∷ xs) ss none =
    let p = or_parts (is_found x.word) (has_found xs) none in
    (refl, subst (λ f. by_found f (xs ++ any_words ss ≡ []) (AreTried (map (λ x. x.box) xs ++ ss) (xs ++ any_words ss))) (sym p.0) (order_goes_on xs ss p.1))

-- the lines of the boxes, as what can have been said by then
front_of_lines : (a b : Option (List ℕ)) (s : Size) (tried rest : List Tried) → AppendsFront a b (tried_lines tried) → AppendsFront a b (lines_so_far s tried rest)
front_of_lines a b s tried [] f = front_of_more a b (tried_lines tried) (ending_line (ending_of tried) (last_box s tried)) f
front_of_lines a b s tried (x ∷ xs) f = f

-- ---- broken off between boxes

module _ (b : Brief) (budget n : ℕ) (undecided : Bool) (files mid : Option (List File)) (out out1 err err1 : Option (List ℕ)) where
  abbrev boxes_left : List Size
  boxes_left = map (box_at b) (drop n (sweep_order b.boxes))

  boxes_split : (s : IsSoFar b budget n undecided files mid out out1 err err1) → boxes_in_order b ≡ map (λ x. x.box) s.tried ++ boxes_left
  boxes_split s =
      let order = sweep_order b.boxes in
      ap (map (box_at b)) (sym (take-append-drop n order)) ∙ map-append (box_at b) (take n order) (drop n order) ∙ ap (λ bs. bs ++ boxes_left) (sym s.boxes_are)

  so_far_in_order : (s : IsSoFar b budget n undecided files mid out out1 err err1) → AreTried (boxes_in_order b) (s.tried ++ any_words boxes_left)
  so_far_in_order s = subst (λ bs. AreTried bs (s.tried ++ any_words boxes_left)) (sym (boxes_split s)) (order_goes_on s.tried boxes_left s.none_found)

  pub broken_between : IsSoFar b budget n undecided files mid out out1 err err1 → IsBrokenOff SolvesInSheets b budget files mid out out1 err err1
  broken_between s = record {
    tried = s.tried;
    rest = any_words boxes_left;
    in_order = so_far_in_order s;
    work = None;
    work_is_next = tt;
    are_true = s.are_true;
    left = s.others_stay;
    printed = front_of_all out out1 (documents s.tried) s.printed;
    said = front_of_lines err err1 b.task.size s.tried (any_words boxes_left) (front_of_all err err1 (tried_lines s.tried) s.said);
  }

-- nothing was begun
pub broken_at_once : (b : Brief) (budget : ℕ) (files : Option (List File)) (out err : Option (List ℕ)) → IsBrokenOff SolvesInSheets b budget files files out out err err
broken_at_once b budget files out err = broken_between b budget 0 false files files out out err err (so_far_begins b budget files out err)

-- ---- broken off in a box

-- the log of the box in work, since the sweep began
log_since : (tried : List Tried) (name : List ℕ) (fs gs hs : List File) → (IsLogOf tried name → ⊥) → OtherFilesStay tried fs gs → LeavesLog name gs hs → LeavesLog name fs hs
log_since tried name fs gs hs apart stay left = subst (λ f. IsLogInPart f (file_of hs name)) (stay name apart) left

files_left : (tried : List Tried) (s : Size) (files mid after : Option (List File)) → (IsLogOf tried (log_name s) → ⊥) → Told (OtherFilesStay tried) files mid → Told (OthersStay (log_name s)) mid after → Told (LeavesLog (log_name s)) mid after → Told (LeavesFiles tried (Some s)) files after
files_left tried s None mid after apart p q r = tt
files_left tried s (Some fs) None after apart p q r = absurd p
files_left tried s (Some fs) (Some gs) None apart p q r = absurd q
files_left tried s (Some fs) (Some gs) (Some hs) apart p q r =
    ((λ name no_log other. q name (λ e. other (sym e)) ∙ p name no_log), log_since tried (log_name s) fs gs hs apart p r)

-- a box in work has none of the logs of those before it
no_log_of : (tried : List Tried) (name : List ℕ) → AllByRecursion (λ x. log_name x.box ≡ name → ⊥) tried → IsLogOf tried name → ⊥
no_log_of [] name apart is = absurd is
no_log_of (x ∷ xs) name apart (inl e) = apart.0 e
no_log_of (x ∷ xs) name apart (inr is) = no_log_of xs name apart.1 is

module _ (b : Brief) (budget n : ℕ) (undecided : Bool) (files mid after : Option (List File)) (out out1 out2 err err1 err2 : Option (List ℕ)) where
  abbrev box_now : Size
  box_now = box_at b (get_or (sweep_order b.boxes) n 0)

  abbrev boxes_behind : List Size
  boxes_behind = map (box_at b) (drop (n + 1) (sweep_order b.boxes))

  left_is : n < length (sweep_order b.boxes) → map (box_at b) (drop n (sweep_order b.boxes)) ≡ box_now ∷ boxes_behind
  left_is h = ap (map (box_at b)) (drop_more (sweep_order b.boxes) n 0 h)

  in_work : IsBrief b → n < length (sweep_order b.boxes) → IsSoFar b budget n undecided files mid out out1 err err1 → IsInWork (job_of b box_now) mid after out1 out2 err1 err2 → IsBrokenOff SolvesInSheets b budget files after out out2 err err2
  in_work brief h s w =
      let apart = next_is_apart b n s.tried brief h s.boxes_are in
      let rest : List Tried = any_words (box_now ∷ boxes_behind) in
      record {
        tried = s.tried;
        rest = rest;
        in_order = subst (λ ss. AreTried (boxes_in_order b) (s.tried ++ any_words ss)) (left_is h) (so_far_in_order b budget n undecided files mid out out1 err err1 s);
        work = Some box_now;
        work_is_next = refl;
        are_true = still_all b budget (log_name box_now) files mid after s.tried apart s.are_true w.others_stay;
        left = files_left s.tried box_now files mid after (no_log_of s.tried (log_name box_now) apart) s.others_stay w.others_stay w.log;
        printed = subst (AppendsFront out out2) (append-nil (documents s.tried)) (front_behind out out1 out2 (documents s.tried) [] s.printed (front_of_nothing out1 out2 [] w.printed));
        said = subst (AppendsFront err err2) (append-nil (tried_lines s.tried)) (front_behind err err1 err2 (tried_lines s.tried) [] s.said (front_of_nothing err1 err2 [] w.said));
      }

  -- the boxes with one more that has its word, and any behind it where that is not found
  abbrev rest_behind : Bool → List Tried
  rest_behind true = []
  rest_behind false = any_words boxes_behind

  word_in_order : (s : IsSoFar b budget n undecided files mid out out1 err err1) (x : Tried) → n < length (sweep_order b.boxes) → x.box ≡ box_now → (found : Bool) → is_found x.word ≡ found → AreTried (boxes_in_order b) ((s.tried ++ x ∷ []) ++ rest_behind found)
  word_in_order s x h box_is true is =
      subst (λ xs. AreTried (boxes_in_order b) xs) (sym (append-nil (s.tried ++ x ∷ [])))
      (subst (λ bs. AreTried bs (s.tried ++ x ∷ [])) (sym (split s x h box_is)) (found_order s.tried x boxes_behind s.none_found is))
    where
      split : (s : IsSoFar b budget n undecided files mid out out1 err err1) (x : Tried) → n < length (sweep_order b.boxes) → x.box ≡ box_now → boxes_in_order b ≡ map (λ y. y.box) s.tried ++ x.box ∷ boxes_behind
      split s x h box_is = boxes_split b budget n undecided files mid out out1 err err1 s ∙ ap (λ bs. map (λ y. y.box) s.tried ++ bs) (left_is h ∙ ap (λ t. t ∷ boxes_behind) (sym box_is))
  word_in_order s x h box_is false is =
      let all : has_found (s.tried ++ x ∷ []) ≡ false = any_push (λ y. is_found y.word) s.tried x ∙ ap (λ r. r || is_found x.word) s.none_found ∙ is in
      let boxes : map (λ y. y.box) (s.tried ++ x ∷ []) ++ boxes_behind ≡ boxes_in_order b =
      ap (λ bs. bs ++ boxes_behind) (map-append (λ y. y.box) s.tried (x ∷ [])) ∙ assoc (map (λ y. y.box) s.tried) x.box
      ∙ ap (λ t. map (λ y. y.box) s.tried ++ t ∷ boxes_behind) box_is ∙ ap (λ bs. map (λ y. y.box) s.tried ++ bs) (sym (left_is h)) ∙ sym (boxes_split b budget n undecided files mid out out1 err err1 s) in
      subst (λ bs. AreTried bs ((s.tried ++ x ∷ []) ++ any_words boxes_behind)) boxes (order_goes_on (s.tried ++ x ∷ []) boxes_behind all)
    where
      assoc : (bs : List Size) (t : Size) → (bs ++ t ∷ []) ++ boxes_behind ≡ bs ++ t ∷ boxes_behind
      assoc [] t = refl
      assoc (c ∷ cs) t = ap (λ r. c ∷ r) (assoc cs t)

  has_word : IsBrief b → n < length (sweep_order b.boxes) → IsSoFar b budget n undecided files mid out out1 err err1 → HasItsWord (job_of b box_now) budget mid after out1 out2 err1 err2 → IsBrokenOff SolvesInSheets b budget files after out out2 err err2
  has_word brief h s w =
      let x : Tried = record { box = box_now; word = w.word } in
      let rest : List Tried = rest_behind (is_found w.word) in
      let apart = next_is_apart b n s.tried brief h s.boxes_are in
      record {
        tried = s.tried ++ x ∷ [];
        rest = rest;
        in_order = word_in_order s x h refl (is_found w.word) refl;
        work = None;
        work_is_next = tt;
        are_true = all_push (λ y. IsTrueBox SolvesInSheets (job_of b y.box) budget y.word files after) s.tried x
            (still_all b budget (log_name box_now) files mid after s.tried apart s.are_true w.others_stay)
            (since_first (job_of b box_now) budget w.word (OtherFilesStay s.tried) files mid after s.others_stay w.is_true);
        left = others_pushed s.tried x files mid after s.others_stay w.others_stay;
        printed = subst (AppendsFront out out2) (push_text (λ y. document_of y.word) s.tried x) (front_behind out out1 out2 (documents s.tried) (document_of w.word) s.printed w.printed);
        said = front_of_lines err err2 b.task.size (s.tried ++ x ∷ []) rest
            (subst (AppendsFront err err2) (push_text tried_line s.tried x) (front_behind err err1 err2 (tried_lines s.tried) (tried_line x) s.said w.said));
      }

  broken_in_box : IsBrief b → n < length (sweep_order b.boxes) → IsSoFar b budget n undecided files mid out out1 err err1 → IsBrokenBox (job_of b box_now) budget mid after out1 out2 err1 err2 → IsBrokenOff SolvesInSheets b budget files after out out2 err err2
  broken_in_box brief h s (inl w) = in_work brief h s w
  broken_in_box brief h s (inr w) = has_word brief h s w

-- the same as a loop over the order has it
pub broken_now : (b : Brief) (budget : ℕ) (order : List ℕ) (n : ℕ) (undecided : Bool) (files mid after : Option (List File)) (out out1 out2 err err1 err2 : Option (List ℕ)) (t : Task) → order ≡ sweep_order b.boxes → IsBrief b → n < length order → IsSoFar b budget n undecided files mid out out1 err err1 → t ≡ job_of b (box_at b (get_or order n 0)) → IsBrokenBox t budget mid after out1 out2 err1 err2 → IsBrokenOff SolvesInSheets b budget files after out out2 err err2
broken_now b budget order n undecided files mid after out out1 out2 err err1 err2 t order_is brief h s t_is w =
    broken_in_box b budget n undecided files mid after out out1 out2 err err1 err2 brief (subst (λ o. n < length o) order_is h) s
    (subst (λ u. IsBrokenBox u budget mid after out1 out2 err1 err2) (t_is ∙ ap (λ o. job_of b (box_at b (get_or o n 0))) order_is) w)

-- ---- broken off at the last line

pub broken_at_end : (b : Brief) (budget : ℕ) (files after : Option (List File)) (out out1 err err1 err2 : Option (List ℕ)) (end : Ending) (last : Size) → HasTriedAll b budget files after out out1 err err1 end last → AppendsFront err1 err2 (ending_line end last) → IsBrokenOff SolvesInSheets b budget files after out out1 err err2
broken_at_end b budget files after out out1 err err1 err2 end last all said =
    let line_is : ending_line end last ≡ ending_line (ending_of all.tried) (last_box b.task.size all.tried) = all.last_line ∙ ap (λ e. ending_line e (last_box b.task.size all.tried)) all.ending_is in
    record {
      tried = all.tried;
      rest = [];
      in_order = subst (AreTried (boxes_in_order b)) (sym (append-nil all.tried)) all.in_order;
      work = None;
      work_is_next = tt;
      are_true = all.are_true;
      left = all.others_stay;
      printed = front_of_all out out1 (documents all.tried) all.printed;
      said = front_behind err err1 err2 (tried_lines all.tried) (ending_line (ending_of all.tried) (last_box b.task.size all.tried)) all.said (subst (AppendsFront err1 err2) line_is said);
    }
