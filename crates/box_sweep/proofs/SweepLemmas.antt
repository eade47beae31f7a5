-- The report so far, box by box, and its end.
use Rattle.std.proofs.Common.{◌≡◌, ℕ, ◌+◌, ◌<◌, ◌≤◌, Bool, true, false, ◌||◌, List, [], ◌∷◌, ◌++◌, map, take, drop, length, get_or, Option, Some, None, option_map, refl, sym, ap, ◌∙◌, arith, subst, inl, inr, append-nil}
use Rattle.std.specs.List.{AllByRecursion, flat_map}
use Rattle.std.specs.Io.KnownBytes.{Appends}
use Rattle.std.proofs.KnownBytes.{Appends-nil, Appends-trans}
use Rattle.std.proofs.lemmas.Bool.{or_parts}
use Rattle.std.proofs.lemmas.Grind.{flat_map-append}
use Rattle.std.proofs.lemmas.List.{map-append, drop_more, take-append-drop, take_all, take_more}
use Rattle.las_base.specs.declared.Size.{Size}
use Rattle.las_base.specs.Jobs.{Task}
use Rattle.las_base.proofs.Lists.{any_push}
use Rattle.las_io.specs.Shelves.{File, OthersStay, Told}
use Rattle.clause_log.specs.LogText.{read_log}
use Rattle.las_spec.specs.Boxes.{sweep_order}
use Rattle.las_spec.specs.Briefs.{Brief, IsBrief, job_of}
use Rattle.box_sweep.specs.declared.ending.Ending.{Ending}
use Rattle.box_sweep.specs.Lines.{ending_by, ending_line, is_found, is_undecided, log_name}
use Rattle.box_sweep.specs.Logged.{HasLog, IsTrueBox}
use Rattle.box_sweep.specs.Solutions.{SolvesInSheets}
use Rattle.box_sweep.specs.Sweeps.{AreTried, AreTrue, HasTried, HasTriedAll, IsLogOf, IsSoFar, OtherFilesStay, Tried, box_at, boxes_in_order, by_found, document_of, documents, has_found, has_undecided, last_box, tried_line, tried_lines}
use Rattle.box_sweep.specs.Verdicts.{BoxWord, Refuted, Undecided, FoundIt}
use Rattle.box_sweep.proofs.FileLemmas.{told_through}
use Rattle.box_sweep.proofs.OrderLemmas.{next_is_apart}

-- ---- logs that stay

-- a word stays true while another file is written
still_true : (t : Task) (budget : ℕ) (word : BoxWord) (name : List ℕ) (files mid after : Option (List File)) → (log_name t.size ≡ name → ⊥) → IsTrueBox SolvesInSheets t budget word files mid → Told (OthersStay name) mid after → IsTrueBox SolvesInSheets t budget word files after
still_true t budget word name files mid after apart is others = record {
  steps = is.steps;
  logged = told_through (λ _ fs. HasLog (log_name t.size) is.steps fs) (OthersStay name) (λ _ fs. HasLog (log_name t.size) is.steps fs) files mid after
      (λ xs ys zs has stay. ap (option_map read_log) (stay (log_name t.size) apart) ∙ has) is.logged others;
  is_true = is.is_true;
}

pub still_all : (b : Brief) (budget : ℕ) (name : List ℕ) (files mid after : Option (List File)) (tried : List Tried) → AllByRecursion (λ x. log_name x.box ≡ name → ⊥) tried → AreTrue SolvesInSheets b budget tried files mid → Told (OthersStay name) mid after → AreTrue SolvesInSheets b budget tried files after
still_all b budget name files mid after [] apart are others = tt
still_all b budget name files mid after (x ∷ xs) apart are others =
    (still_true (job_of b x.box) budget x.word name files mid after apart.0 are.0 others, still_all b budget name files mid after xs apart.1 are.1 others)

-- a word that is true since its box was begun is true since the sweep was
pub since_first : (t : Task) (budget : ℕ) (word : BoxWord) (P : List File → List File → Type 0) (files mid after : Option (List File)) → Told P files mid → IsTrueBox SolvesInSheets t budget word mid after → IsTrueBox SolvesInSheets t budget word files after
since_first t budget word P files mid after told is = record {
  steps = is.steps;
  logged = told_through P (λ _ fs. HasLog (log_name t.size) is.steps fs) (λ _ fs. HasLog (log_name t.size) is.steps fs) files mid after (λ xs ys zs p has. has) told is.logged;
  is_true = is.is_true;
}

pub all_push : {X : Type 0} (P : X → Type 0) (xs : List X) (x : X) → AllByRecursion P xs → P x → AllByRecursion P (xs ++ x ∷ [])
all_push P [] x ps p = (p, tt)
all_push P (y ∷ ys) x ps p = (ps.0, all_push P ys x ps.1 p)

-- the logs of what was tried, with one more
log_kept : (xs : List Tried) (x : Tried) (name : List ℕ) → IsLogOf xs name → IsLogOf (xs ++ x ∷ []) name
log_kept [] x name is = absurd is
log_kept (y ∷ ys) x name (inl e) = inl e
log_kept (y ∷ ys) x name (inr is) = inr (log_kept ys x name is)

log_added : (xs : List Tried) (x : Tried) (name : List ℕ) → log_name x.box ≡ name → IsLogOf (xs ++ x ∷ []) name
log_added [] x name e = inl e
log_added (y ∷ ys) x name e = inr (log_added ys x name e)

pub others_pushed : (xs : List Tried) (x : Tried) (files mid after : Option (List File)) → Told (OtherFilesStay xs) files mid → Told (OthersStay (log_name x.box)) mid after → Told (OtherFilesStay (xs ++ x ∷ [])) files after
others_pushed xs x files mid after first then = told_through (OtherFilesStay xs) (OthersStay (log_name x.box)) (OtherFilesStay (xs ++ x ∷ [])) files mid after
    (λ fs gs hs p q name other. q name (λ e. other (log_added xs x name (sym e))) ∙ p name (λ is. other (log_kept xs x name is))) first then

-- ---- one box more

pub push_text : {X : Type 0} (f : X → List ℕ) (xs : List X) (x : X) → flat_map f xs ++ f x ≡ flat_map f (xs ++ x ∷ [])
push_text f xs x = ap (λ t. flat_map f xs ++ t) (sym (append-nil (f x))) ∙ sym (flat_map-append f xs (x ∷ []))

-- boxes behind one that is found are not tried
pub found_order : (xs : List Tried) (x : Tried) (rest : List Size) → has_found xs ≡ false → is_found x.word ≡ true → AreTried (map (λ y. y.box) xs ++ x.box ∷ rest) (xs ++ x ∷ [])
found_order [] x rest none is = let nothing : List Tried = [] in (refl, subst (λ f. by_found f (nothing ≡ []) (AreTried rest [])) (sym is) refl)
found_order (y ∷ ys) x rest none is =
    let p = or_parts (is_found y.word) (has_found ys) none in
    (refl, subst (λ f. by_found f (ys ++ x ∷ [] ≡ []) (AreTried (map (λ y. y.box) ys ++ x.box ∷ rest) (ys ++ x ∷ []))) (sym p.0) (found_order ys x rest p.1 is))

-- the last line names no box where none is found
no_box : (u : Bool) (s t : Size) → ending_line (ending_by false u) s ≡ ending_line (ending_by false u) t
unfolding ending_line
no_box true s t = refl
no_box false s t = refl

-- what one box more leaves: all that is said of the report but whether it goes on
pub record IsOneMore (b : Brief) (budget : ℕ) (tried : List Tried) (x : Tried) (files after : Option (List File)) (out out' err err' : Option (List ℕ)) : Type 0 where
  pub are_true : AreTrue SolvesInSheets b budget (tried ++ x ∷ []) files after
  pub others_stay : Told (OtherFilesStay (tried ++ x ∷ [])) files after
  pub printed : Appends out out' (documents (tried ++ x ∷ []))
  pub said : Appends err err' (tried_lines (tried ++ x ∷ []))

module _ (b : Brief) (budget n : ℕ) (undecided : Bool) (word : BoxWord) (files mid after : Option (List File)) (out out1 out2 err err1 err2 : Option (List ℕ)) where
  one_more : IsBrief b → n < length (sweep_order b.boxes) → (s : IsSoFar b budget n undecided files mid out out1 err err1) → HasTried (job_of b (box_at b (get_or (sweep_order b.boxes) n 0))) budget word mid after out1 out2 err1 err2 → IsOneMore b budget s.tried (record { box = box_at b (get_or (sweep_order b.boxes) n 0); word = word }) files after out out2 err err2
  one_more brief h s t =
      let box = box_at b (get_or (sweep_order b.boxes) n 0) in
      let x : Tried = record { box = box; word = word } in
      record {
        are_true = all_push (λ y. IsTrueBox SolvesInSheets (job_of b y.box) budget y.word files after) s.tried x
            (still_all b budget (log_name box) files mid after s.tried (next_is_apart b n s.tried brief h s.boxes_are) s.are_true t.others_stay)
            (since_first (job_of b box) budget word (OtherFilesStay s.tried) files mid after s.others_stay t.is_true);
        others_stay = others_pushed s.tried x files mid after s.others_stay t.others_stay;
        printed = subst (Appends out out2) (push_text (λ y. document_of y.word) s.tried x) (Appends-trans out out1 out2 (documents s.tried) (document_of word) s.printed t.printed);
        said = subst (Appends err err2) (push_text tried_line s.tried x) (Appends-trans err err1 err2 (tried_lines s.tried) (tried_line x) s.said t.said);
      }

  -- the report with a box that is not found
  pub so_far_next : IsBrief b → n < length (sweep_order b.boxes) → IsSoFar b budget n undecided files mid out out1 err err1 → HasTried (job_of b (box_at b (get_or (sweep_order b.boxes) n 0))) budget word mid after out1 out2 err1 err2 → is_found word ≡ false → IsSoFar b budget (n + 1) (undecided || is_undecided word) files after out out2 err err2
  so_far_next brief h s t other =
      let box = box_at b (get_or (sweep_order b.boxes) n 0) in
      let x : Tried = record { box = box; word = word } in
      let more : IsOneMore b budget s.tried x files after out out2 err err2 = one_more brief h s t in
      let front : take (n + 1) (sweep_order b.boxes) ≡ take n (sweep_order b.boxes) ++ get_or (sweep_order b.boxes) n 0 ∷ [] = take_more (sweep_order b.boxes) n 0 h in
      record {
        tried = s.tried ++ x ∷ [];
        boxes_are = map-append (λ y. y.box) s.tried (x ∷ []) ∙ ap (λ bs. bs ++ box ∷ []) s.boxes_are ∙ sym (map-append (box_at b) (take n (sweep_order b.boxes)) (get_or (sweep_order b.boxes) n 0 ∷ [])) ∙ ap (map (box_at b)) (sym front);
        none_found = any_push (λ y. is_found y.word) s.tried x ∙ ap (λ r. r || is_found word) s.none_found ∙ other;
        undecided_is = any_push (λ y. is_undecided y.word) s.tried x ∙ ap (λ r. r || is_undecided word) s.undecided_is;
        are_true = more.are_true;
        others_stay = more.others_stay;
        printed = more.printed;
        said = more.said;
      }

  -- ---- the end of a sweep

  -- a box that is found ends it
  pub found_ends : IsBrief b → n < length (sweep_order b.boxes) → IsSoFar b budget n undecided files mid out out1 err err1 → HasTried (job_of b (box_at b (get_or (sweep_order b.boxes) n 0))) budget word mid after out1 out2 err1 err2 → is_found word ≡ true → HasTriedAll b budget files after out out2 err err2 (ending_by true undecided) (box_at b (get_or (sweep_order b.boxes) n 0))
  found_ends brief h s t is =
      let box = box_at b (get_or (sweep_order b.boxes) n 0) in
      let x : Tried = record { box = box; word = word } in
      let more : IsOneMore b budget s.tried x files after out out2 err err2 = one_more brief h s t in
      let found_is : has_found (s.tried ++ x ∷ []) ≡ true = any_push (λ y. is_found y.word) s.tried x ∙ ap (λ r. r || is_found word) s.none_found ∙ is in
      let undecided_is : has_undecided (s.tried ++ x ∷ []) ≡ undecided = any_push (λ y. is_undecided y.word) s.tried x ∙ ap (λ r. r || is_undecided word) s.undecided_is ∙ decided undecided word is in
      record {
        tried = s.tried ++ x ∷ [];
        in_order = subst (λ bs. AreTried bs (s.tried ++ x ∷ [])) (sym (order_is h s)) (found_order s.tried x (map (box_at b) (drop (n + 1) (sweep_order b.boxes))) s.none_found is);
        are_true = more.are_true;
        others_stay = more.others_stay;
        printed = more.printed;
        said = more.said;
        ending_is = ap (λ f. ending_by f undecided) (sym found_is) ∙ ap (ending_by (has_found (s.tried ++ x ∷ []))) (sym undecided_is);
        last_line = ap (ending_line (ending_by true undecided)) (sym (last_pushed b.task.size s.tried x));
      }
    where
      decided : (u : Bool) (w : BoxWord) → is_found w ≡ true → (u || is_undecided w) ≡ u
      decided u (Refuted k) e = absurd (cc e)
      decided u (Undecided k) e = absurd (cc e)
      decided true (FoundIt l) e = refl
      decided false (FoundIt l) e = refl

      last_pushed : (s : Size) (xs : List Tried) (x : Tried) → last_box s (xs ++ x ∷ []) ≡ x.box
      last_pushed s [] x = refl
      last_pushed s (y ∷ ys) x = last_pushed y.box ys x

      order_is : n < length (sweep_order b.boxes) → (s : IsSoFar b budget n undecided files mid out out1 err err1) → boxes_in_order b ≡ map (λ y. y.box) s.tried ++ box_at b (get_or (sweep_order b.boxes) n 0) ∷ map (box_at b) (drop (n + 1) (sweep_order b.boxes))
      order_is h s =
          let order = sweep_order b.boxes in
          let parts : order ≡ take n order ++ (get_or order n 0 ∷ drop (n + 1) order) = sym (take-append-drop n order) ∙ ap (λ r. take n order ++ r) (drop_more order n 0 h) in
          ap (map (box_at b)) parts ∙ map-append (box_at b) (take n order) (get_or order n 0 ∷ drop (n + 1) order) ∙ ap (λ bs. bs ++ box_at b (get_or order n 0) ∷ map (box_at b) (drop (n + 1) order)) (sym s.boxes_are)

-- without a box that is found all were tried
pub none_is_found : (b : Brief) (budget n : ℕ) (undecided : Bool) (files after : Option (List File)) (out out2 err err2 : Option (List ℕ)) → n ≡ length (sweep_order b.boxes) → (last : Size) → IsSoFar b budget n undecided files after out out2 err err2 → HasTriedAll b budget files after out out2 err err2 (ending_by false undecided) last
none_is_found b budget n undecided files after out out2 err err2 n_is last s = record {
  tried = s.tried;
  in_order = subst (λ bs. AreTried bs s.tried) (s.boxes_are ∙ ap (map (box_at b)) (take_all n (sweep_order b.boxes) (omega (arith, n_is)))) (all_at s.tried s.none_found);
  are_true = s.are_true;
  others_stay = s.others_stay;
  printed = s.printed;
  said = s.said;
  ending_is = ap (λ f. ending_by f undecided) (sym s.none_found) ∙ ap (ending_by (has_found s.tried)) (sym s.undecided_is);
  last_line = no_box undecided last (last_box b.task.size s.tried);
}
  where
    all_at : (xs : List Tried) → has_found xs ≡ false → AreTried (map (λ y. y.box) xs) xs
    all_at [] none = tt
    all_at (y ∷ ys) none =
        let p = or_parts (is_found y.word) (has_found ys) none in
        (refl, subst (λ f. by_found f (ys ≡ []) (AreTried (map (λ y. y.box) ys) ys)) (sym p.0) (all_at ys p.1))

-- no box was tried
pub files_same : (files : Option (List File)) → Told (OtherFilesStay []) files files
files_same None = tt
files_same (Some fs) = λ name other. refl

pub so_far_begins : (b : Brief) (budget : ℕ) (files : Option (List File)) (out err : Option (List ℕ)) → IsSoFar b budget 0 false files files out out err err
so_far_begins b budget files out err = record {
  tried = [];
  boxes_are = refl;
  none_found = refl;
  undecided_is = refl;
  are_true = tt;
  others_stay = files_same files;
  printed = Appends-nil out;
  said = Appends-nil err;
}

-- ---- the same as a loop over the order has it

module _ (b : Brief) (budget : ℕ) (order : List ℕ) (n : ℕ) (undecided : Bool) (files mid after : Option (List File)) (out out1 out2 err err1 err2 : Option (List ℕ)) (order_is : order ≡ sweep_order b.boxes) where
  tried_at : (t : Task) (word : BoxWord) → t ≡ job_of b (box_at b (get_or order n 0)) → HasTried t budget word mid after out1 out2 err1 err2 → HasTried (job_of b (box_at b (get_or (sweep_order b.boxes) n 0))) budget word mid after out1 out2 err1 err2
  tried_at t word t_is tried = subst (λ u. HasTried u budget word mid after out1 out2 err1 err2) (t_is ∙ ap (λ o. job_of b (box_at b (get_or o n 0))) order_is) tried

  pub so_far_now : (t : Task) (word : BoxWord) (undecided' : Bool) → IsBrief b → n < length order → IsSoFar b budget n undecided files mid out out1 err err1 → t ≡ job_of b (box_at b (get_or order n 0)) → HasTried t budget word mid after out1 out2 err1 err2 → is_found word ≡ false → undecided' ≡ (undecided || is_undecided word) → IsSoFar b budget (n + 1) undecided' files after out out2 err err2
  so_far_now t word undecided' brief h s t_is tried other undecided'_is =
      subst (λ u. IsSoFar b budget (n + 1) u files after out out2 err err2) (sym undecided'_is)
      (so_far_next b budget n undecided word files mid after out out1 out2 err err1 err2 brief (subst (λ o. n < length o) order_is h) s (tried_at t word t_is tried) other)

  pub found_now : (t : Task) (word : BoxWord) (end : Ending) (last : Size) → IsBrief b → n < length order → IsSoFar b budget n undecided files mid out out1 err err1 → t ≡ job_of b (box_at b (get_or order n 0)) → HasTried t budget word mid after out1 out2 err1 err2 → is_found word ≡ true → end ≡ ending_by true undecided → last ≡ t.size → HasTriedAll b budget files after out out2 err err2 end last
  found_now t word end last brief h s t_is tried is end_is last_is =
      let box_is : last ≡ box_at b (get_or (sweep_order b.boxes) n 0) = last_is ∙ ap (λ (u : Task). u.size) t_is ∙ ap (λ o. box_at b (get_or o n 0)) order_is in
      subst (λ e. HasTriedAll b budget files after out out2 err err2 e last) (sym end_is)
      (subst (HasTriedAll b budget files after out out2 err err2 (ending_by true undecided)) (sym box_is)
      (found_ends b budget n undecided word files mid after out out1 out2 err err1 err2 brief (subst (λ o. n < length o) order_is h) s (tried_at t word t_is tried) is))

pub none_now : (b : Brief) (budget : ℕ) (order : List ℕ) (n : ℕ) (undecided : Bool) (files after : Option (List File)) (out out2 err err2 : Option (List ℕ)) → order ≡ sweep_order b.boxes → (end : Ending) (last : Size) → length order ≤ n → n ≤ length order → IsSoFar b budget n undecided files after out out2 err err2 → end ≡ ending_by false undecided → HasTriedAll b budget files after out out2 err err2 end last
none_now b budget order n undecided files after out out2 err err2 order_is end last h h' s end_is =
    let n_is : n ≡ length (sweep_order b.boxes) = omega (arith, ap length order_is) in
    subst (λ e. HasTriedAll b budget files after out out2 err err2 e last) (sym end_is)
    (none_is_found b budget n undecided files after out out2 err err2 n_is last s)
