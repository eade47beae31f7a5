-- Files in a list by their names: what stands there, and what a change of one leaves of the others.
use Rattle.std.proofs.Common.{◌≡◌, ◌≢◌, ◌⊎◌, inl, inr, ℕ, zero, suc, ◌<◌, true, false, List, [], ◌∷◌, ◌++◌, length, set, get_or, length-set, length-append, Option, None, Some, option_map, IsTrue, is_some, IsSome, slice_get, position, nat_lt, unwrap_or, IfSome, IsSomeAnd, append-nil, Err, refl, sym, ap, ◌∙◌, subst, arith}
use Rattle.std.proofs.lemmas.Bool.{cases_Bool, both_ways, ltb-false}
use Rattle.std.proofs.lemmas.List.{get_or-set_same}
use Rattle.std.proofs.lemmas.List.Folds.{find_at}
use Rattle.std.proofs.lemmas.List.Quantifiers.{position-Some}
use Rattle.std.specs.List.{position_or_len}
use Rattle.std.proofs.lemmas.Option.{slice_get_read, slice_get_within, slice_get-get_or, slice_get_past}
use Rattle.std.proofs.lemmas.Slice.Eq.{bytes_eq-Decides}
use Rattle.las_io.specs.Names.{is_lawful_name}
use Rattle.las_io.specs.Shelves.{File, file_of, is_named, HasNames, OthersStay, Grows, AppendsPiece}
use Rattle.las_io.specs.Scripts.{put_file, grow_file, name_at, IsPlace, IsKept, ScriptedShelf}
use Rattle.las_io.specs.declared.traits.IoBad.TheVariants.{Failed}

-- a file that passes has the name, and each file its own
pub named_is : (name : List ℕ) (f : File) → is_named name f ≡ true → f.0 ≡ name
named_is name f e = (bytes_eq-Decides f.0 name).0 e

pub is_own : (name : List ℕ) (bytes : List ℕ) → is_named name (name, bytes) ≡ true
is_own name bytes = (bytes_eq-Decides name name).1 refl

pub not_named : (name : List ℕ) (f : File) → f.0 ≢ name → is_named name f ≡ false
not_named name f ne = at (cases_Bool (is_named name f))
  where
    at : (is_named name f ≡ true) ⊎ (is_named name f ≡ false) → is_named name f ≡ false
    at (inl e) = absurd (ne (named_is name f e))
    at (inr e) = e

-- a look-up ends at the file of the name, and passes each other
hit : (name : List ℕ) (f : File) (fs : List File) → is_named name f ≡ true → file_of (f ∷ fs) name ≡ Some f.1
hit name f fs e = rw e refl

miss : (name : List ℕ) (f : File) (fs : List File) → is_named name f ≡ false → file_of (f ∷ fs) name ≡ file_of fs name
miss name f fs e = rw e refl

put_hit : (name bytes : List ℕ) (f : File) (fs : List File) → is_named name f ≡ true → put_file name bytes (f ∷ fs) ≡ (name, bytes) ∷ fs
put_hit name bytes f fs e = rw e refl

put_miss : (name bytes : List ℕ) (f : File) (fs : List File) → is_named name f ≡ false → put_file name bytes (f ∷ fs) ≡ f ∷ put_file name bytes fs
put_miss name bytes f fs e = rw e refl

-- what is put is found
pub put_found : (name bytes : List ℕ) (fs : List File) → file_of (put_file name bytes fs) name ≡ Some bytes
put_found name bytes [] = hit name (name, bytes) [] (is_own name bytes)
put_found name bytes (f ∷ fs) = at (cases_Bool (is_named name f)) (put_found name bytes fs)
  where
    at : (is_named name f ≡ true) ⊎ (is_named name f ≡ false) → file_of (put_file name bytes fs) name ≡ Some bytes → file_of (put_file name bytes (f ∷ fs)) name ≡ Some bytes
    at (inl e) ih = ap (λ l. file_of l name) (put_hit name bytes f fs e) ∙ hit name (name, bytes) fs (is_own name bytes)
    at (inr e) ih = ap (λ l. file_of l name) (put_miss name bytes f fs e) ∙ miss name f (put_file name bytes fs) e ∙ ih

-- each other file stays
pub put_leaves : (name bytes : List ℕ) (fs : List File) → OthersStay name fs (put_file name bytes fs)
put_leaves name bytes [] other ne = miss other (name, bytes) [] (not_named other (name, bytes) (λ e. ne (sym e)))
put_leaves name bytes (f ∷ fs) other ne = at (cases_Bool (is_named name f)) (put_leaves name bytes fs other ne)
  where
    past : (is_named other f ≡ true) ⊎ (is_named other f ≡ false) → file_of (put_file name bytes fs) other ≡ file_of fs other
        → file_of (f ∷ put_file name bytes fs) other ≡ file_of (f ∷ fs) other
    past (inl e) ih = hit other f (put_file name bytes fs) e ∙ sym (hit other f fs e)
    past (inr e) ih = miss other f (put_file name bytes fs) e ∙ ih ∙ sym (miss other f fs e)

    at : (is_named name f ≡ true) ⊎ (is_named name f ≡ false) → file_of (put_file name bytes fs) other ≡ file_of fs other
        → file_of (put_file name bytes (f ∷ fs)) other ≡ file_of (f ∷ fs) other
    at (inl e) ih =
        let not_own : is_named other (name, bytes) ≡ false = not_named other (name, bytes) (λ h. ne (sym h)) in
        let not_first : is_named other f ≡ false = not_named other f (λ h. ne (sym h ∙ named_is name f e)) in
        ap (λ l. file_of l other) (put_hit name bytes f fs e) ∙ miss other (name, bytes) fs not_own ∙ sym (miss other f fs not_first)
    at (inr e) ih = ap (λ l. file_of l other) (put_miss name bytes f fs e) ∙ past (cases_Bool (is_named other f)) ih

-- names stay lawful and distinct
pub put_names : (name bytes : List ℕ) (fs : List File) → IsTrue (is_lawful_name name) → HasNames fs → HasNames (put_file name bytes fs)
put_names name bytes [] lawful names = (lawful, refl, tt)
put_names name bytes (f ∷ fs) lawful names = at (cases_Bool (is_named name f)) (put_names name bytes fs lawful names.2)
  where
    at : (is_named name f ≡ true) ⊎ (is_named name f ≡ false) → HasNames (put_file name bytes fs) → HasNames (put_file name bytes (f ∷ fs))
    at (inl e) ih = subst HasNames (sym (put_hit name bytes f fs e)) (lawful, subst (λ n. file_of fs n ≡ None) (named_is name f e) names.1, names.2)
    at (inr e) ih =
        let other : f.0 ≢ name = λ h. both_ways (is_named name f) e (ap (λ n. is_named n f) (sym h) ∙ (bytes_eq-Decides f.0 f.0).1 refl) in
        subst HasNames (sym (put_miss name bytes f fs e)) (names.0, put_leaves name bytes fs f.0 other ∙ names.1, ih)

-- where there is no file of the name, it is put to the end
pub put_last : (name bytes : List ℕ) (fs : List File) → file_of fs name ≡ None → fs ++ (name, bytes) ∷ [] ≡ put_file name bytes fs
put_last name bytes [] none = refl
put_last name bytes (f ∷ fs) none = at (cases_Bool (is_named name f)) (put_last name bytes fs)
  where
    at : (is_named name f ≡ true) ⊎ (is_named name f ≡ false) → (file_of fs name ≡ None → fs ++ (name, bytes) ∷ [] ≡ put_file name bytes fs)
        → (f ∷ fs) ++ (name, bytes) ∷ [] ≡ put_file name bytes (f ∷ fs)
    at (inl e) ih = let some : Some f.1 ≡ None = sym (hit name f fs e) ∙ none in absurd (cc)
    at (inr e) ih = ap (λ l. f ∷ l) (ih (sym (miss name f fs e) ∙ none)) ∙ sym (put_miss name bytes f fs e)

-- the file at a place is the one of its name
pub record StandsAt (fs : List File) (f : File) (i : ℕ) : Type 0 where
  pub found : file_of fs f.0 ≡ Some f.1
  pub changed : (bytes : List ℕ) → set fs i (f.0, bytes) ≡ put_file f.0 bytes fs

pub stands_at : (fs : List File) (f : File) (i : ℕ) → HasNames fs → slice_get fs i ≡ Some f → StandsAt fs f i
stands_at [] f i names e = absurd (cc)
stands_at (g ∷ fs) f zero names e =
    let same : g ≡ f = cc in
    let own : is_named f.0 g ≡ true = ap (λ h. is_named f.0 h) same ∙ (bytes_eq-Decides f.0 f.0).1 refl in
    record {
      found = hit f.0 g fs own ∙ ap (λ h. Some h.1) same;
      changed = λ bytes. sym (put_hit f.0 bytes g fs own);
    }
stands_at (g ∷ fs) f (suc i) names e =
    let rest : StandsAt fs f i = stands_at fs f i names.2 e in
    let other : is_named f.0 g ≡ false = not_named f.0 g (λ h. let some : None ≡ Some f.1 = sym names.1 ∙ ap (file_of fs) h ∙ rest.found in absurd (cc)) in
    record {
      found = miss f.0 g fs other ∙ rest.found;
      changed = λ bytes. ap (λ l. g ∷ l) (rest.changed bytes) ∙ sym (put_miss f.0 bytes g fs other);
    }

-- the first place at which a name stands, and no place where there is no such file
pub placed_some : (name : List ℕ) (fs : List File) (i : ℕ) → position (is_named name) fs ≡ Some i → name_at fs (Some i) ≡ Some name
placed_some name fs i e =
    let nothing : File = ([], []) in
    let found = position-Some (is_named name) fs i nothing e in
    ap (λ o. option_map (λ (f : File). f.0) o) (slice_get-get_or fs i nothing found.0) ∙ ap Some (named_is name (get_or fs i nothing) found.1)

pub placed_none : (name : List ℕ) (fs : List File) → position (is_named name) fs ≡ None → file_of fs name ≡ None
placed_none name fs e = ap (λ o. option_map (λ (f : File). f.1) o) (find_at (is_named name) fs ∙ past (cases_Bool (nat_lt (position_or_len (is_named name) fs) (length fs))))
  where
    past : (nat_lt (position_or_len (is_named name) fs) (length fs) ≡ true) ⊎ (nat_lt (position_or_len (is_named name) fs) (length fs) ≡ false)
        → slice_get fs (position_or_len (is_named name) fs) ≡ None
    past (inl h) = let some : Some (position_or_len (is_named name) fs) ≡ None = rw h at e in absurd (cc)
    past (inr h) = slice_get_past fs (position_or_len (is_named name) fs) (ltb-false (position_or_len (is_named name) fs) (length fs) h)

-- the files became those with these bytes under this name, which stands at the place
pub record IsPut (fs gs : List File) (place : ℕ) (name bytes : List ℕ) : Type 0 where
  pub list : gs ≡ put_file name bytes fs
  pub within : place < length gs
  pub named : name_at gs (Some place) ≡ Some name

name_of_some : (o : Option File) (name : List ℕ) → option_map (λ (f : File). f.0) o ≡ Some name → (f : File) × (o ≡ Some f) × (f.0 ≡ name)
name_of_some None name e = absurd (cc)
name_of_some (Some f) name e = (f, refl, cc)

-- the file at the name's place was changed
pub changed_at : (fs : List File) (place : ℕ) (old new : File) (name bytes : List ℕ) → HasNames fs → name_at fs (Some place) ≡ Some name
    → old ≡ get_or fs place old → new ≡ (old.0, bytes) → IsPut fs (set fs place new) place name bytes
changed_at fs place old new name bytes names at same changed =
    let found = name_of_some (slice_get fs place) name at in
    let inside : place < length fs = slice_get_within fs place found.0 found.1 in
    let within : place < length (set fs place new) = omega (arith, length-set {A = File}) in
    let here : slice_get fs place ≡ Some old = slice_get_read fs (length fs) place old refl inside same in
    let own : old.0 ≡ name = let e : Some old ≡ Some found.0 = sym here ∙ found.1 in let both : old ≡ found.0 = cc in ap (λ f. f.0) both ∙ found.2 in
    let st : StandsAt fs old place = stands_at fs old place names here in
    let read : slice_get (set fs place new) place ≡ Some new = slice_get-get_or (set fs place new) place new within ∙ ap Some (get_or-set_same fs place new new inside) in
    record {
      list = ap (set fs place) changed ∙ st.changed bytes ∙ ap (λ n. put_file n bytes fs) own;
      within = within;
      named = ap (λ o. option_map (λ (f : File). f.0) o) read ∙ ap (λ (f : File). Some f.0) changed ∙ ap Some own;
    }

-- the same at the first place of the name
pub changed_first : (fs : List File) (place : ℕ) (old new : File) (name bytes : List ℕ) → HasNames fs → position (is_named name) fs ≡ Some place
    → old ≡ get_or fs place old → new ≡ (old.0, bytes) → IsPut fs (set fs place new) place name bytes
changed_first fs place old new name bytes names first same changed = changed_at fs place old new name bytes names (placed_some name fs place first) same changed

last_is : (fs : List File) (f : File) → slice_get (fs ++ f ∷ []) (length fs) ≡ Some f
last_is [] f = refl
last_is (g ∷ fs) f = last_is fs f

-- a file was put to the end
pub added : (fs gs : List File) (place : ℕ) (new : File) (name bytes : List ℕ) → position (is_named name) fs ≡ None
    → place ≡ length fs → gs ≡ fs ++ new ∷ [] → new ≡ (name, bytes) → IsPut fs gs place name bytes
added fs gs place new name bytes none end pushed is = record {
  list = pushed ∙ ap (λ f. fs ++ f ∷ []) is ∙ put_last name bytes fs (placed_none name fs none);
  within = omega (arith, ap length pushed, length-append {A = File});
  named = ap (λ l. name_at l (Some place)) pushed ∙ ap (λ i. name_at (fs ++ new ∷ []) (Some i)) end ∙ ap (λ o. option_map (λ (f : File). f.0) o) (last_is fs new) ∙ ap (λ (f : File). Some f.0) is;
}

-- a shelf whose file was put, and is begun
pub put_begun : (s t : ScriptedShelf) (gs : List File) (place : ℕ) (name bytes : List ℕ) → s ≡ t → IsPut s.files gs place name bytes
    → record s { files = gs; begun = name_at gs (Some place) } ≡ record t { files = put_file name bytes t.files; begun = Some name }
put_begun s t gs place name bytes same put =
    let P : ScriptedShelf → Type 0 = λ x. record s { files = gs; begun = name_at gs (Some place) } ≡ record x { files = put_file name bytes x.files; begun = Some name } in
    let with_files : List File → ScriptedShelf = λ l. record s { files = l; begun = name_at gs (Some place) } in
    let with_begun : Option (List ℕ) → ScriptedShelf = λ b. record s { files = put_file name bytes s.files; begun = b } in
    subst P same (ap with_files put.list ∙ ap with_begun put.named)

-- a shelf's names are kept, and what is begun at a place of it is there
pub kept_by_place : (fs : List File) (place : Option ℕ) → HasNames fs → IsPlace fs place → IsKept fs (name_at fs place)
kept_by_place fs None names within = record { names = names; there = tt }
kept_by_place fs (Some i) names within = record { names = names; there = at (slice_get fs i) refl }
  where
    at : (o : Option File) → slice_get fs i ≡ o → IfSome (option_map (λ (f : File). f.0) o) (λ name. IsSome (file_of fs name))
    at None e = tt
    at (Some f) e = ap is_some (stands_at fs f i names e).found

-- a file that is there has a lawful name
pub lawful_there : (name : List ℕ) (fs : List File) → HasNames fs → IsSome (file_of fs name) → IsTrue (is_lawful_name name)
lawful_there name [] names e = absurd (cc)
lawful_there name (f ∷ fs) names e = at (cases_Bool (is_named name f)) (lawful_there name fs names.2)
  where
    at : (is_named name f ≡ true) ⊎ (is_named name f ≡ false) → (IsSome (file_of fs name) → IsTrue (is_lawful_name name)) → IsTrue (is_lawful_name name)
    at (inl h) ih = subst (λ n. IsTrue (is_lawful_name n)) (named_is name f h) names.0
    at (inr h) ih = ih (ap is_some (sym (miss name f fs h)) ∙ e)

-- a file that is there grows by what is put to its end
pub grows_so : (name piece : List ℕ) (fs : List File) → IsSome (file_of fs name) → Grows name piece fs (grow_file name piece fs)
grows_so name piece fs e = (put_leaves name (unwrap_or (file_of fs name) [] ++ piece) fs, at (file_of fs name) refl e)
  where
    at : (o : Option (List ℕ)) → file_of fs name ≡ o → IsSome o → IsSomeAnd o (λ old. file_of (grow_file name piece fs) name ≡ Some (old ++ piece))
    at None h e = absurd (cc)
    at (Some old) h e = put_found name (unwrap_or (file_of fs name) [] ++ piece) fs ∙ ap (λ o. Some (unwrap_or o [] ++ piece)) h

-- and by nothing where it stays
pub grows_by_none : (name : List ℕ) (fs : List File) → IsSome (file_of fs name) → Grows name [] fs fs
grows_by_none name fs e = (λ other ne. refl, at (file_of fs name) refl e)
  where
    at : (o : Option (List ℕ)) → file_of fs name ≡ o → IsSome o → IsSomeAnd o (λ old. file_of fs name ≡ Some (old ++ []))
    at None h e = absurd (cc)
    at (Some old) h e = h ∙ ap Some (sym (append-nil old))

-- the file at a place grew
pub record IsGrown (fs : List File) (place : ℕ) (old new : File) (piece : List ℕ) : Type 0 where
  pub list : set fs place new ≡ grow_file old.0 piece fs
  pub names : HasNames (set fs place new)
  pub here : slice_get fs place ≡ Some old
  pub there : slice_get (set fs place new) place ≡ Some new
  pub named : new.0 ≡ old.0

pub grown_at : (fs : List File) (place : ℕ) (old new : File) (piece : List ℕ) → HasNames fs → place < length fs
    → old ≡ get_or fs place old → new ≡ (old.0, old.1 ++ piece) → IsGrown fs place old new piece
grown_at fs place old new piece names inside same changed =
    let here : slice_get fs place ≡ Some old = slice_get_read fs (length fs) place old refl inside same in
    let st : StandsAt fs old place = stands_at fs old place names here in
    let put : IsPut fs (set fs place new) place old.0 (old.1 ++ piece) =
    changed_at fs place old new old.0 (old.1 ++ piece) names (ap (λ o. option_map (λ (f : File). f.0) o) here) same changed in
    record {
      list = put.list ∙ ap (λ o. put_file old.0 (unwrap_or o [] ++ piece) fs) (sym st.found);
      names = subst HasNames (sym put.list) (put_names old.0 (old.1 ++ piece) fs (lawful_there old.0 fs names (ap is_some st.found)) names);
      here = here;
      there = slice_get-get_or (set fs place new) place new put.within ∙ ap Some (get_or-set_same fs place new new inside);
      named = ap (λ f. f.0) changed;
    }

-- the shelf whose begun file grew
pub grown_shelf : (s t : ScriptedShelf) (at : Option ℕ) (place : ℕ) (old new : File) (piece : List ℕ) → s ≡ t → at ≡ Some place → s.begun ≡ name_at s.files at
    → IsGrown s.files place old new piece
    → IfSome t.begun (λ name. record s { files = set s.files place new; begun = name_at (set s.files place new) at } ≡ record t { files = grow_file name piece t.files })
grown_shelf s t at place old new piece same is begun grown =
    let gs : List File = set s.files place new in
    let own : s.begun ≡ Some old.0 = begun ∙ ap (name_at s.files) is ∙ ap (λ o. option_map (λ (f : File). f.0) o) grown.here in
    let kept : name_at gs at ≡ Some old.0 = ap (name_at gs) is ∙ ap (λ o. option_map (λ (f : File). f.0) o) grown.there ∙ ap Some grown.named in
    let P : ScriptedShelf → Type 0 = λ x. IfSome x.begun (λ name. record s { files = gs; begun = name_at gs at } ≡ record x { files = grow_file name piece x.files }) in
    let Q : Option (List ℕ) → Type 0 = λ o. IfSome o (λ name. record s { files = gs; begun = name_at gs at } ≡ record s { files = grow_file name piece s.files }) in
    let with_files : List File → ScriptedShelf = λ l. record s { files = l; begun = name_at gs at } in
    let with_begun : Option (List ℕ) → ScriptedShelf = λ b. record s { files = grow_file old.0 piece s.files; begun = b } in
    subst P same (subst Q (sym own) (ap with_files grown.list ∙ ap with_begun (kept ∙ sym own)))

-- what is put empty is begun so, whatever list the shelf then has
pub put_begins : (name : List ℕ) (xs ys : List File) → ys ≡ put_file name [] xs → OthersStay name xs ys × (file_of ys name ≡ Some [])
put_begins name xs ys e = rw e (put_leaves name [] xs, put_found name [] xs)

-- a failed append to a file that is there leaves a prefix of no bytes
pub none_appended : (begun : Option (List ℕ)) (piece : List ℕ) (xs ys : List File) → IsKept xs begun → ys ≡ xs
    → IfSome begun (λ name. AppendsPiece name piece (Err Failed) xs ys)
none_appended None piece xs ys kept e = tt
none_appended (Some name) piece xs ys kept e = rw e (0, omega arith, grows_by_none name xs kept.there)

-- what grew has the piece at its end, and its name is still lawful
pub piece_appended : (begun : Option (List ℕ)) (piece : List ℕ) (xs ys : List File) → IsKept xs begun
    → IfSome begun (λ name. ys ≡ grow_file name piece xs) → IfSome begun (λ name. Grows name piece xs ys)
piece_appended None piece xs ys kept e = tt
piece_appended (Some name) piece xs ys kept e = rw e (grows_so name piece xs kept.there)

pub grown_names : (begun : Option (List ℕ)) (piece : List ℕ) (xs ys : List File) → IsSome begun → IsKept xs begun
    → IfSome begun (λ name. ys ≡ grow_file name piece xs) → HasNames ys
grown_names None piece xs ys some kept e = absurd (cc)
grown_names (Some name) piece xs ys some kept e = rw e (put_names name (unwrap_or (file_of xs name) [] ++ piece) xs (lawful_there name xs kept.names kept.there) kept.names)

-- the files of a shelf that is known
pub files_grown : (begun : Option (List ℕ)) (piece : List ℕ) (s t : ScriptedShelf)
    → IfSome begun (λ name. t ≡ record s { files = grow_file name piece s.files }) → IfSome begun (λ name. t.files ≡ grow_file name piece s.files)
files_grown None piece s t e = tt
files_grown (Some name) piece s t e = ap (λ x. x.files) e
