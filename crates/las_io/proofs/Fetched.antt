-- What fetches of one file have given, piece by piece.
use Rattle.std.proofs.Common.{◌≡◌, ◌⊎◌, inl, inr, ℕ, ◌+◌, ◌<◌, ◌≤◌, Bool, true, false, not, ◌==◌, Ok, Err, List, [], ◌++◌, length, take, drop, Option, None, Some, IfSome, IsSomeAnd, unwrap_or, refl, sym, ap, ◌∙◌, subst, arith, length-append, length-take}
use Rattle.std.proofs.lemmas.Bool.{cases_lt, eqb-true, eqb-false}
use Rattle.std.proofs.lemmas.List.{take_all}
use Rattle.std.proofs.Math.Seq.{take-add}
use Rattle.las_io.specs.Counts.{count_after}
use Rattle.las_io.specs.Shelves.{File, file_of, FilesStay, IsFetched, IsFront, Fetches, FetchesUpTo}
use Rattle.las_io.specs.Fetches.{IsFetch, IsFailedFetch, IsWholeFile, IsLongFile, EndsFetches}
use Rattle.las_io.specs.declared.whole_file.FetchRefused.{FetchRefused}
use Rattle.las_io.specs.declared.whole_file.FetchRefused.TheVariants.{ShelfFault, TooLong, Memory}
use Rattle.las_io.proofs.Given.{count_after-twice, count_after-zero}

-- files that stay twice, and what is known of them afterwards
pub stay_twice : (a b c : Option (List File)) → FilesStay a b → FilesStay b c → FilesStay a c
stay_twice None b c p q = tt
stay_twice (Some x) None c p q = absurd p
stay_twice (Some x) (Some y) None p q = absurd q
stay_twice (Some x) (Some y) (Some z) p q = q ∙ p

pub told_before : (P : List File → Type 0) (a b : Option (List File)) → FilesStay a b → IfSome b P → IfSome a P
told_before P None b p h = tt
told_before P (Some x) None p h = absurd p
told_before P (Some x) (Some y) p h = subst P p h

both_told : (P Q R : List File → Type 0) (a : Option (List File)) → ((fs : List File) → P fs → Q fs → R fs) → IfSome a P → IfSome a Q → IfSome a R
both_told P Q R None f p q = tt
both_told P Q R (Some fs) f p q = f fs p q

one_told : (P Q : List File → Type 0) (a : Option (List File)) → ((fs : List File) → P fs → Q fs) → IfSome a P → IfSome a Q
one_told P Q None f p = tt
one_told P Q (Some fs) f p = f fs p

-- no bytes stand at the front of any file
no_front : (file : Option (List ℕ)) → IsFront file []
no_front None = refl
no_front (Some xs) = refl

all_front : (o : Option (List File)) (name : List ℕ) → IfSome o (λ fs. IsFront (file_of fs name) [])
all_front None name = tt
all_front (Some fs) name = no_front (file_of fs name)

-- n bytes more stand at the front of a file
front_grows : (file : Option (List ℕ)) (bytes buf : List ℕ) (n : ℕ) → IsFront file bytes → IsFetched file (length bytes) buf (Some n) → IsFront file (bytes ++ take n buf)
front_grows None bytes buf n front fetched = absurd (cc)
front_grows (Some xs) bytes buf n front fetched =
    let len : length (take n buf) ≡ n = omega (arith, ap length fetched.front, length-take {A = ℕ}, fetched.within) in
    ap (λ k. take k xs) (length-append bytes (take n buf) ∙ ap (λ k. length bytes + k) len) ∙ take-add (length bytes) n xs ∙ ap (λ l. l ++ take n (drop (length bytes) xs)) front ∙ ap (λ l. bytes ++ l) (sym fetched.front)

-- a fetch that gives none, with room, came to the end of the file
front_ends : (file : Option (List ℕ)) (bytes buf : List ℕ) (n : ℕ) → n ≡ 0 → 1 ≤ length buf → IsFront file bytes → IsFetched file (length bytes) buf (Some n) → file ≡ Some bytes
front_ends None bytes buf n none room front fetched = absurd (cc)
front_ends (Some xs) bytes buf n none room front fetched = at (fetched.none.0 none)
  where
    at : (length xs ≤ length bytes) ⊎ (length buf ≡ 0) → Some xs ≡ Some bytes
    at (inl all) = ap Some (sym (take_all (length bytes) xs all) ∙ front)
    at (inr empty) = absurd (omega arith)

-- where there is no file, none is fetched
front_absent : (file : Option (List ℕ)) (at : ℕ) (buf : List ℕ) → IsFetched file at buf None → file ≡ None
front_absent None at buf fetched = refl
front_absent (Some xs) at buf fetched = absurd fetched

-- and nothing came of it
front_lost : (file : Option (List ℕ)) (bytes buf : List ℕ) → 0 < length bytes → IsFront file bytes → IsFetched file (length bytes) buf None → file ≡ Some bytes
front_lost None bytes buf some front fetched = absurd (omega (arith, ap length front))
front_lost (Some xs) bytes buf some front fetched = absurd fetched

-- files stay
pub files_stay : (o : Option (List File)) → FilesStay o o
files_stay None = tt
files_stay (Some fs) = refl

-- bytes that came are of a file that is there, and as long at least
front_long : (file : Option (List ℕ)) (bytes : List ℕ) (limit : ℕ) → length bytes ≡ limit + 1 → IsFront file bytes → IsSomeAnd file (λ xs. limit < length xs)
front_long None bytes limit long front = absurd (omega (arith, ap length front))
front_long (Some xs) bytes limit long front = omega (arith, ap length front, length-take (length bytes) xs)

-- of a shelf: its files where it tells them, what is begun, what a fetch may find, and how many bytes its fetches have given
module _ {H : Type 0} (files : H → Option (List File)) (begun : H → Option (List ℕ)) (finds : H → List ℕ → Bool → Type 0) (given : H → ℕ) where
  -- these bytes came, by fetches that each found the file and gave some
  pub record IsUnderWay (name : List ℕ) (before now : H) (bytes : List ℕ) : Type 0 where
    pub came : Fetches files given name before now bytes
    pub stay : FilesStay (files before) (files now)
    pub none_begun : begun now ≡ None
    pub first : length bytes ≡ 0 → now ≡ before
    pub found : 0 < length bytes → finds before name true

  -- before the first fetch
  pub begins : (name : List ℕ) (s : H) (bytes : List ℕ) → begun s ≡ None → bytes ≡ [] → IsUnderWay name s s bytes
  begins name s bytes none e = rw e (record {
    came = record { counted = sym (count_after-zero (given s) (length {A = ℕ} []) refl); front = all_front (files s) name };
    stay = files_stay (files s);
    none_begun = none;
    first = λ _. refl;
    found = λ some. absurd (omega arith);
  })

  -- a fetch whose answer is known
  pub fetch_of : (name : List ℕ) (before after : H) (place : ℕ) (buf : List ℕ) (answer known : Option ℕ) → answer ≡ known
      → IsFetch files begun finds given name before after place buf answer → IsFetch files begun finds given name before after place buf known
  fetch_of name before after place buf answer known is fetch = subst (IsFetch files begun finds given name before after place buf) is fetch

  -- what a fetch finds at any moment was so at first
  pub found_so : (name : List ℕ) (before mid after : H) (bytes buf : List ℕ) (n : ℕ) → IsUnderWay name before mid bytes
      → IsFetch files begun finds given name mid after (length bytes) buf (Some n) → finds before name true
  found_so name before mid after bytes buf n way fetch = at (cases_lt 0 (length bytes))
    where
      at : (0 < length bytes) ⊎ (length bytes ≤ 0) → finds before name true
      at (inl some) = way.found some
      at (inr none) = subst (λ s. finds s name true) (way.first (omega arith)) fetch.found

  -- a fetch that gives n bytes
  pub goes_on : (name : List ℕ) (before mid after : H) (bytes buf : List ℕ) (n : ℕ) → IsUnderWay name before mid bytes
      → IsFetch files begun finds given name mid after (length bytes) buf (Some n) → 0 < n → IsUnderWay name before after (bytes ++ take n buf)
  goes_on name before mid after bytes buf n way fetch some =
      let both : length bytes + n ≡ length (bytes ++ take n buf) = omega (arith, fetch.within, length-append {A = ℕ}, length-take {A = ℕ}) in record {
        came = record {
          counted = fetch.count ∙ ap (λ k. count_after k n) way.came.counted ∙ count_after-twice (given before) (length bytes) n ∙ ap (count_after (given before)) both;
          front = both_told _ _ _ (files before) (λ fs p q. front_grows (file_of fs name) bytes buf n p q) way.came.front (told_before _ (files before) (files mid) way.stay fetch.bytes);
        };
        stay = stay_twice (files before) (files mid) (files after) way.stay fetch.stay;
        none_begun = fetch.none_begun;
        first = λ none. absurd (omega (arith, both));
        found = λ _. found_so name before mid after bytes buf n way fetch;
      }

  -- a fetch that gives no byte is the end of the file
  pub ends : (name : List ℕ) (before mid after : H) (bytes buf : List ℕ) (n : ℕ) → IsUnderWay name before mid bytes
      → IsFetch files begun finds given name mid after (length bytes) buf (Some n) → n ≡ 0 → 1 ≤ length buf → IfSome (files before) (λ fs. file_of fs name ≡ Some bytes)
  ends name before mid after bytes buf n way fetch none room =
      both_told _ _ _ (files before) (λ fs p q. front_ends (file_of fs name) bytes buf n none room p q) way.came.front (told_before _ (files before) (files mid) way.stay fetch.bytes)

  -- a fetch that finds no file is the first, where the files are told
  pub absent : (name : List ℕ) (before mid after : H) (bytes buf : List ℕ) → IsUnderWay name before mid bytes
      → IsFetch files begun finds given name mid after (length bytes) buf None → IfSome (files before) (λ fs. file_of fs name ≡ None)
  absent name before mid after bytes buf way fetch =
      one_told _ _ (files before) (λ fs q. front_absent (file_of fs name) (length bytes) buf q) (told_before _ (files before) (files mid) way.stay fetch.bytes)

  pub ends_early : (name : List ℕ) (before mid after : H) (bytes buf : List ℕ) → IsUnderWay name before mid bytes
      → IsFetch files begun finds given name mid after (length bytes) buf None → 0 < length bytes → IfSome (files before) (λ fs. file_of fs name ≡ Some bytes)
  ends_early name before mid after bytes buf way fetch some =
      both_told _ _ _ (files before) (λ fs p q. front_lost (file_of fs name) bytes buf some p q) way.came.front (told_before _ (files before) (files mid) way.stay fetch.bytes)

  -- a fetch that gives nothing leaves what came
  pub none_came : (name : List ℕ) (before mid after : H) (bytes buf : List ℕ) (answer : Option ℕ) → IsUnderWay name before mid bytes
      → IsFetch files begun finds given name mid after (length bytes) buf answer → unwrap_or answer 0 ≡ 0 → Fetches files given name before after bytes
  none_came name before mid after bytes buf answer way fetch none = record {
    counted = fetch.count ∙ count_after-zero (given mid) (unwrap_or answer 0) none ∙ way.came.counted;
    front = way.came.front;
  }

  -- a first fetch that finds no file
  pub found_none : (name : List ℕ) (before mid after : H) (bytes buf : List ℕ) → IsUnderWay name before mid bytes
      → IsFetch files begun finds given name mid after (length bytes) buf None → length bytes ≡ 0 → finds before name false
  found_none name before mid after bytes buf way fetch first = subst (λ s. finds s name false) (way.first first) fetch.found

  pub nothing_came : (name : List ℕ) (before mid after : H) (bytes buf : List ℕ) → IsUnderWay name before mid bytes
      → IsFetch files begun finds given name mid after (length bytes) buf None → length bytes ≡ 0 → Fetches files given name before after []
  nothing_came name before mid after bytes buf way fetch first = record {
    counted = (none_came name before mid after bytes buf None way fetch refl).counted ∙ ap (count_after (given before)) first;
    front = all_front (files before) name;
  }

  -- a fetch that failed gives nothing
  pub none_failed : (name : List ℕ) (before mid after : H) (bytes : List ℕ) (most : ℕ) → IsUnderWay name before mid bytes
      → IsFailedFetch files begun finds given mid after → length bytes ≤ most → FetchesUpTo files given name before after most
  none_failed name before mid after bytes most way failed few = record {
    bytes = bytes;
    came = record { counted = failed.count ∙ way.came.counted; front = way.came.front };
    within = few;
  }

  -- bytes that came, and for which there was no memory
  pub came_in_vain : (name : List ℕ) (before mid after : H) (bytes buf : List ℕ) (n limit : ℕ) → IsUnderWay name before mid bytes
      → IsFetch files begun finds given name mid after (length bytes) buf (Some n) → 0 < n → length bytes + length buf ≤ limit + 1
      → FetchesUpTo files given name before after (limit + 1)
  came_in_vain name before mid after bytes buf n limit way fetch some room = record {
    bytes = bytes ++ take n buf;
    came = (goes_on name before mid after bytes buf n way fetch some).came;
    within = omega (arith, fetch.within, length-append {A = ℕ}, length-take {A = ℕ});
  }

  -- a fetch that gives no byte: the file is whole
  pub file_ends : (name : List ℕ) (before mid after : H) (bytes buf : List ℕ) (n limit : ℕ) → IsUnderWay name before mid bytes
      → IsFetch files begun finds given name mid after (length bytes) buf (Some n) → n ≡ 0 → 1 ≤ length buf → length bytes ≤ limit
      → IsWholeFile files begun finds given name before after limit bytes
  file_ends name before mid after bytes buf n limit way fetch none room few = record {
    came = none_came name before mid after bytes buf (Some n) way fetch none;
    told = ends name before mid after bytes buf n way fetch none room;
    found = found_so name before mid after bytes buf n way fetch;
    within = few;
  }

  -- a fetch that finds no file: there was none, or it ended early
  pub file_gone : (name : List ℕ) (before mid after : H) (bytes buf : List ℕ) (limit : ℕ) (empty : Bool) → IsUnderWay name before mid bytes
      → IsFetch files begun finds given name mid after (length bytes) buf None → length bytes ≤ limit → empty ≡ (length bytes == 0)
      → EndsFetches files begun finds given name before after limit bytes (Ok (not empty))
  file_gone name before mid after bytes buf limit true way fetch few e =
      let none : length bytes ≡ 0 = eqb-true (length bytes) 0 (sym e) in record {
        came = nothing_came name before mid after bytes buf way fetch none;
        told = absent name before mid after bytes buf way fetch;
        found = found_none name before mid after bytes buf way fetch none;
      }
  file_gone name before mid after bytes buf limit false way fetch few e =
      let other : length bytes ≡ 0 → ⊥ = eqb-false (length bytes) 0 (sym e) in
      let some : 0 < length bytes = omega arith in record {
        came = none_came name before mid after bytes buf None way fetch refl;
        told = ends_early name before mid after bytes buf way fetch some;
        found = way.found some;
        within = few;
      }

  -- bytes past the limit are of a file that is longer
  pub too_long : (name : List ℕ) (before now : H) (bytes : List ℕ) (limit : ℕ) → IsUnderWay name before now bytes → length bytes ≡ limit + 1
      → IsLongFile files begun finds given name before now limit
  too_long name before now bytes limit way long = record {
    came = record { bytes = bytes; came = way.came; exact = long };
    longer = one_told _ _ (files before) (λ fs p. front_long (file_of fs name) bytes limit long p) way.came.front;
    found = way.found (omega arith);
  }

  -- whatever the refusal, the limit and one byte more came at most
  pub refused_most : (name : List ℕ) (before now : H) (limit : ℕ) (bytes : List ℕ) (refused : FetchRefused)
      → EndsFetches files begun finds given name before now limit bytes (Err refused) → FetchesUpTo files given name before now (limit + 1)
  refused_most name before now limit bytes ShelfFault ends = record { bytes = ends.bytes; came = ends.came; within = omega (arith, ends.within) }
  refused_most name before now limit bytes TooLong ends = record { bytes = ends.came.bytes; came = ends.came.came; within = omega (arith, ends.came.exact) }
  refused_most name before now limit bytes Memory ends = ends
