-- How a whole file is fetched, piece by piece.
use Rattle.std.specs.Prelude.{◌≡◌, ℕ, ◌+◌, ◌<◌, ◌≤◌, Bool, true, false, List, [], length, Option, None, Some, IfSome, IsSomeAnd, is_some, unwrap_or, Result, Ok, Err}
use Rattle.las_io.specs.Counts.{count_after}
use Rattle.las_io.specs.Shelves.{File, Fetches, FetchesCount, FetchesUpTo, FilesStay, IsFetched, file_of}
use Rattle.las_io.specs.declared.traits.IoBad.{IoBad}
use Rattle.las_io.specs.declared.whole_file.FetchRefused.{FetchRefused}
use Rattle.las_io.specs.declared.whole_file.FetchRefused.TheVariants.{ShelfFault, TooLong, Memory}

-- of a shelf: its files where it tells them, what is begun, what a fetch may find, and how many bytes its fetches have given
module _ {H : Type 0} (files : H → Option (List File)) (begun : H → Option (List ℕ)) (finds : H → List ℕ → Bool → Type 0) (given : H → ℕ) where
  -- one fetch of the file of this name, from place `at`, with its answer
  pub record IsFetch (name : List ℕ) (before after : H) (at : ℕ) (buf : List ℕ) (answer : Option ℕ) : Type 0 where
    pub bytes : IfSome (files before) (λ fs. IsFetched (file_of fs name) at buf answer)
    pub within : IfSome answer (λ n. n ≤ length buf)
    pub found : finds before name (is_some answer)
    pub stay : FilesStay (files before) (files after)
    pub none_begun : begun after ≡ None
    pub count : given after ≡ count_after (given before) (unwrap_or answer 0)

  -- one fetch that failed, or was refused memory
  pub record IsFailedFetch (before after : H) : Type 0 where
    pub stay : FilesStay (files before) (files after)
    pub none_begun : begun after ≡ None
    pub count : given after ≡ given before

  -- one fetch, whatever it answers
  abbrev pub AnswersFetch : List ℕ → H → H → ℕ → List ℕ → Result (Option ℕ) IoBad → Type 0
  AnswersFetch name before after at buf (Ok answer) = IsFetch name before after at buf answer
  AnswersFetch name before after at buf (Err bad) = IsFailedFetch before after

  -- the file was there, and these bytes are all of it
  pub record IsWholeFile (name : List ℕ) (before after : H) (limit : ℕ) (bytes : List ℕ) : Type 0 where
    pub came : Fetches files given name before after bytes
    pub told : IfSome (files before) (λ fs. file_of fs name ≡ Some bytes)
    pub found : finds before name true
    pub within : length bytes ≤ limit

  -- there was no such file
  pub record IsNoFile (name : List ℕ) (before after : H) : Type 0 where
    pub came : Fetches files given name before after []
    pub told : IfSome (files before) (λ fs. file_of fs name ≡ None)
    pub found : finds before name false

  -- the file was there, and it is longer
  pub record IsLongFile (name : List ℕ) (before after : H) (limit : ℕ) : Type 0 where
    pub came : FetchesCount files given name before after (limit + 1)
    pub longer : IfSome (files before) (λ fs. IsSomeAnd (file_of fs name) (λ bytes. limit < length bytes))
    pub found : finds before name true

  -- how fetches of a whole file ended: they say whether it was there
  abbrev pub EndsFetches : List ℕ → H → H → ℕ → List ℕ → Result Bool FetchRefused → Type 0
  EndsFetches name before after limit bytes (Ok true) = IsWholeFile name before after limit bytes
  EndsFetches name before after limit bytes (Ok false) = IsNoFile name before after
  EndsFetches name before after limit bytes (Err ShelfFault) = FetchesUpTo files given name before after limit
  EndsFetches name before after limit bytes (Err TooLong) = IsLongFile name before after limit
  EndsFetches name before after limit bytes (Err Memory) = FetchesUpTo files given name before after (limit + 1)
