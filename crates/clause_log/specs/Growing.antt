-- What a writer adds to its file, from one call to a later one: whole lines, and behind them a front of one where it failed.
use Rattle.std.specs.Prelude.{◌≡◌, ℕ, Bool, true, false, ◌&&◌, List, [], ◌∷◌, ◌++◌, take, Option, Some, None, IfSome, IsSomeAnd, refl}
use Rattle.std.proofs.Common.{◌∙◌, sym, ap, subst, append_assoc, append-nil}
use Rattle.std.proofs.lemmas.List.Folds.{list_all-append}
use Rattle.std.proofs.lemmas.Bool.{and_from, and_parts}
use Rattle.las_io.specs.Shelves.{File, Told, file_of}
use Rattle.cnf_base.specs.Logs.{Remove}
use Rattle.clause_log.specs.LogText.{step_text}
use Rattle.clause_log.specs.LogFiles.{Line, are_writable, log_text}

-- these bytes are whole lines that can be read back, and then, where the last may be torn, a front of one more
pub record AreLines (torn : Bool) (bytes : List ℕ) : Type 0 where
  pub lines : List Line
  pub next : Line
  pub cut : ℕ
  pub bytes_are : bytes ≡ log_text lines ++ take cut (step_text next.0 next.1)
  pub fit : are_writable (next ∷ lines) ≡ true
  pub whole : torn ≡ false → cut ≡ 0

-- the bytes of a file, from one call of its writer to a later one: a writer that is broken leaves them, and any other puts lines behind them
abbrev pub GoesOn : (before now : Bool) → List ℕ → List ℕ → Type 0
GoesOn true now xs ys = (now ≡ true) × (ys ≡ xs)
GoesOn false now xs ys = (more : List ℕ) × (ys ≡ xs ++ more) × AreLines now more

-- the same of the file of this name, where it is there
abbrev pub FileGoesOn : (before now : Bool) → List ℕ → List File → List File → Type 0
FileGoesOn before now name xs ys = IfSome (file_of xs name) (λ bytes. IsSomeAnd (file_of ys name) (GoesOn before now bytes))

-- the same of the file that is begun, where files are told
abbrev pub BegunGoesOn : (before now : Bool) → Option (List ℕ) → Option (List File) → Option (List File) → Type 0
BegunGoesOn before now begun xs ys = IfSome begun (λ name. Told (FileGoesOn before now name) xs ys)

-- ---- laws

-- no line
pub no_lines : (torn : Bool) → AreLines torn []
no_lines torn = record {
  lines = [];
  next = (0, Remove []);
  cut = 0;
  bytes_are = refl;
  fit = refl;
  whole = λ e. refl;
}

goes_on_itself : (broken : Bool) (bytes : List ℕ) → GoesOn broken broken bytes bytes
goes_on_itself true bytes = (refl, refl)
goes_on_itself false bytes = ([], sym (append-nil bytes), no_lines false)

log_text-append : (xs ys : List Line) → log_text (xs ++ ys) ≡ log_text xs ++ log_text ys
log_text-append [] ys = refl
log_text-append (x ∷ xs) ys = ap (λ t. step_text x.0 x.1 ++ t) (log_text-append xs ys) ∙ sym (append_assoc (step_text x.0 x.1) (log_text xs) (log_text ys))

goes_on_then : (first mid last : Bool) (xs ys zs : List ℕ) → GoesOn first mid xs ys → GoesOn mid last ys zs → GoesOn first last xs zs
goes_on_then true mid last xs ys zs p q = broken_still mid p.0 q
  where
    broken_still : (m : Bool) → m ≡ true → GoesOn m last ys zs → (last ≡ true) × (zs ≡ xs)
    broken_still true e r = (r.0, r.1 ∙ p.1)
    broken_still false e r = absurd (false_is_no_true e)
      where
        false_is_no_true : false ≡ true → ⊥
        false_is_no_true e = cc
goes_on_then false true last xs ys zs p q = (p.0, q.1 ∙ p.1, subst (λ b. AreLines b p.0) (sym q.0) p.2)
goes_on_then false false last xs ys zs p q =
    let a = p.2 in
    let b = q.2 in
    let cut_is = a.whole refl in
    let first_is : p.0 ≡ log_text a.lines = a.bytes_are ∙ ap (λ n. log_text a.lines ++ take n (step_text a.next.0 a.next.1)) cut_is ∙ append-nil (log_text a.lines) in
    let fit_a = and_parts _ (are_writable a.lines) a.fit in
    let fit_b = and_parts _ (are_writable b.lines) b.fit in (
      p.0 ++ q.0,
      q.1 ∙ ap (λ t. t ++ q.0) p.1 ∙ append_assoc xs p.0 q.0,
      record {
        lines = a.lines ++ b.lines;
        next = b.next;
        cut = b.cut;
        bytes_are = ap (λ t. t ++ q.0) first_is ∙ ap (λ t. log_text a.lines ++ t) b.bytes_are ∙ sym (append_assoc (log_text a.lines) (log_text b.lines) (take b.cut (step_text b.next.0 b.next.1)))
            ∙ ap (λ t. t ++ take b.cut (step_text b.next.0 b.next.1)) (sym (log_text-append a.lines b.lines));
        fit = and_from _ (are_writable (a.lines ++ b.lines)) fit_b.0 (list_all-append _ a.lines b.lines ∙ ap (λ t. t && are_writable b.lines) fit_a.1 ∙ fit_b.1);
        whole = b.whole;
      },
    )

file_goes_on_then : (first mid last : Bool) (f g h : Option (List ℕ)) → IfSome f (λ xs. IsSomeAnd g (GoesOn first mid xs)) → IfSome g (λ ys. IsSomeAnd h (GoesOn mid last ys)) → IfSome f (λ xs. IsSomeAnd h (GoesOn first last xs))
file_goes_on_then first mid last None g h p q = tt
file_goes_on_then first mid last (Some xs) None h p q = absurd p
file_goes_on_then first mid last (Some xs) (Some ys) None p q = absurd q
file_goes_on_then first mid last (Some xs) (Some ys) (Some zs) p q = goes_on_then first mid last xs ys zs p q

pub begun_goes_on_itself : (broken : Bool) (begun : Option (List ℕ)) (files : Option (List File)) → BegunGoesOn broken broken begun files files
begun_goes_on_itself broken None files = tt
begun_goes_on_itself broken (Some name) None = tt
begun_goes_on_itself broken (Some name) (Some fs) = at (file_of fs name)
  where
    at : (f : Option (List ℕ)) → IfSome f (λ bytes. IsSomeAnd f (GoesOn broken broken bytes))
    at None = tt
    at (Some bytes) = goes_on_itself broken bytes

pub begun_goes_on_through : (first mid last : Bool) (begun then : Option (List ℕ)) (xs ys zs : Option (List File)) → then ≡ begun → BegunGoesOn first mid begun xs ys → BegunGoesOn mid last then ys zs → BegunGoesOn first last begun xs zs
begun_goes_on_through first mid last begun then xs ys zs e p q = at begun xs ys zs p (subst (λ b. BegunGoesOn mid last b ys zs) e q)
  where
    at : (begun : Option (List ℕ)) (xs ys zs : Option (List File)) → BegunGoesOn first mid begun xs ys → BegunGoesOn mid last begun ys zs → BegunGoesOn first last begun xs zs
    at None xs ys zs p q = tt
    at (Some name) None ys zs p q = tt
    at (Some name) (Some fs) None zs p q = absurd p
    at (Some name) (Some fs) (Some gs) None p q = absurd q
    at (Some name) (Some fs) (Some gs) (Some hs) p q = file_goes_on_then first mid last (file_of fs name) (file_of gs name) (file_of hs name) p q
