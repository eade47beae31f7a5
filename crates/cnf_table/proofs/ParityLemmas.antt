-- A list of clauses, one against each odd pattern, leaves the even ones.
use Rattle.std.proofs.Common.{◌≡◌, ℕ, Bool, true, false, cond, ◌&&◌, ◌||◌, not, List, [], ◌∷◌, ◌++◌, map, length, refl, ap, ap₂, ◌∙◌, arith}
use Rattle.std.specs.List.{list_all, filter, flat_map, zip}
use Rattle.std.proofs.lemmas.List.Folds.{list_any-append}
use Rattle.std.proofs.lemmas.List.{length-map}
use Rattle.grid_box.specs.Sheets.{is_odd, agree}
use Rattle.cnf_base.specs.Literals.{Clause, Values, lit_true, clause_true, all_true}
use Rattle.cnf_base.proofs.LitLemmas.{lit_true-plain, lit_true-negated}
use Rattle.cnf_table.specs.Clauses.{patterns, against}
use Rattle.cnf_table.specs.Parity.{ParityLaw}

lit_true-against : (v : Values) (x : ℕ) (b : Bool) → lit_true v (against (x, b)) ≡ not (agree b (v x))
lit_true-against v x true = lit_true-negated v x
lit_true-against v x false = lit_true-plain v x ∙ at (v x)
  where
    at : (b : Bool) → b ≡ not (not b)
    at true = refl
    at false = refl

-- the lists agree as far as both go
abbrev agrees : List Bool → List Bool → Bool
agrees [] y_cells = true
agrees (x ∷ xs) [] = true
agrees (x ∷ xs) (y ∷ ys) = agree x y && agrees xs ys

not-and : (a b : Bool) → (not a || not b) ≡ not (a && b)
not-and true b = refl
not-and false b = refl

-- a clause against a pattern is false exactly where the values agree with it
clause-against : (v : Values) (xs : List ℕ) (bs : List Bool) → clause_true v (map against (zip xs bs)) ≡ not (agrees bs (map v xs))
clause-against v [] [] = refl
clause-against v [] (b ∷ bs) = refl
clause-against v (x ∷ xs) [] = refl
clause-against v (x ∷ xs) (b ∷ bs) =
    ap₂ (λ p q. p || q) (lit_true-against v x b) (clause-against v xs bs) ∙ not-and (agree b (v x)) (agrees bs (map v xs))

-- the patterns that begin otherwise say nothing
halved : (f : List Bool → Bool) (b : Bool) (ys : List Bool) (ps : List (List Bool)) → list_all (λ bs. not (agrees bs (b ∷ ys))) (filter f (flat_map (λ bs. (false ∷ bs) ∷ (true ∷ bs) ∷ []) ps)) ≡ list_all (λ bs. not (agrees bs ys)) (filter (λ bs. f (b ∷ bs)) ps)
halved f b ys [] = refl
halved f b ys (p ∷ ps) = at b (f (false ∷ p)) (f (true ∷ p)) refl refl (halved f b ys ps)
  where
    at : (c g h : Bool) → f (false ∷ p) ≡ g → f (true ∷ p) ≡ h → list_all (λ bs. not (agrees bs (c ∷ ys))) (filter f (flat_map (λ bs. (false ∷ bs) ∷ (true ∷ bs) ∷ []) ps)) ≡ list_all (λ bs. not (agrees bs ys)) (filter (λ bs. f (c ∷ bs)) ps) → list_all (λ bs. not (agrees bs (c ∷ ys))) (filter f (flat_map (λ bs. (false ∷ bs) ∷ (true ∷ bs) ∷ []) (p ∷ ps))) ≡ list_all (λ bs. not (agrees bs ys)) (filter (λ bs. f (c ∷ bs)) (p ∷ ps))
    at false true true d e ih = rw (d, e) (ap (λ b. not (agrees p ys) && b) ih)
    at false true false d e ih = rw (d, e) (ap (λ b. not (agrees p ys) && b) ih)
    at false false true d e ih = rw (d, e) ih
    at false false false d e ih = rw (d, e) ih
    at true true true d e ih = rw (d, e) (ap (λ b. not (agrees p ys) && b) ih)
    at true true false d e ih = rw (d, e) ih
    at true false true d e ih = rw (d, e) (ap (λ b. not (agrees p ys) && b) ih)
    at true false false d e ih = rw (d, e) ih

-- of the patterns that pass a test, none agrees with a list exactly where the list fails it
none_agrees : (f : List Bool → Bool) (xs : List ℕ) (ys : List Bool) → length ys ≡ length xs → list_all (λ bs. not (agrees bs ys)) (filter f (patterns xs)) ≡ not (f ys)
none_agrees f [] [] e = at (f [])
  where
    at : (b : Bool) → list_all (λ bs. not (agrees bs [])) (cond b ([] ∷ []) []) ≡ not b
    at true = refl
    at false = refl
none_agrees f [] (y ∷ ys) e = cc
none_agrees f (x ∷ xs) [] e = cc
none_agrees f (x ∷ xs) (y ∷ ys) e = halved f y ys (patterns xs) ∙ none_agrees (λ bs. f (y ∷ bs)) xs ys (omega arith)

-- a front that is true makes each clause true
with_front : (v : Values) (front : Clause) (xs : List ℕ) (ps : List (List Bool)) → all_true v (map (λ bs. front ++ map against (zip xs bs)) ps) ≡ (clause_true v front || list_all (λ bs. not (agrees bs (map v xs))) ps)
with_front v front xs [] = at (clause_true v front)
  where
    at : (b : Bool) → true ≡ (b || true)
    at true = refl
    at false = refl
with_front v front xs (p ∷ ps) =
    ap₂ (λ a b. a && b) (list_any-append (lit_true v) front (map against (zip xs p)) ∙ ap (λ b. clause_true v front || b) (clause-against v xs p)) (with_front v front xs ps)
    ∙ spread (clause_true v front) (not (agrees p (map v xs))) (list_all (λ bs. not (agrees bs (map v xs))) ps)
  where
    spread : (a b c : Bool) → ((a || b) && (a || c)) ≡ (a || (b && c))
    spread true b c = refl
    spread false b c = refl

pub parity_law : ParityLaw
parity_law v front xs = with_front v front xs (filter is_odd (patterns xs)) ∙ ap (λ b. clause_true v front || b) (none_agrees is_odd xs (map v xs) (length-map xs v))
