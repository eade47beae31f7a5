-- Fronts of a text that a sink holds.
use Rattle.std.proofs.Common.{◌≡◌, ℕ, ◌+◌, List, [], ◌++◌, Option, Result, Ok, Err, OnErr, take, length, arith, sym, subst, length-append}
use Rattle.std.specs.Io.KnownBytes.{Appends}
use Rattle.std.proofs.KnownBytes.{Appends-nil, Appends-trans}
use Rattle.std.proofs.Math.Seq.{take-append-add, take-length}
use Rattle.std.proofs.lemmas.List.{take-append-le}
use Rattle.las_io.specs.Moves.{AppendsFront}

pub front_of_none : (a : Option (List ℕ)) (xs : List ℕ) → AppendsFront a a xs
front_of_none a xs = (0, omega arith, Appends-nil a)

pub front_of_nothing : (a b : Option (List ℕ)) (xs : List ℕ) → Appends a b [] → AppendsFront a b xs
front_of_nothing a b xs p = (0, omega arith, p)

pub front_of_all : (a b : Option (List ℕ)) (xs : List ℕ) → Appends a b xs → AppendsFront a b xs
front_of_all a b xs p = (length xs, omega arith, subst (Appends a b) (sym (take-length xs)) p)

-- a front of a text is one of a longer text
pub front_of_more : (a b : Option (List ℕ)) (xs ys : List ℕ) → AppendsFront a b xs → AppendsFront a b (xs ++ ys)
front_of_more a b xs ys f = (f.0, omega (arith, f.1, length-append xs ys), subst (Appends a b) (sym (take-append-le f.0 xs ys f.1)) f.2)

-- a whole text and then a front of another
pub front_behind : (a b c : Option (List ℕ)) (xs ys : List ℕ) → Appends a b xs → AppendsFront b c ys → AppendsFront a c (xs ++ ys)
front_behind a b c xs ys p f = (length xs + f.0, omega (arith, f.1, length-append xs ys), subst (Appends a c) (sym (take-append-add xs ys f.0)) (Appends-trans a b c xs (take f.0 ys) p f.2))

-- what is left at an error, whatever the error is
pub at_error : {T E : Type 0} (r : Result T E) (P : Type 0) → P → OnErr r P
at_error (Ok x) P p = tt
at_error (Err e) P p = p

-- what went well was refused for no reason
pub went_well : {T E : Type 0} (x : T) (e : E) → (let r : Result T E = Ok x in r ≡ Err e) → ⊥
went_well x e is = cc
