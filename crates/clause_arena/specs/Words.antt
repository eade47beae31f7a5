-- How clauses stand in an arena: each has a head of four words, a span and a tail, and the literals of all stand in one block. What is most often read, the first two literals and the links, is in the head; what is seldom read is in the tail.
use Rattle.std.specs.Prelude.{◌≡◌, ℕ, zero, suc, ◌+◌, ◌*◌, ◌/◌, Bool, true, false, ◌&&◌, ◌||◌, List, [], ◌∷◌, ◌++◌, length, take, drop, Option, Some, None, if◌then◌else◌, nat_eq, nat_le, nat_lt, slice_index_or, slice_set}
use Rattle.cnf_base.specs.declared.literal.Lit.{Lit}
use Rattle.clause_arena.specs.declared.ClauseRef.{ClauseRef}
use Rattle.clause_arena.specs.declared.arena.Span.{Span}
use Rattle.clause_arena.specs.declared.arena.Tail.{Tail}
use Rattle.clause_arena.specs.Clauses.{Live, place_of}

-- what an arena holds
pub record Block : Type 0 where
  pub heads : List Lit
  pub spans : List Span
  pub tails : List Tail
  pub lits : List Lit

-- each clause has a head of four words, a span and a tail
pub record AreAligned (heads spans tails : ℕ) : Type 0 where
  pub four : heads ≡ 4 * spans
  pub one : tails ≡ spans

-- a word of this number
abbrev pub word : ℕ → Lit
word n = record { 0 = n }

-- the word at a place
abbrev pub word_in : List Lit → ℕ → Lit
word_in ws i = slice_index_or ws i (word 0)

-- a word of the head of the clause with a number: its first two literals, then its two links
abbrev pub head_in : List Lit → ℕ → ℕ → Lit
head_in hs p k = word_in hs (4 * p + k)

-- what is read where there is no span
abbrev pub no_span : Span
no_span = record { start = 0; size = 0 }

-- the span of the clause with a number
abbrev pub span_in : List Span → ℕ → Span
span_in ss p = slice_index_or ss p no_span

-- what is read where there is no tail
abbrev pub no_tail : Tail
no_tail = record { id = 0; is_retired = true; left = None; right = None }

-- the tail of the clause with a number
abbrev pub tail_in : List Tail → ℕ → Tail
tail_in ts p = slice_index_or ts p no_tail

-- a link, by its word: a place that fits into one beside a slot, or none, or the place that the tail has
abbrev pub link_at : ℕ → Option ClauseRef → Option ℕ
link_at near far = if nat_lt near 4294967294 then Some (near / 2) else if nat_eq near 4294967294 then place_of far else None

-- n words from a place on
abbrev pub run : (ℕ → Lit) → ℕ → ℕ → List Lit
run w a zero = []
run w a (suc n) = w a ∷ run w (suc a) n

-- the literals of the clause with a number
abbrev pub lits_at : Block → ℕ → List Lit
lits_at b p = run (word_in b.lits) (span_in b.spans p).start (span_in b.spans p).size

-- the literals begin with these two
abbrev pub begins : Lit → Lit → List Lit → Bool
begins a b [] = false
begins a b (x ∷ []) = false
begins a b (x ∷ y ∷ ls) = nat_eq x.0 a.0 && nat_eq y.0 b.0

-- the two literals of a head are the first two, or they are equal and tell nothing
abbrev pub tells_right : Lit → Lit → List Lit → Bool
tells_right a b ls = nat_eq a.0 b.0 || begins a b ls

-- what stands at one number: where its literals begin and stop, whether a clause is seen there, and which
pub record Seat : Type 0 where
  pub start : ℕ
  pub stop : ℕ
  pub is_seen : Bool
  pub clause : Live

-- what stands at a number
abbrev pub seat_at : Block → ℕ → Seat
seat_at b p =
    record {
      start = (span_in b.spans p).start;
      stop = (span_in b.spans p).start + (span_in b.spans p).size;
      is_seen = if (tail_in b.tails p).is_retired then false else tells_right (head_in b.heads p 0) (head_in b.heads p 1) (lits_at b p);
      clause =
          record {
            place = p;
            id = (tail_in b.tails p).id;
            lits = lits_at b p;
            first = link_at (head_in b.heads p 2).0 (tail_in b.tails p).left;
            second = link_at (head_in b.heads p 3).0 (tail_in b.tails p).right;
          };
    }

-- a clause in front of the others where it is seen, and none at all where its literals do not fit
abbrev pub step : Bool → Bool → Live → List Live → List Live
step false seen c cs = []
step true true c cs = c ∷ cs
step true false c cs = cs

-- the clauses of the first n seats, the newest first: the literals of each stop where those of the next begin, or before
abbrev pub clauses_to : (ℕ → Seat) → ℕ → ℕ → List Live
clauses_to s zero e = []
clauses_to s (suc p) e = step (nat_le (s p).stop e) (s p).is_seen (s p).clause (clauses_to s p (s p).start)

-- the live clauses of an arena
unfoldable pub clauses_in : Block → List Live
clauses_in b = clauses_to (seat_at b) (length b.spans) (length b.lits)

-- the words with others written from a place on, as many as there are at first
unfoldable pub overwritten : List Lit → ℕ → List Lit → List Lit
overwritten ws a xs = take (length ws) (take a ws ++ (xs ++ drop (length xs) (drop a ws)) ++ drop (length (take a ws ++ (xs ++ drop (length xs) (drop a ws)))) ws)

-- the head of a clause tells no literals
abbrev pub hidden : List Lit → ℕ → List Lit
hidden hs p = slice_set (slice_set hs (4 * p) (word 0)) (4 * p + 1) (word 0)

-- the arena with other literals in the clause with a number
abbrev pub rewritten : Block → ℕ → List Lit → Block
rewritten b p xs = record { heads = hidden b.heads p; spans = b.spans; tails = b.tails; lits = overwritten b.lits (span_in b.spans p).start xs }
