-- Clauses that are found by their ids.
use Rattle.std.proofs.Common.{◌≡◌, ℕ, zero, suc, ◌+◌, ◌-◌, ◌<◌, ◌≤◌, Bool, true, false, ◌||◌, not, cond, IsTrue, List, [], ◌∷◌, ◌++◌, length, get_or, take, drop, Option, Some, None, is_some, IfSome, option_copied, Bor, refl, sym, ap, ◌∙◌, subst, arith, inl, inr, nat_eq, slice_range, set}
use Rattle.std.proofs.lemmas.Bool.{and_from, cases_lt, cond-true, cond-false, ne_eqb, eq-eqb}
use Rattle.std.proofs.lemmas.List.{take-append-le, drop-append-le, drop_at, take_all, length-append, length-drop}
use Rattle.std.proofs.lemmas.List.Folds.{list_all-append}
use Rattle.cnf_base.specs.declared.literal.Lit.{Lit}
use Rattle.cnf_base.specs.Literals.{Clause, are_below}
use Rattle.cnf_base.specs.Logs.{clause_of, is_live, without}
use Rattle.cnf_base.proofs.Blocks.{all_of_range}
use Rattle.log_check.specs.declared.table.Entry.{Entry}
use Rattle.log_check.specs.Tables.{AreWithin, clause_at, dead, dead_at, HasAt, IsTable, NoneHas, Rises, id_at, lits_of, shown}

-- ids above a number
pub ids_above : (low : ℕ) (es : List Entry) (last k : ℕ) → Rises low es last → k < length es → low + k < id_at es k
ids_above low [] last k rise h = absurd (omega arith)
ids_above low (e ∷ es) last zero rise h = omega (arith, rise.0)
ids_above low (e ∷ es) last (suc k) rise h = omega (arith, rise.0, ids_above e.id es last k rise.1 (omega arith))

pub ids_in_order : (low : ℕ) (es : List Entry) (last j k : ℕ) → Rises low es last → j < k → k < length es → id_at es j < id_at es k
ids_in_order low [] last j k rise h g = absurd (omega arith)
ids_in_order low (e ∷ es) last j zero rise h g = absurd (omega arith)
ids_in_order low (e ∷ es) last zero (suc k) rise h g = omega (arith, ids_above e.id es last k rise.1 (omega arith))
ids_in_order low (e ∷ es) last (suc j) (suc k) rise h g = ids_in_order e.id es last j k rise.1 (omega arith) (omega arith)

-- where no entry has the id, no clause has it
pub none_found : (lits : List Lit) (es : List Entry) (id : ℕ) → NoneHas es id → clause_of (shown lits es) id ≡ None
none_found lits [] id none = refl
none_found lits (e ∷ es) id none = at e.live (none_found lits es id (λ k h. none (suc k) (omega arith)))
  where
    at : (live : Bool) → clause_of (shown lits es) id ≡ None → clause_of (cond live ((e.id, lits_of lits e) ∷ shown lits es) (shown lits es)) id ≡ None
    at false ih = ih
    at true ih = cond-false (nat_eq e.id id) (Some (lits_of lits e)) (clause_of (shown lits es) id) (ne_eqb e.id id (λ e. none zero (omega arith) e)) ∙ ih

later_is_other : (low : ℕ) (es : List Entry) (last : ℕ) → Rises low es last → NoneHas es low
later_is_other low es last rise = λ k h is. absurd (omega (arith, ids_above low es last k rise h, is))

pub one_found : (lits : List Lit) (low : ℕ) (es : List Entry) (last id n : ℕ) → Rises low es last → HasAt es id n → clause_of (shown lits es) id ≡ clause_at lits es n
one_found lits low [] last id n rise has = absurd (omega (arith, has.within))
one_found lits low (e ∷ es) last id zero rise has = at e.live
  where
    none : clause_of (shown lits es) id ≡ None
    none = subst (λ i. clause_of (shown lits es) i ≡ None) has.is (none_found lits es e.id (later_is_other e.id es last rise.1))

    at : (live : Bool) → clause_of (cond live ((e.id, lits_of lits e) ∷ shown lits es) (shown lits es)) id ≡ cond live (Some (lits_of lits e)) None
    at true = cond-true (nat_eq e.id id) (Some (lits_of lits e)) (clause_of (shown lits es) id) (eq-eqb e.id id has.is)
    at false = none
one_found lits low (e ∷ es) last id (suc n) rise has =
    at e.live (one_found lits e.id es last id n rise.1 (record { within = omega (arith, has.within); is = has.is }))
  where
    other : e.id ≡ id → ⊥
    other is = absurd (omega (arith, is, has.is, ids_above e.id es last n rise.1 (omega (arith, has.within))))

    at : (live : Bool) → clause_of (shown lits es) id ≡ clause_at lits es n → clause_of (cond live ((e.id, lits_of lits e) ∷ shown lits es) (shown lits es)) id ≡ clause_at lits es n
    at false ih = ih
    at true ih = cond-false (nat_eq e.id id) (Some (lits_of lits e)) (clause_of (shown lits es) id) (ne_eqb e.id id other) ∙ ih

-- an id is live where it has a clause
pub live_is_found : (live : List (ℕ × Clause)) (id : ℕ) → is_live live id ≡ is_some (clause_of live id)
live_is_found [] id = refl
live_is_found (x ∷ xs) id = at (nat_eq x.0 id) (live_is_found xs id)
  where
    at : (b : Bool) → is_live xs id ≡ is_some (clause_of xs id) → (b || is_live xs id) ≡ is_some (cond b (Some x.1) (clause_of xs id))
    at true ih = refl
    at false ih = ih

-- an id that no clause has takes none out
none_goes : (lits : List Lit) (es : List Entry) (id : ℕ) → NoneHas es id → without (shown lits es) id ≡ shown lits es
none_goes lits [] id none = refl
none_goes lits (e ∷ es) id none = at e.live (none_goes lits es id (λ k h. none (suc k) (omega arith)))
  where
    at : (live : Bool) → without (shown lits es) id ≡ shown lits es → without (cond live ((e.id, lits_of lits e) ∷ shown lits es) (shown lits es)) id ≡ cond live ((e.id, lits_of lits e) ∷ shown lits es) (shown lits es)
    at false ih = ih
    at true ih =
        ap (λ b. cond (not b) ((e.id, lits_of lits e) ∷ without (shown lits es) id) (without (shown lits es) id)) (ne_eqb e.id id (λ is. none zero (omega arith) is))
        ∙ ap (λ xs. (e.id, lits_of lits e) ∷ xs) ih

pub one_goes : (lits : List Lit) (low : ℕ) (es : List Entry) (last id n : ℕ) → Rises low es last → HasAt es id n → shown lits (dead_at es n) ≡ without (shown lits es) id
one_goes lits low [] last id n rise has = absurd (omega (arith, has.within))
one_goes lits low (e ∷ es) last id zero rise has = sym (at e.live)
  where
    stay : without (shown lits es) id ≡ shown lits es
    stay = subst (λ i. without (shown lits es) i ≡ shown lits es) has.is (none_goes lits es e.id (later_is_other e.id es last rise.1))

    at : (live : Bool) → without (cond live ((e.id, lits_of lits e) ∷ shown lits es) (shown lits es)) id ≡ shown lits es
    at false = stay
    at true = ap (λ b. cond (not b) ((e.id, lits_of lits e) ∷ without (shown lits es) id) (without (shown lits es) id)) (eq-eqb e.id id has.is) ∙ stay
one_goes lits low (e ∷ es) last id (suc n) rise has =
    at e.live (one_goes lits e.id es last id n rise.1 (record { within = omega (arith, has.within); is = has.is }))
  where
    other : e.id ≡ id → ⊥
    other is = absurd (omega (arith, is, has.is, ids_above e.id es last n rise.1 (omega (arith, has.within))))

    at : (live : Bool) → shown lits (dead_at es n) ≡ without (shown lits es) id → cond live ((e.id, lits_of lits e) ∷ shown lits (dead_at es n)) (shown lits (dead_at es n)) ≡ without (cond live ((e.id, lits_of lits e) ∷ shown lits es) (shown lits es)) id
    at false ih = ih
    at true ih =
        ap (λ xs. (e.id, lits_of lits e) ∷ xs) ih
        ∙ sym (ap (λ b. cond (not b) ((e.id, lits_of lits e) ∷ without (shown lits es) id) (without (shown lits es) id)) (ne_eqb e.id id other))

-- entries that rise and lie in the block go on to, with the one at a place dead
pub dead_rises : (low : ℕ) (es : List Entry) (last n : ℕ) → Rises low es last → Rises low (dead_at es n) last
dead_rises low [] last n rise = rise
dead_rises low (e ∷ es) last zero rise = rise
dead_rises low (e ∷ es) last (suc n) rise = (rise.0, dead_rises e.id es last n rise.1)

pub dead_within : (es : List Entry) (size n : ℕ) → AreWithin es size → AreWithin (dead_at es n) size
dead_within [] size n within = within
dead_within (e ∷ es) size zero within = within
dead_within (e ∷ es) size (suc n) within = (within.0, within.1, dead_within es size n within.2)

pub table_with_one_dead : (vars : ℕ) (es : List Entry) (lits : List Lit) (last n : ℕ) → IsTable vars es lits last → IsTable vars (dead_at es n) lits last
table_with_one_dead vars es lits last n t = record {
  few = t.few;
  below = t.below;
  rising = dead_rises 0 es last n t.rising;
  within = dead_within es (length lits) n t.within;
}

-- an entry more
pub rises_more : (low : ℕ) (es : List Entry) (last : ℕ) (e : Entry) → Rises low es last → last < e.id → Rises low (es ++ e ∷ []) e.id
rises_more low [] last e rise h = (omega (arith, rise, h), omega arith)
rises_more low (f ∷ es) last e rise h = (rise.0, rises_more f.id es last e rise.1 h)

pub within_more : (es : List Entry) (size grown : ℕ) (e : Entry) → AreWithin es size → size ≤ grown → e.start ≤ e.end → e.end ≤ grown → AreWithin (es ++ e ∷ []) grown
within_more [] size grown e within h p q = (p, q, tt)
within_more (f ∷ es) size grown e within h p q = (within.0, omega (arith, within.1, h), within_more es size grown e within.2 h p q)

same_range : (lits c : List Lit) (from end : ℕ) → from ≤ end → end ≤ length lits → slice_range (lits ++ c) from end ≡ slice_range lits from end
same_range lits c from end p q =
    ap (take (end - from)) (drop-append-le from lits c (omega arith)) ∙ take-append-le (end - from) (drop from lits) c (omega (arith, length-drop from lits))

pub shown_longer : (lits c : List Lit) (es : List Entry) → AreWithin es (length lits) → shown (lits ++ c) es ≡ shown lits es
shown_longer lits c [] within = refl
shown_longer lits c (e ∷ es) within =
    ap (λ xs. cond e.live ((e.id, xs) ∷ shown (lits ++ c) es) (shown (lits ++ c) es)) (same_range lits c e.start e.end within.0 within.1)
    ∙ ap (λ xs. cond e.live ((e.id, lits_of lits e) ∷ xs) xs) (shown_longer lits c es within.2)

pub shown-append : (lits : List Lit) (es fs : List Entry) → shown lits (es ++ fs) ≡ shown lits es ++ shown lits fs
shown-append lits [] fs = refl
shown-append lits (e ∷ es) fs = at e.live (shown-append lits es fs)
  where
    at : (live : Bool) → shown lits (es ++ fs) ≡ shown lits es ++ shown lits fs → cond live ((e.id, lits_of lits e) ∷ shown lits (es ++ fs)) (shown lits (es ++ fs)) ≡ cond live ((e.id, lits_of lits e) ∷ shown lits es) (shown lits es) ++ shown lits fs
    at true ih = ap (λ xs. (e.id, lits_of lits e) ∷ xs) ih
    at false ih = ih

-- an entry that was read
pub record IsRead (lits : List Lit) (es : List Entry) (n size : ℕ) (e : Entry) : Type 0 where
  pub id : e.id ≡ id_at es n
  pub clause : clause_at lits es n ≡ cond e.live (Some (lits_of lits e)) None
  pub rising : e.start ≤ e.end
  pub within : e.end ≤ size
  pub dead_is : set es n (dead e) ≡ dead_at es n

pub entry_is_read : (lits : List Lit) (es : List Entry) (n size : ℕ) (e d : Entry) → n < length es → e ≡ get_or es n d → AreWithin es size → IsRead lits es n size e
entry_is_read lits [] n size e d h is within = absurd (omega arith)
entry_is_read lits (f ∷ es) zero size e d h is within = subst (IsRead lits (f ∷ es) zero size) (sym is) (record {
  id = refl;
  clause = refl;
  rising = within.0;
  within = within.1;
  dead_is = refl;
})
entry_is_read lits (f ∷ es) (suc n) size e d h is within =
    let r = entry_is_read lits es n size e d (omega arith) is within.2 in record {
      id = r.id;
      clause = r.clause;
      rising = r.rising;
      within = r.within;
      dead_is = ap (λ xs. f ∷ xs) r.dead_is;
    }

pub id_is_read : (es : List Entry) (n : ℕ) (d : Entry) → n < length es → (get_or es n d).id ≡ id_at es n
id_is_read [] n d h = absurd (omega arith)
id_is_read (f ∷ es) zero d h = refl
id_is_read (f ∷ es) (suc n) d h = id_is_read es n d (omega arith)

pub clause_at_below : (vars : ℕ) (lits : List Lit) (es : List Entry) (n : ℕ) (c : Clause) → are_below vars lits ≡ true → clause_at lits es n ≡ Some c → are_below vars c ≡ true
clause_at_below vars lits [] n c below is = cc
clause_at_below vars lits (e ∷ es) zero c below is = at e.live is
  where
    at : (live : Bool) → cond live (Some (lits_of lits e)) None ≡ Some c → are_below vars c ≡ true
    at true is = let same : lits_of lits e ≡ c = cc in ap (are_below vars) (sym same) ∙ all_of_range _ lits e.start e.end below
    at false is = cc
clause_at_below vars lits (e ∷ es) (suc n) c below is = clause_at_below vars lits es n c below is

-- what one id says of those before it, and of those from it on
pub below_so_far : (es : List Entry) (last id middle : ℕ) → Rises 0 es last → middle < length es → id_at es middle < id → (k : ℕ) → k < middle + 1 → id_at es k < id
below_so_far es last id middle rise within small k h =
    elim (cases_lt k middle) as (λ _. id_at es k < id) [
      | inl before ↦ omega (arith, small, ids_in_order 0 es last k middle rise before within)
      | inr after ↦ (let same : k ≡ middle = omega (arith, h, after) in subst (λ n. id_at es n < id) (sym same) small)
    ]

pub not_below_on : (es : List Entry) (last id middle : ℕ) → Rises 0 es last → id ≤ id_at es middle → (k : ℕ) → middle ≤ k → k < length es → id ≤ id_at es k
not_below_on es last id middle rise great k h within =
    elim (cases_lt middle k) as (λ _. id ≤ id_at es k) [
      | inl before ↦ omega (arith, great, ids_in_order 0 es last middle k rise before within)
      | inr after ↦ (let same : middle ≡ k = omega (arith, h, after) in subst (λ n. id ≤ id_at es n) same great)
    ]

-- no id is 0
pub zero_is_none : (es : List Entry) (last id : ℕ) → Rises 0 es last → id ≡ 0 → NoneHas es id
zero_is_none es last id rise zero_is k within is = absurd (omega (arith, zero_is, is, ids_above 0 es last k rise within))

-- where the first entry that is not below the id has another, none has it
pub not_there : (es : List Entry) (last id place : ℕ) → Rises 0 es last → ((k : ℕ) → k < place → id_at es k < id) → ((k : ℕ) → place ≤ k → k < length es → id ≤ id_at es k)
    → (place < length es → id_at es place ≡ id → ⊥) → NoneHas es id
not_there es last id place rise below rest other k within is =
    elim (cases_lt k place) as (λ _. ⊥) [
      | inl before ↦ absurd (omega (arith, is, below k before))
      | inr after ↦ elim (cases_lt place k) as (λ _. ⊥) [
        | inl strictly ↦ absurd (omega (arith, is, rest place (omega arith) (omega (arith, within, strictly)), ids_in_order 0 es last place k rise strictly within))
        | inr at ↦ (let same : k ≡ place = omega (arith, after, at) in other (omega (arith, within, same)) (ap (id_at es) (sym same) ∙ is))
      ]
    ]

-- an entry that is written dead
pub dead_is_set_at : (es : List Entry) (n : ℕ) (d : Entry) → n < length es → set es n (dead (get_or es n d)) ≡ dead_at es n
dead_is_set_at [] n d h = absurd (omega arith)
dead_is_set_at (f ∷ es) zero d h = refl
dead_is_set_at (f ∷ es) (suc n) d h = ap (λ xs. f ∷ xs) (dead_is_set_at es n d (omega arith))

-- a table with one clause more
pub longer_within : (es : List Entry) (size grown : ℕ) → AreWithin es size → size ≤ grown → AreWithin es grown
longer_within [] size grown within h = within
longer_within (e ∷ es) size grown within h = (within.0, omega (arith, within.1, h), longer_within es size grown within.2 h)

pub longer_table : (vars : ℕ) (es : List Entry) (lits c : List Lit) (last : ℕ) → IsTable vars es lits last → are_below vars c ≡ true → IsTable vars es (lits ++ c) last
longer_table vars es lits c last t below = record {
  few = t.few;
  below = list_all-append _ lits c ∙ and_from (are_below vars lits) (are_below vars c) t.below below;
  rising = t.rising;
  within = longer_within es (length lits) (length (lits ++ c)) t.within (omega (arith, length-append lits c));
}

pub table_more : (vars : ℕ) (es : List Entry) (lits c : List Lit) (last : ℕ) (e : Entry) → IsTable vars es lits last → are_below vars c ≡ true → last < e.id → e.start ≡ length lits → e.end ≡ length lits + length c
    → IsTable vars (es ++ e ∷ []) (lits ++ c) e.id
table_more vars es lits c last e t below above start end = record {
  few = t.few;
  below = (longer_table vars es lits c last t below).below;
  rising = rises_more 0 es last e t.rising above;
  within = within_more es (length lits) (length (lits ++ c)) e t.within (omega (arith, length-append lits c)) (omega (arith, start, end)) (omega (arith, end, length-append lits c));
}

pub shown_more : (vars : ℕ) (es : List Entry) (lits c : List Lit) (last : ℕ) (e : Entry) → IsTable vars es lits last → e.live ≡ true → e.start ≡ length lits → e.end ≡ length lits + length c
    → shown (lits ++ c) (es ++ e ∷ []) ≡ shown lits es ++ (e.id, c) ∷ []
shown_more vars es lits c last e t live start end =
    let behind : drop e.start (lits ++ c) ≡ c = drop_at lits c e.start (sym start) in
    let whole : take (e.end - e.start) c ≡ c = take_all (e.end - e.start) c (omega (arith, start, end)) in
    let is : lits_of (lits ++ c) e ≡ c = ap (take (e.end - e.start)) behind ∙ whole in
    shown-append (lits ++ c) es (e ∷ [])
    ∙ ap (λ xs. xs ++ shown (lits ++ c) (e ∷ [])) (shown_longer lits c es t.within)
    ∙ ap (λ b. shown lits es ++ cond b ((e.id, lits_of (lits ++ c) e) ∷ []) []) live
    ∙ ap (λ xs. shown lits es ++ (e.id, xs) ∷ []) is

-- what was found of an id
pub found_in : (vars : ℕ) (es : List Entry) (lits : List Lit) (last id n : ℕ) → IsTable vars es lits last → HasAt es id n → clause_of (shown lits es) id ≡ clause_at lits es n
found_in vars es lits last id n t has = one_found lits 0 es last id n t.rising has

-- a live entry's clause, and a dead one's
pub live_clause : (lits : List Lit) (es : List Entry) (n size : ℕ) (e : Entry) → IsRead lits es n size e → e.live ≡ true → Some (lits_of lits e) ≡ clause_at lits es n
live_clause lits es n size e r live = sym (r.clause ∙ cond-true e.live (Some (lits_of lits e)) None live)

pub dead_clause : (lits : List Lit) (es : List Entry) (n size : ℕ) (e : Entry) → IsRead lits es n size e → e.live ≡ false → None ≡ clause_at lits es n
dead_clause lits es n size e r live = sym (r.clause ∙ cond-false e.live (Some (lits_of lits e)) None live)

pub written_dead : (es : List Entry) (n : ℕ) (e d : Entry) → n < length es → e ≡ get_or es n d → set es n (dead e) ≡ dead_at es n
written_dead es n e d h is = ap (λ x. set es n (dead x)) is ∙ dead_is_set_at es n d h

-- whether an id is live, by its entry
pub is_live_at : (vars : ℕ) (es : List Entry) (lits : List Lit) (last id n : ℕ) → IsTable vars es lits last → HasAt es id n → is_live (shown lits es) id ≡ is_some (clause_at lits es n)
is_live_at vars es lits last id n t has = live_is_found (shown lits es) id ∙ ap is_some (one_found lits 0 es last id n t.rising has)

pub no_live : (es : List Entry) (lits : List Lit) (id : ℕ) → NoneHas es id → is_live (shown lits es) id ≡ false
no_live es lits id none = live_is_found (shown lits es) id ∙ ap is_some (none_found lits es id none)

pub copied_below : (vars : ℕ) (lits : List Lit) (es : List Entry) (n : ℕ) (o : Option (Bor (List Lit))) → are_below vars lits ≡ true → option_copied o ≡ clause_at lits es n → IfSome o (λ clause. IsTrue (are_below vars clause.now))
copied_below vars lits es n None below is = tt
copied_below vars lits es n (Some c) below is = clause_at_below vars lits es n c.now below (sym is)

pub copied_is_some : (o : Option (Bor (List Lit))) → is_some (option_copied o) ≡ is_some o
copied_is_some None = refl
copied_is_some (Some c) = refl
