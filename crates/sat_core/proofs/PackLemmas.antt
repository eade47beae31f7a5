-- What packing leaves of the search and of the clauses beside the log.
use Rattle.std.proofs.Common.{◌≡◌, ℕ, true, ◌||◌, List, [], ◌∷◌, map, Some, refl, sym, ap, ◌∙◌, subst, inl, inr, nat_eq}
use Rattle.cnf_base.specs.Literals.{variable, has_lit, Clause}
use Rattle.cnf_base.specs.Logs.{clause_of}
use Rattle.clause_arena.specs.Clauses.{Live, is_live, id_of, lits_of}
use Rattle.clause_arena.specs.Words.{clauses_in}
use Rattle.clause_arena.specs.Packing.{Move, moves_of, packed_by}
use Rattle.clause_arena.proofs.Packed.{Falls}
use Rattle.clause_arena.proofs.Moved.{put_at, packed_at, came_from, placed as named_at}
use Rattle.watch_lists.specs.declared.trail.Entry.{Entry}
use Rattle.watch_lists.specs.Entries.{is_assigned, true_by}
use Rattle.watch_lists.specs.Trails.{Seen}
use Rattle.watch_lists.specs.Fits.{Fits}
use Rattle.watch_lists.specs.Moving.{KeepsAttached, moved_entry, moved_trail}
use Rattle.watch_lists.proofs.PackedLemmas.{true_by-moved}
use Rattle.conflict_learn.specs.Resolvents.{IsTwin}
use Rattle.sat_core.specs.declared.search.Search.{Search}
use Rattle.sat_core.specs.Standing.{IsCovered, IsPlaced, ArePlaced}
use Rattle.sat_core.specs.Ready.{IsReady}
use Rattle.sat_core.proofs.LoseLemmas.{AreAlike}
use Rattle.sat_core.proofs.GainLemmas.{ordered_on}

-- a clause of the packed arena, and where it came from
record Came (ms : List Move) (cs : List Live) (y : ℕ) : Type 0 where
  from : ℕ
  live : is_live cs from ≡ true
  to : put_at cs from ≡ y
  id : id_of (packed_by ms cs) y ≡ id_of cs from
  lits : lits_of (packed_by ms cs) y ≡ lits_of cs from

came : (ms : List Move) (cs : List Live) (y : ℕ) → Falls cs → is_live (packed_by ms cs) y ≡ true → Came ms cs y
came ms cs y falls live =
    let p = came_from ms cs y falls live in
    let at = (packed_at ms cs p.0 p.1).1 in
    record {
      from = p.0;
      live = p.1;
      to = p.2;
      id = ap (id_of (packed_by ms cs)) (sym p.2) ∙ ap (λ (c : Live). c.id) at;
      lits = ap (lits_of (packed_by ms cs)) (sym p.2) ∙ ap (λ (c : Live). c.lits) at;
    }

-- the live clauses of the log and those of the packed arena are the same
pub alike_packed : (ms : List Move) (logged : List (ℕ × Clause)) (cs : List Live) → Falls cs → AreAlike logged cs → AreAlike logged (packed_by ms cs)
alike_packed ms logged cs falls a = record {
  mirrors = record { twin = λ y live. twin y (came ms cs y falls live) };
  covers = λ id c e. covered id c (a.covers id c e);
  apart = λ x y lx ly e. one x y (came ms cs x falls lx) (came ms cs y falls ly) e;
}
  where
    twin : (y : ℕ) → Came ms cs y → IsTwin logged (id_of (packed_by ms cs) y) (lits_of (packed_by ms cs) y)
    twin y k = let t = a.mirrors.twin k.from k.live in record { clause = t.clause; is = ap (clause_of logged) k.id ∙ t.is; same = λ l. t.same l ∙ sym (ap (λ ls. has_lit ls l) k.lits) }

    covered : (id : ℕ) (c : Clause) → IsCovered cs id c → IsCovered (packed_by ms cs) id c
    covered id c h =
        let p = packed_at ms cs h.place h.live in
        record { place = put_at cs h.place; live = p.0; id_is = ap (λ (d : Live). d.id) p.1 ∙ h.id_is; same = λ l. ap (λ (d : Live). has_lit d.lits l) p.1 ∙ h.same l }

    one : (x y : ℕ) → Came ms cs x → Came ms cs y → id_of (packed_by ms cs) x ≡ id_of (packed_by ms cs) y → x ≡ y
    one x y k m e = sym k.to ∙ ap (put_at cs) (a.apart k.from m.from k.live m.live (sym k.id ∙ e ∙ m.id)) ∙ m.to

assigned_moved : (ms : List Move) (es : List Entry) (v : ℕ) → is_assigned (map (moved_entry ms) es) v ≡ is_assigned es v
assigned_moved ms [] v = refl
assigned_moved ms (e ∷ es) v = ap (λ b. nat_eq (variable e.lit) v || b) (assigned_moved ms es v)

placed_packed : (t u : Seen) (cs : List Live) → Falls cs → u.entries ≡ map (moved_entry (moves_of cs)) t.entries → KeepsAttached t cs (moves_of cs) u (packed_by (moves_of cs) cs) → ArePlaced t cs → ArePlaced u (packed_by (moves_of cs) cs)
placed_packed t u cs falls entries keeps placed y live = at (came (moves_of cs) cs y falls live)
  where
    at : Came (moves_of cs) cs y → IsPlaced u (packed_by (moves_of cs) cs) y
    at k = is (placed k.from k.live)
      where
        is : IsPlaced t cs k.from → IsPlaced u (packed_by (moves_of cs) cs) y
        is (inl a) = inl (keeps.moved k.from y (named_at cs k.from falls k.live ∙ ap (λ q. Some q) k.to) ∙ a)
        is (inr fact) = inr (record { lit = fact.lit; alone = k.lits ∙ fact.alone; true_at_0 = ap (λ es. true_by 0 es fact.lit) entries ∙ true_by-moved (moves_of cs) 0 t.entries fact.lit ∙ fact.true_at_0 })

-- the search behind packing
pub packed_is_ready : (old new : Search) (ms : List Move) → Falls (clauses_in old.arena) → IsReady old → new ≡ record old { arena = new.arena; trail = new.trail } → ms ≡ moves_of (clauses_in old.arena) → clauses_in new.arena ≡ packed_by (moves_of (clauses_in old.arena)) (clauses_in old.arena) → new.trail ≡ moved_trail ms old.trail → Fits new.trail (clauses_in new.arena) → KeepsAttached old.trail (clauses_in old.arena) ms new.trail (clauses_in new.arena) → IsReady new
packed_is_ready old new ms falls ready same moves left trail fits keeps = record {
  fits = fits;
  placed = (let P : List Live → Type 0 = λ ds. ArePlaced new.trail ds in subst P (sym left) (placed_packed old.trail new.trail (clauses_in old.arena) falls entries kept ready.placed));
  ordered = ordered_on old new.trail ready.ordered (ap (λ (t : Seen). t.vars) trail) (λ v h. ap (λ es. is_assigned es v) entries ∙ assigned_moved (moves_of (clauses_in old.arena)) old.trail.entries v ∙ h) new same;
}
  where
    entries : new.trail.entries ≡ map (moved_entry (moves_of (clauses_in old.arena))) old.trail.entries
    entries = ap (λ (t : Seen). t.entries) trail ∙ ap (λ ns. map (moved_entry ns) old.trail.entries) moves

    kept : KeepsAttached old.trail (clauses_in old.arena) (moves_of (clauses_in old.arena)) new.trail (packed_by (moves_of (clauses_in old.arena)) (clauses_in old.arena))
    kept =
        let P : List Move → Type 0 = λ ns. KeepsAttached old.trail (clauses_in old.arena) ns new.trail (packed_by (moves_of (clauses_in old.arena)) (clauses_in old.arena)) in
        let Q : List Live → Type 0 = λ ds. KeepsAttached old.trail (clauses_in old.arena) ms new.trail ds in
        subst P moves (subst Q left keeps)
