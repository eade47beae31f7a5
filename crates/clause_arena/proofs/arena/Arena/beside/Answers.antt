use Rattle.std.proofs.Common.{◌≡◌, Bool, false, true, not, nat_eq, refl, sym, ap, ◌∙◌}
use Rattle.std.proofs.lemmas.Bool.{both_ways, eqb-true, eq-eqb}
use Rattle.cnf_base.specs.declared.literal.Lit.{Lit}
use Rattle.clause_arena.specs.Words.{word}
use Rattle.clause_arena.proofs.Fronts.{beside_read, beside_none}
use Rattle.clause_arena.proofs.arena.Arena.beside.Goals.{else-eq-via-then-eq+else-ne, else-eq-via-else-eq}
use Rattle.clause_arena.proofs.arena.Arena.beside.Goals as goal

apart_by : (a b : Lit) → not (nat_eq a.0 b.0) ≡ true → a ≡ b → ⊥
apart_by a b h e = both_ways false refl (rw (eq-eqb a.0 b.0 (ap (λ (l : Lit). l.0) e)) at h)

pub returns-then-ne : goal.returns-then-ne
returns-then-ne c =
    beside_read c.args.self.now c.args.r.0 c.args.k c.head-here.result c.head-other.result c.args.lit c.requires.live c.requires.near c.head-here.ensures c.head-other.ensures
    (ap word (eqb-true c.head-here.result.0 c.args.lit.0 (sym c.eq.ensures ∙ c.if-eq.true)))
    (apart_by c.head-other.result c.args.lit (sym c.ne.ensures ∙ c.if-ne.true))

-- a test that found no difference
same_by : (a b : Lit) → not (nat_eq a.0 b.0) ≡ false → a ≡ b
same_by a b h = ap word (eqb-true a.0 b.0 (at (nat_eq a.0 b.0) h))
  where
    at : (x : Bool) → not x ≡ false → x ≡ true
    at true e = refl
    at false e = absurd (both_ways true e refl)

pub returns : goal.returns
returns c =
    beside_none c.args.self.now c.args.r.0 c.args.k c.head-here.result c.head-other.result c.args.lit c.requires.live c.requires.near c.head-here.ensures c.head-other.ensures
    (λ q. both_ways (nat_eq c.head-here.result.0 c.head-other.result.0) (sym c.eq-2.ensures ∙ c.if-eq-2.false) (eq-eqb c.head-here.result.0 c.head-other.result.0 q))
    (λ is. elim c.else-eq.branch [
      | else-eq-via-then-eq+else-ne w ↦ same_by c.head-other.result c.args.lit (sym w.ne.ensures ∙ w.if-ne.false)
      | else-eq-via-else-eq w ↦ absurd (both_ways (nat_eq c.head-here.result.0 c.args.lit.0) (sym c.eq.ensures ∙ w.if-eq.false) (eq-eqb c.head-here.result.0 c.args.lit.0 (ap (λ (l : Lit). l.0) is)))
    ])
