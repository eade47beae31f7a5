-- What a count of faults tells of a writer, from one call to a later one: it rises only where the writer breaks.
use Rattle.std.specs.Prelude.{◌≡◌, ◌⊎◌, ℕ, ◌<◌, ◌≤◌, Bool, true, false, Result, IsErrOf}
use Rattle.std.proofs.Common.{◌∙◌, sym, ap, inl, inr, arith}
use Rattle.std.proofs.lemmas.Bool.{cases_lt}
use Rattle.cnf_base.specs.Takes.{is_fault}
use Rattle.cnf_base.specs.declared.traits.LogBad.{LogBad}
use Rattle.cnf_base.specs.declared.traits.LogBad.TheVariants.{Fault}

-- a writer that is broken stays so, and the count of faults rose only where it is broken now
pub record BreaksByFault (before now : Bool) (faults faults' : ℕ) : Type 0 where
  pub stays : before ≡ true → now ≡ true
  pub rises : faults < faults' → now ≡ true

-- ---- laws

none_is_less : (n : ℕ) → n < n → ⊥
none_is_less n less = omega arith

pub breaks_from_itself : (broken : Bool) (faults : ℕ) → BreaksByFault broken broken faults faults
breaks_from_itself broken faults = record {
  stays = λ e. e;
  rises = λ less. absurd (none_is_less faults less);
}

pub breaks_through : (first mid last : Bool) (a b c : ℕ) → BreaksByFault first mid a b → BreaksByFault mid last b c → BreaksByFault first last a c
breaks_through first mid last a b c p q = record {
  stays = λ e. q.stays (p.stays e);
  rises = λ less. at less (cases_lt a b);
}
  where
    at : a < c → (a < b) ⊎ (b ≤ a) → last ≡ true
    at less (inl rose) = q.stays (p.rises rose)
    at less (inr stood) = q.rises (omega arith)

-- a call of a writer that was not broken
pub breaks_by : (before now : Bool) (faults faults' : ℕ) (result : Result (Unit {0}) LogBad) → before ≡ false → now ≡ is_fault result → (faults < faults' → IsErrOf result Fault) → BreaksByFault before now faults faults'
breaks_by before now faults faults' result whole is rises = record {
  stays = λ broken. absurd (false_is_no_true (sym whole ∙ broken));
  rises = λ less. is ∙ ap is_fault (rises less);
}
  where
    false_is_no_true : false ≡ true → ⊥
    false_is_no_true e = cc
