-- The other literal of a variable, by its number.
use Rattle.std.proofs.Common.{◌≡◌, ℕ, ◌+◌, ◌-◌, ◌*◌, ◌%◌, ◌<◌, ◌⊎◌, cond, refl, sym, ap, ◌∙◌, arith, nat_eq, inl, inr}
use lib.Bits.{bit_and, bit_xor, xor_add_and}
use Rattle.std.proofs.lemmas.Nat.{and_mask}

bit_cases : (r : ℕ) → r < 2 → (r ≡ 0) ⊎ (r ≡ 1)
bit_cases r h = search arith

at_bit : (n x r : ℕ) → (r ≡ 0) ⊎ (r ≡ 1) → r ≡ n % 2 → x + r * 2 ≡ n + 1 → x ≡ cond (nat_eq r 0) (n + 1) (n - 1)
at_bit n x r (inl e) is sum = rw e (omega arith)
at_bit n x r (inr e) is sum = rw e (omega arith)

-- one more at an even number, one less at an odd one
pub number_of_negation : (n : ℕ) → bit_xor n 1 ≡ cond (nat_eq (n % 2) 0) (n + 1) (n - 1)
number_of_negation n =
    let low : bit_and n 1 ≡ n % 2 = and_mask n 1 in
    at_bit n (bit_xor n 1) (n % 2) (bit_cases (n % 2) (omega arith)) refl (ap (λ r. bit_xor n 1 + r * 2) (sym low) ∙ xor_add_and n 1)
