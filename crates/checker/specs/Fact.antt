-- "The interpolant", up to its normal form. in_a and in_b say which variables occur in A and in B; of B's rows nothing else is asked.
--
--     Fact              n coefficients, a constant and a modulus
--     Holds n f X       coefficients·X ≡ constant (mod modulus), an equality if the modulus is 0
--     modulus_of        M, "the positive gcd of S at all A-local variables and of p × l at A's congruences (0 if all are 0, or
--                       there are none)"; at an equation p × l is 0, and changes no gcd
--     raw_fact          "The fact is: sum of S·x over shared variables ≡ K (mod M), an equality if M = 0", where S and K are
--                       column_sum and constant_sum over A's rows only
use Rattle.std.specs.Prelude.{Bool, cond, ℕ, ℤ, pos, ◌*ℤ◌}
use Rattle.integers.specs.Divisibility.{Congruent}
use Rattle.integers.specs.Gcd.{gcd_from}
use Rattle.integers.specs.Sum.{dot}
use Rattle.problem.specs.Rows.{Rows}
use Rattle.problem.specs.Occurrence.{shared, local_a}
use Rattle.checker.specs.Refutation.{column_sum, constant_sum}

pub record Fact : Type 0 where
  pub coef : ℕ → ℤ
  pub const : ℤ
  pub modulus : ℤ

pub record Holds (n : ℕ) (f : Fact) (X : ℕ → ℤ) : Type 0 where
  pub by : Congruent f.modulus (dot n f.coef X) f.const

unfoldable pub modulus_of : ℕ → (ℕ → Bool) → (ℕ → Bool) → Rows → (ℕ → ℤ) → ℤ
modulus_of n in_a in_b A p = gcd_from (gcd_from (pos 0) n (λ j. cond (local_a in_a in_b j) (column_sum A p j) (pos 0))) A.m (λ i. p i *ℤ A.modulus i)

abbrev pub raw_fact : ℕ → (ℕ → Bool) → (ℕ → Bool) → Rows → (ℕ → ℤ) → Fact
raw_fact n in_a in_b A p = record {
  coef = λ j. cond (shared in_a in_b j) (column_sum A p j) (pos 0);
  const = constant_sum A p;
  modulus = modulus_of n in_a in_b A p;
}
