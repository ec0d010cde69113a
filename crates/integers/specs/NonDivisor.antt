-- "The smallest number from 2 up that does not divide" s.
--
--     LeastNonDivisor s q        q is that number; for s = 0, which every number divides, there is none
--     non_divisor s              that number by trial; 2 for s = 0
--     non_divisor_from k q s     the first of q, .., q + k - 1 that does not divide s, and q + k if each does
--
-- That non_divisor s is the LeastNonDivisor of an s that is not 0, and the only one: proofs/Laws/NonDivisor.antt.
use Rattle.std.specs.Prelude.{true, false, ℕ, zero, suc, ◌+◌, ◌<◌, ◌≤◌, ℤ, pos, nat_abs}
use Rattle.integers.specs.Divisibility.{◌∣ℤ◌, divides}

pub record LeastNonDivisor (s : ℤ) (q : ℕ) : Type 0 where
  pub from_two : 2 ≤ q
  pub fails : pos q ∣ℤ s → ⊥
  pub below : (k : ℕ) → 2 ≤ k → k < q → pos k ∣ℤ s

unfoldable pub non_divisor_from : ℕ → ℕ → ℤ → ℕ
non_divisor_from zero q s = q
non_divisor_from (suc k) q s = elim (divides (pos q) s) [ true ↦ non_divisor_from k (q + 1) s | false ↦ q ]

-- |s| + 1 does not divide s unless s is 0, so that the |s| numbers from 2 on are enough.
unfoldable pub non_divisor : ℤ → ℕ
non_divisor s = non_divisor_from (nat_abs s) 2 s
