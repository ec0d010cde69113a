-- Divisibility of integers, in which 0 divides only 0.
--
--     a ∣ℤ b             some `by` has b = by × a; so 0 ∣ℤ b says b = 0, and a ∣ℤ 0 always holds
--     divides a b        the same as a test: b leaves no remainder by a (`rem_z b 0` is b)
--     Congruent m a b    a ≡ b (mod m): m ∣ℤ a - b; for m = 0 that is a = b
use Rattle.std.specs.Prelude.{◌≡◌, Bool, ℤ, ◌-ℤ◌, ◌*ℤ◌}
use Rattle.std.specs.Int.Signed.{rem_z}
use Rattle.integers.specs.Range.{is_zero}

infix 4 ◌∣ℤ◌
pub record ◌∣ℤ◌ (a b : ℤ) : Type 0 where
  pub by : ℤ
  pub is : b ≡ by *ℤ a

abbrev pub divides : ℤ → ℤ → Bool
divides a b = is_zero (rem_z b a)

abbrev pub Congruent : ℤ → ℤ → ℤ → Type 0
Congruent m a b = m ∣ℤ (a -ℤ b)
