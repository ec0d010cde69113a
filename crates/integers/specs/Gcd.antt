-- The greatest common divisor.
--
--     gcd_ℕ a b         of two naturals, by Euclid's algorithm; gcd_ℕ 0 0 is 0, gcd_ℕ a 0 is a
--     gcd_ℤ a b         of two integers: that of their magnitudes
--     gcd_from g k f    of g and of f 0, .., f (k - 1); for many numbers alone take g = 0
--
-- That it divides both, that every common divisor divides it, and that no other natural does both: proofs/Laws/Gcd.antt.
use Rattle.std.specs.Prelude.{ℕ, zero, suc, ◌%◌, ℤ, pos, nat_abs}

-- Euclid's algorithm in at most `steps` divisions; b + 1 of them are enough, since the second number falls.
unfoldable pub euclid : ℕ → ℕ → ℕ → ℕ
euclid zero a b = a
euclid (suc steps) a zero = a
euclid (suc steps) a (suc b) = euclid steps (suc b) (a % suc b)

unfoldable pub gcd_ℕ : ℕ → ℕ → ℕ
gcd_ℕ a b = euclid (suc b) a b

unfoldable pub gcd_ℤ : ℤ → ℤ → ℤ
gcd_ℤ a b = pos (gcd_ℕ (nat_abs a) (nat_abs b))

unfoldable pub gcd_from : ℤ → ℕ → (ℕ → ℤ) → ℤ
gcd_from g zero f = g
gcd_from g (suc k) f = gcd_ℤ (gcd_from g k f) (f k)
