-- Finite sums of integers.
--
--     sum n f      f 0 + .. + f (n - 1); 0 for n = 0
--     dot n c x    c 0 × x 0 + .. + c (n - 1) × x (n - 1)
--
-- A list is summed by its places: sum n (at xs), dot n (at xs) (at ys), with `at` of Run.
use Rattle.std.specs.Prelude.{ℕ, zero, suc, ℤ, pos, ◌+ℤ◌, ◌*ℤ◌}

unfoldable pub sum : ℕ → (ℕ → ℤ) → ℤ
sum zero f = pos 0
sum (suc n) f = sum n f +ℤ f n

abbrev pub dot : ℕ → (ℕ → ℤ) → (ℕ → ℤ) → ℤ
dot n c x = sum n (λ j. c j *ℤ x j)
