-- The laws of occurrence.
--
--     by_counts          true exactly where the modulus does not divide the coefficient
--     counts_equation    in an equation: where the coefficient is not 0
--     counts_unit        modulo 1: nowhere
--     Absent in_r R      what a test of occurrence has to say: where variable j does not occur, each row's modulus divides its coefficient
--     absent             `occurs R` does; the checker's theorems use nothing else of it
--
-- Assumes nothing.
use mathlib.Core.Path.{◌≡◌, refl, ap}
use mathlib.Core.Bool.{Bool, true, false, not}
use Prim.Native.Nat.{ℕ, ◌<◌}
use lib.IntN.{ℤ, pos}
use Rattle.integers.specs.Range.{is_zero}
use Rattle.integers.specs.Divisibility.{◌∣ℤ◌, divides}
use Rattle.integers.proofs.Laws.Divisibility.{zero-∣, ∣_of_zero, unit-∣}
use Rattle.integers.proofs.Laws.Below.{any_each}
use Rattle.integers.proofs.Laws.Decide.{Decides, decides_no, decides_false, decides_stable, by_zero, by_divides, by_not}
use Rattle.problem.specs.Rows.{Rows}
use Rattle.problem.specs.Occurrence.{counts, occurs}

-- A row ----------------------------------------------------------------------------------------------------------------

pub by_counts : (l c : ℤ) → Decides (counts l c) (l ∣ℤ c → ⊥)
by_counts l c = by_not (by_divides l c)

pub counts_equation : (c : ℤ) → counts (pos 0) c ≡ not (is_zero c)
counts_equation c = ap not (go (is_zero c) refl)
  where
    go : (t : Bool) → is_zero c ≡ t → divides (pos 0) c ≡ t
    go true e = (by_divides (pos 0) c).is (∣_of_zero (pos 0) ((by_zero c).yes e))
    go false e = decides_false (by_divides (pos 0) c) (λ h. decides_no (by_zero c) e (zero-∣ h))

pub counts_unit : (c : ℤ) → counts (pos 1) c ≡ false
counts_unit c = decides_false (by_counts (pos 1) c) (λ h. h (unit-∣ (pos 1) c refl))

absent_row : (l c : ℤ) → counts l c ≡ false → l ∣ℤ c
absent_row l c e = decides_stable (by_divides l c) (decides_no (by_counts l c) e)

-- A side ---------------------------------------------------------------------------------------------------------------

abbrev pub Absent : (ℕ → Bool) → Rows → Type 0
Absent in_r R = (j : ℕ) → in_r j ≡ false → (i : ℕ) → i < R.m → R.modulus i ∣ℤ R.coef i j

pub absent : (R : Rows) → Absent (occurs R) R
unfolding occurs
absent R j e i h = absent_row (R.modulus i) (R.coef i j) (any_each R.m (λ i. counts (R.modulus i) (R.coef i j)) e i h)
