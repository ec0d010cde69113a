-- Points. A point is an integer of any size for each variable.
--
--     MeetsRow n R i X    "Modulus 0 is an equation, c·X = d. A positive modulus is a congruence, c·X ≡ d (mod l)."
--     Meets n R X         "it meets a side if it meets each of its rows. Every point meets an empty side."
--
-- A congruence modulo 0 is an equation (congruent_zero of integers), so that one definition serves both kinds of row.
use Rattle.std.specs.Prelude.{ℕ, ◌<◌, ℤ}
use Rattle.integers.specs.Divisibility.{Congruent}
use Rattle.integers.specs.Sum.{dot}
use Rattle.problem.specs.Rows.{Rows}

abbrev pub MeetsRow : ℕ → Rows → ℕ → (ℕ → ℤ) → Type 0
MeetsRow n R i X = Congruent (R.modulus i) (dot n (R.coef i) X) (R.const i)

pub record Meets (n : ℕ) (R : Rows) (X : ℕ → ℤ) : Type 0 where
  pub row : (i : ℕ) → i < R.m → MeetsRow n R i X
