-- Which variables occur where.
--
--     counts l c             whether coefficient c makes its variable occur in a row with modulus l: whether l does not divide c; in an
--                            equation, l = 0, whether c is not 0; modulo 1 never
--     occurs R j             whether variable j occurs in some row of a side
--     shared in_a in_b j     "It is shared if it occurs in both,
--     local_a in_a in_b j    A-local if only in A."; in_a and in_b say which variables occur in A and in B, as `occurs A` and `occurs B` do
--
-- The rule for a row is the article's, section 2, the paragraphs on equations (LDE) and on congruences (LME): "A variable xi is said to
-- occur in the LDE if ci ≠ 0", "A variable xi is said to occur in a LME if l does not divide ci".
--
-- What the checker's theorems use of `occurs` is one law, `absent` of proofs/Laws/Occurrence.antt.
use Rattle.std.specs.Prelude.{Bool, not, ◌&&◌, ℕ, ℤ}
use Rattle.integers.specs.Divisibility.{divides}
use Rattle.integers.specs.Below.{any_below}
use Rattle.problem.specs.Rows.{Rows}

abbrev pub counts : ℤ → ℤ → Bool
counts l c = not (divides l c)

unfoldable pub occurs : Rows → ℕ → Bool
occurs R j = any_below R.m (λ i. counts (R.modulus i) (R.coef i j))

abbrev pub shared : (ℕ → Bool) → (ℕ → Bool) → ℕ → Bool
shared in_a in_b j = in_a j && in_b j

abbrev pub local_a : (ℕ → Bool) → (ℕ → Bool) → ℕ → Bool
local_a in_a in_b j = in_a j && not (in_b j)
