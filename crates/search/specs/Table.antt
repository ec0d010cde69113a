-- The table: "36 rows and 24 columns: 864 cells", row by row in one run. Rows and columns count from 0.
--
--     bound                2^28, the largest magnitude of a cell, of a z and of a place of the point
--     cell t i j           the cell in row i and column j
--     Bounded run          every number of a run is at most the bound in magnitude
--     subtract_column      "Subtract quotient × first column from the second, through the whole table."
--     subtraction_fits     whether no cell that it puts is too large
--     swap_columns, negate_column     "swap it with column r and negate it .., both through the whole table"
use Rattle.std.specs.Prelude.{List, Bool, ℕ, zero, suc, ◌+◌, ◌*◌, ◌≤◌, set, ℤ, neg_ℤ, nat_abs, ◌-ℤ◌, ◌*ℤ◌}
use Rattle.integers.specs.Range.{within}
use Rattle.integers.specs.Below.{all_below}
use Rattle.integers.specs.Run.{at}

abbrev pub bound : ℕ
bound = 268435456

abbrev pub cell : List ℤ → ℕ → ℕ → ℤ
cell t i j = at t (i * 24 + j)

pub record Bounded (run : List ℤ) : Type 0 where
  pub place : (k : ℕ) → nat_abs (at run k) ≤ bound

-- a change of one row, made in each of the first k rows in turn
unfoldable pub each_row : ℕ → (ℕ → List ℤ → List ℤ) → List ℤ → List ℤ
each_row zero change t = t
each_row (suc k) change t = change k (each_row k change t)

abbrev pub less_times : ℤ → ℤ → ℤ → ℤ
less_times y q x = y -ℤ q *ℤ x

abbrev pub subtract_row : ℕ → ℕ → ℤ → ℕ → List ℤ → List ℤ
subtract_row first second q i t = set t (i * 24 + second) (less_times (cell t i second) q (cell t i first))

abbrev pub swap_row : ℕ → ℕ → ℕ → List ℤ → List ℤ
swap_row j k i t = set (set t (i * 24 + j) (cell t i k)) (i * 24 + k) (cell t i j)

abbrev pub negate_row : ℕ → ℕ → List ℤ → List ℤ
negate_row j i t = set t (i * 24 + j) (neg_ℤ (cell t i j))

abbrev pub subtract_column : List ℤ → ℕ → ℕ → ℤ → List ℤ
subtract_column t first second q = each_row 36 (subtract_row first second q) t

abbrev pub swap_columns : List ℤ → ℕ → ℕ → List ℤ
swap_columns t j k = each_row 36 (swap_row j k) t

abbrev pub negate_column : List ℤ → ℕ → List ℤ
negate_column t j = each_row 36 (negate_row j) t

abbrev pub subtraction_fits : List ℤ → ℕ → ℕ → ℤ → Bool
subtraction_fits t first second q = all_below 36 (λ i. within bound (less_times (cell t i second) q (cell t i first)))
