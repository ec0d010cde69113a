-- What the private functions ask for.
--
--     Sound s           what every step asks of its state, and can be tested on a state from anywhere: lengths, counters in range, cells and z
--                       within 2^28, constants in range, pivots above 0 in earlier rows
--     entered_row, entered_diagonal     the table after a row, and after the first j columns of the diagonal, are entered
--     Reducible, Closable, Vectorable, Solvable     what Reduce, Close, the vector and the point ask
--     Backable, Backs   what one earlier pivot column, and all of them, ask
use Rattle.std.specs.Prelude.{◌≡◌, List, ℕ, zero, suc, ◌+◌, ◌*◌, ◌/◌, ◌%◌, ◌<◌, ◌≤◌, get_or, set, length, ℤ, pos, nat_abs}
use Rattle.integers.specs.Range.{Positive}
use Rattle.problem.specs.Rows.{Rows}
use Rattle.problem.specs.WellFormed.{million}
use Rattle.search.specs.Table.{bound, cell, Bounded}
use Rattle.search.specs.State.{State, upper_cell, const_of, pivot_of}
use Rattle.search.specs.Vector.{Vector}
use Rattle.search.specs.Step.{close_table}

-- 12 × 2^56, which no sum of 12 products of numbers within 2^28 exceeds
abbrev pub largest_sum : ℕ
largest_sum = 864691128455135232

-- the largest number of 32 bits, which the count of steps never passes
abbrev pub last_count : ℕ
last_count = 4294967295

pub record Sound (s : State) : Type 0 where
  pub cells_long : length s.cells ≡ 864
  pub pivots_long : length s.pivots ≡ 12
  pub few_n : s.given.n ≤ 12
  pub few_m : s.given.m ≤ 12
  pub wide : s.given.width ≤ 24
  pub row_in : s.row < s.given.m
  pub count_in : s.count ≤ s.row
  pub bounded : Bounded s.cells
  pub zs_bounded : Bounded s.zs
  pub consts_in : (i : ℕ) → nat_abs (const_of s.given i) ≤ million
  pub pivot_row : (k : ℕ) → k < s.count → pivot_of s k < 12
  pub pivot : (k : ℕ) → k < s.count → Positive (cell s.cells (pivot_of s k) k)

-- The start ------------------------------------------------------------------------------------------------------------

-- f at the k places from `from` on
unfoldable pub filled_from : ℕ → ℕ → (ℕ → ℤ) → List ℤ → List ℤ
filled_from from zero f t = t
filled_from from (suc k) f t = set (filled_from from k f t) (from + k) (f (from + k))

-- a cell of the upper table, by its place
abbrev pub upper_place : ℕ → Rows → ℕ → ℤ
upper_place n R k = upper_cell n R (k / 24) (k % 24)

abbrev pub entered_row : ℕ → Rows → ℕ → List ℤ → List ℤ
entered_row n R i t = filled_from (i * 24) 24 (upper_place n R) t

unfoldable pub entered_diagonal : ℕ → List ℤ → List ℤ
entered_diagonal zero t = t
entered_diagonal (suc j) t = set (entered_diagonal j t) ((12 + j) * 24 + j) (pos 1)

-- Steps ----------------------------------------------------------------------------------------------------------------

pub record Reducible (s : State) (first second : ℕ) : Type 0 where
  pub bounded : Bounded s.cells
  pub row : s.row < 36
  pub first_in : first < 24
  pub second_in : second < 24
  pub some : 0 < nat_abs (cell s.cells s.row first)
  pub less : nat_abs (cell s.cells s.row first) ≤ nat_abs (cell s.cells s.row second)
  pub steps : s.steps < last_count

pub record Backable (cells : List ℤ) (m i k : ℕ) (v : Vector) : Type 0 where
  pub rows : m ≤ 12
  pub row : i < 12
  pub column : k < 24
  pub bounded : Bounded cells
  pub numerators : Bounded v.p
  pub denominator : nat_abs v.q ≤ bound
  pub pivot : Positive (cell cells i k)

pub record Backs (cells : List ℤ) (m : ℕ) (pivots : List ℕ) (count : ℕ) (v : Vector) : Type 0 where
  pub rows : m ≤ 12
  pub columns : count ≤ 12
  pub bounded : Bounded cells
  pub row : (k : ℕ) → k < count → get_or pivots k 0 < 12
  pub pivot : (k : ℕ) → k < count → Positive (cell cells (get_or pivots k 0) k)
  pub numerators : Bounded v.p
  pub denominator : nat_abs v.q ≤ bound

pub record Solvable (s : State) : Type 0 where
  pub n_in : s.given.n ≤ 12
  pub count_in : s.count ≤ 12
  pub bounded : Bounded s.cells
  pub zs_bounded : Bounded s.zs

pub record Vectorable (s : State) (t : List ℤ) : Type 0 where
  pub rows : s.given.m ≤ 12
  pub row_in : s.row < 12
  pub columns : s.count ≤ 12
  pub bounded : Bounded t
  pub consts : Bounded s.given.consts
  pub row : (k : ℕ) → k < s.count → pivot_of s k < 12
  pub pivot : (k : ℕ) → k < s.count → Positive (cell t (pivot_of s k) k)

pub record Closable (s : State) (j : ℕ) : Type 0 where
  pub rows : s.given.m ≤ 12
  pub row_in : s.row < 12
  pub count_in : s.count < 12
  pub column_in : j < 24
  pub column_low : s.count ≤ j
  pub alone : cell s.cells s.row j ≡ pos 0 → j ≡ s.count
  pub cells_long : length s.cells ≡ 864
  pub few_n : s.given.n ≤ 12
  pub bounded : Bounded s.cells
  pub zs_bounded : Bounded s.zs
  pub consts : Bounded s.given.consts
  pub steps : s.steps < last_count
  pub pivot_row : (k : ℕ) → k < s.count → pivot_of s k < 12
  pub closed_bounded : Bounded (close_table s.cells s.row j s.count)
  pub closed_pivot : (k : ℕ) → k < s.count → Positive (cell (close_table s.cells s.row j s.count) (pivot_of s k) k)
