-- The state of a search, and the state that it starts from.
--
--     Given              what stays: n, m, the number N of columns in use (`width`), and the rows' constants
--     State              the table; the current row; the number of standing pivots and the row of each; their z; the steps done;
--                        the outcome; and what was found: the numerators when refuted, the point when solved
--     Outcome            "one of four outcomes": unfinished, too large, refuted with q, solved
--     width_of, own_column "Columns are the n variables, then one per congruence in row order; N of them are in use."
--     upper_cell, start_cell, start_table, given_of    the start's parts: a cell of the rows, any cell, the table, what stays
--     const_of, pivot_of, z_of    a row's constant, a pivot's row, a pivot's z
--     start n R          "all zero before the rows are entered"; then the rows and the diagonal
use Rattle.std.specs.Prelude.{List, cond, ◌&&◌, ℕ, zero, suc, ◌+◌, ◌/◌, ◌%◌, eqb, ltb, get_or, replicate, ℤ, pos}
use Rattle.integers.specs.Range.{is_zero}
use Rattle.integers.specs.Run.{at, tabulate}
use Rattle.problem.specs.Rows.{Rows}
pub use Rattle.search.specs.declared.Outcome.{Outcome}
pub use Rattle.search.specs.declared.Outcome.TheVariants.{Unfinished, TooLarge, Refuted, Solved}
pub use Rattle.search.specs.declared.Given.{Given}
pub use Rattle.search.specs.declared.State.{State}

-- the congruences among the first i rows
unfoldable pub congruences : (ℕ → ℤ) → ℕ → ℕ
congruences l zero = 0
congruences l (suc i) = congruences l i + cond (is_zero (l i)) 0 1

abbrev pub own_column : ℕ → Rows → ℕ → ℕ
own_column n R i = n + congruences R.modulus i

abbrev pub width_of : ℕ → Rows → ℕ
width_of n R = own_column n R R.m

-- "Table rows 1 to m take the coefficients, with l in a congruence's own column." An equation's l is 0.
unfoldable pub upper_cell : ℕ → Rows → ℕ → ℕ → ℤ
upper_cell n R i j = cond (ltb j n) (R.coef i j) (cond (eqb j (own_column n R i)) (R.modulus i) (pos 0))

-- "Table rows 13 to 36 start with 1 on the diagonal for the first N columns." All else is 0.
unfoldable pub start_cell : ℕ → Rows → ℕ → ℕ → ℤ
start_cell n R i j = cond (ltb i R.m) (upper_cell n R i j) (cond (eqb i (12 + j) && ltb j (width_of n R)) (pos 1) (pos 0))

unfoldable pub start_table : ℕ → Rows → List ℤ
start_table n R = tabulate 864 (λ k. start_cell n R (k / 24) (k % 24))

unfoldable pub given_of : ℕ → Rows → Given
given_of n R = record { n = n; m = R.m; width = width_of n R; consts = tabulate 12 (λ i. cond (ltb i R.m) (R.const i) (pos 0)) }

unfoldable pub start : ℕ → Rows → State
start n R = record {
  given = given_of n R;
  cells = start_table n R;
  row = 0;
  count = 0;
  pivots = replicate 12 0;
  zs = replicate 12 (pos 0);
  steps = 0;
  outcome = Unfinished;
  found = replicate 12 (pos 0);
}

-- the constant of a row, the row of a pivot, its z
abbrev pub const_of : Given → ℕ → ℤ
const_of g i = at g.consts i

abbrev pub pivot_of : State → ℕ → ℕ
pivot_of s k = get_or s.pivots k 0

abbrev pub z_of : State → ℕ → ℤ
z_of s k = at s.zs k
