-- "One step takes the state and hands the next one back". A function `..By` goes by the answer of one test.
--
--     first_column s       "the nonzero column of smallest magnitude in that row (lowest index on a tie)"; if all of columns r..N are
--                          zero, column r
--     second_column s      "the first other nonzero column"; if there is none, the first column itself
--     quotient             "Divide the second's entry by the first's; the quotient is cut towards zero."
--     reduce_of            Reduce
--     close_of             Close
--     close_table, residual_of    the table of a closed row, and its residual      passed, placed    the state after it, without and with a pivot
--     place_of, point_of   a place of the point, and the point                 closed    with the last row closed, it is solved
--     step_of              "Reduce, if at least two of columns r..N are nonzero in the current row"; "Close, otherwise"
--     too_large            "That step counts; the table stays as before it."
--
-- r - 1 pivots stand in columns 0, .., count - 1, so that column r is column `count` here, also if it is not in use: its entry is
-- then 0, as in a row without pivot. 0 divides only 0, so that "a pivot that divides the residual" and "no pivot and residual 0"
-- are one test.
use Rattle.std.specs.Prelude.{List, Bool, true, false, not, cond, ◌&&◌, ℕ, zero, suc, ◌+◌, ◌-◌, eqb, ltb, set, ℤ, pos, nat_abs, ◌-ℤ◌}
use Rattle.std.specs.Int.Signed.{quot_z}
use Rattle.integers.specs.Range.{is_zero, is_negative, within}
use Rattle.integers.specs.Divisibility.{divides}
use Rattle.integers.specs.Sum.{dot}
use Rattle.integers.specs.Below.{all_below}
use Rattle.integers.specs.Run.{tabulate}
use Rattle.search.specs.Table.{bound, cell, subtract_column, subtraction_fits, swap_columns, negate_column}
use Rattle.search.specs.State.{State, TooLarge, Refuted, Solved, const_of, z_of}
use Rattle.search.specs.Vector.{Vector, in_range, vector_of}

-- The columns that a step takes ------------------------------------------------------------------------------------------

-- x is nonzero, and y is 0 or of greater magnitude
abbrev pub comes_before : ℤ → ℤ → Bool
comes_before x y = not (is_zero x) && cond (is_zero y) true (ltb (nat_abs x) (nat_abs y))

unfoldable pub better : (ℕ → ℤ) → ℕ → ℕ → ℕ
better v best j = cond (comes_before (v j) (v best)) j best

-- among the k columns from r on
unfoldable pub least : (ℕ → ℤ) → ℕ → ℕ → ℕ
least v r zero = r
least v r (suc k) = better v (least v r k) (r + k)

unfoldable pub otherwise : (ℕ → ℤ) → ℕ → ℕ → ℕ → ℕ
otherwise v first so_far j = cond (eqb so_far first && not (is_zero (v j))) j so_far

unfoldable pub other : (ℕ → ℤ) → ℕ → ℕ → ℕ → ℕ
other v first r zero = first
other v first r (suc k) = otherwise v first (other v first r k) (r + k)

abbrev pub first_column : State → ℕ
first_column s = least (cell s.cells s.row) s.count (s.given.width - s.count)

abbrev pub second_column : State → ℕ
second_column s = other (cell s.cells s.row) (first_column s) s.count (s.given.width - s.count)

-- Too large --------------------------------------------------------------------------------------------------------------

unfoldable pub too_large : State → State
too_large s = record {
  given = s.given;
  cells = s.cells;
  row = s.row;
  count = s.count;
  pivots = s.pivots;
  zs = s.zs;
  found = s.found;
  steps = s.steps + 1;
  outcome = TooLarge;
}

-- Reduce -----------------------------------------------------------------------------------------------------------------

abbrev pub quotient : ℤ → ℤ → ℤ
quotient second first = quot_z second first

unfoldable pub reduce_by : Bool → State → ℕ → ℕ → ℤ → State
reduce_by false s first second q = too_large s
reduce_by true s first second q = record {
  given = s.given;
  row = s.row;
  count = s.count;
  pivots = s.pivots;
  zs = s.zs;
  found = s.found;
  outcome = s.outcome;
  cells = subtract_column s.cells first second q;
  steps = s.steps + 1;
}

unfoldable pub reduce_of : State → ℕ → ℕ → State
reduce_of s first second =
    let q = quotient (cell s.cells s.row second) (cell s.cells s.row first) in
    reduce_by (subtraction_fits s.cells first second q) s first second q

-- Close ------------------------------------------------------------------------------------------------------------------

-- "If one column is nonzero, swap it with column r and negate it if the entry is negative"
unfoldable pub negate_by : Bool → List ℤ → ℕ → List ℤ
negate_by true t r = negate_column t r
negate_by false t r = t

unfoldable pub swap_by : Bool → List ℤ → ℕ → ℕ → ℕ → List ℤ
swap_by true t i j r = t
swap_by false t i j r = negate_by (is_negative (cell t i j)) (swap_columns t j r) r

abbrev pub close_table : List ℤ → ℕ → ℕ → ℕ → List ℤ
close_table t i j r = swap_by (is_zero (cell t i j)) t i j r

-- "The residual is d minus the sum of (entry × z) over earlier pivot columns."
unfoldable pub residual_of : State → List ℤ → ℤ
residual_of s t = const_of s.given s.row -ℤ dot s.count (cell t s.row) (z_of s)

-- "the point is the lower table times z, unused z being 0, first n places"
unfoldable pub place_of : State → ℕ → ℤ
place_of s k = dot s.count (cell s.cells (12 + k)) (z_of s)

unfoldable pub point_of : State → List ℤ
point_of s = tabulate 12 (λ k. cond (ltb k s.given.n) (place_of s k) (pos 0))

unfoldable pub solve_by : Bool → State → State → State
solve_by false s next = too_large s
solve_by true s next = record {
  given = next.given;
  cells = next.cells;
  row = next.row;
  count = next.count;
  pivots = next.pivots;
  zs = next.zs;
  steps = next.steps;
  outcome = Solved;
  found = point_of next;
}

-- `next` has closed a row of s: "If the last row closes without refutation", it is solved.
unfoldable pub last_by : Bool → State → State → State
last_by false s next = next
last_by true s next = solve_by (all_below next.given.n (λ k. within bound (place_of next k))) s next

unfoldable pub closed : State → State → State
closed s next = last_by (eqb next.row next.given.m) s next

-- "With no pivot and residual 0, go on."
unfoldable pub passed : State → List ℤ → State
passed s t = record {
  given = s.given;
  count = s.count;
  pivots = s.pivots;
  zs = s.zs;
  found = s.found;
  outcome = s.outcome;
  cells = t;
  row = s.row + 1;
  steps = s.steps + 1;
}

-- "With a pivot that divides the residual, the quotient is this pivot's z."
unfoldable pub placed : State → List ℤ → ℤ → State
placed s t z = record {
  given = s.given;
  found = s.found;
  outcome = s.outcome;
  cells = t;
  row = s.row + 1;
  count = s.count + 1;
  pivots = set s.pivots s.count s.row;
  zs = set s.zs s.count z;
  steps = s.steps + 1;
}

unfoldable pub place_by : Bool → State → List ℤ → ℤ → State
place_by false s t z = too_large s
place_by true s t z = closed s (placed s t z)

unfoldable pub go_on_by : Bool → State → List ℤ → ℤ → State
go_on_by true s t e = closed s (passed s t)
go_on_by false s t e = let z = quot_z (residual_of s t) e in place_by (within bound z) s t z

-- "Otherwise the problem is refuted here."
unfoldable pub refute_by : Bool → State → List ℤ → Vector → State
refute_by false s t v = too_large s
refute_by true s t v = record {
  given = s.given;
  row = s.row;
  count = s.count;
  pivots = s.pivots;
  zs = s.zs;
  cells = t;
  steps = s.steps + 1;
  outcome = Refuted v.q;
  found = v.p;
}

unfoldable pub close_by : Bool → State → List ℤ → ℤ → State
close_by true s t e = go_on_by (is_zero e) s t e
close_by false s t e = let v = vector_of s t e in refute_by (in_range v) s t v

unfoldable pub close_of : State → ℕ → State
close_of s j =
    let t = close_table s.cells s.row j s.count in
    let e = cell t s.row s.count in
    close_by (divides e (residual_of s t)) s t e

-- One step ---------------------------------------------------------------------------------------------------------------

unfoldable pub step_by : Bool → State → ℕ → ℕ → State
step_by false s first second = reduce_of s first second
step_by true s first second = close_of s first

unfoldable pub step_of : State → State
step_of s = step_by (eqb (second_column s) (first_column s)) s (first_column s) (second_column s)
