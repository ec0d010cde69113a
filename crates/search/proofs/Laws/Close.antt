-- What Close computes, from the table before any column is swapped: only columns that are not earlier pivots' are touched.
--
--     entry_is            the entry of the closed row is the magnitude of the one that is not 0
--     residual_is         the residual is that of the table before: residual_before
--     closes              Close, by the answer of its first test
--     sum_small           the sum of entry × z is at most 12 × 2^56, and  residual_small  the residual below 2^62
--     vectorable          what the vector asks, of the closed table
--     passed_solvable, placed_solvable     what the point asks, of the next state
--     with_table          the state with another table: passed_with  placed_with
--     go_on_way, place_way     Close, of an entry that divides the residual, by the answers of its tests
--     unmoved             a row without pivot leaves the table
--     goes_on             a row that is not the last goes on        ends    the last row goes by its point
--     point_small         the test of the point's places, as the code takes it of the numbers in its run
--
-- Assumes nothing.
use mathlib.Core.Path.{◌≡◌, refl, sym, ap, subst⁻¹, ◌∙◌}
use mathlib.Core.Bool.{Bool, true, false, cond}
use mathlib.Core.List.{List}
use Prim.Native.Nat.{ℕ, ◌+◌, ◌*◌, ◌<◌, ◌≤◌, ◌^◌}
use native.Mathlib.Omega.{arith}
use borrow.Author.Tests.{ne_eqb, eq-eqb, lt-ltb}
use lib.Dec.{ltb}
use lib.ListN.{length, take}
use lib.IntN.{ℤ, pos, nat_abs, ◌-ℤ◌, ◌*ℤ◌}
use lib.Signed.{quot_z}
use Rattle.std.proofs.lemmas.List.{length-take-le, get_or-take}
use Rattle.integers.specs.Range.{is_zero, within}
use Rattle.integers.specs.Below.{all_below}
use Rattle.integers.specs.Run.{at, tabulate}
use Rattle.integers.proofs.Laws.Below.{all_same}
use Rattle.integers.proofs.Laws.Run.{tabulate-at, tabulate-length}
use Rattle.integers.specs.Divisibility.{divides}
use Rattle.integers.specs.Sum.{dot}
use Rattle.integers.proofs.Laws.Magnitude.{nat_abs_sub}
use Rattle.integers.proofs.Laws.Sum.{sum_ext}
use Rattle.search.specs.Table.{bound, cell}
use Rattle.search.specs.State.{State, const_of, z_of}
use Rattle.search.specs.Step.{swap_by, close_table, residual_of, place_of, point_of, solve_by, last_by, closed, passed, placed, place_by, go_on_by, close_by, close_of}
use Rattle.search.specs.Code.{Solvable, Vectorable, Closable}
use Rattle.search.proofs.Laws.Table.{bounded_set}
use Rattle.search.proofs.Laws.Sums.{dot_small}
use Rattle.search.proofs.Laws.Sound.{close_kept, close_entry}

module _ (s : State) (j : ℕ) (h : Closable s j) where
  abbrev t : List ℤ
  t = close_table s.cells s.row j s.count

  pub entry_is : cell t s.row s.count ≡ pos (nat_abs (cell s.cells s.row j))
  entry_is =
      let few = h.count_in in
      let row = h.row_in in
      close_entry s.cells s.row j s.count h.column_in (omega arith) (omega arith)
      (subst⁻¹ (λ (n : ℕ). s.row * 24 + s.count < n) h.cells_long (omega arith))
      h.alone

  earlier : (k : ℕ) → k < s.count → cell t s.row k ≡ cell s.cells s.row k
  earlier k l =
      let few = h.count_in in
      let row = h.row_in in
      let low = h.column_low in
      close_kept s.cells s.row j s.count h.column_in (omega arith) s.row k (omega arith) (omega arith) (λ e. omega arith) (λ e. omega arith)

  pub residual_is : residual_of s t ≡ const_of s.given s.row -ℤ dot s.count (cell s.cells s.row) (z_of s)
  unfolding residual_of
  residual_is =
      ap (λ (x : ℤ). const_of s.given s.row -ℤ x)
      (sum_ext s.count (λ k. cell t s.row k *ℤ z_of s k) (λ k. cell s.cells s.row k *ℤ z_of s k) (λ k l. ap (λ (x : ℤ). x *ℤ z_of s k) (earlier k l)))

  pub residual_before : residual_of s s.cells ≡ residual_of s t
  unfolding residual_of
  residual_before = sym residual_is

  -- the definition, by the test's answer
  pub closes : (b : Bool) → b ≡ divides (cell t s.row s.count) (residual_of s t) → close_by b s t (cell t s.row s.count) ≡ close_of s j
  unfolding close_of
  closes b e = ap (λ (x : Bool). close_by x s t (cell t s.row s.count)) e

  pub sum_small : nat_abs (dot s.count (cell s.cells s.row) (z_of s)) ≤ 864691128455135232
  sum_small = let few = h.count_in in dot_small (cell s.cells s.row) (z_of s) (λ k. h.bounded.place (s.row * 24 + k)) h.zs_bounded.place s.count (omega arith)

  pub residual_small : nat_abs (residual_of s t) < 2 ^ 62
  residual_small =
      let d = const_of s.given s.row in
      let x = dot s.count (cell s.cells s.row) (z_of s) in
      subst⁻¹ (λ (r : ℤ). nat_abs r < 2 ^ 62) residual_is (omega (arith, nat_abs_sub d x, sum_small, h.consts.place s.row))

  pub vectorable : Vectorable s t
  vectorable = let few = h.count_in in record { rows = h.rows; row_in = h.row_in; columns = omega arith; bounded = h.closed_bounded; consts = h.consts; row = h.pivot_row; pivot = h.closed_pivot }

  pub passed_solvable : Solvable (passed s t)
  unfolding passed
  passed_solvable = let few = h.count_in in record { n_in = h.few_n; count_in = omega arith; bounded = h.closed_bounded; zs_bounded = h.zs_bounded }

  pub placed_solvable : (z : ℤ) → nat_abs z ≤ bound → Solvable (placed s t z)
  unfolding placed
  placed_solvable z l = let few = h.count_in in record { n_in = h.few_n; count_in = omega arith; bounded = h.closed_bounded; zs_bounded = bounded_set s.zs s.count z l h.zs_bounded }

  pub unmoved : is_zero (cell s.cells s.row j) ≡ true → t ≡ s.cells
  unfolding swap_by
  unmoved e = ap (λ (b : Bool). swap_by b s.cells s.row j s.count) e

-- the state with another table
abbrev pub with_table : State → List ℤ → State
with_table s t = record { given = s.given; cells = t; row = s.row; count = s.count; pivots = s.pivots; zs = s.zs; steps = s.steps; outcome = s.outcome; found = s.found }

module _ (s : State) (t : List ℤ) where
  pub passed_with : passed (with_table s t) t ≡ passed s t
  unfolding passed
  passed_with = refl

  pub placed_with : (z : ℤ) → placed (with_table s t) t z ≡ placed s t z
  unfolding placed
  placed_with z = refl

  -- the definition, by the tests' answers
  module _ (e : ℤ) where
    pub go_on_way : (b : Bool) → is_zero e ≡ b → go_on_by b s t e ≡ close_by true s t e
    unfolding close_by
    go_on_way b h = ap (λ (x : Bool). go_on_by x s t e) (sym h)

    pub place_way : is_zero e ≡ false → (b : Bool) → b ≡ within bound (quot_z (residual_of s t) e) → place_by b s t (quot_z (residual_of s t) e) ≡ close_by true s t e
    unfolding go_on_by
    place_way some b h = ap (λ (x : Bool). place_by x s t (quot_z (residual_of s t) e)) h ∙ go_on_way false some

pub goes_on : (s next : State) → (next.row ≡ next.given.m → ⊥) → closed s next ≡ next
unfolding closed last_by
goes_on s next h = ap (λ (b : Bool). last_by b s next) (ne_eqb next.row next.given.m h)

pub ends : (s next : State) → next.row ≡ next.given.m → (b : Bool) → b ≡ all_below next.given.n (λ k. within bound (place_of next k)) → solve_by b s next ≡ closed s next
unfolding closed last_by
ends s next h b e = ap (λ (x : Bool). solve_by x s next) e ∙ sym (ap (λ (x : Bool). last_by x s next) (eq-eqb next.row next.given.m h))

pub point_small : (s : State) → s.given.n ≤ 12 → all_below (length (take s.given.n (point_of s))) (λ i. within bound (at (take s.given.n (point_of s)) i)) ≡ all_below s.given.n (λ k. within bound (place_of s k))
unfolding point_of
point_small s few =
    let n = s.given.n in
    let value : ℕ → ℤ = λ k. cond (ltb k n) (place_of s k) (pos 0) in
    let long = length-take-le n (tabulate 12 value) (let l = tabulate-length 12 value in omega arith) in
    ap (λ (m : ℕ). all_below m (λ i. within bound (at (take n (tabulate 12 value)) i))) long
    ∙ all_same n (λ i. within bound (at (take n (tabulate 12 value)) i)) (λ k. within bound (place_of s k)) (λ k l.
    ap (within bound) (get_or-take n (tabulate 12 value) k (pos 0) l ∙ tabulate-at 12 value k (omega arith) ∙ ap (λ (t : Bool). cond t (place_of s k) (pos 0)) (lt-ltb k n l)))
