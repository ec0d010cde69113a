-- What holds of every state that a search reaches, and that Reduce keeps it. C is the upper table at the start.
--
--     Kept C s              of an unfinished state: its table, pivots and z are faithful, and there is fuel
--     SolvesTable C g x     of a point x: with further places for the congruences' own columns it solves all rows as equations
--     Right C o s           of a state s with outcome o: Kept, RefutesTable or SolvesTable; nothing for too large
--     reduce_right          Reduce leaves a right state
--
-- Assumes nothing.
use mathlib.Core.Path.{◌≡◌, sym, subst⁻¹}
use mathlib.Core.Bool.{Bool, true, false}
use Prim.Native.Nat.{ℕ, ◌*◌, ◌<◌}
use native.Mathlib.Omega.{arith}
use lib.ListN.{length}
use lib.IntN.{ℤ, nat_abs}
use Rattle.integers.specs.Sum.{dot}
use Rattle.integers.specs.Run.{at}
use Rattle.search.specs.Table.{cell, subtraction_fits, subtract_column}
use Rattle.search.specs.State.{Given, State, Outcome, Unfinished, TooLarge, Refuted, Solved, const_of}
use Rattle.search.specs.Step.{first_column, second_column, too_large, quotient, reduce_by, reduce_of}
use Rattle.search.specs.Code.{Sound}
use Rattle.search.proofs.Laws.Table.{subtract_cell, subtract_other}
use Rattle.search.proofs.Laws.Sound.{first_is, second_is, row_low}
use Rattle.search.proofs.Laws.Columns.{Table, subtract_operation}
use Rattle.search.proofs.Laws.Fuel.{Fuel, quotient_halves, fuel_reduce}
use Rattle.search.proofs.Laws.Faithful.{FaithfulAt, faithful_operation}
use Rattle.search.proofs.Laws.Refuting.{RefutesTable}

pub record Kept (C : Table) (s : State) : Type 0 where
  pub zs_long : length s.zs ≡ 12
  pub faithful : FaithfulAt C s s.cells
  pub fuel : Fuel (cell s.cells s.row) s.row s.steps

pub record SolvesTable (C : Table) (g : Given) (x : ℕ → ℤ) : Type 0 where
  pub places : ℕ → ℤ
  pub same : (k : ℕ) → k < g.n → x k ≡ places k
  pub rows : (i : ℕ) → i < g.m → dot g.width (C i) places ≡ const_of g i

abbrev pub Right : Table → Outcome → State → Type 0
Right C Unfinished s = Kept C s
Right C TooLarge s = Unit {0}
Right C (Refuted q) s = RefutesTable C s.given (at s.found) q
Right C Solved s = SolvesTable C s.given (at s.found)

module _ (C : Table) (s : State) (h : Sound s) (k : Kept C s) (goes : s.outcome ≡ Unfinished) (apart : second_column s ≡ first_column s → ⊥) where
  abbrev N : ℕ
  N = s.given.width

  abbrev entry : ℕ → ℤ
  entry = cell s.cells s.row

  abbrev first : ℕ
  first = first_column s

  abbrev second : ℕ
  second = second_column s

  abbrev q : ℤ
  q = quotient (entry second) (entry first)

  reduced : Kept C (reduce_by true s first second q)
  unfolding reduce_by
  reduced =
      let f = first_is s h in
      let g = (second_is s h).found apart in
      let least = f.least second g.0 g.1 g.2 in
      let low = f.low in
      let inside = f.in_range (omega (arith, g.0, g.1)) in
      let wide = h.wide in
      let row = row_low s h in
      let long = h.cells_long in
      let second-low = g.0 in
      let second-high : second < N = omega (arith, g.0, g.1) in
      record {
        zs_long = k.zs_long;
        faithful = faithful_operation k.faithful (cell (subtract_column s.cells first second q))
            (subtract_operation s.cells long s.count N wide first second q low (omega arith) second-low second-high (λ e. apart (sym e)));
        fuel = fuel_reduce entry (cell (subtract_column s.cells first second q) s.row) s.row s.steps second k.fuel (omega arith)
            (subst⁻¹ (λ x. 2 * nat_abs x < nat_abs (entry second)) (subtract_cell first second q (omega arith) s.cells s.row (omega arith) (omega arith)) (quotient_halves (entry second) (entry first) least.0 least.1))
            (λ j l d. subtract_other first second q (omega arith) s.cells s.row j (omega arith) l d);
      }

  pub reduce_right : Right C (reduce_of s first second).outcome (reduce_of s first second)
  unfolding reduce_of reduce_by too_large
  reduce_right = go (subtraction_fits s.cells first second q)
    where
      go : (b : Bool) → Right C (reduce_by b s first second q).outcome (reduce_by b s first second q)
      go true = subst⁻¹ (λ (o : Outcome). Right C o (reduce_by true s first second q)) goes reduced
      go false = tt
