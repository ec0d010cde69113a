-- Close leaves a right state: unfinished and kept, or too large, or refuted with a vector that refutes, or solved with a point that
-- solves.
--
--     Closing C s t    of the table t of a row that closes: faithful, and 0 in the row after column `count`
--     closing          the table that Close makes is such a table
--     close_right      of a sound state that is kept, where no second column is nonzero
--
-- Assumes nothing.
use mathlib.Core.Path.{◌≡◌, refl, sym, ap, subst, subst⁻¹, ◌∙◌}
use mathlib.Core.List.{List, [], ◌∷◌}
use mathlib.Core.Bool.{Bool, true, false, cond}
use Prim.Native.Nat.{ℕ, ◌+◌, ◌*◌, ◌≤◌, ◌<◌}
use native.Mathlib.Omega.{arith}
use native.Mathlib.Decide.{ℕ_discrete, dec_lt}
use borrow.Author.Tests.{eqb-true, lt-ltb}
use lib.Dec.{eqb, ltb}
use lib.ListN.{get_or, set, length-set}
use lib.Seq.{get_or-set_same, get_or-set_other}
use lib.IntN.{ℤ, pos, negsuc, ◌+ℤ◌, ◌*ℤ◌, +ℤ_idl}
use lib.Signed.{quot_z}
use Rattle.integers.specs.Range.{is_zero, is_negative, within}
use Rattle.integers.specs.Divisibility.{◌∣ℤ◌, divides}
use Rattle.integers.specs.Sum.{dot}
use Rattle.integers.specs.Below.{all_below}
use Rattle.integers.specs.Run.{at}
use Rattle.integers.proofs.Laws.Ring.{from2}
use Rattle.integers.proofs.Laws.Normaliser.{ring!, quote}
use Rattle.integers.proofs.Laws.Divisibility.{∣_exact, zero-∣, divides_true, divides_false}
use Rattle.integers.proofs.Laws.Decide.{by_zero}
use Rattle.integers.proofs.Laws.Run.{tabulate-at}
use Rattle.search.specs.Table.{bound, cell, Bounded, swap_columns, negate_column}
use Rattle.search.specs.State.{State, Outcome, Unfinished, const_of, z_of}
use Rattle.search.specs.Vector.{in_range, vector_of}
use Rattle.search.specs.Step.{first_column, second_column, too_large, negate_by, swap_by, close_table, residual_of, place_of, point_of, solve_by, last_by, closed, passed, placed, place_by, go_on_by, refute_by, close_by, close_of}
use Rattle.search.specs.Code.{Sound}
use Rattle.search.proofs.Laws.Table.{swap_length, swap_first, swap_other, negate_other}
use Rattle.search.proofs.Laws.Sound.{close_bounded, first_is, second_is, first_in, count_low, row_low, entry_positive}
use Rattle.search.proofs.Laws.Columns.{Table, swap_operation, negate_operation}
use Rattle.search.proofs.Laws.Fuel.{Fuel, fuel_close}
use Rattle.search.proofs.Laws.Faithful.{FaithfulAt, faithful_operation, faithful_inside, faithful_passed, faithful_placed, faithful_point}
use Rattle.search.proofs.Laws.Refuting.{constant_is, vector_refutes}
use Rattle.search.proofs.Laws.Kept.{Kept, Right}

-- The closed table -----------------------------------------------------------------------------------------------------

pub record Closing (C : Table) (s : State) (t : List ℤ) : Type 0 where
  pub faithful : FaithfulAt C s t
  pub zeros : (j : ℕ) → s.count < j → j < s.given.width → cell t s.row j ≡ pos 0

module _ (C : Table) (s : State) (h : Sound s) (k : Kept C s) (alone : second_column s ≡ first_column s) where
  abbrev N : ℕ
  N = s.given.width

  abbrev entry : ℕ → ℤ
  entry = cell s.cells s.row

  abbrev first : ℕ
  first = first_column s

  only : (j : ℕ) → s.count ≤ j → j < N → (j ≡ first → ⊥) → entry j ≡ pos 0
  only j l r = (second_is s h).none alone j l (omega arith)

  -- a column that is not 0 stands among those in use
  inside : is_zero (entry first) ≡ false → s.count < N
  inside some = elim (dec_lt s.count N) [
    | yes l ↦ l
    | no l ↦
        let low = (first_is s h).low in
        let high = (first_is s h).high in
        let e : first ≡ s.count = omega arith in
        faithful_inside k.faithful h.row_in (ap (λ (j : ℕ). is_zero (entry j)) (sym e) ∙ some)
  ]

  none : is_zero (entry first) ≡ true → Closing C s s.cells
  none z = record {
    faithful = k.faithful;
    zeros = λ j l r. elim (ℕ_discrete j first) [ yes e ↦ ap entry e ∙ (by_zero (entry first)).yes z | no d ↦ only j (omega arith) r d ];
  }

  module _ (r_in : s.count < N) where
    abbrev exchanged : List ℤ
    exchanged = swap_columns s.cells first s.count

    first_high : first < N
    first_high = let l = (first_is s h).in_range (omega arith) in omega arith

    swapped : Closing C s exchanged
    swapped =
        let low = (first_is s h).low in
        let high = first_high in
        let wide = h.wide in
        let long = h.cells_long in
        let row = row_low s h in
        record {
          faithful = faithful_operation k.faithful (cell exchanged) (swap_operation s.cells long s.count N wide first s.count low high (omega arith) r_in);
          zeros = λ j l r. elim (ℕ_discrete j first) [
            | yes e ↦ ap (cell exchanged s.row) e ∙ swap_first first s.count (omega arith) (omega arith) s.cells s.row (omega arith) (omega arith) ∙ only s.count (omega arith) r_in (omega arith)
            | no d ↦ swap_other first s.count (omega arith) (omega arith) s.cells s.row j (omega arith) (omega arith) d (omega arith) ∙ only j (omega arith) r d
          ];
        }

    negated : Closing C s (negate_column exchanged s.count)
    negated =
        let wide = h.wide in
        let row = row_low s h in
        let high = first_high in
        record {
          faithful = faithful_operation swapped.faithful (cell (negate_column exchanged s.count))
              (negate_operation exchanged (swap_length first s.count (omega arith) (omega arith) s.cells ∙ h.cells_long) s.count N wide s.count (omega arith) r_in);
          zeros = λ j l r. negate_other s.count (omega arith) exchanged s.row j (omega arith) (omega arith) (omega arith) ∙ swapped.zeros j l r;
        }

  pub closing : Closing C s (close_table s.cells s.row first s.count)
  unfolding swap_by negate_by
  closing = go (is_zero (entry first)) refl
    where
      turn : s.count < N → (b : Bool) → Closing C s (negate_by b (swap_columns s.cells first s.count) s.count)
      turn l true = negated l
      turn l false = swapped l

      go : (b : Bool) → is_zero (entry first) ≡ b → Closing C s (swap_by b s.cells s.row first s.count)
      go true z = none z
      go false z = turn (inside z) (is_negative (entry first))

-- The closed row ------------------------------------------------------------------------------------------------------

-- a row of s is closed, by `next`: on to the next row, or solved
closed_right : (C : Table) (s next : State) → next.given.n ≤ 12 → next.outcome ≡ Unfinished → Kept C next → Right C (closed s next).outcome (closed s next)
unfolding closed last_by solve_by too_large
closed_right C s next few goes k = last (eqb next.row next.given.m) refl
  where
    place : (i : ℕ) → i < next.given.n → i < 12 → at (point_of next) i ≡ dot next.count (cell next.cells (12 + i)) (z_of next)
    place i l h = unfold point_of place_of in
        tabulate-at 12 (λ i. cond (ltb i next.given.n) (place_of next i) (pos 0)) i h
        ∙ ap (λ (b : Bool). cond b (place_of next i) (pos 0)) (lt-ltb i next.given.n l)

    solve : (b : Bool) → next.row ≡ next.given.m → Right C (solve_by b s next).outcome (solve_by b s next)
    solve false e = tt
    solve true e = record {
      places = λ i. dot next.count (cell next.cells (12 + i)) (z_of next);
      same = λ i l. place i l (omega arith);
      rows = faithful_point k.faithful e;
    }

    last : (b : Bool) → eqb next.row next.given.m ≡ b → Right C (last_by b s next).outcome (last_by b s next)
    last true e = solve (all_below next.given.n (λ i. within bound (place_of next i))) (eqb-true next.row next.given.m e)
    last false e = subst⁻¹ (λ (o : Outcome). Right C o next) goes k

module _ (C : Table) (s : State) (h : Sound s) (k : Kept C s) (goes : s.outcome ≡ Unfinished) (alone : second_column s ≡ first_column s) where
  abbrev t : List ℤ
  t = close_table s.cells s.row (first_column s) s.count

  abbrev e : ℤ
  e = cell t s.row s.count

  abbrev earlier : ℤ
  earlier = dot s.count (cell t s.row) (z_of s)

  table : Closing C s t
  table = closing C s h k alone

  bounded : Bounded t
  bounded = let l = count_low s h in close_bounded s.cells s.row (first_column s) s.count (first_in s h) (omega arith) h.bounded

  fuel : Fuel (cell t (s.row + 1)) (s.row + 1) (s.steps + 1)
  fuel = fuel_close (cell s.cells s.row) (cell t (s.row + 1)) s.row s.steps k.fuel (λ j. bounded.place ((s.row + 1) * 24 + j))

  passed_kept : e ≡ pos 0 → residual_of s t ≡ pos 0 → Kept C (passed s t)
  unfolding passed
  passed_kept none met = record {
    zs_long = k.zs_long;
    faithful = faithful_passed table.faithful h.row_in
        (λ j l r. elim (ℕ_discrete j s.count) [ yes q ↦ ap (cell t s.row) q ∙ none | no q ↦ table.zeros j (omega arith) r ])
        (sym (constant_is s t ∙ ap (λ x. x +ℤ earlier) met ∙ +ℤ_idl earlier));
    fuel = fuel;
  }

  placed_kept : is_zero e ≡ false → (z : ℤ) → z *ℤ e ≡ residual_of s t → Kept C (placed s t z)
  unfolding placed
  placed_kept some z exact =
      let c = count_low s h in
      let pl = h.pivots_long in
      let zl = k.zs_long in
      let new : get_or (set s.zs s.count z) s.count (pos 0) ≡ z = get_or-set_same s.zs s.count z (pos 0) (omega arith) in
      record {
        zs_long = length-set s.zs s.count z ∙ zl;
        faithful = faithful_placed table.faithful h.row_in (λ i. get_or (set s.pivots s.count s.row) i 0) (λ i. get_or (set s.zs s.count z) i (pos 0))
            (faithful_inside table.faithful h.row_in some) (entry_positive s h some) table.zeros
            (λ i l. get_or-set_other s.pivots s.count i s.row 0 (omega arith))
            (get_or-set_same s.pivots s.count s.row 0 (omega arith))
            (λ i l. get_or-set_other s.zs s.count i z (pos 0) (omega arith))
            (ap (λ x. earlier +ℤ e *ℤ x) new
            ∙ from2 (pos 1) (negsuc 0) exact (constant_is s t) (ring! (earlier ∷ e ∷ z ∷ residual_of s t ∷ const_of s.given s.row ∷ []) (search quote depth 40 fits 20000) tt));
        fuel = fuel;
      }

  -- the entry divides the residual
  go_on_right : e ∣ℤ residual_of s t → (b : Bool) → is_zero e ≡ b → Right C (go_on_by b s t e).outcome (go_on_by b s t e)
  unfolding go_on_by place_by too_large
  go_on_right d true z =
      let none = (by_zero e).yes z in
      closed_right C s (passed s t) (unfold passed in h.few_n) (unfold passed in goes) (passed_kept none (zero-∣ (subst (λ x. x ∣ℤ residual_of s t) none d)))
  go_on_right d false some = place (within bound z)
    where
      z : ℤ
      z = quot_z (residual_of s t) e

      place : (b : Bool) → Right C (place_by b s t z).outcome (place_by b s t z)
      place false = tt
      place true = closed_right C s (placed s t z) (unfold placed in h.few_n) (unfold placed in goes) (placed_kept some z (∣_exact (residual_of s t) e d))

  -- it does not
  refute_right : (e ∣ℤ residual_of s t → ⊥) → Right C (refute_by (in_range (vector_of s t e)) s t (vector_of s t e)).outcome (refute_by (in_range (vector_of s t e)) s t (vector_of s t e))
  unfolding refute_by too_large
  refute_right fails = go (in_range (vector_of s t e)) refl
    where
      go : (b : Bool) → in_range (vector_of s t e) ≡ b → Right C (refute_by b s t (vector_of s t e)).outcome (refute_by b s t (vector_of s t e))
      go false ok = tt
      go true ok = vector_refutes C s t table.faithful h.row_in table.zeros (entry_positive s h) fails ok

  pub close_right : Right C (close_of s (first_column s)).outcome (close_of s (first_column s))
  unfolding close_of close_by
  close_right = way (divides e (residual_of s t)) refl
    where
      way : (b : Bool) → divides e (residual_of s t) ≡ b → Right C (close_by b s t e).outcome (close_by b s t e)
      way true d = go_on_right (divides_true e (residual_of s t) d) (is_zero e) refl
      way false d = refute_right (divides_false e (residual_of s t) d)
