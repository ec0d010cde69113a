-- What a step asks of its state, it leaves to the next.
--
--     Close      close_bounded  close_length  close_kept     the closed table: bounded and as long again, its other columns kept
--                close_pivot       a column that is not 0 in the row becomes the pivot, above 0
--     Columns    first_is  second_is  first_in               what the two columns are that a step takes
--                count_low  row_low                          the number of pivots and the row stay below 12
--                entry_positive    the entry of a closed row is above 0, where it is not 0
--     Step       step_onward       a step counts as one and keeps what is given
--                step_reducible    what Reduce asks, where there is a second column
--                step_closable     what Close asks
--                step_sound        a step that leaves the search unfinished leaves a sound state
--
-- Assumes nothing.
use mathlib.Core.Path.{◌≡◌, refl, sym, ◌∙◌, ap, subst⁻¹}
use mathlib.Core.Bool.{Bool, true, false, false≢true}
use mathlib.Core.List.{List}
use Prim.Native.Nat.{ℕ, ◌+◌, ◌*◌, ◌-◌, ◌<◌, ◌≤◌}
use native.Mathlib.Omega.{arith}
use native.Mathlib.Decide.{ℕ_discrete, dec_lt}
use borrow.Author.Tests.{eqb-true, eqb-false}
use lib.Dec.{eqb}
use lib.ListN.{get_or, set, length, length-set}
use lib.Seq.{get_or-set_same, get_or-set_other}
use lib.IntN.{ℤ, pos, neg_ℤ, nat_abs}
use lib.Signed.{quot_z}
use Rattle.integers.specs.Range.{Positive, is_zero, is_negative, within}
use Rattle.integers.specs.Divisibility.{divides}
use Rattle.integers.specs.Below.{all_below}
use Rattle.integers.proofs.Laws.Magnitude.{nat_abs_zero}
use Rattle.integers.proofs.Laws.Order.{negative_abs, nonnegative_abs, positive_of}
use Rattle.integers.proofs.Laws.Decide.{by_within}
use Rattle.search.specs.Table.{bound, cell, Bounded, subtraction_fits, swap_columns}
use Rattle.search.specs.State.{State, pivot_of}
use Rattle.search.specs.Vector.{Vector, in_range, vector_of}
use Rattle.search.specs.Step.{first_column, second_column, too_large, quotient, reduce_by, reduce_of, negate_by, swap_by, close_table, residual_of, place_of, solve_by, last_by, closed, passed, placed, place_by, go_on_by, refute_by, close_by, close_of, step_by, step_of}
use Rattle.search.specs.Run.{is_unfinished}
use Rattle.search.specs.Code.{last_count, Sound, Reducible, Closable}
use Rattle.search.proofs.Laws.Table.{subtract_length, subtract_other, subtract_bounded, swap_length, swap_second, swap_other, swap_bounded, negate_length, negate_cell, negate_other, negate_bounded, bounded_set}
use Rattle.search.proofs.Laws.Scan.{Least, least_is, least_zero, Other, other_is}

-- Onward ---------------------------------------------------------------------------------------------------------------

pub record Onward (s next : State) : Type 0 where
  pub counts : next.steps ≡ s.steps + 1
  pub given : next.given ≡ s.given

large_onward : (s : State) → Onward s (too_large s)
unfolding too_large
large_onward s = record { counts = refl; given = refl }

closed_onward : (s next : State) → Onward s next → Onward s (closed s next)
unfolding closed last_by solve_by
closed_onward s next o = last (eqb next.row next.given.m)
  where
    solve : (t : Bool) → Onward s (solve_by t s next)
    solve true = record { counts = o.counts; given = o.given }
    solve false = large_onward s

    last : (t : Bool) → Onward s (last_by t s next)
    last true = solve (all_below next.given.n (λ k. within bound (place_of next k)))
    last false = o

close_onward : (s : State) (j : ℕ) → Onward s (close_of s j)
unfolding close_of close_by go_on_by place_by refute_by passed placed
close_onward s j = way (divides e (residual_of s t))
  where
    t : List ℤ
    t = close_table s.cells s.row j s.count

    e : ℤ
    e = cell t s.row s.count

    z : ℤ
    z = quot_z (residual_of s t) e

    refute : (b : Bool) (v : Vector) → Onward s (refute_by b s t v)
    refute true v = record { counts = refl; given = refl }
    refute false v = large_onward s

    place : (b : Bool) → Onward s (place_by b s t z)
    place true = closed_onward s (placed s t z) (record { counts = refl; given = refl })
    place false = large_onward s

    go_on : (b : Bool) → Onward s (go_on_by b s t e)
    go_on true = closed_onward s (passed s t) (record { counts = refl; given = refl })
    go_on false = place (within bound z)

    way : (b : Bool) → Onward s (close_by b s t e)
    way true = go_on (is_zero e)
    way false = refute (in_range (vector_of s t e)) (vector_of s t e)

pub step_onward : (s : State) → Onward s (step_of s)
unfolding step_of step_by reduce_of reduce_by
step_onward s = way (eqb (second_column s) (first_column s))
  where
    reduce : (b : Bool) (first second : ℕ) (q : ℤ) → Onward s (reduce_by b s first second q)
    reduce true first second q = record { counts = refl; given = refl }
    reduce false first second q = large_onward s

    way : (b : Bool) → Onward s (step_by b s (first_column s) (second_column s))
    way true = close_onward s (first_column s)
    way false =
        let q = quotient (cell s.cells s.row (second_column s)) (cell s.cells s.row (first_column s)) in
        reduce (subtraction_fits s.cells (first_column s) (second_column s) q) (first_column s) (second_column s) q

-- The closed table -----------------------------------------------------------------------------------------------------

module _ (t : List ℤ) (i j r : ℕ) (j-in : j < 24) (r_in : r < 24) where
  swapped : List ℤ
  swapped = swap_columns t j r

  pub close_bounded : Bounded t → Bounded (close_table t i j r)
  unfolding swap_by negate_by
  close_bounded h = go (is_zero (cell t i j)) (is_negative (cell t i j))
    where
      b : Bounded (swap_columns t j r)
      b = swap_bounded j r t h

      go : (z n : Bool) → Bounded (swap_by z t i j r)
      go true n = h
      go false n = turn (is_negative (cell t i j))
        where
          turn : (n : Bool) → Bounded (negate_by n (swap_columns t j r) r)
          turn true = negate_bounded r (swap_columns t j r) b
          turn false = b

  pub close_length : length (close_table t i j r) ≡ length t
  unfolding swap_by negate_by
  close_length = go (is_zero (cell t i j))
    where
      turn : (n : Bool) → length (negate_by n (swap_columns t j r) r) ≡ length t
      turn true = negate_length r r_in (swap_columns t j r) ∙ swap_length j r j-in r_in t
      turn false = swap_length j r j-in r_in t

      go : (z : Bool) → length (swap_by z t i j r) ≡ length t
      go true = refl
      go false = turn (is_negative (cell t i j))

  -- columns other than the two stay
  pub close_kept : (x k : ℕ) → x < 36 → k < 24 → (k ≡ j → ⊥) → (k ≡ r → ⊥) → cell (close_table t i j r) x k ≡ cell t x k
  unfolding swap_by negate_by
  close_kept x k x-in k-in d e = go (is_zero (cell t i j))
    where
      keep : cell (swap_columns t j r) x k ≡ cell t x k
      keep = swap_other j r j-in r_in t x k x-in k-in d e

      turn : (n : Bool) → cell (negate_by n (swap_columns t j r) r) x k ≡ cell t x k
      turn true = negate_other r r_in (swap_columns t j r) x k x-in k-in e ∙ keep
      turn false = keep

      go : (z : Bool) → cell (swap_by z t i j r) x k ≡ cell t x k
      go true = refl
      go false = turn (is_negative (cell t i j))

  -- the one column that is not 0 in the row becomes the pivot, above 0; else the table stays
  pub close_entry : i < 36 → i * 24 + r < length t → (cell t i j ≡ pos 0 → j ≡ r) → cell (close_table t i j r) i r ≡ pos (nat_abs (cell t i j))
  unfolding swap_by negate_by
  close_entry i-in inside alone = go (is_zero (cell t i j)) refl
    where
      x : ℤ
      x = cell t i j

      moved : cell (swap_columns t j r) i r ≡ x
      moved = swap_second j r j-in r_in t i i-in inside

      turn : (n : Bool) → is_negative x ≡ n → cell (negate_by n (swap_columns t j r) r) i r ≡ pos (nat_abs x)
      turn true n = negate_cell r r_in (swap_columns t j r) i i-in (subst⁻¹ (λ (k : ℕ). i * 24 + r < k) (swap_length j r j-in r_in t) inside) ∙ ap neg_ℤ moved ∙ negative_abs x n
      turn false n = moved ∙ nonnegative_abs x n

      go : (z : Bool) → is_zero x ≡ z → cell (swap_by z t i j r) i r ≡ pos (nat_abs x)
      go true z =
          let none = eqb-true (nat_abs x) 0 z in
          let e = nat_abs_zero x none in
          ap (cell t i) (sym (alone e)) ∙ e ∙ ap pos (sym none)
      go false z = turn (is_negative x) refl

  pub close_pivot : i < 36 → i * 24 + r < length t → (cell t i j ≡ pos 0 → j ≡ r) → is_zero (cell (close_table t i j r) i r) ≡ false → Positive (cell (close_table t i j r) i r)
  close_pivot i-in inside alone some =
      positive_of _ (nat_abs (cell t i j)) (close_entry i-in inside alone) (λ e. eqb-false (nat_abs (cell (close_table t i j r) i r)) 0 some (ap nat_abs e))

-- The columns ----------------------------------------------------------------------------------------------------------

module _ (s : State) (h : Sound s) where
  abbrev row : ℕ → ℤ
  row = cell s.cells s.row

  abbrev span : ℕ
  span = s.given.width - s.count

  pub first_is : Least row s.count span (first_column s)
  first_is = least_is row s.count span

  pub second_is : Other row (first_column s) s.count span (second_column s)
  second_is = other_is row (first_column s) s.count span

  pub first_in : first_column s < 24
  first_in = elim (dec_lt 0 span) [
    | yes l ↦ let a = first_is.in_range l in let w = h.wide in omega arith
    | no l ↦ let a = first_is.high in let c = h.count_in in let r = h.row_in in let m = h.few_m in omega arith
  ]

  pub count_low : s.count < 12
  count_low = let c = h.count_in in let r = h.row_in in let m = h.few_m in omega arith

  pub row_low : s.row < 12
  row_low = let r = h.row_in in let m = h.few_m in omega arith

  -- an entry 0 in the first column says that all are 0, and the first column is that of the next pivot
  first_zero : row (first_column s) ≡ pos 0 → first_column s ≡ s.count
  first_zero = least_zero row s.count span

  pub step_reducible : s.steps < last_count → (second_column s ≡ first_column s → ⊥) → Reducible s (first_column s) (second_column s)
  step_reducible few d =
      let f = second_is.found d in
      let n = first_is.least (second_column s) f.0 f.1 f.2 in
      let low = count_low in
      let w = h.wide in
      let inside = f.1 in
      record {
        bounded = h.bounded;
        row = let r = row_low in omega arith;
        first_in = first_in;
        second_in = omega arith;
        some = n.0;
        less = n.1;
        steps = few;
      }

  module _ (j : ℕ) (j-in : j < 24) (j-low : s.count ≤ j) where
    abbrev T : List ℤ
    T = close_table s.cells s.row j s.count

    r_in : s.count < 24
    r_in = let l = count_low in omega arith

    earlier : (k : ℕ) → k < s.count → cell T (pivot_of s k) k ≡ cell s.cells (pivot_of s k) k
    earlier k l =
        let p = h.pivot_row k l in
        let c = count_low in
        close_kept s.cells s.row j s.count j-in r_in (pivot_of s k) k (omega arith) (omega arith) (λ e. omega arith) (λ e. omega arith)

    closed_pivot : (k : ℕ) → k < s.count → Positive (cell T (pivot_of s k) k)
    closed_pivot k l = subst⁻¹ Positive (earlier k l) (h.pivot k l)

  consts_bounded : Bounded s.given.consts
  consts_bounded = record { place = λ k. let c = h.consts_in k in omega arith }

  pub step_closable : s.steps < last_count → Closable s (first_column s)
  step_closable few = record {
    rows = h.few_m;
    row_in = row_low;
    count_in = count_low;
    column_in = first_in;
    column_low = first_is.low;
    alone = first_zero;
    cells_long = h.cells_long;
    few_n = h.few_n;
    bounded = h.bounded;
    zs_bounded = h.zs_bounded;
    consts = consts_bounded;
    steps = few;
    pivot_row = h.pivot_row;
    closed_bounded = close_bounded s.cells s.row (first_column s) s.count first_in (let l = count_low in omega arith) h.bounded;
    closed_pivot = closed_pivot (first_column s) first_in first_is.low;
  }

  -- Reduce leaves earlier columns, and is taken only where it fits.
  module _ (first second : ℕ) (q : ℤ) (second-low : s.count ≤ second) (second_in : second < 24) where
    reduced_sound : (t : Bool) → subtraction_fits s.cells first second q ≡ t → is_unfinished (reduce_by t s first second q).outcome ≡ true → Sound (reduce_by t s first second q)
    unfolding reduce_by too_large
    reduced_sound false e u = absurd (false≢true u)
    reduced_sound true e u = record {
      cells_long = subtract_length first second q second_in s.cells ∙ h.cells_long;
      pivots_long = h.pivots_long;
      few_n = h.few_n;
      few_m = h.few_m;
      wide = h.wide;
      row_in = h.row_in;
      count_in = h.count_in;
      bounded = subtract_bounded first second q second_in s.cells e h.bounded;
      zs_bounded = h.zs_bounded;
      consts_in = h.consts_in;
      pivot_row = h.pivot_row;
      pivot = λ k l.
          let p = h.pivot_row k l in
          let c = count_low in
          subst⁻¹ Positive (subtract_other first second q second_in s.cells (pivot_of s k) k (omega arith) (omega arith) (λ e. omega arith)) (h.pivot k l);
    }

  -- Close leaves them, too, and a new pivot is above 0.
  module _ where
    abbrev C : List ℤ
    C = T (first_column s) first_in first_is.low

    abbrev E : ℤ
    E = cell C s.row s.count

    C-long : length C ≡ 864
    C-long = close_length s.cells s.row (first_column s) s.count first_in (r_in (first_column s) first_in first_is.low) ∙ h.cells_long

    C-bounded : Bounded C
    C-bounded = close_bounded s.cells s.row (first_column s) s.count first_in (r_in (first_column s) first_in first_is.low) h.bounded

    C-pivot : (k : ℕ) → k < s.count → Positive (cell C (pivot_of s k) k)
    C-pivot = closed_pivot (first_column s) first_in first_is.low

    pub entry_positive : is_zero E ≡ false → Positive E
    entry_positive z =
        let i = row_low in
        let c = count_low in
        close_pivot s.cells s.row (first_column s) s.count first_in (r_in (first_column s) first_in first_is.low)
        (omega arith)
        (subst⁻¹ (λ (n : ℕ). s.row * 24 + s.count < n) h.cells_long (omega arith))
        first_zero
        z

    passed_sound : (s.row + 1 ≡ s.given.m → ⊥) → Sound (passed s C)
    unfolding passed
    passed_sound d = record {
      cells_long = C-long;
      pivots_long = h.pivots_long;
      few_n = h.few_n;
      few_m = h.few_m;
      wide = h.wide;
      row_in = let r = h.row_in in omega arith;
      count_in = let c = h.count_in in omega arith;
      bounded = C-bounded;
      zs_bounded = h.zs_bounded;
      consts_in = h.consts_in;
      pivot_row = h.pivot_row;
      pivot = C-pivot;
    }

    module _ (z : ℤ) (z-in : nat_abs z ≤ bound) (some : is_zero E ≡ false) where
      new : get_or (set s.pivots s.count s.row) s.count 0 ≡ s.row
      new = get_or-set_same s.pivots s.count s.row 0 (let l = count_low in subst⁻¹ (λ (n : ℕ). s.count < n) h.pivots_long l)

      old : (k : ℕ) → (k ≡ s.count → ⊥) → get_or (set s.pivots s.count s.row) k 0 ≡ pivot_of s k
      old k d = get_or-set_other s.pivots s.count k s.row 0 d

      placed_sound : (s.row + 1 ≡ s.given.m → ⊥) → Sound (placed s C z)
      unfolding placed
      placed_sound d = record {
        cells_long = C-long;
        pivots_long = length-set s.pivots s.count s.row ∙ h.pivots_long;
        few_n = h.few_n;
        few_m = h.few_m;
        wide = h.wide;
        row_in = let r = h.row_in in omega arith;
        count_in = let c = h.count_in in omega arith;
        bounded = C-bounded;
        zs_bounded = bounded_set s.zs s.count z z-in h.zs_bounded;
        consts_in = h.consts_in;
        pivot_row = λ k l. elim (ℕ_discrete k s.count) [
          | yes e ↦ subst⁻¹ (λ (i : ℕ). get_or (set s.pivots s.count s.row) i 0 < 12) e (subst⁻¹ (λ (i : ℕ). i < 12) new row_low)
          | no e ↦ subst⁻¹ (λ (i : ℕ). i < 12) (old k e) (h.pivot_row k (omega arith))
        ];
        pivot = λ k l. elim (ℕ_discrete k s.count) [
          | yes e ↦ subst⁻¹ (λ (i : ℕ). Positive (cell C (get_or (set s.pivots s.count s.row) i 0) i)) e (subst⁻¹ (λ (i : ℕ). Positive (cell C i s.count)) new (entry_positive some))
          | no e ↦ subst⁻¹ (λ (i : ℕ). Positive (cell C i k)) (old k e) (C-pivot k (omega arith))
        ];
      }

    -- a row that closes, but not as the last
    closed_sound : (next : State) → ((next.row ≡ next.given.m → ⊥) → Sound next) → is_unfinished (closed s next).outcome ≡ true → Sound (closed s next)
    unfolding closed last_by solve_by too_large
    closed_sound next k = go (eqb next.row next.given.m) refl
      where
        solve : (t : Bool) → is_unfinished (solve_by t s next).outcome ≡ true → Sound (solve_by t s next)
        solve true u = absurd (false≢true u)
        solve false u = absurd (false≢true u)

        go : (t : Bool) → eqb next.row next.given.m ≡ t → is_unfinished (last_by t s next).outcome ≡ true → Sound (last_by t s next)
        go true e = solve (all_below next.given.n (λ k. within bound (place_of next k)))
        go false e = λ u. k (eqb-false next.row next.given.m e)

    close_sound : is_unfinished (close_of s (first_column s)).outcome ≡ true → Sound (close_of s (first_column s))
    unfolding close_of close_by go_on_by place_by refute_by too_large passed placed
    close_sound = way (divides E (residual_of s C))
      where
        Z : ℤ
        Z = quot_z (residual_of s C) E

        refute : (b : Bool) (v : Vector) → is_unfinished (refute_by b s C v).outcome ≡ true → Sound (refute_by b s C v)
        refute true v u = absurd (false≢true u)
        refute false v u = absurd (false≢true u)

        place : is_zero E ≡ false → (b : Bool) → within bound Z ≡ b → is_unfinished (place_by b s C Z).outcome ≡ true → Sound (place_by b s C Z)
        place n true e = closed_sound (placed s C Z) (placed_sound Z ((by_within bound Z).yes e) n)
        place n false e = λ u. absurd (false≢true u)

        go_on : (b : Bool) → is_zero E ≡ b → is_unfinished (go_on_by b s C E).outcome ≡ true → Sound (go_on_by b s C E)
        go_on true e = closed_sound (passed s C) passed_sound
        go_on false e = place e (within bound Z) refl

        way : (b : Bool) → is_unfinished (close_by b s C E).outcome ≡ true → Sound (close_by b s C E)
        way true = go_on (is_zero E) refl
        way false = refute (in_range (vector_of s C E)) (vector_of s C E)

  pub step_sound : is_unfinished (step_of s).outcome ≡ true → Sound (step_of s)
  unfolding step_of step_by reduce_of
  step_sound = way (eqb (second_column s) (first_column s)) refl
    where
      way : (b : Bool) → eqb (second_column s) (first_column s) ≡ b → is_unfinished (step_by b s (first_column s) (second_column s)).outcome ≡ true → Sound (step_by b s (first_column s) (second_column s))
      way true e = close_sound
      way false e =
          let f = second_is.found (eqb-false (second_column s) (first_column s) e) in
          let q = quotient (cell s.cells s.row (second_column s)) (cell s.cells s.row (first_column s)) in
          let low = count_low in
          let w = h.wide in
          let inside = f.1 in
          reduced_sound (first_column s) (second_column s) q f.0 (omega arith) (subtraction_fits s.cells (first_column s) (second_column s) q) refl
