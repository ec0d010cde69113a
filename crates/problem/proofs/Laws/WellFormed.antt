-- The tests decide what they test.
--
--     by_shape         shape decides Shape
--     by_row           row_in_range decides RowInRange
--     by_ranges        in_ranges decides Ranges
--     by_well_formed   well_formed decides WellFormed
--
-- Assumes nothing.
use mathlib.Core.List.{List}
use Prim.Native.Nat.{ℕ, ◌+◌, ◌*◌, ◌≤◌}
use lib.ListN.{length}
use lib.IntN.{ℤ, nat_abs}
use Rattle.integers.specs.Range.{within}
use Rattle.integers.proofs.Laws.Decide.{Decides, by_le, by_eq, by_nonneg, by_within, by_and, by_all, by_same}
use Rattle.problem.specs.Rows.{Rows, side_of}
use Rattle.problem.specs.WellFormed.{million, Shape, RowInRange, Ranges, WellFormed, shape, row_in_range, in_ranges, well_formed}

pub by_shape : (n ma mb : ℕ) (a b : List ℤ) → Decides (shape n ma mb a b) (Shape n ma mb a b)
by_shape n ma mb a b = by_same
    (λ h. record { some_n = h.0.0; few_n = h.0.1; some_m = h.1.0.0; few_m = h.1.0.1; long-a = h.1.1.0; long-b = h.1.1.1 })
    (λ s. ((s.some_n, s.few_n), ((s.some_m, s.few_m), (s.long-a, s.long-b))))
    (by_and (by_and (by_le 1 n) (by_le n 12)) (by_and (by_and (by_le 1 (ma + mb)) (by_le (ma + mb) 12)) (by_and (by_eq (length a) (ma * (n + 2))) (by_eq (length b) (mb * (n + 2))))))

pub by_row : (n : ℕ) (R : Rows) (i : ℕ) → Decides (row_in_range n R i) (RowInRange n R i)
by_row n R i = by_same
    (λ h. record { coef_in = h.0; const_in = h.1.0; modulus_in = h.1.1.0; modulus_low = h.1.1.1 })
    (λ s. (s.coef_in, (s.const_in, (s.modulus_in, s.modulus_low))))
    (by_and (by_all n (λ j. within million (R.coef i j)) (λ j. nat_abs (R.coef i j) ≤ million) (λ j. by_within million (R.coef i j)))
    (by_and (by_within million (R.const i)) (by_and (by_within million (R.modulus i)) (by_nonneg (R.modulus i)))))

pub by_ranges : (n : ℕ) (R : Rows) → Decides (in_ranges n R) (Ranges n R)
by_ranges n R = by_same (λ h. record { row = h }) (λ s. s.row) (by_all R.m (row_in_range n R) (RowInRange n R) (by_row n R))

pub by_well_formed : (n ma mb : ℕ) (a b : List ℤ) → Decides (well_formed n ma mb a b) (WellFormed n ma mb a b)
unfolding well_formed
by_well_formed n ma mb a b = by_same
    (λ h. record { shape = h.0; ranges_a = h.1.0; ranges_b = h.1.1 })
    (λ w. (w.shape, (w.ranges_a, w.ranges_b)))
    (by_and (by_shape n ma mb a b) (by_and (by_ranges n (side_of n ma a)) (by_ranges n (side_of n mb b))))
