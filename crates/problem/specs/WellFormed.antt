-- When a problem is well formed: what refusals 1 and 3 test.
--
--     Shape n ma mb a b     "n variables (1 to 12), mA rows of A and mB rows of B; either may be 0, the total m is 1 to 12. ..
--                           a side has exactly (rows × (n + 2)) numbers"
--     Ranges n R            "Coefficients and constants lie in −1,000,000..1,000,000, moduli in 0..1,000,000."
--     WellFormed            both, of a whole problem
--     million, RowInRange   the ranges' end; what Ranges says of one row
--     shape, in_ranges      the same as tests
--     well_formed           the tests of a whole problem, the shape first
use Rattle.std.specs.Prelude.{◌≡◌, List, Bool, not, ◌&&◌, ℕ, ◌+◌, ◌*◌, ◌<◌, ◌≤◌, leb, eqb, length, ℤ, pos, nat_abs, ◌≤ℤ◌}
use Rattle.integers.specs.Range.{is_negative, within}
use Rattle.integers.specs.Below.{all_below}
use Rattle.problem.specs.Rows.{Rows, side_of}

-- the end of every range of a row's numbers, of q and of the numerators
abbrev pub million : ℕ
million = 1000000

pub record Shape (n ma mb : ℕ) (a b : List ℤ) : Type 0 where
  pub some_n : 1 ≤ n
  pub few_n : n ≤ 12
  pub some_m : 1 ≤ ma + mb
  pub few_m : ma + mb ≤ 12
  pub long-a : length a ≡ ma * (n + 2)
  pub long-b : length b ≡ mb * (n + 2)

pub record RowInRange (n : ℕ) (R : Rows) (i : ℕ) : Type 0 where
  pub coef_in : (j : ℕ) → j < n → nat_abs (R.coef i j) ≤ million
  pub const_in : nat_abs (R.const i) ≤ million
  pub modulus_in : nat_abs (R.modulus i) ≤ million
  pub modulus_low : pos 0 ≤ℤ R.modulus i

pub record Ranges (n : ℕ) (R : Rows) : Type 0 where
  pub row : (i : ℕ) → i < R.m → RowInRange n R i

pub record WellFormed (n ma mb : ℕ) (a b : List ℤ) : Type 0 where
  pub shape : Shape n ma mb a b
  pub ranges_a : Ranges n (side_of n ma a)
  pub ranges_b : Ranges n (side_of n mb b)

abbrev pub shape : ℕ → ℕ → ℕ → List ℤ → List ℤ → Bool
shape n ma mb a b = (leb 1 n && leb n 12) && ((leb 1 (ma + mb) && leb (ma + mb) 12) && (eqb (length a) (ma * (n + 2)) && eqb (length b) (mb * (n + 2))))

abbrev pub row_in_range : ℕ → Rows → ℕ → Bool
row_in_range n R i = all_below n (λ j. within million (R.coef i j)) && (within million (R.const i) && (within million (R.modulus i) && not (is_negative (R.modulus i))))

abbrev pub in_ranges : ℕ → Rows → Bool
in_ranges n R = all_below R.m (row_in_range n R)

unfoldable pub well_formed : ℕ → ℕ → ℕ → List ℤ → List ℤ → Bool
well_formed n ma mb a b = shape n ma mb a b && (in_ranges n (side_of n ma a) && in_ranges n (side_of n mb b))
