-- What the code's sums are: they go over one side at a time, B's weights being the numerators from mA on.
--
--     column_total    a column's sums over A and over B: that over all rows        constant_total    the same for the constants
--     side_same       a side at other numbers that are the same
--     side_dot, side_all, side_gcd     a side's sum of a column, test of p × l, and gcd, also with other weights
--     sums_divided    q divides every column's sum, and p × l in both sides: in all rows
--
-- Assumes nothing.
use Rattle.std.proofs.Common.{◌≡◌, ℕ, ◌<◌, refl, sym, ap, List, ℤ, nat_abs, ◌+ℤ◌, ◌*ℤ◌}
use mathlib.Core.Bool.{Bool, ◌&&◌}
use Rattle.integers.specs.Divisibility.{divides}
use Rattle.integers.specs.Gcd.{gcd_from}
use Rattle.integers.specs.Sum.{dot}
use Rattle.integers.specs.Below.{all_below}
use Rattle.integers.proofs.Laws.Sum.{sum_ext}
use Rattle.integers.proofs.Laws.Below.{all_same}
use Rattle.integers.proofs.Laws.Gcd.{gcd_from_abs}
use Rattle.problem.specs.Rows.{side_of, rows_of}
use Rattle.problem.proofs.Laws.Rows.{both-dot, both_all}
use Rattle.checker.specs.Refutation.{column_sum, constant_sum, numerator, divides_sums}
use Rattle.checker.specs.Code.{numbers, weights}

module _ (n ma mb : ℕ) (a b p : List ℤ) where
  pub column_total : (j : ℕ) → dot ma (numerator p) (numbers n a j) +ℤ dot mb (weights p ma) (numbers n b j) ≡ column_sum (rows_of n ma mb a b) (numerator p) j
  column_total j = sym (both-dot ma mb (numerator p) (numbers n a j) (numbers n b j))

  pub constant_total : dot ma (numerator p) (numbers n a n) +ℤ dot mb (weights p ma) (numbers n b n) ≡ constant_sum (rows_of n ma mb a b) (numerator p)
  constant_total = sym (both-dot ma mb (numerator p) (numbers n a n) (numbers n b n))

  pub sums_divided : (q : ℤ) →
      all_below n (λ j. divides q (column_sum (rows_of n ma mb a b) (numerator p) j))
      && (all_below ma (λ i. divides q (numerator p i *ℤ (side_of n ma a).modulus i)) && all_below mb (λ i. divides q (weights p ma i *ℤ (side_of n mb b).modulus i)))
      ≡ divides_sums n (rows_of n ma mb a b) q (numerator p)
  sums_divided q = ap (λ (t : Bool). all_below n (λ j. divides q (column_sum (rows_of n ma mb a b) (numerator p) j)) && t) (sym (both_all ma mb (λ x y. divides q (x *ℤ y)) (numerator p) (side_of n ma a).modulus (side_of n mb b).modulus))

pub side_same : {n k m l : ℕ} {run read : List ℤ} → k ≡ n → l ≡ m → read ≡ run → side_of k l read ≡ side_of n m run
side_same same-n same-m same-run = rw (same-m, same-n, same-run) refl

-- a side, and one that is the same, with weights that are the same in its rows
module _ {n k m l : ℕ} {run read : List ℤ} (same-n : k ≡ n) (same-m : l ≡ m) (same-run : read ≡ run) (w v : ℕ → ℤ) (same : (i : ℕ) → i < m → w i ≡ v i) where
  pub side_dot : (column : ℕ) → dot l w (numbers k read column) ≡ dot m v (numbers n run column)
  side_dot column = rw (same-m, same-n, same-run) (sum_ext m (λ i. w i *ℤ numbers n run column i) (λ i. v i *ℤ numbers n run column i) (λ i h. ap (λ x. x *ℤ numbers n run column i) (same i h)))

  pub side_all : (q : ℤ) → all_below l (λ i. divides q (w i *ℤ (side_of k l read).modulus i)) ≡ all_below m (λ i. divides q (v i *ℤ (side_of n m run).modulus i))
  side_all q = rw (same-m, same-n, same-run) (all_same m (λ i. divides q (w i *ℤ (side_of n m run).modulus i)) (λ i. divides q (v i *ℤ (side_of n m run).modulus i)) (λ i h. ap (λ x. divides q (x *ℤ (side_of n m run).modulus i)) (same i h)))

  pub side_gcd : (g : ℤ) → gcd_from g l (λ i. w i *ℤ (side_of k l read).modulus i) ≡ gcd_from g m (λ i. v i *ℤ (side_of n m run).modulus i)
  side_gcd g = rw (same-m, same-n, same-run) (gcd_from_abs g m (λ i. w i *ℤ (side_of n m run).modulus i) (λ i. v i *ℤ (side_of n m run).modulus i) (λ i h. ap (λ x. nat_abs (x *ℤ (side_of n m run).modulus i)) (same i h)))
