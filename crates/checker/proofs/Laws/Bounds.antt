-- Bounds of the numbers that the code computes.
--
--     Sums           dot_small        a sum over at most 12 rows of products of numbers in range is at most 12 × 10^12
--     Raw fact       column_small     A's column sums are
--                    local_small      so is their gcd at the A-local variables
--                    raw_small        and every number of the raw fact
--                    modulus_low      its modulus is 0 or above
--
-- Assumes nothing.
use mathlib.Core.Path.{sym, ◌∙◌, ap, subst}
use mathlib.Core.List.{List}
use mathlib.Core.Bool.{Bool, true, false, cond}
use Prim.Native.Nat.{ℕ, ◌<◌, ◌≤◌}
use native.Mathlib.Omega.{arith}
use lib.IntN.{ℤ, pos, nat_abs, ◌*ℤ◌}
use lib.Signed.{◌≤ℤ◌}
use Rattle.integers.specs.Gcd.{gcd_from}
use Rattle.integers.specs.Sum.{dot}
use Rattle.integers.proofs.Laws.Magnitude.{mul_bound}
use Rattle.integers.proofs.Laws.Order.{parts_le}
use Rattle.integers.proofs.Laws.Sum.{dot_bound}
use Rattle.integers.proofs.Laws.Gcd.{gcd_from_natural, gcd_from_le}
use Rattle.problem.specs.Rows.{Rows, side_of}
use Rattle.problem.specs.WellFormed.{million}
use Rattle.problem.specs.Occurrence.{occurs, shared, local_a}
use Rattle.checker.specs.Refutation.{column_sum, numerator}
use Rattle.checker.specs.Fact.{modulus_of, raw_fact}
use Rattle.checker.specs.Code.{Weighable, local_sum, largest, Small}

-- Sums -----------------------------------------------------------------------------------------------------------------

pub dot_small : (m : ℕ) (p c : ℕ → ℤ) → m ≤ 12 → ((i : ℕ) → i < m → nat_abs (p i) ≤ million) → ((i : ℕ) → i < m → nat_abs (c i) ≤ million) → nat_abs (dot m p c) ≤ largest
dot_small m p c few p-in c-in = omega (arith, dot_bound m million million p c p-in c-in)

-- The raw fact ---------------------------------------------------------------------------------------------------------

kept_small : (t : Bool) (x : ℤ) → nat_abs x ≤ largest → nat_abs (cond t x (pos 0)) ≤ largest
kept_small true x h = h
kept_small false x h = omega arith

module _ (n ma mb : ℕ) (a b p : List ℤ) (w : Weighable n ma mb a b p) where
  abbrev A : Rows
  A = side_of n ma a

  abbrev B : Rows
  B = side_of n mb b

  few : ma ≤ 12
  few = let h = w.well-formed.shape.few_m in omega arith

  numerator_in : (i : ℕ) → i < ma → nat_abs (numerator p i) ≤ million
  numerator_in i l = w.numerators.in_range i (omega arith)

  column_small : (j : ℕ) → j < n → nat_abs (column_sum A (numerator p) j) ≤ largest
  column_small j l = dot_small ma (numerator p) (λ i. A.coef i j) few numerator_in (λ i k. (w.well-formed.ranges_a.row i k).coef_in j l)

  pub local_small : nat_abs (gcd_from (pos 0) n (local_sum n ma mb a b p)) ≤ largest
  local_small = gcd_from_le (pos 0) n (local_sum n ma mb a b p) largest (omega arith) (λ j l. kept_small (local_a (occurs A) (occurs B) j) (column_sum A (numerator p) j) (column_small j l))

  modulus_small : (i : ℕ) → i < ma → nat_abs (numerator p i *ℤ A.modulus i) ≤ largest
  modulus_small i l = omega (arith, mul_bound (numerator p i) (A.modulus i) (numerator_in i l) (w.well-formed.ranges_a.row i l).modulus_in)

  pub raw_small : Small largest n (raw_fact n (occurs A) (occurs B) A (numerator p))
  unfolding modulus_of
  raw_small = record {
    coefs = λ j l. kept_small (shared (occurs A) (occurs B) j) (column_sum A (numerator p) j) (column_small j l);
    const = dot_small ma (numerator p) A.const few numerator_in (λ i l. (w.well-formed.ranges_a.row i l).const_in);
    modulus = gcd_from_le (gcd_from (pos 0) n (local_sum n ma mb a b p)) ma (λ i. numerator p i *ℤ A.modulus i) largest local_small modulus_small;
  }

pub modulus_low : (n : ℕ) (in_a in_b : ℕ → Bool) (A : Rows) (p : ℕ → ℤ) → pos 0 ≤ℤ modulus_of n in_a in_b A p
unfolding modulus_of
modulus_low n in_a in_b A p =
    let g = gcd_from_natural 0 n (λ j. cond (local_a in_a in_b j) (column_sum A p j) (pos 0)) in
    let m = gcd_from_natural g.0 A.m (λ i. p i *ℤ A.modulus i) in
    subst (λ x. pos 0 ≤ℤ x) (sym (ap (λ x. gcd_from x A.m (λ i. p i *ℤ A.modulus i)) g.1 ∙ m.1)) (parts_le (pos 0) (pos m.0) (omega arith))
