-- What the private functions ask for and compute, and what the laws of their bounds ask for.
--
--     rows_in                the rows of a side
--     numbers, weights       a column of a side; the numerators from a place on
--     Weighable              the rows and the vector of a problem, in their ranges, as Laws/Bounds asks
--     shared_sum, local_sum  A's column sum at a shared, and at an A-local variable, else 0
--     fact_of, Small         the fact that a run, a constant and a modulus make; every number of a fact is at most C
--     short_form             the normal form with fewer cases, as the code computes it (short_same of proofs/Laws/Short.antt)
use Rattle.std.specs.Prelude.{List, Bool, true, false, cond, ℕ, ◌+◌, ◌*◌, ◌<◌, ◌≤◌, eqb, ℤ, pos, nat_abs}
use Rattle.integers.specs.Range.{is_zero, is_negative}
use Rattle.integers.specs.Divisibility.{divides}
use Rattle.integers.specs.Gcd.{gcd_from}
use Rattle.integers.specs.Run.{at}
use Rattle.problem.specs.Rows.{Rows, side_of}
use Rattle.problem.specs.declared.Side.{Side}
use Rattle.problem.specs.WellFormed.{WellFormed}
use Rattle.problem.specs.Occurrence.{occurs, shared, local_a}
use Rattle.checker.specs.Refutation.{column_sum, numerator, Numerators}
use Rattle.checker.specs.Fact.{Fact}
use Rattle.checker.specs.NormalForm.{false_fact, divided, first_nonzero, sign_by, unit_by}

-- Sums -----------------------------------------------------------------------------------------------------------------

abbrev pub rows_in : Side → Rows
rows_in side = side_of side.n side.m side.run.now

-- column of a side whose rows have n + 2 numbers: a coefficient's below n, the constants' n, the moduli's n + 1
abbrev pub numbers : ℕ → List ℤ → ℕ → ℕ → ℤ
numbers n run column i = at run (i * (n + 2) + column)

-- A's numerators begin at place 0, B's at mA
abbrev pub weights : List ℤ → ℕ → ℕ → ℤ
weights p from i = at p (i + from)

pub record Weighable (n ma mb : ℕ) (a b p : List ℤ) : Type 0 where
  pub well-formed : WellFormed n ma mb a b
  pub numerators : Numerators (ma + mb) (numerator p)

module _ (n ma mb : ℕ) (a b p : List ℤ) (j : ℕ) where
  abbrev pub shared_sum : ℤ
  shared_sum = cond (shared (occurs (side_of n ma a)) (occurs (side_of n mb b)) j) (column_sum (side_of n ma a) (numerator p) j) (pos 0)

  abbrev pub local_sum : ℤ
  local_sum = cond (local_a (occurs (side_of n ma a)) (occurs (side_of n mb b)) j) (column_sum (side_of n ma a) (numerator p) j) (pos 0)

-- The normal form ------------------------------------------------------------------------------------------------------

-- 12 × 10^12, which no sum over 12 rows exceeds
abbrev pub largest : ℕ
largest = 12000000000000

abbrev pub fact_of : List ℤ → ℤ → ℤ → Fact
fact_of run constant modulus = record { coef = at run; const = constant; modulus = modulus }

pub record Small (C n : ℕ) (f : Fact) : Type 0 where
  pub coefs : (j : ℕ) → j < n → nat_abs (f.coef j) ≤ C
  pub const : nat_abs f.const ≤ C
  pub modulus : nat_abs f.modulus ≤ C

unfoldable pub made_positive : ℕ → Fact → Fact
made_positive n f = sign_by (is_negative (first_nonzero n f.coef)) f

-- a fact without common factor
unfoldable pub finished_by : Bool → ℕ → Fact → Fact
finished_by true n f = made_positive n f
finished_by false n f = unit_by (eqb (nat_abs f.modulus) 1) f

unfoldable pub finished : ℕ → Fact → Fact
finished n f = finished_by (is_zero f.modulus) n f

unfoldable pub short_by : Bool → ℕ → Fact → Fact
short_by false n f = false_fact
short_by true n f = finished n f

-- the gcd of the modulus and of all coefficients
abbrev pub common_factor : ℕ → Fact → ℤ
common_factor n f = gcd_from f.modulus n f.coef

-- 0 divides only 0: where the gcd is 0, the constant decides between FALSE and TRUE, which is the fact divided by 0
unfoldable pub short_form : ℕ → Fact → Fact
short_form n f = short_by (divides (common_factor n f) f.const) n (divided (common_factor n f) f)
