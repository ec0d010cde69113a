-- "Normal form (n coefficients, constant, modulus)", case by case as the paper has it. A function `..By` goes by the answer of
-- one test.
--
--     true_fact, false_fact    "TRUE is all zeros; FALSE is all zeros with constant 1; both have modulus 0."
--     divided, first_nonzero, residue     "divide all by g", the first nonzero coefficient, a residue in 0..modulus − 1
--     normal_form n f          the normal form of a fact over n variables
--     interpolant_of           that of the raw fact of a vector
use Rattle.std.specs.Prelude.{Bool, true, false, cond, ℕ, zero, suc, eqb, ℤ, pos, nat_abs, neg_ℤ, ◌+ℤ◌}
use Rattle.std.specs.Int.Signed.{quot_z, rem_z}
use Rattle.integers.specs.Range.{is_zero, is_negative}
use Rattle.integers.specs.Divisibility.{divides}
use Rattle.integers.specs.Gcd.{gcd_from}
use Rattle.problem.specs.Rows.{Rows}
use Rattle.problem.specs.Occurrence.{occurs}
use Rattle.checker.specs.Fact.{Fact, raw_fact}

abbrev pub true_fact : Fact
true_fact = record { coef = λ j. pos 0; const = pos 0; modulus = pos 0 }

abbrev pub false_fact : Fact
false_fact = record { coef = λ j. pos 0; const = pos 1; modulus = pos 0 }

-- "divide all by g"
unfoldable pub divided : ℤ → Fact → Fact
divided g f = record { coef = λ j. quot_z (f.coef j) g; const = quot_z f.const g; modulus = quot_z f.modulus g }

-- the first nonzero one of the first k coefficients, 0 if there is none
unfoldable pub or_else : ℤ → ℤ → ℤ
or_else x y = cond (is_zero x) y x

unfoldable pub first_nonzero : ℕ → (ℕ → ℤ) → ℤ
first_nonzero zero c = pos 0
first_nonzero (suc k) c = or_else (first_nonzero k c) (c k)

-- "make the first nonzero coefficient positive"
unfoldable pub sign_by : Bool → Fact → Fact
sign_by false f = f
sign_by true f = record { coef = λ j. neg_ℤ (f.coef j); const = neg_ℤ f.const; modulus = f.modulus }

-- "bring coefficients and constant into 0..modulus − 1"
unfoldable pub residue : ℤ → ℤ → ℤ
residue m x = cond (is_negative (rem_z x m)) (rem_z x m +ℤ m) (rem_z x m)

abbrev pub residues : Fact → Fact
residues f = record { coef = λ j. residue f.modulus (f.coef j); const = residue f.modulus f.const; modulus = f.modulus }

-- "M = 0: let g be the gcd of the shared S. If g = 0, the result is TRUE for K = 0, else FALSE. If g does not divide K: FALSE.
-- Otherwise divide all by g and make the first nonzero coefficient positive."
unfoldable pub positive_by : Bool → ℕ → Fact → Fact
positive_by false n h = false_fact
positive_by true n h = sign_by (is_negative (first_nonzero n h.coef)) h

unfoldable pub equality_by : Bool → ℤ → ℕ → Fact → Fact
equality_by true g n f = cond (is_zero f.const) true_fact false_fact
equality_by false g n f = positive_by (divides g f.const) n (divided g f)

-- "M > 0: let g be the gcd of M and the shared S. If g does not divide K: FALSE. Otherwise divide all by g. If the new modulus
-- is 1: TRUE. Otherwise bring coefficients and constant into 0..modulus − 1."
unfoldable pub unit_by : Bool → Fact → Fact
unit_by true h = true_fact
unit_by false h = residues h

unfoldable pub congruence_by : Bool → Fact → Fact
congruence_by false h = false_fact
congruence_by true h = unit_by (eqb (nat_abs h.modulus) 1) h

unfoldable pub normal_by : Bool → ℕ → Fact → Fact
normal_by true n f = let g = gcd_from (pos 0) n f.coef in equality_by (is_zero g) g n f
normal_by false n f = let g = gcd_from f.modulus n f.coef in congruence_by (divides g f.const) (divided g f)

unfoldable pub normal_form : ℕ → Fact → Fact
normal_form n f = normal_by (is_zero f.modulus) n f

abbrev pub interpolant_of : ℕ → Rows → Rows → (ℕ → ℤ) → Fact
interpolant_of n A B p = normal_form n (raw_fact n (occurs A) (occurs B) A p)
