-- "A refutation".
--
--     column_sum R p j     the sum of p × c in column j           constant_sum R p    the sum of p × d
--     Refutes n R q p      "q divides every column sum of p × c over all rows, q divides p × l for each congruence, and q does
--                          not divide the sum of p × d"; for an equation, l = 0, the second part says that q divides 0
--     Vector, Numerators   "A vector is a denominator q (1..1,000,000) and m numerators p, .. each in −1,000,000..1,000,000."
--     numerator p i        numerator i of a lent vector
--     is_vector, are_numerators, divides_sums     the tests behind refusals 4, 5 and 6
--     refusal              the first whose case it is, of the paper's 1 to 7, if there is one; the run for the coefficients is `long` long
--     refusal_number       its number, 0 if there is none
use Rattle.std.specs.Prelude.{◌≡◌, List, Bool, not, ◌&&◌, ℕ, ◌<◌, ◌≤◌, eqb, length, ℤ, pos, nat_abs, ◌*ℤ◌, ◌<ℤ◌, Option, None}
use Rattle.std.specs.Int.Signed.{lt_z}
use Rattle.integers.specs.Range.{within}
use Rattle.integers.specs.Divisibility.{◌∣ℤ◌, divides}
use Rattle.integers.specs.Sum.{dot}
use Rattle.integers.specs.Below.{all_below}
use Rattle.integers.specs.Run.{at}
use Rattle.problem.specs.Rows.{Rows, rows_of}
use Rattle.problem.specs.WellFormed.{million, shape, well_formed}
use Rattle.problem.specs.Refusal.{unless, number_or_none}
use Rattle.problem.specs.declared.Refusal.{Refusal}
use Rattle.problem.specs.declared.Refusal.TheVariants.{WrongShape, WrongRun, RowOutOfRange, WrongVector, NumeratorOutOfRange, SumNotDivided, ConstantsDivided}

abbrev pub column_sum : Rows → (ℕ → ℤ) → ℕ → ℤ
column_sum R p j = dot R.m p (λ i. R.coef i j)

abbrev pub constant_sum : Rows → (ℕ → ℤ) → ℤ
constant_sum R p = dot R.m p R.const

pub record Refutes (n : ℕ) (R : Rows) (q : ℤ) (p : ℕ → ℤ) : Type 0 where
  pub columns : (j : ℕ) → j < n → q ∣ℤ column_sum R p j
  pub moduli : (i : ℕ) → i < R.m → q ∣ℤ (p i *ℤ R.modulus i)
  pub constants : q ∣ℤ constant_sum R p → ⊥

abbrev pub numerator : List ℤ → ℕ → ℤ
numerator p = at p

pub record Vector (m : ℕ) (q : ℤ) (p : List ℤ) : Type 0 where
  pub long : length p ≡ m
  pub q_low : pos 0 <ℤ q
  pub q_high : nat_abs q ≤ million

pub record Numerators (m : ℕ) (p : ℕ → ℤ) : Type 0 where
  pub in_range : (i : ℕ) → i < m → nat_abs (p i) ≤ million

-- the same as tests
abbrev pub is_vector : ℕ → ℤ → List ℤ → Bool
is_vector m q p = eqb (length p) m && (lt_z (pos 0) q && within million q)

abbrev pub are_numerators : ℕ → (ℕ → ℤ) → Bool
are_numerators m p = all_below m (λ i. within million (p i))

abbrev pub divides_sums : ℕ → Rows → ℤ → (ℕ → ℤ) → Bool
divides_sums n R q p = all_below n (λ j. divides q (column_sum R p j)) && all_below R.m (λ i. divides q (p i *ℤ R.modulus i))

-- "6: q fails to divide a column sum or a p × l. 7: q divides the sum of p × d."
unfoldable pub sums_refusal : ℕ → Rows → ℤ → (ℕ → ℤ) → Option Refusal
sums_refusal n R q p = unless (divides_sums n R q p) SumNotDivided (unless (not (divides q (constant_sum R p))) ConstantsDivided None)

-- "4: the vector's length is not m, or q is out of range. 5: a numerator is out of range."
unfoldable pub vector_refusal : ℕ → Rows → ℤ → List ℤ → Option Refusal
vector_refusal n R q p = unless (is_vector R.m q p) WrongVector (unless (are_numerators R.m (numerator p)) NumeratorOutOfRange (sums_refusal n R q (numerator p)))

-- "1: n, mA, mB, m or a side's length is not as above. 2: a result run is not exactly its length [coefficients n]. 3: a row's number is
-- out of its range."
unfoldable pub refusal : ℕ → ℕ → ℕ → List ℤ → List ℤ → ℤ → List ℤ → ℕ → Option Refusal
refusal n ma mb a b q p long = unless (shape n ma mb a b) WrongShape (unless (eqb long n) WrongRun (unless (well_formed n ma mb a b) RowOutOfRange (vector_refusal n (rows_of n ma mb a b) q p)))

-- its number, 0 if there is none
abbrev pub refusal_number : ℕ → ℕ → ℕ → List ℤ → List ℤ → ℤ → List ℤ → ℕ → ℕ
refusal_number n ma mb a b q p long = number_or_none (refusal n ma mb a b q p long)
