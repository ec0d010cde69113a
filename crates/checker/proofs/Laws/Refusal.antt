-- Each refusal is given exactly in its case. The cases exclude each other, in the paper's order 1, 2, 3, 4, 5, 6, 7.
--
--     Tests            by_vector        is_vector decides Vector
--                      by_numerators    are_numerators decides Numerators
--                      by_sums          divides_sums decides DividesSums
--                      by_constants     the last test decides that q does not divide the sum of p × d
--     first_of         the first of two refusals that there may be
--     refusal_says     the case of the refusal's number holds
--     at_vector        past 1, 2 and 3 the refusal is that of the vector
--     refusal_is       where the case of k holds, the refusal has the number k
--     refusal_none     number 0: Accepted, and the run is n long
--     after_problem    the refusals of the problem first, then those of the vector
--     by_tests         those of the vector, test by test
--
-- Assumes nothing.
use mathlib.Core.Path.{◌≡◌, refl, sym, ◌∙◌, ap, ap₂}
use mathlib.Core.List.{List}
use mathlib.Core.Bool.{Bool, true, false, not}
use Prim.Native.Nat.{ℕ, ◌+◌, ◌≤◌}
use native.Mathlib.Omega.{arith}
use lib.Dec.{eqb}
use lib.ListN.{length}
use lib.IntN.{ℤ, pos, nat_abs, ◌*ℤ◌}
use Rattle.integers.specs.Range.{within}
use Rattle.integers.specs.Divisibility.{◌∣ℤ◌, divides}
use Rattle.integers.proofs.Laws.Decide.{Decides, decides_no, decides_false, decides_stable, by_eq, by_lt-ℤ, by_within, by_divides, by_and, by_not, by_all, by_same}
use Rattle.problem.specs.Rows.{Rows, rows_of}
use Rattle.problem.specs.WellFormed.{million, WellFormed, shape, well_formed}
use Rattle.problem.proofs.Laws.WellFormed.{by_shape, by_well_formed}
use Rattle.std.specs.Prelude.{Option, Some, None}
use Rattle.problem.specs.Refusal.{unless, number_or_none, problem_refusal}
use Rattle.problem.specs.declared.Refusal.{Refusal}
use Rattle.problem.specs.declared.Refusal.TheVariants.{WrongVector, NumeratorOutOfRange, SumNotDivided, ConstantsDivided}
use Rattle.checker.specs.Refutation.{column_sum, constant_sum, numerator, Vector, Numerators, is_vector, are_numerators, divides_sums, sums_refusal, vector_refusal, refusal, refusal_number}
use Rattle.checker.specs.Promises.{DividesSums, Accepted, Says, says_0, says_1, says_2, says_3, says_4, says_5, says_6, says_7}

-- Tests ----------------------------------------------------------------------------------------------------------------

pub by_vector : (m : ℕ) (q : ℤ) (p : List ℤ) → Decides (is_vector m q p) (Vector m q p)
by_vector m q p = by_same
    (λ h. record { long = h.0; q_low = h.1.0; q_high = h.1.1 })
    (λ v. (v.long, (v.q_low, v.q_high)))
    (by_and (by_eq (length p) m) (by_and (by_lt-ℤ (pos 0) q) (by_within million q)))

pub by_numerators : (m : ℕ) (p : ℕ → ℤ) → Decides (are_numerators m p) (Numerators m p)
by_numerators m p = by_same (λ h. record { in_range = h }) (λ s. s.in_range)
    (by_all m (λ i. within million (p i)) (λ i. nat_abs (p i) ≤ million) (λ i. by_within million (p i)))

pub by_sums : (n : ℕ) (R : Rows) (q : ℤ) (p : ℕ → ℤ) → Decides (divides_sums n R q p) (DividesSums n R q p)
by_sums n R q p = by_same
    (λ h. record { columns = h.0; moduli = h.1 })
    (λ d. (d.columns, d.moduli))
    (by_and (by_all n (λ j. divides q (column_sum R p j)) (λ j. q ∣ℤ column_sum R p j) (λ j. by_divides q (column_sum R p j)))
    (by_all R.m (λ i. divides q (p i *ℤ R.modulus i)) (λ i. q ∣ℤ (p i *ℤ R.modulus i)) (λ i. by_divides q (p i *ℤ R.modulus i))))

by_constants : (R : Rows) (q : ℤ) (p : ℕ → ℤ) → Decides (not (divides q (constant_sum R p))) (q ∣ℤ constant_sum R p → ⊥)
by_constants R q p = by_not (by_divides q (constant_sum R p))

-- One test of several --------------------------------------------------------------------------------------------------

pass : {t : Bool} {P : Type 0} (k : Refusal) (rest : Option Refusal) → Decides t P → P → unless t k rest ≡ rest
pass k rest d h = ap (λ (t : Bool). unless t k rest) (d.is h)

fail : {t : Bool} {P : Type 0} (k : Refusal) (rest : Option Refusal) → Decides t P → (P → ⊥) → unless t k rest ≡ Some k
fail k rest d h = ap (λ (t : Bool). unless t k rest) (decides_false d h)

-- the first refusal, if there is one
abbrev pub first_of : Option Refusal → Option Refusal → Option Refusal
first_of None later = later
first_of (Some k) later = Some k

later : (s t u : Bool) (i j k : Refusal) (rest : Option Refusal) → unless s i (unless t j (unless u k rest)) ≡ first_of (unless s i (unless t j (unless u k None))) rest
later false t u i j k rest = refl
later true false u i j k rest = refl
later true true false i j k rest = refl
later true true true i j k rest = refl

-- Cases ----------------------------------------------------------------------------------------------------------------

module _ (n ma mb : ℕ) (a b : List ℤ) (q : ℤ) (p : List ℤ) (long : ℕ) where
  abbrev R : Rows
  R = rows_of n ma mb a b

  abbrev Case : Option Refusal → Type 0
  Case r = Says n ma mb a b q p long (number_or_none r)

  test : (t : Bool) (k : Refusal) (rest : Option Refusal) {H : Type 0} → Decides t H → ((H → ⊥) → Case (Some k)) → (H → Case rest) → Case (unless t k rest)
  test true k rest d refused passed = passed (d.yes refl)
  test false k rest d refused passed = refused (decides_no d refl)

  pub refusal_says : Case (refusal n ma mb a b q p long)
  unfolding refusal vector_refusal sums_refusal
  refusal_says =
      test _ _ _ (by_shape n ma mb a b) says_1 (λ s.
      test _ _ _ (by_eq long n) (says_2 s) (λ l.
      test _ _ _ (by_well_formed n ma mb a b) (says_3 s l) (λ w.
      test _ _ _ (by_vector (ma + mb) q p) (says_4 w l) (λ v.
      test _ _ _ (by_numerators (ma + mb) (numerator p)) (says_5 w l v) (λ u.
      test _ _ _ (by_sums n R q (numerator p)) (says_6 w l v u) (λ d.
      test _ _ _ (by_constants R q (numerator p)) (λ h. says_7 w l v u d (decides_stable (by_divides q (constant_sum R (numerator p))) h)) (λ h.
      says_0 (record { well-formed = w; vector = v; numerators = u; refutes = record { columns = d.columns; moduli = d.moduli; constants = h } }) l)))))))

  -- the tests that are left once some have passed
  pub at_vector : WellFormed n ma mb a b → long ≡ n → refusal n ma mb a b q p long ≡ vector_refusal n R q p
  unfolding refusal
  at_vector w l = pass _ _ (by_shape n ma mb a b) w.shape ∙ pass _ _ (by_eq long n) l ∙ pass _ _ (by_well_formed n ma mb a b) w

  at_sums : WellFormed n ma mb a b → long ≡ n → Vector (ma + mb) q p → Numerators (ma + mb) (numerator p) → refusal n ma mb a b q p long ≡ sums_refusal n R q (numerator p)
  unfolding vector_refusal
  at_sums w l v u = at_vector w l ∙ pass _ _ (by_vector (ma + mb) q p) v ∙ pass _ _ (by_numerators (ma + mb) (numerator p)) u

  pub refusal_is : {k : ℕ} → Says n ma mb a b q p long k → refusal_number n ma mb a b q p long ≡ k
  unfolding refusal vector_refusal sums_refusal
  refusal_is (says_1 h) = ap number_or_none (fail _ _ (by_shape n ma mb a b) h)
  refusal_is (says_2 s h) = ap number_or_none (pass _ _ (by_shape n ma mb a b) s ∙ fail _ _ (by_eq long n) h)
  refusal_is (says_3 s l h) = ap number_or_none (pass _ _ (by_shape n ma mb a b) s ∙ pass _ _ (by_eq long n) l ∙ fail _ _ (by_well_formed n ma mb a b) h)
  refusal_is (says_4 w l h) = ap number_or_none (at_vector w l ∙ fail _ _ (by_vector (ma + mb) q p) h)
  refusal_is (says_5 w l v h) = ap number_or_none (at_vector w l ∙ pass _ _ (by_vector (ma + mb) q p) v ∙ fail _ _ (by_numerators (ma + mb) (numerator p)) h)
  refusal_is (says_6 w l v u h) = ap number_or_none (at_sums w l v u ∙ fail _ _ (by_sums n R q (numerator p)) h)
  refusal_is (says_7 w l v u d h) = ap number_or_none (at_sums w l v u ∙ pass _ _ (by_sums n R q (numerator p)) d ∙ fail _ _ (by_constants R q (numerator p)) (λ f. f h))
  refusal_is (says_0 c l) = ap number_or_none (at_sums c.well-formed l c.vector c.numerators
      ∙ pass _ _ (by_sums n R q (numerator p)) (record { columns = c.refutes.columns; moduli = c.refutes.moduli })
      ∙ pass _ _ (by_constants R q (numerator p)) c.refutes.constants)

  says_none : {k : ℕ} → Says n ma mb a b q p long k → k ≡ 0 → Accepted n ma mb a b q p × (long ≡ n)
  says_none (says_1 h) e = absurd (omega arith)
  says_none (says_2 s h) e = absurd (omega arith)
  says_none (says_3 s l h) e = absurd (omega arith)
  says_none (says_4 w l h) e = absurd (omega arith)
  says_none (says_5 w l v h) e = absurd (omega arith)
  says_none (says_6 w l v u h) e = absurd (omega arith)
  says_none (says_7 w l v u d h) e = absurd (omega arith)
  says_none (says_0 c l) e = (c, l)

  pub refusal_none : refusal_number n ma mb a b q p long ≡ 0 → Accepted n ma mb a b q p × (long ≡ n)
  refusal_none = says_none refusal_says

  -- as the code has it: the refusals of the problem come first, then those of the vector, test by test
  pub after_problem : (r : Option Refusal) → r ≡ problem_refusal n ma mb a b (eqb long n) → first_of r (vector_refusal n R q p) ≡ refusal n ma mb a b q p long
  unfolding refusal problem_refusal
  after_problem r e = ap (λ (x : Option Refusal). first_of x (vector_refusal n R q p)) e ∙ sym (later (shape n ma mb a b) (eqb long n) (well_formed n ma mb a b) _ _ _ (vector_refusal n R q p))

  pub by_tests : (s t u v : Bool) → s ≡ is_vector (ma + mb) q p → t ≡ are_numerators (ma + mb) (numerator p) → u ≡ divides_sums n R q (numerator p) → v ≡ divides q (constant_sum R (numerator p)) →
      unless s WrongVector (unless t NumeratorOutOfRange (unless u SumNotDivided (unless (not v) ConstantsDivided None))) ≡ vector_refusal n R q p
  unfolding vector_refusal sums_refusal
  by_tests s t u v e f g h =
      ap₂ (λ s t. unless s WrongVector (unless t NumeratorOutOfRange (unless u SumNotDivided (unless (not v) ConstantsDivided None)))) e f
      ∙ ap₂ (λ u v. unless (is_vector (ma + mb) q p) WrongVector (unless (are_numerators (ma + mb) (numerator p)) NumeratorOutOfRange (unless u SumNotDivided (unless (not v) ConstantsDivided None)))) g h
