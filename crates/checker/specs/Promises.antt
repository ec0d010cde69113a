-- What the theorems of proofs/Theorems say of the definitions of this folder.
--
--     Accepted              the problem is well formed, the vector is in range, and it refutes all rows
--     Says long k           the case of refusal k, where the run for the coefficients is `long` long; that of 0 is Accepted, and the run
--                           n long
--     DividesSums           q divides every column sum and every p × l
--     Same n f g            f and g hold at the same points
--     IsNormal n f          f is TRUE, or FALSE, or an equality without common factor and with its first nonzero coefficient
--                           positive, or a congruence modulo 2 or more without common factor, all else in 0..modulus − 1
--     Demand                demand 2 of one call of `judge` whose vector is accepted
--     Completes             integers at the A-local variables, and one for each row, that make A's weighted row true; in_a and in_b say which
--                           variables occur in A and in B
use Rattle.std.specs.Prelude.{◌≡◌, List, Bool, true, false, Ok, ℕ, ◌+◌, ◌<◌, ℤ, pos, ◌+ℤ◌, ◌*ℤ◌, ◌≤ℤ◌, ◌<ℤ◌}
use Rattle.integers.specs.Divisibility.{◌∣ℤ◌}
use Rattle.integers.specs.Gcd.{gcd_from}
use Rattle.integers.specs.Sum.{dot}
use Rattle.integers.specs.Run.{tabulate}
use Rattle.problem.specs.Rows.{Rows, side_of, rows_of}
use Rattle.problem.specs.Points.{Meets}
use Rattle.problem.specs.WellFormed.{Shape, WellFormed}
use Rattle.problem.specs.Occurrence.{occurs, shared, local_a}
use Rattle.checker.specs.Refutation.{column_sum, constant_sum, Refutes, numerator, Vector, Numerators}
use Rattle.checker.specs.Fact.{Fact, Holds}
use Rattle.checker.specs.NormalForm.{first_nonzero}
use Rattle.checker.specs.Answer.{interpolant_for, stated, judge_answer, judge_run}

pub record DividesSums (n : ℕ) (R : Rows) (q : ℤ) (p : ℕ → ℤ) : Type 0 where
  pub columns : (j : ℕ) → j < n → q ∣ℤ column_sum R p j
  pub moduli : (i : ℕ) → i < R.m → q ∣ℤ (p i *ℤ R.modulus i)

module _ (n ma mb : ℕ) (a b : List ℤ) (q : ℤ) (p : List ℤ) where
  abbrev R : Rows
  R = rows_of n ma mb a b

  pub record Accepted : Type 0 where
    pub well-formed : WellFormed n ma mb a b
    pub vector : Vector (ma + mb) q p
    pub numerators : Numerators (ma + mb) (numerator p)
    pub refutes : Refutes n R q (numerator p)

  pub data Says (long : ℕ) : ℕ → Type 0 where
    says_1 : (Shape n ma mb a b → ⊥) → Says long 1
    says_2 : Shape n ma mb a b → (long ≡ n → ⊥) → Says long 2
    says_3 : Shape n ma mb a b → long ≡ n → (WellFormed n ma mb a b → ⊥) → Says long 3
    says_4 : WellFormed n ma mb a b → long ≡ n → (Vector (ma + mb) q p → ⊥) → Says long 4
    says_5 : WellFormed n ma mb a b → long ≡ n → Vector (ma + mb) q p → (Numerators (ma + mb) (numerator p) → ⊥) → Says long 5
    says_6 : WellFormed n ma mb a b → long ≡ n → Vector (ma + mb) q p → Numerators (ma + mb) (numerator p) → (DividesSums n R q (numerator p) → ⊥) → Says long 6
    says_7 : WellFormed n ma mb a b → long ≡ n → Vector (ma + mb) q p → Numerators (ma + mb) (numerator p) → DividesSums n R q (numerator p) → q ∣ℤ constant_sum R (numerator p) → Says long 7
    says_0 : Accepted → long ≡ n → Says long 0

pub record Same (n : ℕ) (f g : Fact) : Type 0 where
  pub to : (X : ℕ → ℤ) → Holds n f X → Holds n g X
  pub from : (X : ℕ → ℤ) → Holds n g X → Holds n f X

pub data IsNormal (n : ℕ) (f : Fact) : Type 0 where
  is_true : ((j : ℕ) → j < n → f.coef j ≡ pos 0) → f.const ≡ pos 0 → f.modulus ≡ pos 0 → IsNormal n f
  is_false : ((j : ℕ) → j < n → f.coef j ≡ pos 0) → f.const ≡ pos 1 → f.modulus ≡ pos 0 → IsNormal n f
  is_equality : f.modulus ≡ pos 0 → gcd_from (pos 0) n f.coef ≡ pos 1 → pos 0 <ℤ first_nonzero n f.coef → IsNormal n f
  is_congruence : pos 2 ≤ℤ f.modulus → gcd_from f.modulus n f.coef ≡ pos 1 →
      ((j : ℕ) → j < n → (pos 0 ≤ℤ f.coef j) × (f.coef j <ℤ f.modulus)) → (pos 0 ≤ℤ f.const) × (f.const <ℤ f.modulus) → IsNormal n f

-- y is X but at the A-local variables, where it has any integers, and v has an integer for each row, so that
-- S·y + the sum of p × l × v is K. An equation's l is 0, so that only a congruence's v counts.
pub record Completes (n : ℕ) (in_a in_b : ℕ → Bool) (A : Rows) (p X : ℕ → ℤ) : Type 0 where
  pub y : ℕ → ℤ
  pub v : ℕ → ℤ
  pub keeps : (j : ℕ) → j < n → local_a in_a in_b j ≡ false → y j ≡ X j
  pub row : dot n (column_sum A p) y +ℤ dot A.m (λ i. p i *ℤ A.modulus i) v ≡ constant_sum A p

-- `entry` is the lent run as the call finds it
module _ (n ma mb : ℕ) (a b : List ℤ) (q : ℤ) (p entry : List ℤ) where
  abbrev A : Rows
  A = side_of n ma a

  abbrev B : Rows
  B = side_of n mb b

  abbrev fact : Fact
  fact = interpolant_for n ma mb a b p

  pub record Demand : Type 0 where
    -- the vector is a refutation within the ranges, so no point meets both sides
    pub accepted : Accepted n ma mb a b q p
    pub no_point : (X : ℕ → ℤ) → Meets n A X → Meets n B X → ⊥
    -- the call answers the interpolant's constant and modulus, and its run then holds the coefficients
    pub answered : judge_answer n ma mb a b q p entry ≡ Ok (stated fact)
    pub written : judge_run n ma mb a b q p entry ≡ tabulate n fact.coef
    -- in normal form
    pub normal : IsNormal n fact
    -- every integer point of A meets it, none of B does
    pub implied : (X : ℕ → ℤ) → Meets n A X → Holds n fact X
    pub excluded : (X : ℕ → ℤ) → Meets n B X → Holds n fact X → ⊥
    -- only variables that occur in both carry a coefficient
    pub only_shared : (j : ℕ) → (fact.coef j ≡ pos 0 → ⊥) → shared (occurs A) (occurs B) j ≡ true
    -- and it loses nothing of A's weighted row: the largest modulus
    pub projected : (X : ℕ → ℤ) → let completed = Completes n (occurs A) (occurs B) A (numerator p) X in (completed → Holds n fact X) × (Holds n fact X → completed)
