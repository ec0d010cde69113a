-- Rows.
--
--     Rows                m rows; row i has the coefficients coef i 0, coef i 1, .., the constant const i and the modulus modulus i
--     side_of n m run     a lent run read as m rows over n variables
--     number_in           the number in a column of a row of such a run: a coefficient below n, the constant at n, the modulus at n + 1
--     both A B            A's rows and then B's
--     rows_of             all rows of a problem, from its two lent runs
--
-- Rows and variables count from 0. The number n of variables stands outside: a row has coefficients for every j, and only
-- those below n are looked at.
use Rattle.std.specs.Prelude.{List, cond, ◌&&◌, ℕ, ◌+◌, ◌*◌, ◌-◌, ltb, ℤ, pos}
use Rattle.integers.specs.Run.{at}

pub record Rows : Type 0 where
  pub m : ℕ
  pub coef : ℕ → ℕ → ℤ
  pub const : ℕ → ℤ
  pub modulus : ℕ → ℤ

-- "A row is n coefficients, a constant d and a modulus l": row i is the n + 2 numbers from i × (n + 2) on.
abbrev pub side_of : ℕ → ℕ → List ℤ → Rows
side_of n m run = record {
  m = m;
  coef = λ i j. at run (i * (n + 2) + j);
  const = λ i. at run (i * (n + 2) + n);
  modulus = λ i. at run (i * (n + 2) + n + 1);
}

abbrev pub number_in : ℕ → ℕ → List ℤ → ℕ → ℕ → ℤ
number_in n m run i column = cond (ltb i m && ltb column (n + 2)) (at run (i * (n + 2) + column)) (pos 0)

abbrev pub both : Rows → Rows → Rows
both A B = record {
  m = A.m + B.m;
  coef = λ i j. cond (ltb i A.m) (A.coef i j) (B.coef (i - A.m) j);
  const = λ i. cond (ltb i A.m) (A.const i) (B.const (i - A.m));
  modulus = λ i. cond (ltb i A.m) (A.modulus i) (B.modulus (i - A.m));
}

abbrev pub rows_of : ℕ → ℕ → ℕ → List ℤ → List ℤ → Rows
rows_of n ma mb a b = both (side_of n ma a) (side_of n mb b)
