-- All rows, `both A B`, by side: the first a rows are A's, the b rows from a on are B's.
--
--     first       a row below a is A's
--     second      a row from a on is B's
--     both-dot    a product of two lists over all rows is the sum of those over A's rows and over B's
--     both_all    a test at all rows is the test at A's rows and at B's
--     number_is, modulus_is     a number in a column of a row, and a row's modulus, as they stand in the run
--
-- Assumes nothing.
use mathlib.Core.Path.{◌≡◌, ◌∙◌, ap, ap₂}
use mathlib.Core.Bool.{Bool, cond, ◌&&◌}
use mathlib.Core.List.{List}
use Prim.Native.Nat.{ℕ, ◌+◌, ◌*◌, ◌-◌, ◌<◌}
use native.Mathlib.Omega.{arith}
use borrow.Author.Tests.{lt-ltb, le-ltb}
use lib.Dec.{ltb}
use lib.IntN.{ℤ, pos, ◌+ℤ◌, ◌*ℤ◌}
use Rattle.integers.specs.Sum.{sum, dot}
use Rattle.integers.specs.Below.{all_below}
use Rattle.integers.specs.Run.{at}
use Rattle.integers.proofs.Laws.Sum.{sum_ext, sum_split}
use Rattle.integers.proofs.Laws.Below.{all_split, all_same}
use Rattle.problem.specs.Rows.{side_of, number_in}

module _ {X : Type 0} (a : ℕ) where
  pub first : (x y : X) (i : ℕ) → i < a → cond (ltb i a) x y ≡ x
  first x y i h = ap (λ (t : Bool). cond t x y) (lt-ltb i a h)

  pub second : (x : X) (y : ℕ → X) (i : ℕ) → cond (ltb (i + a) a) x (y (i + a - a)) ≡ y i
  second x y i = let e : i + a - a ≡ i = omega arith in ap (λ (t : Bool). cond t x (y (i + a - a))) (le-ltb (i + a) a (omega arith)) ∙ ap y e

pub both-dot : (a b : ℕ) (p x y : ℕ → ℤ) → dot (a + b) p (λ i. cond (ltb i a) (x i) (y (i - a))) ≡ dot a p x +ℤ dot b (λ i. p (i + a)) y
both-dot a b p x y =
    let e : a + b ≡ b + a = omega arith in
    ap (λ (k : ℕ). sum k (λ i. p i *ℤ cond (ltb i a) (x i) (y (i - a)))) e
    ∙ sum_split a b (λ i. p i *ℤ cond (ltb i a) (x i) (y (i - a)))
    ∙ ap₂ (λ s t. s +ℤ t)
    (sum_ext a (λ i. p i *ℤ cond (ltb i a) (x i) (y (i - a))) (λ i. p i *ℤ x i) (λ i l. ap (λ t. p i *ℤ t) (first a (x i) (y (i - a)) i l)))
    (sum_ext b (λ i. p (i + a) *ℤ cond (ltb (i + a) a) (x (i + a)) (y (i + a - a))) (λ i. p (i + a) *ℤ y i) (λ i l. ap (λ t. p (i + a) *ℤ t) (second a (x (i + a)) y i)))

pub both_all : (a b : ℕ) (t : ℤ → ℤ → Bool) (p x y : ℕ → ℤ) →
    all_below (a + b) (λ i. t (p i) (cond (ltb i a) (x i) (y (i - a)))) ≡ all_below a (λ i. t (p i) (x i)) && all_below b (λ i. t (p (i + a)) (y i))
both_all a b t p x y =
    all_split a b (λ i. t (p i) (cond (ltb i a) (x i) (y (i - a))))
    ∙ ap₂ (λ (u v : Bool). u && v)
    (all_same a (λ i. t (p i) (cond (ltb i a) (x i) (y (i - a)))) (λ i. t (p i) (x i)) (λ i l. ap (t (p i)) (first a (x i) (y (i - a)) i l)))
    (all_same b (λ i. t (p (i + a)) (cond (ltb (i + a) a) (x (i + a)) (y (i + a - a)))) (λ i. t (p (i + a)) (y i)) (λ i l. ap (t (p (i + a))) (second a (x (i + a)) y i)))

module _ (n m : ℕ) (run : List ℤ) where
  pub number_is : (i column : ℕ) → i < m → column < n + 2 → number_in n m run i column ≡ at run (i * (n + 2) + column)
  number_is i column h l = ap₂ (λ (s t : Bool). cond (s && t) (at run (i * (n + 2) + column)) (pos 0)) (lt-ltb i m h) (lt-ltb column (n + 2) l)

  pub modulus_is : (i : ℕ) → i < m → number_in n m run i (n + 1) ≡ (side_of n m run).modulus i
  modulus_is i h = let e : i * (n + 2) + (n + 1) ≡ i * (n + 2) + n + 1 = omega arith in number_is i (n + 1) h (omega arith) ∙ ap (at run) e
