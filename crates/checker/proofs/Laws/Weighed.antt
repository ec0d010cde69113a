-- What a vector makes of rows, and what follows for a point that meets them.
--
--     Rows            absent_column    what divides each p × l divides a column sum, if each row's modulus divides the coefficient there
--                     weighted         a point that meets the rows meets their weighted sum, modulo what divides each p × l
--                     no_point         where a vector refutes, no point meets the rows
--     Both sides      beyond           B's numerators, which stand after A's
--                     both_column      a column sum over all rows is A's and B's
--                     both_constant    so is the sum of p × d
--                     moduli_a         what divides each p × l of all rows divides it in A's
--                     moduli_b         and in B's
--     Raw fact        for tests of occurrence of which no more is known than `Absent`
--                     M-moduli         its modulus M divides p × l in each row of A
--                     M-column         M divides A's column sum at an A-local variable
--                     M-absent         and at one that does not occur in A, where it need not be 0
--                     M-unshared       so at every variable that is not shared
--                     M-rest           and A's column sums are the fact's coefficients, up to multiples of M
--                     raw_implied      the fact holds at every point that meets A, for any vector
--                     raw_excluded     and at none that meets B, where the vector refutes
--
-- Assumes nothing.
use mathlib.Core.Path.{◌≡◌, refl, sym, ◌∙◌, ap}
use mathlib.Core.List.{[], ◌∷◌}
use mathlib.Core.Bool.{Bool, true, false, not, cond, ◌&&◌, true≢false}
use Prim.Native.Nat.{ℕ, ◌+◌, ◌-◌, ◌<◌}
use native.Mathlib.Omega.{arith}
use lib.IntN.{ℤ, pos, ◌+ℤ◌, ◌-ℤ◌, ◌*ℤ◌}
use Rattle.integers.specs.Divisibility.{◌∣ℤ◌, Congruent}
use Rattle.integers.specs.Gcd.{gcd_from}
use Rattle.integers.specs.Sum.{dot}
use Rattle.integers.proofs.Laws.Normaliser.{ring!, quote}
use Rattle.integers.proofs.Laws.Divisibility.{∣_add, ∣_sub, ∣_trans, ∣_zero, ∣_eq, ∣_scale, congruent_refl, congruent-∣}
use Rattle.integers.proofs.Laws.Sum.{sum_ext, sum-add, sum-sub, sum-divides, dot_exchange, dot-divides, dot_near}
use Rattle.integers.proofs.Laws.Gcd.{gcd_from_start, gcd_from_each, gcd_from_greatest}
use Rattle.problem.specs.Rows.{Rows, both}
use Rattle.problem.specs.Points.{Meets}
use Rattle.problem.specs.Occurrence.{shared, local_a}
use Rattle.problem.proofs.Laws.Rows.{first, second, both-dot}
use Rattle.problem.proofs.Laws.Occurrence.{Absent}
use Rattle.checker.specs.Refutation.{column_sum, constant_sum, Refutes}
use Rattle.checker.specs.Fact.{Holds, modulus_of, raw_fact}

-- Rows -----------------------------------------------------------------------------------------------------------------

module _ (R : Rows) (p : ℕ → ℤ) (d : ℤ) (moduli : (i : ℕ) → i < R.m → d ∣ℤ (p i *ℤ R.modulus i)) where
  absent_column : (j : ℕ) → ((i : ℕ) → i < R.m → R.modulus i ∣ℤ R.coef i j) → d ∣ℤ column_sum R p j
  absent_column j h = sum-divides R.m d (λ i. p i *ℤ R.coef i j) (λ i l. ∣_trans (moduli i l) (∣_scale (p i) (h i l)))

  pub weighted : (n : ℕ) (X : ℕ → ℤ) → Meets n R X → Congruent d (dot n (column_sum R p) X) (constant_sum R p)
  weighted n X s = ∣_eq parts (sum-divides R.m d (λ i. p i *ℤ (value i -ℤ R.const i)) (λ i l. ∣_trans (moduli i l) (∣_scale (p i) (s.row i l))))
    where
      value : ℕ → ℤ
      value i = dot n (R.coef i) X

      parts : dot R.m p (λ i. value i -ℤ R.const i) ≡ dot n (column_sum R p) X -ℤ constant_sum R p
      parts = sum_ext R.m (λ i. p i *ℤ (value i -ℤ R.const i)) (λ i. p i *ℤ value i -ℤ p i *ℤ R.const i) (λ i l. ring! (p i ∷ value i ∷ R.const i ∷ []) (search quote depth 40 fits 20000) tt)
          ∙ sum-sub R.m (λ i. p i *ℤ value i) (λ i. p i *ℤ R.const i)
          ∙ ap (λ x. x -ℤ constant_sum R p) (dot_exchange R.m n p X R.coef)

pub no_point : (n : ℕ) (R : Rows) (q : ℤ) (p X : ℕ → ℤ) → Refutes n R q p → Meets n R X → ⊥
no_point n R q p X r s = r.constants (congruent-∣ q (dot n (column_sum R p) X) (constant_sum R p) (weighted R p q r.moduli n X s) (dot-divides n q (column_sum R p) X r.columns))

-- Both sides -----------------------------------------------------------------------------------------------------------

abbrev pub beyond : Rows → (ℕ → ℤ) → ℕ → ℤ
beyond A p i = p (i + A.m)

module _ (A B : Rows) (p : ℕ → ℤ) where
  both_column : (j : ℕ) → column_sum (both A B) p j ≡ column_sum A p j +ℤ column_sum B (beyond A p) j
  both_column j = both-dot A.m B.m p (λ i. A.coef i j) (λ i. B.coef i j)

  both_constant : constant_sum (both A B) p ≡ constant_sum A p +ℤ constant_sum B (beyond A p)
  both_constant = both-dot A.m B.m p A.const B.const

  module _ {q : ℤ} (moduli : (i : ℕ) → i < (both A B).m → q ∣ℤ (p i *ℤ (both A B).modulus i)) where
    pub moduli_a : (i : ℕ) → i < A.m → q ∣ℤ (p i *ℤ A.modulus i)
    moduli_a i l = ∣_eq (ap (λ x. p i *ℤ x) (first A.m (A.modulus i) (B.modulus (i - A.m)) i l)) (moduli i (omega arith))

    pub moduli_b : (i : ℕ) → i < B.m → q ∣ℤ (beyond A p i *ℤ B.modulus i)
    moduli_b i l = ∣_eq (ap (λ x. beyond A p i *ℤ x) (second A.m (A.modulus (i + A.m)) B.modulus i)) (moduli (i + A.m) (omega arith))

-- The raw fact ---------------------------------------------------------------------------------------------------------

module _ (n : ℕ) (in_a in_b : ℕ → Bool) (A : Rows) (p : ℕ → ℤ) where
  abbrev S : ℕ → ℤ
  S = column_sum A p

  abbrev K : ℤ
  K = constant_sum A p

  abbrev M : ℤ
  M = modulus_of n in_a in_b A p

  -- A's column sums at the A-local variables, whose gcd M begins with
  abbrev L : ℕ → ℤ
  L j = cond (local_a in_a in_b j) (column_sum A p j) (pos 0)

  -- the raw fact's coefficients: A's column sums at the shared variables
  abbrev F : ℕ → ℤ
  F = (raw_fact n in_a in_b A p).coef

  pub M-moduli : (i : ℕ) → i < A.m → M ∣ℤ (p i *ℤ A.modulus i)
  unfolding modulus_of
  M-moduli = gcd_from_each (gcd_from (pos 0) n L) A.m (λ i. p i *ℤ A.modulus i)

  pub M-column : (j : ℕ) → j < n → M ∣ℤ cond (local_a in_a in_b j) (column_sum A p j) (pos 0)
  unfolding modulus_of
  M-column j l = ∣_trans (gcd_from_start (gcd_from (pos 0) n L) A.m (λ i. p i *ℤ A.modulus i)) (gcd_from_each (pos 0) n L j l)

  module _ (absent-a : Absent in_a A) where
    M-absent : (j : ℕ) → in_a j ≡ false → M ∣ℤ column_sum A p j
    M-absent j e = absent_column A p M M-moduli j (absent-a j e)

    pub M-unshared : (j : ℕ) → j < n → shared in_a in_b j ≡ false → M ∣ℤ column_sum A p j
    M-unshared j l = go (in_a j) (in_b j) refl (M-column j l)
      where
        go : (a b : Bool) → in_a j ≡ a → M ∣ℤ cond (a && not b) (S j) (pos 0) → a && b ≡ false → M ∣ℤ S j
        go true true e h u = absurd (true≢false u)
        go true false e h u = h
        go false b e h u = M-absent j e

    pub M-rest : (j : ℕ) → j < n → Congruent M (column_sum A p j) ((raw_fact n in_a in_b A p).coef j)
    M-rest j l = go (shared in_a in_b j) refl
      where
        go : (t : Bool) → shared in_a in_b j ≡ t → Congruent M (S j) (cond t (S j) (pos 0))
        go true e = congruent_refl M (S j)
        go false e = ∣_sub (M-unshared j l e) (∣_zero M)

    pub raw_implied : (X : ℕ → ℤ) → Meets n A X → Holds n (raw_fact n in_a in_b A p) X
    raw_implied X s = record { by = dot_near n M S F X K K M-rest (congruent_refl M K) (weighted A p M M-moduli n X s) }

    module _ (B : Rows) (absent-b : Absent in_b B) (q : ℤ) (r : Refutes n (both A B) q p) where
      abbrev T : ℕ → ℤ
      T = column_sum B (beyond A p)

      -- A's part and B's part of a column
      column : (j : ℕ) → j < n → q ∣ℤ (S j +ℤ T j)
      column j l = ∣_eq (both_column A B p j) (r.columns j l)

      q_absent : (j : ℕ) → in_b j ≡ false → q ∣ℤ T j
      q_absent j e = absent_column B (beyond A p) q (moduli_b A B p r.moduli) j (absent-b j e)

      q_local : (j : ℕ) → j < n → q ∣ℤ L j
      q_local j l = go (in_a j) (in_b j) refl
        where
          go : (a b : Bool) → in_b j ≡ b → q ∣ℤ cond (a && not b) (S j) (pos 0)
          go true true e = ∣_zero q
          go true false e = ∣_eq (ring! (S j ∷ T j ∷ []) (search quote depth 40 fits 20000) tt) (∣_sub (column j l) (q_absent j e))
          go false b e = ∣_zero q

      q_modulus : q ∣ℤ M
      unfolding modulus_of
      q_modulus = gcd_from_greatest q (gcd_from (pos 0) n L) A.m (λ i. p i *ℤ A.modulus i) (gcd_from_greatest q (pos 0) n L (∣_zero q) q_local) (moduli_a A B p r.moduli)

      -- the fact's coefficient and B's part of the column
      q_rest : (j : ℕ) → j < n → q ∣ℤ (F j +ℤ T j)
      q_rest j l = ∣_eq (ring! (S j ∷ F j ∷ T j ∷ []) (search quote depth 40 fits 20000) tt) (∣_sub (column j l) (∣_trans q_modulus (M-rest j l)))

      pub raw_excluded : (X : ℕ → ℤ) → Meets n B X → Holds n (raw_fact n in_a in_b A p) X → ⊥
      raw_excluded X s h = r.constants (∣_eq (sym (both_constant A B p)) (join (dot n F X) (dot n T X) K (constant_sum B (beyond A p))
          (∣_eq dots (dot-divides n q (λ j. F j +ℤ T j) X q_rest)) (∣_trans q_modulus h.by) (weighted B (beyond A p) q (moduli_b A B p r.moduli) n X s)))
        where
          dots : dot n (λ j. F j +ℤ T j) X ≡ dot n F X +ℤ dot n T X
          dots = sum_ext n (λ j. (F j +ℤ T j) *ℤ X j) (λ j. F j *ℤ X j +ℤ T j *ℤ X j) (λ j l. ring! (F j ∷ T j ∷ X j ∷ []) (search quote depth 40 fits 20000) tt)
              ∙ sum-add n (λ j. F j *ℤ X j) (λ j. T j *ℤ X j)

          join : (a b k l : ℤ) → q ∣ℤ (a +ℤ b) → Congruent q a k → Congruent q b l → q ∣ℤ (k +ℤ l)
          join a b k l u v w = ∣_eq (ring! (a ∷ b ∷ k ∷ l ∷ []) (search quote depth 40 fits 20000) tt) (∣_sub u (∣_add v w))
