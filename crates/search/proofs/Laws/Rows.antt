-- The rows, and the table at the start in which they stand: what holds at the start, and what an answer about this table says of the
-- rows.
--
--     refutes_rows     a vector that refutes the table at the start refutes the rows
--     solves_rows      a point that solves the table at the start meets the rows
--     start_right      the start of a well-formed problem is right
--
-- Assumes nothing.
use mathlib.Core.Path.{◌≡◌, refl, sym, ap, ap₂, subst, ◌∙◌}
use mathlib.Core.List.{List, [], ◌∷◌}
use mathlib.Core.Bool.{Bool, true, false, cond}
use Prim.Native.Nat.{ℕ, zero, suc, ◌+◌, ◌*◌, ◌-◌, ◌/◌, ◌%◌, ◌≤◌, ◌<◌}
use native.Mathlib.Omega.{arith}
use native.Mathlib.Decide.{ℕ_discrete, dec_lt}
use borrow.Author.Tests.{lt-ltb}
use lib.Dec.{ltb}
use lib.ListN.{length-replicate}
use lib.IntN.{ℤ, pos, negsuc, neg_ℤ, ◌+ℤ◌, ◌-ℤ◌, ◌*ℤ◌, *ℤ-zero}
use Rattle.integers.specs.Range.{is_zero}
use Rattle.integers.specs.Divisibility.{◌∣ℤ◌}
use Rattle.integers.specs.Sum.{sum, dot}
use Rattle.integers.proofs.Laws.Ring.{from1, mul_one}
use Rattle.integers.proofs.Laws.Normaliser.{ring!, quote}
use Rattle.integers.proofs.Laws.Divisibility.{∣_refl, ∣_eq, ∣_neg, ∣_of_zero, ∣_mulʳ}
use Rattle.integers.proofs.Laws.Sum.{sum_ext, sum_one, sum_split, sum-divides}
use Rattle.integers.proofs.Laws.Decide.{by_zero, decides_no, decides_stable}
use Rattle.integers.proofs.Laws.Run.{tabulate-at}
use Rattle.problem.specs.Rows.{Rows, rows_of}
use Rattle.problem.specs.Points.{Meets}
use Rattle.problem.specs.WellFormed.{WellFormed}
use Rattle.checker.specs.Refutation.{Refutes}
use Rattle.search.specs.Table.{cell}
use Rattle.search.specs.State.{congruences, own_column, width_of, upper_cell, start_cell, start_table, given_of, start, const_of}
use Rattle.search.proofs.Laws.Start.{congruences_few, upper_coef, upper_modulus, upper_zero, start_row, start_one, start_off, start_sound}
use Rattle.search.proofs.Laws.Fuel.{fuel_start}
use Rattle.search.proofs.Laws.Faithful.{Faithful}
use Rattle.search.proofs.Laws.Refuting.{RefutesTable}
use Rattle.search.proofs.Laws.Kept.{SolvesTable, Right}

-- Congruences ----------------------------------------------------------------------------------------------------------

module _ (l : ℕ → ℤ) where
  one_more : (i : ℕ) → (l i ≡ pos 0 → ⊥) → congruences l (suc i) ≡ suc (congruences l i)
  unfolding congruences
  one_more i some = go (is_zero (l i)) refl
    where
      go : (b : Bool) → is_zero (l i) ≡ b → congruences l i + cond b 0 1 ≡ suc (congruences l i)
      go true e = absurd (some ((by_zero (l i)).yes e))
      go false e = omega arith

  no_less : (k i : ℕ) → congruences l i ≤ congruences l (k + i)
  unfolding congruences
  no_less zero i = let e : 0 + i ≡ i = omega arith in rw e (omega arith)
  no_less (suc k) i = let e : suc k + i ≡ suc (k + i) = omega arith in let h = no_less k i in rw e (omega arith)

  -- a congruence counts before every later row
  rise : (i j : ℕ) → i < j → (l i ≡ pos 0 → ⊥) → congruences l i < congruences l j
  rise i j h some =
      let e : (j - suc i) + suc i ≡ j = omega arith in
      let r = subst (λ (x : ℕ). congruences l (suc i) ≤ congruences l x) e (no_less (j - suc i) (suc i)) in
      let m = one_more i some in
      omega arith

-- The table at the start -------------------------------------------------------------------------------------------------

module _ (n : ℕ) (R : Rows) (i j : ℕ) where
  -- 0 in a column that is not of the row's own congruence
  upper_else : n ≤ j → ((R.modulus i ≡ pos 0 → ⊥) → j ≡ own_column n R i → ⊥) → upper_cell n R i j ≡ pos 0
  upper_else h other = elim (ℕ_discrete j (own_column n R i)) [
    | yes e ↦ upper_modulus n R i j h e ∙ decides_stable (by_zero (R.modulus i)) (λ some. other some e)
    | no d ↦ upper_zero n R i j h d
  ]

  -- the modulus divides what stands past the variables
  upper_divides : n ≤ j → R.modulus i ∣ℤ upper_cell n R i j
  upper_divides h = elim (ℕ_discrete j (own_column n R i)) [
    | yes e ↦ ∣_eq (sym (upper_modulus n R i j h e)) (∣_refl (R.modulus i))
    | no d ↦ ∣_of_zero (R.modulus i) (upper_zero n R i j h d)
  ]

  start-at : i < 36 → j < 24 → cell (start_table n R) i j ≡ start_cell n R i j
  unfolding start_table
  start-at h l =
      let d : (i * 24 + j) / 24 ≡ i = omega arith in
      let r : (i * 24 + j) % 24 ≡ j = omega arith in
      tabulate-at 864 (λ k. start_cell n R (k / 24) (k % 24)) (i * 24 + j) (omega arith) ∙ ap₂ (start_cell n R) d r

module _ (n : ℕ) (R : Rows) (few_n : n ≤ 12) (few_m : R.m ≤ 12) where
  abbrev N : ℕ
  N = width_of n R

  wide : N ≤ 24
  wide = let c = congruences_few R.modulus R.m in omega arith

  upper_is : (i j : ℕ) → i < R.m → j < 24 → cell (start_table n R) i j ≡ upper_cell n R i j
  upper_is i j h l = start-at n R i j (omega arith) l ∙ start_row n R i j h

  start_faithful : (d : ℕ → ℤ) (pivot : ℕ → ℕ) (z : ℕ → ℤ) → Faithful R.m N (upper_cell n R) d (cell (start_table n R)) 0 0 pivot z
  start_faithful d pivot z = let w = wide in record {
    few = few_m;
    wide = w;
    row_in = omega arith;
    count_row = omega arith;
    count_in = omega arith;
    unused = λ i j l h r. upper_is i j l r ∙ upper_else n R i j (omega arith) (λ some e. let c = rise R.modulus i R.m l some in omega arith);
    product = λ i j l h. upper_is i j l (omega arith) ∙ sym (
        sum_one N (λ k. upper_cell n R i k *ℤ cell (start_table n R) (12 + k) j) j h
        (λ k r d. ap (λ x. upper_cell n R i k *ℤ x) (start-at n R (12 + k) j (omega arith) (omega arith) ∙ start_off n R (12 + k) j (omega arith) (omega arith)) ∙ *ℤ-zero (upper_cell n R i k))
        ∙ ap (λ x. upper_cell n R i j *ℤ x) (start-at n R (12 + j) j (omega arith) (omega arith) ∙ start_one n R (12 + j) j (omega arith) refl h) ∙ mul_one (upper_cell n R i j));
    divides_back = λ p q h j l. ∣_eq
        (sum_ext R.m (λ i. p i *ℤ cell (start_table n R) i j) (λ i. p i *ℤ upper_cell n R i j) (λ i r. ap (λ x. p i *ℤ x) (upper_is i j r (omega arith))))
        (h j l);
    positive = λ k l. absurd (omega arith);
    right = λ k j l. absurd (omega arith);
    closed = λ i j l. absurd (omega arith);
    under = λ k l. absurd (omega arith);
    rise = λ k l h r. absurd (omega arith);
    met = λ i l. absurd (omega arith);
  }

  const_is : (i : ℕ) → i < R.m → const_of (given_of n R) i ≡ R.const i
  unfolding given_of
  const_is i h = tabulate-at 12 (λ i. cond (ltb i R.m) (R.const i) (pos 0)) i (omega arith) ∙ ap (λ (b : Bool). cond b (R.const i) (pos 0)) (lt-ltb i R.m h)

  -- Refuted ----------------------------------------------------------------------------------------------------------

  -- numerators that are p at the m rows
  module _ (p numerators : ℕ → ℤ) (q : ℤ) (same : (i : ℕ) → i < R.m → numerators i ≡ p i) (r : RefutesTable (upper_cell n R) (given_of n R) p q) where
    -- the own columns of two congruences are apart
    apart : (i k : ℕ) → (k ≡ i → ⊥) → (R.modulus i ≡ pos 0 → ⊥) → (R.modulus k ≡ pos 0 → ⊥) → own_column n R i ≡ own_column n R k → ⊥
    apart i k d some other e = elim (dec_lt i k) [
      | yes h ↦ let c = rise R.modulus i k h some in omega arith
      | no h ↦ let c = rise R.modulus k i (omega arith) other in omega arith
    ]

    own : (i : ℕ) → i < R.m → (R.modulus i ≡ pos 0 → ⊥) → dot R.m p (λ k. upper_cell n R k (own_column n R i)) ≡ numerators i *ℤ R.modulus i
    own i l some =
        sum_one R.m (λ k. p k *ℤ upper_cell n R k (own_column n R i)) i l
        (λ k h d. ap (λ x. p k *ℤ x) (upper_else n R k (own_column n R i) (omega arith) (apart i k d some)) ∙ *ℤ-zero (p k))
        ∙ ap₂ (λ x y. x *ℤ y) (sym (same i l)) (upper_modulus n R i (own_column n R i) (omega arith) refl)

    modulus : (i : ℕ) → i < R.m → (b : Bool) → is_zero (R.modulus i) ≡ b → q ∣ℤ (numerators i *ℤ R.modulus i)
    unfolding given_of
    modulus i l true e = ∣_of_zero q (ap (λ x. numerators i *ℤ x) ((by_zero (R.modulus i)).yes e) ∙ *ℤ-zero (numerators i))
    modulus i l false e =
        let some = decides_no (by_zero (R.modulus i)) e in
        let c = rise R.modulus i R.m l some in
        ∣_eq (own i l some) (r.columns (own_column n R i) (omega arith))

    pub refutes_rows : Refutes n R q numerators
    unfolding given_of
    refutes_rows = record {
      columns = λ j l. ∣_eq
          (sum_ext R.m (λ i. p i *ℤ upper_cell n R i j) (λ i. numerators i *ℤ R.coef i j) (λ i h. ap₂ (λ x y. x *ℤ y) (sym (same i h)) (upper_coef n R i j l)))
          (r.columns j (omega arith));
      moduli = λ i l. modulus i l (is_zero (R.modulus i)) refl;
      constants = λ h. r.constants (∣_eq
          (sum_ext R.m (λ i. numerators i *ℤ R.const i) (λ i. p i *ℤ const_of (given_of n R) i) (λ i l. ap₂ (λ x y. x *ℤ y) (same i l) (sym (const_is i l))))
          h);
    }

  -- Solved -----------------------------------------------------------------------------------------------------------

  -- a point that is x at the n variables
  module _ (x point : ℕ → ℤ) (same : (k : ℕ) → k < n → point k ≡ x k) (s : SolvesTable (upper_cell n R) (given_of n R) x) where
    own_columns : ℕ
    own_columns = congruences R.modulus R.m

    past : ℕ → ℕ → ℤ
    past i k = upper_cell n R i (k + n) *ℤ s.places (k + n)

    row_is : (i : ℕ) → i < R.m → dot n (R.coef i) point +ℤ sum own_columns (past i) ≡ R.const i
    unfolding given_of own_columns past
    row_is i l =
        let c = congruences R.modulus R.m in
        let e : c + n ≡ n + c = omega arith in
        ap (λ y. y +ℤ sum c (λ k. upper_cell n R i (k + n) *ℤ s.places (k + n)))
        (sum_ext n (λ k. R.coef i k *ℤ point k) (λ k. upper_cell n R i k *ℤ s.places k) (λ k h. ap₂ (λ a b. a *ℤ b) (sym (upper_coef n R i k h)) (same k h ∙ s.same k h)))
        ∙ sym (sum_split n c (λ k. upper_cell n R i k *ℤ s.places k))
        ∙ ap (λ (w : ℕ). sum w (λ k. upper_cell n R i k *ℤ s.places k)) e ∙ s.rows i l ∙ const_is i l

    pub solves_rows : Meets n R point
    solves_rows = record {
      row = λ i l. ∣_eq
          (minus (dot n (R.coef i) point) (sum own_columns (past i)) (R.const i) (row_is i l))
          (∣_neg (sum-divides own_columns (R.modulus i) (past i) (λ k h. unfold past in ∣_mulʳ (s.places (k + n)) (upper_divides n R i (k + n) (omega arith)))));
    }
      where
        minus : (a b c : ℤ) → a +ℤ b ≡ c → neg_ℤ b ≡ a -ℤ c
        minus a b c e = from1 (negsuc 0) e (ring! (a ∷ b ∷ c ∷ []) (search quote depth 40 fits 20000) tt)

-- The start ------------------------------------------------------------------------------------------------------------

pub start_right : (n ma mb : ℕ) (a b : List ℤ) → WellFormed n ma mb a b → let R = rows_of n ma mb a b in Right (upper_cell n R) (start n R).outcome (start n R)
unfolding start given_of
start_right n ma mb a b w =
    let R = rows_of n ma mb a b in
    let bounded = (start_sound n ma mb a b w).bounded in
    record {
      zs_long = length-replicate 12 (pos 0);
      faithful = start_faithful n R w.shape.few_n w.shape.few_m (const_of (given_of n R)) _ _;
      fuel = fuel_start (cell (start_table n R) 0) 0 0 (λ j. bounded.place (0 * 24 + j)) (omega arith);
    }
