-- Going back over the pivot columns, with the numerators as a function of the row. The row that refutes is the current one; e is its
-- pivot, 0 if it has none, and r its residual.
--
--     Back k p μ           the numerators p, when pivot columns from k on are done and the numbers were multiplied by μ in all
--       columns            μ e divides the column sums of the columns done; for e = 0 they are 0
--       later  earlier     rows after the refuting one have numerator 0, and so have rows before all pivots that are done
--       here  scale        the refuting row has numerator μ, which is above 0
--     back_start           numerator 1 at the refuting row
--     back_step            one pivot column more
--     back_columns         at the end: μ e divides every column sum of the rows as they were entered
--     back_constants       e does not divide r: μ e does not divide the sum of p × d
--     back_none            the same for e = 0: every q divides the column sums, and the sum of p × d is not 0
--
-- Assumes nothing.
use mathlib.Core.Path.{◌≡◌, refl, sym, ◌∙◌, ap, ap₂, subst}
use mathlib.Core.List.{[], ◌∷◌}
use Prim.Native.Nat.{ℕ, suc, ◌<◌, ◌≤◌}
use native.Mathlib.Decide.{ℕ_discrete, dec_lt}
use native.Mathlib.Omega.{arith}
use lib.IntN.{ℤ, pos, neg_ℤ, ◌+ℤ◌, ◌-ℤ◌, ◌*ℤ◌, *ℤ-zero, zero-*ℤ}
use Rattle.integers.specs.Range.{Positive}
use Rattle.integers.specs.Divisibility.{◌∣ℤ◌}
use Rattle.integers.specs.Sum.{dot}
use Rattle.integers.proofs.Laws.Ring.{from1, one_mul}
use Rattle.integers.proofs.Laws.Normaliser.{ring!, quote}
use Rattle.integers.proofs.Laws.Order.{positive_mul, positive_ne}
use Rattle.integers.proofs.Laws.Divisibility.{∣_refl, ∣_sub, ∣_eq, ∣_of_zero, ∣_scale, ∣_cancel, zero-∣}
use Rattle.integers.proofs.Laws.Sum.{sum_one, sum_change, sum_scale, dot_exchange, dot-divides}
use Rattle.search.proofs.Laws.Columns.{Table}
use Rattle.search.proofs.Laws.Faithful.{Faithful}

pub record Back (m N : ℕ) (T : Table) (row count : ℕ) (pivot : ℕ → ℕ) (e : ℤ) (k : ℕ) (p : ℕ → ℤ) (μ : ℤ) : Type 0 where
  pub columns : (j : ℕ) → k ≤ j → j < N → (μ *ℤ e) ∣ℤ dot m p (λ i. T i j)
  pub later : (i : ℕ) → row < i → i < m → p i ≡ pos 0
  pub earlier : (i : ℕ) → i < row → ((l : ℕ) → k ≤ l → l < count → i < pivot l) → p i ≡ pos 0
  pub here : p row ≡ μ
  pub scale : Positive μ

module _ {m N : ℕ} {C : Table} {d : ℕ → ℤ} {T : Table} {row count : ℕ} {pivot : ℕ → ℕ} {z : ℕ → ℤ} (f : Faithful m N C d T row count pivot z) (now : row < m) (e : ℤ) where
  pub back_start : (p : ℕ → ℤ) → p row ≡ pos 1 → ((i : ℕ) → i < m → (i ≡ row → ⊥) → p i ≡ pos 0) →
      (count < N → T row count ≡ e) → ((j : ℕ) → count < j → j < N → T row j ≡ pos 0) → Back m N T row count pivot e count p (pos 1)
  back_start p one none entry zeros = record {
    columns = λ j l h. ∣_eq (sym (only j)) (elim (ℕ_discrete j count) [
      | yes q ↦ ∣_eq (one_mul e ∙ sym (entry (omega arith)) ∙ ap (T row) (sym q)) (∣_refl (pos 1 *ℤ e))
      | no q ↦ ∣_of_zero (pos 1 *ℤ e) (zeros j (omega arith) h)
    ]);
    later = λ i l h. none i h (omega arith);
    earlier = λ i l h. none i (omega arith) (omega arith);
    here = one;
    scale = record { by = 0; is = refl };
  }
    where
      only : (j : ℕ) → dot m p (λ i. T i j) ≡ T row j
      only j = sum_one m (λ i. p i *ℤ T i j) row now (λ i l q. ap (λ x. x *ℤ T i j) (none i l q) ∙ zero-*ℤ (T i j)) ∙ ap (λ x. x *ℤ T row j) one ∙ one_mul (T row j)

  -- from p to new: all numerators times y, and that of the pivot's row is x
  module _ (k : ℕ) (standing : k < count) (p new : ℕ → ℤ) (μ y x : ℤ) (b : Back m N T row count pivot e (suc k) p μ)
      (rest : (i : ℕ) → i < m → (i ≡ pivot k → ⊥) → new i ≡ y *ℤ p i) (set : new (pivot k) ≡ x) where
    free : p (pivot k) ≡ pos 0
    free = b.earlier (pivot k) (f.under k standing) (λ l h r. f.rise k l h r)

    column : (j : ℕ) → dot m new (λ i. T i j) ≡ y *ℤ dot m p (λ i. T i j) +ℤ x *ℤ T (pivot k) j
    column j = let u = f.under k standing in
        sum_change m (λ i. y *ℤ (p i *ℤ T i j)) (λ i. new i *ℤ T i j) (pivot k) (omega arith) (λ i l q. ap (λ t. t *ℤ T i j) (rest i l q) ∙ ring! (y ∷ p i ∷ T i j ∷ []) (search quote depth 40 fits 20000) tt)
        ∙ ap₂ (λ s t. s +ℤ t) (sum_scale m y (λ i. p i *ℤ T i j)) (ap₂ (λ s t. s *ℤ T (pivot k) j -ℤ y *ℤ (t *ℤ T (pivot k) j)) set free)
        ∙ ring! (y ∷ dot m p (λ i. T i j) ∷ x ∷ T (pivot k) j ∷ []) (search quote depth 40 fits 20000) tt

    pub back_step : Positive y → x *ℤ T (pivot k) k ≡ neg_ℤ (y *ℤ dot m p (λ i. T i k)) → Back m N T row count pivot e k new (y *ℤ μ)
    back_step above zero-sum = let u = f.under k standing in record {
      columns = λ j l h. ∣_eq (sym (column j)) (elim (ℕ_discrete j k) [
        | yes q ↦ ∣_of_zero ((y *ℤ μ) *ℤ e)
            (ap (λ (c : ℕ). y *ℤ dot m p (λ i. T i c) +ℤ x *ℤ T (pivot k) c) q ∙ ap (λ t. y *ℤ dot m p (λ i. T i k) +ℤ t) zero-sum
            ∙ ring! (y ∷ dot m p (λ i. T i k) ∷ []) (search quote depth 40 fits 20000) tt)
        | no q ↦ ∣_eq
            (sym (ap (λ t. y *ℤ dot m p (λ i. T i j) +ℤ x *ℤ t) (f.right k j standing (omega arith) h)
            ∙ ring! (y ∷ dot m p (λ i. T i j) ∷ x ∷ []) (search quote depth 40 fits 20000) tt))
            (subst (λ t. t ∣ℤ (y *ℤ dot m p (λ i. T i j))) (ring! (y ∷ μ ∷ e ∷ []) (search quote depth 40 fits 20000) tt) (∣_scale y (b.columns j (omega arith) h)))
      ]);
      later = λ i l h. rest i h (omega arith) ∙ ap (λ t. y *ℤ t) (b.later i l h) ∙ *ℤ-zero y;
      earlier = λ i l h. let w = h k (omega arith) standing in
          rest i (omega arith) (omega arith) ∙ ap (λ t. y *ℤ t) (b.earlier i l (λ c r s. h c (omega arith) s)) ∙ *ℤ-zero y;
      here = rest row now (omega arith) ∙ ap (λ t. y *ℤ t) b.here;
      scale = positive_mul above b.scale;
    }

  module _ (p : ℕ → ℤ) (μ r : ℤ) (b : Back m N T row count pivot e 0 p μ) (residual : d row ≡ r +ℤ dot count (T row) z) where
    -- the column sums times z
    weighted : ℤ
    weighted = dot count (λ k. dot m p (λ i. T i k)) z

    value : dot m p d ≡ weighted +ℤ μ *ℤ r
    unfolding weighted
    value =
        sum_change m (λ i. p i *ℤ dot count (T i) z) (λ i. p i *ℤ d i) row now (λ i l q. elim (dec_lt i row) [
          | yes h ↦ ap (λ x. p i *ℤ x) (sym (f.met i h))
          | no h ↦ let o = b.later i (omega arith) l in ap (λ x. x *ℤ d i) o ∙ zero-*ℤ (d i) ∙ sym (zero-*ℤ (dot count (T i) z)) ∙ ap (λ x. x *ℤ dot count (T i) z) (sym o)
        ])
        ∙ ap₂ (λ s t. s +ℤ (t *ℤ d row -ℤ t *ℤ dot count (T row) z)) (dot_exchange m count p z T) b.here
        ∙ from1 μ residual (ring! (dot count (λ k. dot m p (λ i. T i k)) z ∷ μ ∷ d row ∷ r ∷ dot count (T row) z ∷ []) (search quote depth 40 fits 20000) tt)

    weighted_divides : (μ *ℤ e) ∣ℤ weighted
    unfolding weighted
    weighted_divides = let c = f.count_in in dot-divides count (μ *ℤ e) (λ k. dot m p (λ i. T i k)) z (λ k l. b.columns k (omega arith) (omega arith))

    pub back_columns : (j : ℕ) → j < N → (μ *ℤ e) ∣ℤ dot m p (λ i. C i j)
    back_columns = f.divides_back p (μ *ℤ e) (λ j l. b.columns j (omega arith) l)

    pub back_constants : (e ∣ℤ r → ⊥) → (μ *ℤ e) ∣ℤ dot m p d → ⊥
    back_constants fails h = fails (∣_cancel μ (positive_ne b.scale) (∣_eq (minus (dot m p d) weighted (μ *ℤ r) value) (∣_sub h weighted_divides)))
      where
        minus : (x y w : ℤ) → x ≡ y +ℤ w → x -ℤ y ≡ w
        minus x y w q = from1 (pos 1) q (ring! (x ∷ y ∷ w ∷ []) (search quote depth 40 fits 20000) tt)

    pub back_none : e ≡ pos 0 → (e ∣ℤ r → ⊥) → ((q : ℤ) (j : ℕ) → j < N → q ∣ℤ dot m p (λ i. C i j)) × (dot m p d ≡ pos 0 → ⊥)
    back_none none fails = ((λ q. f.divides_back p q (λ j l. ∣_of_zero q (zero-∣ (vanishes j l)))), (λ h. back_constants fails (∣_of_zero (μ *ℤ e) h)))
      where
        vanishes : (j : ℕ) → j < N → pos 0 ∣ℤ dot m p (λ i. T i j)
        vanishes j l = subst (λ x. x ∣ℤ dot m p (λ i. T i j)) (ap (λ x. μ *ℤ x) none ∙ *ℤ-zero μ) (b.columns j (omega arith) l)
