-- Operations on columns. A table is a function of row and column here, and an operation works on each of its 36 rows alike.
--
--     Table                such a function
--     Mixture c N x T      the column x is, in every row, α × column a + β × column b of T, with a and b among columns c, .., N - 1
--     Operation c N T U    U is T after an operation on columns c, .., N - 1: the others stay, each new column is a mixture of old
--                          ones, and each old column is a mixture of new ones
--     Steps                subtract_operation  swap_operation  negate_operation     the three of a step, on a run of 864 cells
--     Kept                 operation_combines   a row that is a combination of other rows stays that combination
--                          operation_divides    what divides every column sum of p × U divides every column sum of p × T
--                          operation_zeros      a row that is 0 from a column on stays so
--
-- Assumes nothing.
use mathlib.Core.Path.{◌≡◌, sym, ◌∙◌, ap, ap₂}
use mathlib.Core.List.{List, [], ◌∷◌}
use Prim.Native.Nat.{ℕ, ◌+◌, ◌<◌, ◌≤◌}
use native.Mathlib.Decide.{ℕ_discrete, dec_lt}
use native.Mathlib.Omega.{arith}
use lib.ListN.{length}
use lib.IntN.{ℤ, pos, negsuc, neg_ℤ, ◌+ℤ◌, ◌*ℤ◌}
use Rattle.integers.specs.Divisibility.{◌∣ℤ◌}
use Rattle.integers.specs.Sum.{dot}
use Rattle.integers.proofs.Laws.Normaliser.{ring!, quote}
use Rattle.integers.proofs.Laws.Divisibility.{∣_eq, ∣_linear}
use Rattle.integers.proofs.Laws.Sum.{sum_ext, dot_combine}
use Rattle.search.specs.Table.{cell, less_times, subtract_column, swap_columns, negate_column}
use Rattle.search.proofs.Laws.Table.{subtract_cell, subtract_other, swap_first, swap_second, swap_other, negate_cell, negate_other}

abbrev pub Table : Type 0
Table = ℕ → ℕ → ℤ

pub record Mixture (c N : ℕ) (x : ℕ → ℤ) (T : Table) : Type 0 where
  pub α : ℤ
  pub β : ℤ
  pub a : ℕ
  pub b : ℕ
  pub a_low : c ≤ a
  pub a_high : a < N
  pub b_low : c ≤ b
  pub b_high : b < N
  pub is : (i : ℕ) → i < 36 → x i ≡ α *ℤ T i a +ℤ β *ℤ T i b

pub record Operation (c N : ℕ) (T U : Table) : Type 0 where
  pub before : (i j : ℕ) → i < 36 → j < c → U i j ≡ T i j
  pub past : (i j : ℕ) → i < 36 → N ≤ j → j < 24 → U i j ≡ T i j
  pub new : (j : ℕ) → c ≤ j → j < N → Mixture c N (λ i. U i j) T
  pub old : (j : ℕ) → c ≤ j → j < N → Mixture c N (λ i. T i j) U

-- Steps ----------------------------------------------------------------------------------------------------------------

module _ (c N : ℕ) (x : ℕ → ℤ) (T : Table) (j : ℕ) (low : c ≤ j) (high : j < N) where
  -- a multiple of one column
  multiple : (α : ℤ) → ((i : ℕ) → i < 36 → x i ≡ α *ℤ T i j) → Mixture c N x T
  multiple α e = record {
    α = α;
    β = pos 0;
    a = j;
    b = j;
    a_low = low;
    a_high = high;
    b_low = low;
    b_high = high;
    is = λ i l. e i l ∙ ring! (α ∷ T i j ∷ []) (search quote depth 40 fits 20000) tt;
  }

  same : ((i : ℕ) → i < 36 → x i ≡ T i j) → Mixture c N x T
  same e = multiple (pos 1) (λ i l. e i l ∙ ring! (T i j ∷ []) (search quote depth 40 fits 20000) tt)

  negated : ((i : ℕ) → i < 36 → x i ≡ neg_ℤ (T i j)) → Mixture c N x T
  negated e = multiple (negsuc 0) (λ i l. e i l ∙ ring! (T i j ∷ []) (search quote depth 40 fits 20000) tt)

module _ (t : List ℤ) (long : length t ≡ 864) (c N : ℕ) (wide : N ≤ 24) where
  module _ (first second : ℕ) (q : ℤ) (first-low : c ≤ first) (first_high : first < N) (second-low : c ≤ second) (second-high : second < N) (apart : first ≡ second → ⊥) where
    abbrev subtracted : List ℤ
    subtracted = subtract_column t first second q

    second_is : (i : ℕ) → i < 36 → cell subtracted i second ≡ less_times (cell t i second) q (cell t i first)
    second_is i l = subtract_cell first second q (omega arith) t i l (omega arith)

    rest_is : (i j : ℕ) → i < 36 → j < 24 → (j ≡ second → ⊥) → cell subtracted i j ≡ cell t i j
    rest_is = subtract_other first second q (omega arith) t

    pub subtract_operation : Operation c N (cell t) (cell subtracted)
    subtract_operation = record {
      before = λ i j l h. rest_is i j l (omega arith) (omega arith);
      past = λ i j l h g. rest_is i j l g (omega arith);
      new = λ j l h. elim (ℕ_discrete j second) [
        | yes e ↦ record {
          α = pos 1;
          β = neg_ℤ q;
          a = second;
          b = first;
          a_low = second-low;
          a_high = second-high;
          b_low = first-low;
          b_high = first_high;
          is = λ i g. ap (cell subtracted i) e ∙ second_is i g ∙ ring! (cell t i second ∷ cell t i first ∷ q ∷ []) (search quote depth 40 fits 20000) tt;
        }
        | no d ↦ same c N (λ i. cell subtracted i j) (cell t) j l h (λ i g. rest_is i j g (omega arith) d)
      ];
      old = λ j l h. elim (ℕ_discrete j second) [
        | yes e ↦ record {
          α = pos 1;
          β = q;
          a = second;
          b = first;
          a_low = second-low;
          a_high = second-high;
          b_low = first-low;
          b_high = first_high;
          is = λ i g. ap (cell t i) e ∙ ring! (cell t i second ∷ cell t i first ∷ q ∷ []) (search quote depth 40 fits 20000) tt
              ∙ ap₂ (λ x y. pos 1 *ℤ x +ℤ q *ℤ y) (sym (second_is i g)) (sym (rest_is i first g (omega arith) apart));
        }
        | no d ↦ same c N (λ i. cell t i j) (cell subtracted) j l h (λ i g. sym (rest_is i j g (omega arith) d))
      ];
    }

  module _ (a b : ℕ) (a_low : c ≤ a) (a_high : a < N) (b_low : c ≤ b) (b_high : b < N) where
    abbrev swapped : List ℤ
    swapped = swap_columns t a b

    at_a : (i : ℕ) → i < 36 → cell swapped i a ≡ cell t i b
    at_a i l = swap_first a b (omega arith) (omega arith) t i l (omega arith)

    at_b : (i : ℕ) → i < 36 → cell swapped i b ≡ cell t i a
    at_b i l = swap_second a b (omega arith) (omega arith) t i l (omega arith)

    at_rest : (i j : ℕ) → i < 36 → j < 24 → (j ≡ a → ⊥) → (j ≡ b → ⊥) → cell swapped i j ≡ cell t i j
    at_rest = swap_other a b (omega arith) (omega arith) t

    pub swap_operation : Operation c N (cell t) (cell swapped)
    swap_operation = record {
      before = λ i j l h. at_rest i j l (omega arith) (omega arith) (omega arith);
      past = λ i j l h g. at_rest i j l g (omega arith) (omega arith);
      new = λ j l h. elim (ℕ_discrete j a) [
        | yes e ↦ same c N (λ i. cell swapped i j) (cell t) b b_low b_high (λ i g. ap (cell swapped i) e ∙ at_a i g)
        | no d ↦ elim (ℕ_discrete j b) [
          | yes e ↦ same c N (λ i. cell swapped i j) (cell t) a a_low a_high (λ i g. ap (cell swapped i) e ∙ at_b i g)
          | no f ↦ same c N (λ i. cell swapped i j) (cell t) j l h (λ i g. at_rest i j g (omega arith) d f)
        ]
      ];
      old = λ j l h. elim (ℕ_discrete j a) [
        | yes e ↦ same c N (λ i. cell t i j) (cell swapped) b b_low b_high (λ i g. ap (cell t i) e ∙ sym (at_b i g))
        | no d ↦ elim (ℕ_discrete j b) [
          | yes e ↦ same c N (λ i. cell t i j) (cell swapped) a a_low a_high (λ i g. ap (cell t i) e ∙ sym (at_a i g))
          | no f ↦ same c N (λ i. cell t i j) (cell swapped) j l h (λ i g. sym (at_rest i j g (omega arith) d f))
        ]
      ];
    }

  module _ (a : ℕ) (a_low : c ≤ a) (a_high : a < N) where
    abbrev opposite : List ℤ
    opposite = negate_column t a

    minus_a : (i : ℕ) → i < 36 → cell opposite i a ≡ neg_ℤ (cell t i a)
    minus_a i l = negate_cell a (omega arith) t i l (omega arith)

    but_a : (i j : ℕ) → i < 36 → j < 24 → (j ≡ a → ⊥) → cell opposite i j ≡ cell t i j
    but_a = negate_other a (omega arith) t

    turned : (x y : ℤ) → y ≡ neg_ℤ x → x ≡ neg_ℤ y
    turned x y e = ring! (x ∷ []) (search quote depth 40 fits 20000) tt ∙ ap neg_ℤ (sym e)

    pub negate_operation : Operation c N (cell t) (cell opposite)
    negate_operation = record {
      before = λ i j l h. but_a i j l (omega arith) (omega arith);
      past = λ i j l h g. but_a i j l g (omega arith);
      new = λ j l h. elim (ℕ_discrete j a) [
        | yes e ↦ negated c N (λ i. cell opposite i j) (cell t) a a_low a_high (λ i g. ap (cell opposite i) e ∙ minus_a i g)
        | no d ↦ same c N (λ i. cell opposite i j) (cell t) j l h (λ i g. but_a i j g (omega arith) d)
      ];
      old = λ j l h. elim (ℕ_discrete j a) [
        | yes e ↦ negated c N (λ i. cell t i j) (cell opposite) a a_low a_high (λ i g. ap (cell t i) e ∙ turned (cell t i a) (cell opposite i a) (minus_a i g))
        | no d ↦ same c N (λ i. cell t i j) (cell opposite) j l h (λ i g. sym (but_a i j g (omega arith) d))
      ];
    }

-- Kept -----------------------------------------------------------------------------------------------------------------

module _ {c N : ℕ} {T U : Table} (o : Operation c N T U) where
  -- row i as the combination, with weights w, of the n rows from row `first` on
  pub operation_combines : (first n i : ℕ) (w : ℕ → ℤ) → i < 36 → first + n ≤ 36 → ((j : ℕ) → j < N → T i j ≡ dot n w (λ k. T (first + k) j)) →
      (j : ℕ) → j < N → U i j ≡ dot n w (λ k. U (first + k) j)
  operation_combines first n i w g f h j l = elim (dec_lt j c) [
    | yes k ↦ o.before i j g k ∙ h j l
        ∙ sum_ext n (λ r. w r *ℤ T (first + r) j) (λ r. w r *ℤ U (first + r) j) (λ r s. ap (λ x. w r *ℤ x) (sym (o.before (first + r) j (omega arith) k)))
    | no k ↦ let x = o.new j (omega arith) l in
        x.is i g ∙ ap₂ (λ s t. x.α *ℤ s +ℤ x.β *ℤ t) (h x.a x.a_high) (h x.b x.b_high)
        ∙ sym (dot_combine n w (λ r. T (first + r) x.a) (λ r. T (first + r) x.b) x.α x.β)
        ∙ sum_ext n (λ r. w r *ℤ (x.α *ℤ T (first + r) x.a +ℤ x.β *ℤ T (first + r) x.b)) (λ r. w r *ℤ U (first + r) j)
        (λ r s. ap (λ y. w r *ℤ y) (sym (x.is (first + r) (omega arith))))
  ]

  pub operation_divides : (m : ℕ) → m ≤ 36 → (p : ℕ → ℤ) (q : ℤ) → ((j : ℕ) → j < N → q ∣ℤ dot m p (λ i. U i j)) → (j : ℕ) → j < N → q ∣ℤ dot m p (λ i. T i j)
  operation_divides m g p q h j l = elim (dec_lt j c) [
    | yes k ↦ ∣_eq (sum_ext m (λ i. p i *ℤ U i j) (λ i. p i *ℤ T i j) (λ i s. ap (λ x. p i *ℤ x) (o.before i j (omega arith) k))) (h j l)
    | no k ↦ let x = o.old j (omega arith) l in
        ∣_eq
        (sym (dot_combine m p (λ i. U i x.a) (λ i. U i x.b) x.α x.β)
        ∙ sum_ext m (λ i. p i *ℤ (x.α *ℤ U i x.a +ℤ x.β *ℤ U i x.b)) (λ i. p i *ℤ T i j) (λ i s. ap (λ y. p i *ℤ y) (sym (x.is i (omega arith)))))
        (∣_linear x.α x.β (h x.a x.a_high) (h x.b x.b_high))
  ]

  -- from a column b on that is not after c
  pub operation_zeros : (i b : ℕ) → i < 36 → b ≤ c → ((j : ℕ) → b ≤ j → j < N → T i j ≡ pos 0) → (j : ℕ) → b ≤ j → j < N → U i j ≡ pos 0
  operation_zeros i b g k h j l r = elim (dec_lt j c) [
    | yes s ↦ o.before i j g s ∙ h j l r
    | no s ↦ let x = o.new j (omega arith) r in
        let la = x.a_low in
        let lb = x.b_low in
        x.is i g ∙ ap₂ (λ y z. x.α *ℤ y +ℤ x.β *ℤ z) (h x.a (omega arith) x.a_high) (h x.b (omega arith) x.b_high)
        ∙ ring! (x.α ∷ x.β ∷ []) (search quote depth 40 fits 20000) tt
  ]
