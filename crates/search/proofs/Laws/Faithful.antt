-- What holds of table, pivots and z between steps: the table stays faithful to the rows that were entered.
--
--     Faithful               m rows with constants d and N columns in use; C is the table's upper part at the start. Rows before `row` are
--                            closed, and `count` pivots stand, in columns 0, 1, .. and in rows pivot 0, pivot 1, ..
--       unused               cells outside the columns in use are 0
--       product              the upper table is C times the lower table
--       divides_back         what divides every column sum of p × the upper table divides every column sum of p × C
--       positive  right      the staircase: a pivot is above 0, and right of it its row is 0
--       closed               closed rows are 0 from column `count` on
--       under  rise          pivots stand in closed rows, in order
--       met                  closed rows are met by z: entries × z is the constant
--     faithful_operation     an operation on columns count, .., N - 1 keeps it
--     faithful_passed        so does a close without pivot whose residual is 0
--     faithful_placed        and a close with a pivot, whose z makes up the constant
--     faithful_inside        an entry that is not 0 in column `count` says that the column is in use
--     faithful_point         all rows closed: the lower table times z meets C and d
--     FaithfulAt C s t       the same of a state s whose table is t
--
-- Assumes nothing.
use mathlib.Core.Path.{◌≡◌, sym, ◌∙◌, ap, subst⁻¹}
use mathlib.Core.Bool.{false}
use mathlib.Core.List.{List}
use Prim.Native.Nat.{ℕ, suc, ◌+◌, ◌<◌, ◌≤◌}
use native.Mathlib.Decide.{dec_lt}
use native.Mathlib.Omega.{arith}
use lib.IntN.{ℤ, pos, ◌+ℤ◌, ◌*ℤ◌, zero-*ℤ, +ℤ_idr}
use Rattle.integers.specs.Range.{is_zero, Positive}
use Rattle.integers.specs.Divisibility.{◌∣ℤ◌}
use Rattle.integers.specs.Sum.{dot}
use Rattle.integers.proofs.Laws.Sum.{sum_ext, sum_more, dot_exchange}
use Rattle.integers.proofs.Laws.Decide.{by_zero, decides_no}
use Rattle.search.specs.Table.{cell}
use Rattle.search.specs.State.{State, const_of, pivot_of, z_of}
use Rattle.search.proofs.Laws.Columns.{Table, Operation, operation_combines, operation_divides, operation_zeros}

pub record Faithful (m N : ℕ) (C : Table) (d : ℕ → ℤ) (T : Table) (row count : ℕ) (pivot : ℕ → ℕ) (z : ℕ → ℤ) : Type 0 where
  pub few : m ≤ 12
  pub wide : N ≤ 24
  pub row_in : row ≤ m
  pub count_row : count ≤ row
  pub count_in : count ≤ N
  pub unused : (i j : ℕ) → i < m → N ≤ j → j < 24 → T i j ≡ pos 0
  pub product : (i j : ℕ) → i < m → j < N → T i j ≡ dot N (C i) (λ k. T (12 + k) j)
  pub divides_back : (p : ℕ → ℤ) (q : ℤ) → ((j : ℕ) → j < N → q ∣ℤ dot m p (λ i. T i j)) → (j : ℕ) → j < N → q ∣ℤ dot m p (λ i. C i j)
  pub positive : (k : ℕ) → k < count → Positive (T (pivot k) k)
  pub right : (k j : ℕ) → k < count → k < j → j < N → T (pivot k) j ≡ pos 0
  pub closed : (i j : ℕ) → i < row → count ≤ j → j < N → T i j ≡ pos 0
  pub under : (k : ℕ) → k < count → pivot k < row
  pub rise : (k l : ℕ) → k < l → l < count → pivot k < pivot l
  pub met : (i : ℕ) → i < row → dot count (T i) z ≡ d i

module _ {m N : ℕ} {C : Table} {d : ℕ → ℤ} {T : Table} {row count : ℕ} {pivot : ℕ → ℕ} {z : ℕ → ℤ} (f : Faithful m N C d T row count pivot z) where
  pub faithful_operation : (U : Table) → Operation count N T U → Faithful m N C d U row count pivot z
  faithful_operation U o =
      let few = f.few in
      let wide = f.wide in
      let row_in = f.row_in in
      let count_in = f.count_in in
      record {
        few = few;
        wide = wide;
        row_in = row_in;
        count_row = f.count_row;
        count_in = count_in;
        unused = λ i j l h k. o.past i j (omega arith) h k ∙ f.unused i j l h k;
        product = λ i j l h. operation_combines o 12 N i (C i) (omega arith) (omega arith) (λ k r. f.product i k l r) j h;
        divides_back = λ p q h. f.divides_back p q (operation_divides o m (omega arith) p q h);
        positive = λ k l. let u = f.under k l in subst⁻¹ Positive (o.before (pivot k) k (omega arith) l) (f.positive k l);
        right = λ k j l h r. let u = f.under k l in operation_zeros o (pivot k) (suc k) (omega arith) (omega arith) (λ i h r. f.right k i l h r) j h r;
        closed = λ i j l h r. operation_zeros o i count (omega arith) (omega arith) (λ j h r. f.closed i j l h r) j h r;
        under = f.under;
        rise = f.rise;
        met = λ i l. sum_ext count (λ k. U i k *ℤ z k) (λ k. T i k *ℤ z k) (λ k h. ap (λ x. x *ℤ z k) (o.before i k (omega arith) h)) ∙ f.met i l;
      }

  module _ (here : row < m) where
    pub faithful_inside : is_zero (T row count) ≡ false → count < N
    faithful_inside some = elim (dec_lt count N) [
      | yes l ↦ l
      | no l ↦ let few = f.few in let low = f.count_row in absurd (decides_no (by_zero (T row count)) some (f.unused row count here (omega arith) (omega arith)))
    ]

    last : (i : ℕ) → i < row + 1 → (i < row → ⊥) → i ≡ row
    last i l h = omega arith

    pub faithful_passed : ((j : ℕ) → count ≤ j → j < N → T row j ≡ pos 0) → dot count (T row) z ≡ d row → Faithful m N C d T (row + 1) count pivot z
    faithful_passed zeros meets =
        let few = f.few in
        let count_row = f.count_row in
        record {
          few = few;
          wide = f.wide;
          row_in = omega arith;
          count_row = omega arith;
          count_in = f.count_in;
          unused = f.unused;
          product = f.product;
          divides_back = f.divides_back;
          positive = f.positive;
          right = f.right;
          rise = f.rise;
          closed = λ i j l h r. elim (dec_lt i row) [ yes k ↦ f.closed i j k h r | no k ↦ ap (λ (t : ℕ). T t j) (last i l k) ∙ zeros j h r ];
          under = λ k l. let u = f.under k l in omega arith;
          met = λ i l. elim (dec_lt i row) [ yes k ↦ f.met i k | no k ↦ ap (λ (t : ℕ). dot count (T t) z) (last i l k) ∙ meets ∙ ap d (sym (last i l k)) ];
        }

    -- the pivots and z of the next row, which are the old ones and one more
    module _ (pivots : ℕ → ℕ) (zs : ℕ → ℤ) (inside : count < N) where
      more : (i : ℕ) → ((k : ℕ) → k < count → zs k ≡ z k) → dot (count + 1) (T i) zs ≡ dot count (T i) z +ℤ T i count *ℤ zs count
      more i kept = sum_more count (λ k. T i k *ℤ zs k)
          ∙ ap (λ x. x +ℤ T i count *ℤ zs count) (sum_ext count (λ k. T i k *ℤ zs k) (λ k. T i k *ℤ z k) (λ k l. ap (λ x. T i k *ℤ x) (kept k l)))

      newest : (k : ℕ) → k < count + 1 → (k < count → ⊥) → k ≡ count
      newest k l h = omega arith

      pub faithful_placed : Positive (T row count) → ((j : ℕ) → count < j → j < N → T row j ≡ pos 0) →
          ((k : ℕ) → k < count → pivots k ≡ pivot k) → pivots count ≡ row → ((k : ℕ) → k < count → zs k ≡ z k) →
          dot count (T row) z +ℤ T row count *ℤ zs count ≡ d row → Faithful m N C d T (row + 1) (count + 1) pivots zs
      faithful_placed entry zeros pivots-kept pivot-new zs-kept meets =
          let few = f.few in
          let count_row = f.count_row in
          record {
            few = few;
            wide = f.wide;
            row_in = omega arith;
            count_row = omega arith;
            count_in = omega arith;
            unused = f.unused;
            product = f.product;
            divides_back = f.divides_back;
            positive = λ k l. elim (dec_lt k count) [
              | yes h ↦ subst⁻¹ (λ (r : ℕ). Positive (T r k)) (pivots-kept k h) (f.positive k h)
              | no h ↦ subst⁻¹ (λ (c : ℕ). Positive (T (pivots c) c)) (newest k l h) (subst⁻¹ (λ (r : ℕ). Positive (T r count)) pivot-new entry)
            ];
            right = λ k j l h r. elim (dec_lt k count) [
              | yes s ↦ ap (λ (t : ℕ). T t j) (pivots-kept k s) ∙ f.right k j s h r
              | no s ↦ ap (λ (t : ℕ). T (pivots t) j) (newest k l s) ∙ ap (λ (t : ℕ). T t j) pivot-new ∙ zeros j (omega arith) r
            ];
            closed = λ i j l h r. elim (dec_lt i row) [ yes k ↦ f.closed i j k (omega arith) r | no k ↦ ap (λ (t : ℕ). T t j) (last i l k) ∙ zeros j (omega arith) r ];
            under = λ k l. elim (dec_lt k count) [
              | yes h ↦ let u = f.under k h in let e = pivots-kept k h in omega arith
              | no h ↦ let e = ap pivots (newest k l h) ∙ pivot-new in omega arith
            ];
            rise = λ k l h r. elim (dec_lt l count) [
              | yes s ↦ let e = pivots-kept l s in let g = pivots-kept k (omega arith) in let u = f.rise k l h s in omega arith
              | no s ↦ let e = ap pivots (newest l r s) ∙ pivot-new in let g = pivots-kept k (omega arith) in let u = f.under k (omega arith) in omega arith
            ];
            met = λ i l. more i zs-kept ∙ elim (dec_lt i row) [
              | yes k ↦ ap (λ x. dot count (T i) z +ℤ x *ℤ zs count) (f.closed i count k (omega arith) inside)
                  ∙ ap (λ x. dot count (T i) z +ℤ x) (zero-*ℤ (zs count)) ∙ +ℤ_idr (dot count (T i) z) ∙ f.met i k
              | no k ↦ ap (λ (t : ℕ). dot count (T t) z +ℤ T t count *ℤ zs count) (last i l k) ∙ meets ∙ ap d (sym (last i l k))
            ];
          }

  pub faithful_point : row ≡ m → (i : ℕ) → i < m → dot N (C i) (λ k. dot count (T (12 + k)) z) ≡ d i
  faithful_point e i l =
      let count_in = f.count_in in
      dot_exchange N count (C i) z (λ k j. T (12 + k) j)
      ∙ sum_ext count (λ j. dot N (C i) (λ k. T (12 + k) j) *ℤ z j) (λ j. T i j *ℤ z j) (λ j h. ap (λ x. x *ℤ z j) (sym (f.product i j l (omega arith))))
      ∙ f.met i (omega arith)

abbrev pub FaithfulAt : Table → State → List ℤ → Type 0
FaithfulAt C s t = Faithful s.given.m s.given.width C (const_of s.given) (cell t) s.row s.count (pivot_of s) (z_of s)
