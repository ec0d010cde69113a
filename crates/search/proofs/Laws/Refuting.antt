-- The vector of a row that refutes does refute the rows as they were entered.
--
--     constant_is             the constant of the current row is its residual and the entries × z
--     RefutesTable C g p q    q divides every column sum of p × C, not the sum of p × d; q is above 0; q and p are at most 1,000,000
--                             in magnitude
--     vector_refutes          the vector that the current row of s gives with table t, where it is in order, and where the row's entry
--                             does not divide its residual
--
-- Assumes nothing.
use mathlib.Core.Path.{◌≡◌, refl, sym, ap, subst, subst⁻¹, ◌∙◌}
use mathlib.Core.List.{List, [], ◌∷◌}
use mathlib.Core.Bool.{Bool, true, false, cond, ◌&&◌, false≢true}
use Prim.Native.Nat.{ℕ, zero, suc, ◌≤◌, ◌<◌}
use native.Mathlib.Omega.{arith}
use borrow.Author.Tests.{eq-eqb, ne_eqb}
use lib.Dec.{eqb}
use lib.IntN.{ℤ, pos, neg_ℤ, nat_abs, ◌+ℤ◌, ◌*ℤ◌}
use lib.Signed.{quot_z}
use Rattle.integers.specs.Range.{is_zero, Positive}
use Rattle.integers.specs.Divisibility.{◌∣ℤ◌}
use Rattle.integers.specs.NonDivisor.{non_divisor}
use Rattle.integers.specs.Sum.{dot}
use Rattle.integers.specs.Run.{at}
use Rattle.integers.proofs.Laws.Ring.{neg-mul, one_mul, *ℤ_assoc}
use Rattle.integers.proofs.Laws.Normaliser.{ring!, quote}
use Rattle.integers.proofs.Laws.Order.{positive_mul, positive_of}
use Rattle.integers.proofs.Laws.Divisibility.{∣_exact}
use Rattle.integers.proofs.Laws.NonDivisor.{non_divisor_is}
use Rattle.integers.proofs.Laws.Decide.{by_zero}
use Rattle.integers.proofs.Laws.Run.{tabulate-at}
use Rattle.problem.specs.WellFormed.{million}
use Rattle.search.specs.Table.{cell}
use Rattle.search.specs.State.{Given, State, const_of, pivot_of, z_of}
use Rattle.search.specs.Vector.{Vector, in_range, unit_vector, column_sum, factor_of, back_one, back_by, back_from, denominator_by, vector_of}
use Rattle.search.specs.Step.{residual_of}
use Rattle.search.proofs.Laws.Columns.{Table}
use Rattle.search.proofs.Laws.Faithful.{FaithfulAt}
use Rattle.search.proofs.Laws.Back.{Back, back_start, back_step, back_columns, back_constants, back_none}
use Rattle.search.proofs.Laws.Vector.{factor_positive, factor_divides, back_stops, vector_in_range}

pub constant_is : (s : State) (t : List ℤ) → const_of s.given s.row ≡ residual_of s t +ℤ dot s.count (cell t s.row) (z_of s)
unfolding residual_of
constant_is s t = ring! (const_of s.given s.row ∷ dot s.count (cell t s.row) (z_of s) ∷ []) (search quote depth 40 fits 20000) tt

pub record RefutesTable (C : Table) (g : Given) (p : ℕ → ℤ) (q : ℤ) : Type 0 where
  pub columns : (j : ℕ) → j < g.width → q ∣ℤ dot g.m p (λ i. C i j)
  pub constants : q ∣ℤ dot g.m p (const_of g) → ⊥
  pub q_positive : Positive q
  pub q_in : nat_abs q ≤ million
  pub numerators_in : (i : ℕ) → nat_abs (p i) ≤ million

module _ (C : Table) (s : State) (t : List ℤ) (f : FaithfulAt C s t) (now : s.row < s.given.m) (zeros : (j : ℕ) → s.count < j → j < s.given.width → cell t s.row j ≡ pos 0) where
  abbrev m : ℕ
  m = s.given.m

  abbrev e : ℤ
  e = cell t s.row s.count

  -- the vector v on its way, when pivot columns from k on are done
  record Way (k : ℕ) (v : Vector) : Type 0 where
    μ : ℤ
    back : Back m s.given.width (cell t) s.row s.count (pivot_of s) e k (at v.p) μ
    q_is : v.q ≡ μ *ℤ cond (is_zero e) (pos 1) e

  way_start : Way s.count (unit_vector s.row e)
  unfolding unit_vector
  way_start =
      let few = f.few in
      let unit : ℕ → ℤ = λ k. cond (eqb k s.row) (pos 1) (pos 0) in
      record {
        μ = pos 1;
        back = back_start f now e (at (unit_vector s.row e).p)
            (tabulate-at 12 unit s.row (omega arith) ∙ ap (λ (b : Bool). cond b (pos 1) (pos 0)) (eq-eqb s.row s.row refl))
            (λ i l n. tabulate-at 12 unit i (omega arith) ∙ ap (λ (b : Bool). cond b (pos 1) (pos 0)) (ne_eqb i s.row n))
            (λ l. refl) zeros;
        q_is = sym (one_mul (cond (is_zero e) (pos 1) e));
      }

  way_step : (k : ℕ) → k < s.count → (v : Vector) → Way (suc k) v → Way k (back_one m t (pivot_of s k) k v)
  unfolding back_one column_sum
  way_step k l v w =
      let few = f.few in
      let under = f.under k l in
      let i = pivot_of s k in
      let c = cell t i k in
      let above = f.positive k l in
      let sum = dot m (at v.p) (λ r. cell t r k) in
      let y = factor_of sum c in
      let x = neg_ℤ (quot_z (y *ℤ sum) c) in
      let new : ℕ → ℤ = λ r. cond (eqb r i) x (y *ℤ at v.p r) in
      record {
        μ = y *ℤ w.μ;
        back = back_step f now e k l (at v.p) (at (back_one m t i k v).p) w.μ y x w.back
            (λ r g n. tabulate-at 12 new r (omega arith) ∙ ap (λ (b : Bool). cond b x (y *ℤ at v.p r)) (ne_eqb r i n))
            (tabulate-at 12 new i (omega arith) ∙ ap (λ (b : Bool). cond b x (y *ℤ at v.p i)) (eq-eqb i i refl))
            (factor_positive sum c above)
            (neg-mul (quot_z (y *ℤ sum) c) c ∙ ap neg_ℤ (∣_exact (y *ℤ sum) c (factor_divides sum c above)));
        q_is = ap (λ z. y *ℤ z) w.q_is ∙ sym (*ℤ_assoc y w.μ (cond (is_zero e) (pos 1) e));
      }

  way_all : (k : ℕ) → k ≤ s.count → (v : Vector) → Way k v → in_range (back_from k m t (pivot_of s) v) ≡ true → Way 0 (back_from k m t (pivot_of s) v)
  unfolding back_from back_by
  way_all zero l v w h = w
  way_all (suc k) l v w h = go (in_range v) refl h (way_all k (omega arith) (back_one m t (pivot_of s k) k v) (way_step k (omega arith) v w))
    where
      go : (b : Bool) → in_range v ≡ b → in_range (back_from k m t (pivot_of s) (back_by b m t (pivot_of s k) k v)) ≡ true
          → (in_range (back_from k m t (pivot_of s) (back_one m t (pivot_of s k) k v)) ≡ true → Way 0 (back_from k m t (pivot_of s) (back_one m t (pivot_of s k) k v)))
          → Way 0 (back_from k m t (pivot_of s) (back_by b m t (pivot_of s k) k v))
      go true q r onward = onward r
      go false q r onward = absurd (false≢true (sym q ∙ ap in_range (sym (back_stops m t (pivot_of s) k v q)) ∙ r))

  module _ (positive : is_zero e ≡ false → Positive e) (fails : e ∣ℤ residual_of s t → ⊥) where
    -- what is left to show of a vector beside its range
    record Refuting (v : Vector) : Type 0 where
      columns : (j : ℕ) → j < s.given.width → v.q ∣ℤ dot m (at v.p) (λ i. C i j)
      constants : v.q ∣ℤ dot m (at v.p) (const_of s.given) → ⊥
      q_positive : Positive v.q

    with_pivot : (v : Vector) → Way 0 v → is_zero e ≡ false → Refuting v
    with_pivot v w some =
        let q : v.q ≡ w.μ *ℤ e = w.q_is ∙ ap (λ (b : Bool). w.μ *ℤ cond b (pos 1) e) some in
        record {
          columns = λ j l. subst⁻¹ (λ x. x ∣ℤ dot m (at v.p) (λ i. C i j)) q (back_columns f now e (at v.p) w.μ (residual_of s t) w.back (constant_is s t) j l);
          constants = λ h. back_constants f now e (at v.p) w.μ (residual_of s t) w.back (constant_is s t) fails (subst (λ x. x ∣ℤ dot m (at v.p) (const_of s.given)) q h);
          q_positive = subst⁻¹ Positive q (positive_mul w.back.scale (positive some));
        }

    without_pivot : (v : Vector) → Way 0 v → is_zero e ≡ true → Refuting (denominator_by true s v)
    unfolding denominator_by
    without_pivot v w none =
        let b = back_none f now e (at v.p) w.μ (residual_of s t) w.back (constant_is s t) ((by_zero e).yes none) fails in
        let sum = dot m (at v.p) (const_of s.given) in
        let n = non_divisor_is sum b.1 in
        let two = n.from_two in
        record {
          columns = b.0 (pos (non_divisor sum));
          constants = n.fails;
          q_positive = positive_of (pos (non_divisor sum)) (non_divisor sum) refl (λ h. let g = ap nat_abs h in omega arith);
        }

    abbrev last : Vector
    last = back_from s.count m t (pivot_of s) (unit_vector s.row e)

    refuting : (a b : Bool) → in_range last ≡ a → is_zero e ≡ b → in_range (denominator_by (a && b) s last) ≡ true → Refuting (denominator_by (a && b) s last)
    unfolding denominator_by
    refuting false b h k ok = absurd (false≢true (sym h ∙ ok))
    refuting true true h k ok = without_pivot last (way_all s.count (omega arith) (unit_vector s.row e) way_start h) k
    refuting true false h k ok = with_pivot last (way_all s.count (omega arith) (unit_vector s.row e) way_start h) k

    pub vector_refutes : in_range (vector_of s t e) ≡ true → RefutesTable C s.given (at (vector_of s t e).p) (vector_of s t e).q
    unfolding vector_of
    vector_refutes ok =
        let r = refuting (in_range last) (is_zero e) refl refl ok in
        let v = vector_in_range s t e ok in
        record { columns = r.columns; constants = r.constants; q_positive = r.q_positive; q_in = v.denominator; numerators_in = v.numerators }
