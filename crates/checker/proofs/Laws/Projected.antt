-- "The largest modulus they allow": the raw fact says exactly that A's weighted row can be completed. Of the test in_a
-- no more is known than `Absent`, of in_b nothing.
--
--     completed_holds    where there is a completion, the raw fact holds
--     holds_completed    where the raw fact holds, there is a completion
--
-- Assumes nothing.
use mathlib.Core.Path.{◌≡◌, refl, ◌∙◌, ap, ap₂}
use mathlib.Core.List.{[], ◌∷◌}
use mathlib.Core.Bool.{Bool, true, false, not, cond, ◌&&◌}
use Prim.Native.Nat.{ℕ, ◌<◌}
use lib.IntN.{ℤ, pos, negsuc, neg_ℤ, ◌+ℤ◌, ◌-ℤ◌, ◌*ℤ◌}
use Rattle.integers.specs.Divisibility.{◌∣ℤ◌}
use Rattle.integers.specs.Gcd.{gcd_from}
use Rattle.integers.specs.Sum.{dot}
use Rattle.integers.proofs.Laws.Ring.{from1, from2, from3}
use Rattle.integers.proofs.Laws.Normaliser.{ring!, quote}
use Rattle.integers.proofs.Laws.Divisibility.{∣_add, ∣_sub, ∣_neg, ∣_mul, ∣_eq, ∣_of_zero}
use Rattle.integers.proofs.Laws.Sum.{sum_ext, sum-add, sum-sub, sum_scale, sum-divides, dot-divides}
use Rattle.integers.proofs.Laws.Gcd.{Combination, gcd_from_bezout}
use Rattle.problem.specs.Rows.{Rows}
use Rattle.problem.specs.Occurrence.{shared, local_a}
use Rattle.problem.proofs.Laws.Occurrence.{Absent}
use Rattle.checker.specs.Refutation.{column_sum, constant_sum}
use Rattle.checker.specs.Fact.{Holds, modulus_of, raw_fact}
use Rattle.checker.specs.Promises.{Completes}
use Rattle.checker.proofs.Laws.Weighed.{M-moduli, M-column, M-unshared, M-rest}

module _ (n : ℕ) (in_a in_b : ℕ → Bool) (A : Rows) (p : ℕ → ℤ) (absent-a : Absent in_a A) (X : ℕ → ℤ) where
  abbrev S : ℕ → ℤ
  S = column_sum A p

  abbrev K : ℤ
  K = constant_sum A p

  abbrev M : ℤ
  M = modulus_of n in_a in_b A p

  abbrev F : ℕ → ℤ
  F j = cond (shared in_a in_b j) (column_sum A p j) (pos 0)

  abbrev L : ℕ → ℤ
  L j = cond (local_a in_a in_b j) (column_sum A p j) (pos 0)

  abbrev P : ℕ → ℤ
  P i = p i *ℤ A.modulus i

  -- A completion makes the fact hold.

  apart : (c : Completes n in_a in_b A p X) (j : ℕ) → j < n → M ∣ℤ (S j *ℤ c.y j -ℤ F j *ℤ X j)
  apart c j l = go (in_a j) (in_b j) (c.keeps j l) (M-unshared n in_a in_b A p absent-a j l)
    where
      part : M ∣ℤ S j → M ∣ℤ (S j *ℤ c.y j -ℤ pos 0 *ℤ X j)
      part h = ∣_eq (ring! (S j ∷ c.y j ∷ X j ∷ []) (search quote depth 40 fits 20000) tt) (∣_mul (c.y j) h)

      go : (a b : Bool) → (a && not b ≡ false → c.y j ≡ X j) → (a && b ≡ false → M ∣ℤ S j) → M ∣ℤ (S j *ℤ c.y j -ℤ cond (a && b) (S j) (pos 0) *ℤ X j)
      go true true k h = ∣_of_zero M (from1 (S j) (k refl) (ring! (S j ∷ c.y j ∷ X j ∷ []) (search quote depth 40 fits 20000) tt))
      go true false k h = part (h refl)
      go false b k h = part (h refl)

  pub completed_holds : Completes n in_a in_b A p X → Holds n (raw_fact n in_a in_b A p) X
  completed_holds c = record {
    by = ∣_eq (join (dot n S c.y) (dot n F X) (dot A.m P c.v) K c.row)
        (∣_neg (∣_add (∣_eq (sum-sub n (λ j. S j *ℤ c.y j) (λ j. F j *ℤ X j)) (sum-divides n M (λ j. S j *ℤ c.y j -ℤ F j *ℤ X j) (apart c))) (dot-divides A.m M P c.v (M-moduli n in_a in_b A p))));
  }
    where
      join : (sy fx pv k : ℤ) → sy +ℤ pv ≡ k → neg_ℤ ((sy -ℤ fx) +ℤ pv) ≡ fx -ℤ k
      join sy fx pv k e = from1 (negsuc 0) e (ring! (sy ∷ fx ∷ pv ∷ k ∷ []) (search quote depth 40 fits 20000) tt)

  -- Where the fact holds there is a completion: M is a combination of the local column sums and of the p × l, so that what the
  -- fact leaves over, a multiple of M, is taken up by them. The column sums of the other variables are multiples of M as well.

  abbrev O : ℕ → ℤ
  O j = S j -ℤ F j -ℤ L j

  others : (j : ℕ) → j < n → M ∣ℤ O j
  others j l = ∣_sub (M-rest n in_a in_b A p absent-a j l) (M-column n in_a in_b A p j l)

  -- M = u × (w·L) + z·P, and both what the fact leaves over and the other columns' part are multiples of M
  module _ (left over u : ℤ) (w z : ℕ → ℤ) (fact : dot n F X -ℤ K ≡ left *ℤ M) (rest : dot n O X ≡ over *ℤ M) (whole : M ≡ u *ℤ dot n w L +ℤ dot A.m z P) where
    abbrev t : ℤ
    t = neg_ℤ (left +ℤ over)

    abbrev point : ℕ → ℤ
    point j = cond (local_a in_a in_b j) (t *ℤ u *ℤ w j) (X j)

    term : (j : ℕ) → S j *ℤ point j ≡ (F j *ℤ X j +ℤ O j *ℤ X j) +ℤ t *ℤ u *ℤ (w j *ℤ L j)
    term j = go (in_a j) (in_b j) (S j) (t *ℤ u) (w j) (X j)
      where
        go : (a b : Bool) (s k w x : ℤ) → s *ℤ cond (a && not b) (k *ℤ w) x ≡
            (cond (a && b) s (pos 0) *ℤ x +ℤ (s -ℤ cond (a && b) s (pos 0) -ℤ cond (a && not b) s (pos 0)) *ℤ x) +ℤ k *ℤ (w *ℤ cond (a && not b) s (pos 0))
        go true true s k w x = ring! (s ∷ k ∷ w ∷ x ∷ []) (search quote depth 40 fits 20000) tt
        go true false s k w x = ring! (s ∷ k ∷ w ∷ x ∷ []) (search quote depth 40 fits 20000) tt
        go false b s k w x = ring! (s ∷ k ∷ w ∷ x ∷ []) (search quote depth 40 fits 20000) tt

    columns : dot n S point ≡ (dot n F X +ℤ dot n O X) +ℤ t *ℤ u *ℤ dot n w L
    columns = sum_ext n (λ j. S j *ℤ point j) (λ j. (F j *ℤ X j +ℤ O j *ℤ X j) +ℤ t *ℤ u *ℤ (w j *ℤ L j)) (λ j l. term j)
        ∙ sum-add n (λ j. F j *ℤ X j +ℤ O j *ℤ X j) (λ j. t *ℤ u *ℤ (w j *ℤ L j))
        ∙ ap₂ (λ x y. x +ℤ y) (sum-add n (λ j. F j *ℤ X j) (λ j. O j *ℤ X j)) (sum_scale n (t *ℤ u) (λ j. w j *ℤ L j))

    moduli : dot A.m P (λ i. t *ℤ z i) ≡ t *ℤ dot A.m z P
    moduli = sum_ext A.m (λ i. P i *ℤ (t *ℤ z i)) (λ i. t *ℤ (z i *ℤ P i)) (λ i l. turned (P i) t (z i)) ∙ sum_scale A.m t (λ i. z i *ℤ P i)
      where
        turned : (x t z : ℤ) → x *ℤ (t *ℤ z) ≡ t *ℤ (z *ℤ x)
        turned x t z = ring! (x ∷ t ∷ z ∷ []) (search quote depth 40 fits 20000) tt

    completion : Completes n in_a in_b A p X
    completion = record {
      y = point;
      v = λ i. t *ℤ z i;
      keeps = λ j l e. ap (λ (b : Bool). cond b (t *ℤ u *ℤ w j) (X j)) e;
      row = ap₂ (λ x y. x +ℤ y) columns moduli ∙ join (dot n F X) (dot n O X) (dot n w L) (dot A.m z P) K M left over u fact rest whole;
    }
      where
        join : (fx ox wl zp k m a b u : ℤ) → fx -ℤ k ≡ a *ℤ m → ox ≡ b *ℤ m → m ≡ u *ℤ wl +ℤ zp → ((fx +ℤ ox) +ℤ neg_ℤ (a +ℤ b) *ℤ u *ℤ wl) +ℤ neg_ℤ (a +ℤ b) *ℤ zp ≡ k
        join fx ox wl zp k m a b u e f g = from3 (pos 1) (pos 1) (a +ℤ b) e f g (ring! (fx ∷ ox ∷ wl ∷ zp ∷ k ∷ m ∷ a ∷ b ∷ u ∷ []) (search quote depth 40 fits 20000) tt)

  -- M as such a combination: Bezout twice, for the local column sums and then for the p × l
  pub holds_completed : Holds n (raw_fact n in_a in_b A p) X → Completes n in_a in_b A p X
  unfolding modulus_of
  holds_completed h = let o = dot-divides n M O X others in make h.by o (gcd_from_bezout (pos 0) n L) (gcd_from_bezout (gcd_from (pos 0) n L) A.m P)
    where
      make : M ∣ℤ (dot n F X -ℤ K) → M ∣ℤ dot n O X → Combination (pos 0) n L (gcd_from (pos 0) n L) → Combination (gcd_from (pos 0) n L) A.m P M → Completes n in_a in_b A p X
      make h o c d = completion h.by o.by d.u c.w d.w h.is o.is (join M (gcd_from (pos 0) n L) (dot n c.w L) (dot A.m d.w P) c.u d.u d.is c.is)
        where
          join : (m g wl zp r u : ℤ) → m ≡ u *ℤ g +ℤ zp → g ≡ r *ℤ pos 0 +ℤ wl → m ≡ u *ℤ wl +ℤ zp
          join m g wl zp r u e f = from2 (pos 1) u e f (ring! (m ∷ g ∷ wl ∷ zp ∷ r ∷ u ∷ []) (search quote depth 40 fits 20000) tt)
