-- What it means that a point meets rows.
--
--     One row      meets_equation      modulus 0: c·X = d
--                  meets_congruence    c·X + l v = d for an integer v: a congruence is an equation with a variable of its own
--     All rows     meets_both          X meets A and B: it meets both A B
--                  both_meets          the other way round
--
-- Assumes nothing.
use mathlib.Core.Path.{◌≡◌, refl, sym, subst}
use mathlib.Core.Bool.{Bool, true, false, cond}
use mathlib.Core.List.{[], ◌∷◌}
use Prim.Native.Nat.{ℕ, ◌+◌, ◌-◌, ◌<◌}
use native.Mathlib.Omega.{arith}
use borrow.Author.Tests.{ltb-true, ltb-false, lt-ltb, le-ltb}
use lib.Dec.{ltb}
use lib.IntN.{ℤ, pos, neg_ℤ, ◌+ℤ◌, ◌-ℤ◌, ◌*ℤ◌}
use Rattle.integers.specs.Divisibility.{Congruent}
use Rattle.integers.specs.Sum.{dot}
use Rattle.integers.proofs.Laws.Ring.{from1}
use Rattle.integers.proofs.Laws.Normaliser.{ring!, quote}
use Rattle.integers.proofs.Laws.Divisibility.{congruent_zero}
use Rattle.problem.specs.Rows.{Rows, both}
use Rattle.problem.specs.Points.{MeetsRow, Meets}

-- One row --------------------------------------------------------------------------------------------------------------

module _ (n : ℕ) (R : Rows) (i : ℕ) (X : ℕ → ℤ) where
  pub meets_equation : R.modulus i ≡ pos 0 → (MeetsRow n R i X → dot n (R.coef i) X ≡ R.const i) × (dot n (R.coef i) X ≡ R.const i → MeetsRow n R i X)
  meets_equation e =
      let c = congruent_zero (dot n (R.coef i) X) (R.const i) in
      ((λ h. c.0 (subst (λ (l : ℤ). Congruent l (dot n (R.coef i) X) (R.const i)) e h)), (λ h. subst (λ (l : ℤ). Congruent l (dot n (R.coef i) X) (R.const i)) (sym e) (c.1 h)))

  pub meets_congruence : (MeetsRow n R i X → (v : ℤ) × (dot n (R.coef i) X +ℤ R.modulus i *ℤ v ≡ R.const i)) × ((v : ℤ) → dot n (R.coef i) X +ℤ R.modulus i *ℤ v ≡ R.const i → MeetsRow n R i X)
  meets_congruence = ((λ h. (neg_ℤ h.by, to (dot n (R.coef i) X) (R.const i) (R.modulus i) h.by h.is)), (λ v h. record { by = neg_ℤ v; is = from (dot n (R.coef i) X) (R.const i) (R.modulus i) v h }))
    where
      to : (x d l k : ℤ) → x -ℤ d ≡ k *ℤ l → x +ℤ l *ℤ neg_ℤ k ≡ d
      to x d l k e = from1 (pos 1) e (ring! (x ∷ d ∷ l ∷ k ∷ []) (search quote depth 40 fits 20000) tt)

      from : (x d l v : ℤ) → x +ℤ l *ℤ v ≡ d → x -ℤ d ≡ neg_ℤ v *ℤ l
      from x d l v e = from1 (pos 1) e (ring! (x ∷ d ∷ l ∷ v ∷ []) (search quote depth 40 fits 20000) tt)

-- All rows -------------------------------------------------------------------------------------------------------------

module _ (n : ℕ) (A B : Rows) (X : ℕ → ℤ) where
  -- row i of all rows, by the side that it is of
  abbrev RowOf : Bool → ℕ → Type 0
  RowOf t i = Congruent (cond t (A.modulus i) (B.modulus (i - A.m))) (dot n (λ j. cond t (A.coef i j) (B.coef (i - A.m) j)) X) (cond t (A.const i) (B.const (i - A.m)))

  pub meets_both : Meets n A X → Meets n B X → Meets n (both A B) X
  meets_both s t = record { row = λ i l. go i l (ltb i A.m) refl }
    where
      go : (i : ℕ) → i < A.m + B.m → (side : Bool) → ltb i A.m ≡ side → RowOf side i
      go i l true e = s.row i (ltb-true i A.m e)
      go i l false e = let h = ltb-false i A.m e in t.row (i - A.m) (omega arith)

  pub both_meets : Meets n (both A B) X → Meets n A X × Meets n B X
  both_meets s = (record { row = λ i l. subst (λ (t : Bool). RowOf t i) (lt-ltb i A.m l) (s.row i (omega arith)) }, record { row = λ i l. later i l })
    where
      later : (i : ℕ) → i < B.m → MeetsRow n B i X
      later i l =
          let e : i + A.m - A.m ≡ i = omega arith in
          subst (λ (k : ℕ). MeetsRow n B k X) e (subst (λ (t : Bool). RowOf t (i + A.m)) (le-ltb (i + A.m) A.m (omega arith)) (s.row (i + A.m) (omega arith)))
