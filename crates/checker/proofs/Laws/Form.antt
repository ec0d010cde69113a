-- The normal form is normal.
--
--     residue_in        a residue modulo k > 0 lies in 0..k − 1
--     normal-form       the normal form of a fact whose modulus is not negative, as that of a raw fact is not
--
-- Assumes nothing.
use mathlib.Core.Path.{◌≡◌, refl, sym, ◌∙◌, ap, ap₂, subst}
use mathlib.Core.Bool.{Bool, true, false, cond}
use Prim.Native.Nat.{ℕ, ◌/◌, ◌<◌}
use native.Mathlib.Omega.{arith}
use borrow.Author.Tests.{eqb-false}
use lib.Dec.{eqb}
use lib.IntN.{ℤ, pos, neg_ℤ, nat_abs, ◌+ℤ◌, ◌*ℤ◌, zero-*ℤ}
use lib.Signed.{quot_z, rem_z, ◌≤ℤ◌, ◌<ℤ◌}
use Rattle.integers.specs.Range.{is_zero, is_negative}
use Rattle.integers.specs.Divisibility.{◌∣ℤ◌, divides}
use Rattle.integers.specs.Gcd.{gcd_from}
use Rattle.integers.proofs.Laws.Magnitude.{nat_abs_neg, nat_abs_pos}
use Rattle.integers.proofs.Laws.Order.{parts_le, parts_add, parts_neg, parts_abs, order-facts, order-goals, nonneg_is, nonnegative_abs, positive_of, positive_lt}
use Rattle.integers.proofs.Laws.Division.{rem_lt, quot-zero}
use Rattle.integers.proofs.Laws.Divisibility.{zero-∣, ∣_zero, ∣_of_zero, ∣_exact}
use Rattle.integers.proofs.Laws.Gcd.{gcd_from_start, gcd_from_greatest, gcd_from_natural, gcd_from_abs, gcd_from_near, gcd_from_divided}
use Rattle.integers.proofs.Laws.Decide.{by_zero, decides_no}
use Rattle.checker.specs.Fact.{Fact}
use Rattle.checker.specs.NormalForm.{true_fact, false_fact, divided, first_nonzero, sign_by, residue, positive_by, equality_by, unit_by, congruence_by, normal_by, normal_form}
use Rattle.checker.specs.Promises.{IsNormal, is_true, is_false, is_equality, is_congruence}
use Rattle.checker.proofs.Laws.First.{first_zero, first_neg}
use Rattle.checker.proofs.Laws.Same.{residue_near}

-- Equalities -----------------------------------------------------------------------------------------------------------

-- a gcd that is 1 leaves a coefficient that is not 0
some_nonzero : (n : ℕ) (c : ℕ → ℤ) → gcd_from (pos 0) n c ≡ pos 1 → first_nonzero n c ≡ pos 0 → ⊥
some_nonzero n c g z =
    let e = ap nat_abs (sym g ∙ zero-∣ (gcd_from_greatest (pos 0) (pos 0) n c (∣_zero (pos 0)) (λ j l. ∣_of_zero (pos 0) (first_zero n c z j l)))) in
    omega arith

sign_form : (n : ℕ) (t : Bool) (f : Fact) → is_negative (first_nonzero n f.coef) ≡ t → f.modulus ≡ pos 0 → gcd_from (pos 0) n f.coef ≡ pos 1 → IsNormal n (sign_by t f)
unfolding sign_by
sign_form n true f e m g = is_equality m
    (gcd_from_abs (pos 0) n (λ j. neg_ℤ (f.coef j)) f.coef (λ j l. nat_abs_neg (f.coef j)) ∙ g)
    (subst (λ x. pos 0 <ℤ x) (sym (first_neg n f.coef)) (above (first_nonzero n f.coef) e))
  where
    above : (x : ℤ) → is_negative x ≡ true → pos 0 <ℤ neg_ℤ x
    above x h = omega (arith, order-facts, order-goals, parts_neg x)
sign_form n false f e m g = let x = first_nonzero n f.coef in
    is_equality m g (positive_lt (positive_of x (nat_abs x) (nonnegative_abs x e) (some_nonzero n f.coef g)))

-- Congruences ----------------------------------------------------------------------------------------------------------

residue_in : (k : ℕ) (x : ℤ) → 0 < k → (pos 0 ≤ℤ residue (pos k) x) × (residue (pos k) x <ℤ pos k)
unfolding residue
residue_in k x h = go (rem_z x (pos k)) (rem_lt x (pos k) h) (is_negative (rem_z x (pos k))) refl
  where
    go : (r : ℤ) → nat_abs r < k → (t : Bool) → is_negative r ≡ t → (pos 0 ≤ℤ cond t (r +ℤ pos k) r) × (cond t (r +ℤ pos k) r <ℤ pos k)
    go r l true e = (omega (arith, order-facts, order-goals, parts_add r (pos k), parts_abs r), omega (arith, order-facts, order-goals, parts_add r (pos k), parts_abs r))
    go r l false e = (omega (arith, order-facts, order-goals), omega (arith, order-facts, order-goals, parts_abs r))

unit_form : (n : ℕ) (t : Bool) (f : Fact) (m : ℕ) → eqb (nat_abs f.modulus) 1 ≡ t → f.modulus ≡ pos m → 0 < m → gcd_from (pos m) n f.coef ≡ pos 1 → IsNormal n (unit_by t f)
unfolding unit_by
unit_form n true f m t e some g = is_true (λ j l. refl) refl refl
unit_form n false f m t e some g = is_congruence
    (subst (λ x. pos 2 ≤ℤ x) (sym e) (let h = eqb-false (nat_abs f.modulus) 1 t in let k = ap nat_abs e in parts_le (pos 2) (pos m) (omega arith)))
    (subst (λ x. gcd_from x n (λ j. residue x (f.coef j)) ≡ pos 1) (sym e) (gcd_from_near m n f.coef (λ j. residue (pos m) (f.coef j)) (λ j l. residue_near (pos m) (f.coef j)) g))
    (λ j l. inside (f.coef j))
    (inside f.const)
  where
    inside : (x : ℤ) → (pos 0 ≤ℤ residue f.modulus x) × (residue f.modulus x <ℤ f.modulus)
    inside x = subst (λ y. (pos 0 ≤ℤ residue y x) × (residue y x <ℤ y)) (sym e) (residue_in m x some)

-- The normal form ------------------------------------------------------------------------------------------------------

-- "M = 0"
equality_form : (n : ℕ) (f : Fact) (g : ℤ) → g ≡ gcd_from (pos 0) n f.coef → f.modulus ≡ pos 0 → (z : Bool) → is_zero g ≡ z → IsNormal n (equality_by z g n f)
unfolding equality_by positive_by divided
equality_form n f g e m true z = constant (is_zero f.const)
  where
    constant : (k : Bool) → IsNormal n (cond k true_fact false_fact)
    constant true = is_true (λ j l. refl) refl refl
    constant false = is_false (λ j l. refl) refl refl
equality_form n f g e m false z = positive (divides g f.const)
  where
    positive : (t : Bool) → IsNormal n (positive_by t n (divided g f))
    positive false = is_false (λ j l. refl) refl refl
    positive true = sign_form n (is_negative (first_nonzero n (divided g f).coef)) (divided g f) refl (ap (λ x. quot_z x g) m ∙ quot-zero g) (gcd_from_divided 0 n f.coef g e (decides_no (by_zero g) z) 0 (quot-zero g))

-- "M > 0"
congruence_form : (n : ℕ) (f : Fact) (k : ℕ) → f.modulus ≡ pos k → (f.modulus ≡ pos 0 → ⊥) → (t : Bool) → IsNormal n (congruence_by t (divided (gcd_from f.modulus n f.coef) f))
unfolding congruence_by divided
congruence_form n f k e m-ne false = is_false (λ j l. refl) refl refl
congruence_form n f k e m-ne true = unit_form n (eqb (nat_abs (quot_z f.modulus g)) 1) (divided g f) m refl new some (gcd_from_divided k n f.coef g (ap (λ x. gcd_from x n f.coef) e) g_ne m (ap (λ x. quot_z x g) (sym e) ∙ new))
  where
    g : ℤ
    g = gcd_from f.modulus n f.coef

    natural : (u : ℕ) × (g ≡ pos u)
    natural = let r = gcd_from_natural k n f.coef in (r.0, ap (λ x. gcd_from x n f.coef) e ∙ r.1)

    m : ℕ
    m = k / natural.0

    new : quot_z f.modulus g ≡ pos m
    new = ap₂ quot_z e natural.1

    exact : quot_z f.modulus g *ℤ g ≡ f.modulus
    exact = ∣_exact f.modulus g (gcd_from_start f.modulus n f.coef)

    g_ne : g ≡ pos 0 → ⊥
    g_ne z = m-ne (zero-∣ (subst (λ x. x ∣ℤ f.modulus) z (gcd_from_start f.modulus n f.coef)))

    some : 0 < m
    some = let h = nat_abs_pos (quot_z f.modulus g) (λ z. m-ne (sym exact ∙ ap (λ x. x *ℤ g) z ∙ zero-*ℤ g)) in let r = ap nat_abs new in omega arith

pub normal-form : (n : ℕ) (f : Fact) → pos 0 ≤ℤ f.modulus → IsNormal n (normal_form n f)
unfolding normal_form normal_by
normal-form n f h = go (is_zero f.modulus) refl
  where
    go : (t : Bool) → is_zero f.modulus ≡ t → IsNormal n (normal_by t n f)
    go true e = let g = gcd_from (pos 0) n f.coef in equality_form n f g refl ((by_zero f.modulus).yes e) (is_zero g) refl
    go false e = let g = gcd_from f.modulus n f.coef in
        congruence_form n f (nat_abs f.modulus) (nonneg_is f.modulus h) (decides_no (by_zero f.modulus) e) (divides g f.const)
