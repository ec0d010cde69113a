-- Laws of `◌∣ℤ◌`, `divides` and `Congruent`.
--
--     Order          ∣_refl  ∣_trans
--                    ∣_antisym      a ∣ b and b ∣ a: |a| = |b|
--                    ∣_le           b ≠ 0 and a ∣ b: |a| ≤ |b|
--     0 and 1        ∣_zero         a ∣ 0               zero-∣       0 ∣ a: a = 0, and only then: ∣_of_zero
--                    unit-∣         |m| = 1: m ∣ a      ∣_one        g ∣ 1: |g| = 1
--     Combinations   ∣_add  ∣_sub  ∣_neg
--                    ∣_mul c        d ∣ a: d ∣ c a      ∣_mulʳ c     d ∣ a: d ∣ a c
--                    ∣_linear x y   d ∣ a and d ∣ b: d ∣ x a + y b
--                    ∣_eq           the divided number may be replaced by an equal one
--     Factors        ∣_scale μ      q ∣ a: μ q ∣ μ a    ∣_cancel     μ ≠ 0 and μ q ∣ μ a: q ∣ a
--     Magnitudes     ∣_abs          d ∣ a: d ∣ |a|      abs-∣        d ∣ |a|: d ∣ a
--     Division       ∣_exact        b ∣ a: (a / b) b = a
--                    ∣_no_rem       b ∣ a: a % b = 0    no_rem-∣     a % b = 0: b ∣ a
--                    ∣_of_rem       d ∣ b and d ∣ a % b: d ∣ a
--                    quot_by_zero   0 ∣ a: a / 0 = 0
--     Test           divides_true   divides a b is true: a ∣ b
--                    divides_false  divides a b is false: not a ∣ b
--                    divides_is     a ∣ b: divides a b is true
--     Congruence     congruent_refl  congruent_sym
--                    congruent_add  congruent_neg
--                    congruent_zero  modulo 0: equal
--                    congruent-∣     a ≡ b (mod m) and m ∣ a: m ∣ b
--
-- Assumes nothing.
use mathlib.Core.Path.{◌≡◌, refl, sym, ◌∙◌, ap, ap₂, subst}
use mathlib.Core.Bool.{true, false}
use mathlib.Core.List.{[], ◌∷◌}
use Prim.Native.Nat.{ℕ, zero, suc, ◌*◌, ◌≤◌}
use native.Mathlib.Nat.{le_antisymm}
use native.Mathlib.Omega.{arith}
use borrow.Author.Tests.{eqb-true, eqb-false, eq-eqb}
use lib.IntN.{ℤ, pos, negsuc, neg_ℤ, nat_abs, ◌+ℤ◌, ◌-ℤ◌, ◌*ℤ◌, *ℤ-zero, zero-*ℤ, *ℤ_comm}
use lib.Signed.{quot_z, rem_z}
use Rattle.integers.specs.Divisibility.{◌∣ℤ◌, divides, Congruent}
use Rattle.integers.proofs.Laws.Ring.{one_mul, mul_one, from1, from2, eq_of_sub, sub_self, sub_of_eq}
use Rattle.integers.proofs.Laws.Normaliser.{ring!, quote}
use Rattle.integers.proofs.Laws.Magnitude.{nat_abs_zero, nat_abs_mul, mul_cancel}
use Rattle.integers.proofs.Laws.Division.{quot-rem, rem-mul}

-- 0 and 1 --------------------------------------------------------------------------------------------------------------

pub ∣_zero : (a : ℤ) → a ∣ℤ pos 0
∣_zero a = record { by = pos 0; is = sym (zero-*ℤ a) }

pub zero-∣ : {a : ℤ} → pos 0 ∣ℤ a → a ≡ pos 0
zero-∣ h = h.is ∙ *ℤ-zero h.by

pub ∣_eq : {d a b : ℤ} → a ≡ b → d ∣ℤ a → d ∣ℤ b
∣_eq {d} e h = subst (λ x. d ∣ℤ x) e h

pub ∣_of_zero : (d : ℤ) {a : ℤ} → a ≡ pos 0 → d ∣ℤ a
∣_of_zero d e = ∣_eq (sym e) (∣_zero d)

-- Combinations ---------------------------------------------------------------------------------------------------------

pub ∣_add : {d a b : ℤ} → d ∣ℤ a → d ∣ℤ b → d ∣ℤ a +ℤ b
∣_add {d} {a} {b} h k = record { by = h.by +ℤ k.by; is = from2 (pos 1) (pos 1) h.is k.is (ring! (d ∷ a ∷ b ∷ h.by ∷ k.by ∷ []) (search quote depth 40 fits 20000) tt) }

pub ∣_mul : {d a : ℤ} (c : ℤ) → d ∣ℤ a → d ∣ℤ c *ℤ a
∣_mul {d} {a} c h = record { by = c *ℤ h.by; is = from1 c h.is (ring! (d ∷ a ∷ c ∷ h.by ∷ []) (search quote depth 40 fits 20000) tt) }

pub ∣_mulʳ : {d a : ℤ} (c : ℤ) → d ∣ℤ a → d ∣ℤ a *ℤ c
∣_mulʳ {a = a} c h = ∣_eq (*ℤ_comm c a) (∣_mul c h)

pub ∣_linear : {d a b : ℤ} (x y : ℤ) → d ∣ℤ a → d ∣ℤ b → d ∣ℤ x *ℤ a +ℤ y *ℤ b
∣_linear x y h k = ∣_add (∣_mul x h) (∣_mul y k)

pub ∣_neg : {d a : ℤ} → d ∣ℤ a → d ∣ℤ neg_ℤ a
∣_neg {a = a} h = ∣_eq (ring! (a ∷ []) (search quote depth 40 fits 20000) tt) (∣_mul (negsuc 0) h)

pub ∣_sub : {d a b : ℤ} → d ∣ℤ a → d ∣ℤ b → d ∣ℤ a -ℤ b
∣_sub h k = ∣_add h (∣_neg k)

-- Order ----------------------------------------------------------------------------------------------------------------

pub ∣_refl : (a : ℤ) → a ∣ℤ a
∣_refl a = record { by = pos 1; is = sym (one_mul a) }

pub ∣_trans : {a b c : ℤ} → a ∣ℤ b → b ∣ℤ c → a ∣ℤ c
∣_trans h k = ∣_eq (sym k.is) (∣_mul k.by h)

pub ∣_le : {a b : ℤ} → (b ≡ pos 0 → ⊥) → a ∣ℤ b → nat_abs a ≤ nat_abs b
∣_le {a} {b} n h = bound (nat_abs h.by) (nat_abs a) (nat_abs b) (ap nat_abs h.is ∙ nat_abs_mul h.by a) (λ e. n (nat_abs_zero b e))
  where
    bound : (k a b : ℕ) → b ≡ k * a → (b ≡ 0 → ⊥) → a ≤ b
    bound zero a b e n = absurd (n (omega arith))
    bound (suc k) a b e n = omega arith

pub ∣_antisym : {a b : ℤ} → a ∣ℤ b → b ∣ℤ a → nat_abs a ≡ nat_abs b
∣_antisym {a} {b} h k = go (nat_abs a) (nat_abs b) refl refl
  where
    nothing : {x y : ℤ} → x ∣ℤ y → nat_abs x ≡ 0 → nat_abs y ≡ 0
    nothing {x} {y} d e = ap nat_abs (d.is ∙ ap (λ z. d.by *ℤ z) (nat_abs_zero x e) ∙ *ℤ-zero d.by)

    some : (z : ℤ) (n : ℕ) → nat_abs z ≡ suc n → z ≡ pos 0 → ⊥
    some z n e f = let g = ap nat_abs f in omega arith

    go : (m n : ℕ) → nat_abs a ≡ m → nat_abs b ≡ n → nat_abs a ≡ nat_abs b
    go zero n e f = e ∙ sym (nothing h e)
    go (suc m) zero e f = nothing k f ∙ sym f
    go (suc m) (suc n) e f = le_antisymm (∣_le (some b n f) h) (∣_le (some a m e) k)

-- Factors --------------------------------------------------------------------------------------------------------------

pub ∣_scale : {q a : ℤ} (μ : ℤ) → q ∣ℤ a → (μ *ℤ q) ∣ℤ (μ *ℤ a)
∣_scale {q} {a} μ h = record { by = h.by; is = from1 μ h.is (ring! (μ ∷ q ∷ a ∷ h.by ∷ []) (search quote depth 40 fits 20000) tt) }

pub ∣_cancel : (μ : ℤ) {q a : ℤ} → (μ ≡ pos 0 → ⊥) → (μ *ℤ q) ∣ℤ (μ *ℤ a) → q ∣ℤ a
∣_cancel μ {q} {a} n h = record { by = h.by; is = mul_cancel μ a (h.by *ℤ q) n (h.is ∙ ring! (μ ∷ q ∷ h.by ∷ []) (search quote depth 40 fits 20000) tt) }

-- Magnitudes -----------------------------------------------------------------------------------------------------------

pub ∣_abs : {d : ℤ} (a : ℤ) → d ∣ℤ a → d ∣ℤ pos (nat_abs a)
∣_abs (pos n) h = h
∣_abs (negsuc n) h = ∣_neg h

pub abs-∣ : {d : ℤ} (a : ℤ) → d ∣ℤ pos (nat_abs a) → d ∣ℤ a
abs-∣ (pos n) h = h
abs-∣ (negsuc n) h = ∣_neg h

pub unit-∣ : (m a : ℤ) → nat_abs m ≡ 1 → m ∣ℤ a
unit-∣ m a e = ∣_eq (mul_one a) (∣_mul a (subst (λ (k : ℕ). m ∣ℤ pos k) e (∣_abs m (∣_refl m))))

pub ∣_one : {g : ℤ} → g ∣ℤ pos 1 → nat_abs g ≡ 1
∣_one {g} h = ∣_antisym h (unit-∣ (pos 1) g refl)

-- Division -------------------------------------------------------------------------------------------------------------

pub no_rem-∣ : (a b : ℤ) → rem_z a b ≡ pos 0 → b ∣ℤ a
no_rem-∣ a b e = record { by = quot_z a b; is = from2 (negsuc 0) (pos 1) (quot-rem a b) e (ring! (a ∷ b ∷ quot_z a b ∷ rem_z a b ∷ []) (search quote depth 40 fits 20000) tt) }

pub ∣_no_rem : (a b : ℤ) → b ∣ℤ a → rem_z a b ≡ pos 0
∣_no_rem a b h = ap (λ x. rem_z x b) h.is ∙ rem-mul h.by b

pub ∣_exact : (a b : ℤ) → b ∣ℤ a → quot_z a b *ℤ b ≡ a
∣_exact a b h = from2 (pos 1) (negsuc 0) (quot-rem a b) (∣_no_rem a b h) (ring! (a ∷ b ∷ quot_z a b ∷ rem_z a b ∷ []) (search quote depth 40 fits 20000) tt)

pub ∣_of_rem : {d : ℤ} (a b : ℤ) → d ∣ℤ b → d ∣ℤ rem_z a b → d ∣ℤ a
∣_of_rem a b h k = ∣_eq (quot-rem a b) (∣_add (∣_mul (quot_z a b) h) k)

pub quot_by_zero : (a g : ℤ) → g ≡ pos 0 → g ∣ℤ a → quot_z a g ≡ pos 0
quot_by_zero a g e h = ap₂ quot_z (zero-∣ (subst (λ d. d ∣ℤ a) e h)) e

-- Test -----------------------------------------------------------------------------------------------------------------

pub divides_true : (a b : ℤ) → divides a b ≡ true → a ∣ℤ b
divides_true a b e = no_rem-∣ b a (nat_abs_zero (rem_z b a) (eqb-true (nat_abs (rem_z b a)) 0 e))

pub divides_false : (a b : ℤ) → divides a b ≡ false → a ∣ℤ b → ⊥
divides_false a b e h = eqb-false (nat_abs (rem_z b a)) 0 e (ap nat_abs (∣_no_rem b a h))

pub divides_is : (a b : ℤ) → a ∣ℤ b → divides a b ≡ true
divides_is a b h = eq-eqb (nat_abs (rem_z b a)) 0 (ap nat_abs (∣_no_rem b a h))

-- Congruence -----------------------------------------------------------------------------------------------------------

pub congruent_refl : (m a : ℤ) → Congruent m a a
congruent_refl m a = ∣_of_zero m (sub_self a)

pub congruent_sym : (m a b : ℤ) → Congruent m a b → Congruent m b a
congruent_sym m a b h = ∣_eq (ring! (a ∷ b ∷ []) (search quote depth 40 fits 20000) tt) (∣_neg h)

pub congruent_add : (m a b c d : ℤ) → Congruent m a b → Congruent m c d → Congruent m (a +ℤ c) (b +ℤ d)
congruent_add m a b c d h k = ∣_eq (ring! (a ∷ b ∷ c ∷ d ∷ []) (search quote depth 40 fits 20000) tt) (∣_add h k)

pub congruent_neg : (m a b : ℤ) → Congruent m a b → Congruent m (neg_ℤ a) (neg_ℤ b)
congruent_neg m a b h = ∣_eq (ring! (a ∷ b ∷ []) (search quote depth 40 fits 20000) tt) (∣_neg h)

pub congruent_zero : (a b : ℤ) → (Congruent (pos 0) a b → a ≡ b) × (a ≡ b → Congruent (pos 0) a b)
congruent_zero a b = ((λ h. eq_of_sub a b (zero-∣ h)), (λ e. ∣_of_zero (pos 0) (sub_of_eq a b e)))

pub congruent-∣ : (m a b : ℤ) → Congruent m a b → m ∣ℤ a → m ∣ℤ b
congruent-∣ m a b h k = ∣_eq (ring! (a ∷ b ∷ []) (search quote depth 40 fits 20000) tt) (∣_sub k h)
