-- Division cut towards zero, `quot_z a b`, and its remainder, `rem_z a b` (of std): what `/` and `%` compute on an i64.
--
--     Magnitudes    nat_abs_quot    |a / b| = |a| / |b|
--                   nat_abs_rem     |a % b| = |a| % |b|
--     Law           quot-rem        a = (a / b) b + a % b
--                   rem_is          a - (a / b) b = a % b
--     Bounds        quot_le         |a / b| ≤ |a|
--                   rem_le          |a % b| ≤ |a|
--                   rem_lt          b ≠ 0: |a % b| < |b|
--                   rem_halves      b ≠ 0 and |b| ≤ |a|: 2 |a % b| < |a|
--                   quot_halves     b ≠ 0 and |b| ≤ |a|: 2 |a - (a / b) b| < |a|
--     Sign          rem_nonneg      0 ≤ a: 0 ≤ a % b
--                   rem_nonpos      a ≤ 0: a % b ≤ 0
--     Exact         quot-mul        b ≠ 0: (k b) / b = k
--                   rem-mul         (k b) % b = 0
--     Zero          quot-zero       0 / b = 0      rem-zero    0 % b = 0
--
-- In std a / 0 is 0 and a % 0 is a; code never divides by 0. Assumes nothing.
use mathlib.Core.Path.{◌≡◌, refl, sym, ◌∙◌, ap, subst}
use mathlib.Core.List.{[], ◌∷◌}
use Prim.Native.Nat.{ℕ, suc, ◌+◌, ◌*◌, ◌/◌, ◌%◌, ◌<◌, ◌≤◌}
use native.Mathlib.Nat.{div-add-mod', mod-lt, mod-le, div-le_self, mul-le-mul_right, le-div_iff_mul-le, one-mul, mul-mod_left}
use native.Mathlib.Omega.{arith}
use lib.IntN.{ℤ, pos, negsuc, neg_ℤ, nat_abs, ◌+ℤ◌, ◌-ℤ◌, ◌*ℤ◌, neg_ℤ-+ℤ, neg_ℤ-neg_ℤ}
use lib.Signed.{quot_z, rem_z, ◌≤ℤ◌}
use Rattle.integers.proofs.Laws.Ring.{neg-mul, mul-neg, from1, from2}
use Rattle.integers.proofs.Laws.Normaliser.{ring!, quote}
use Rattle.integers.proofs.Laws.Magnitude.{nat_abs_neg, nat_abs_mul, nat_abs_zero, mul_cancel}
use Rattle.integers.proofs.Laws.Order.{parts_le, parts_neg, le_parts}

-- Magnitudes -----------------------------------------------------------------------------------------------------------

pub nat_abs_quot : (a b : ℤ) → nat_abs (quot_z a b) ≡ nat_abs a / nat_abs b
nat_abs_quot (pos a) (pos b) = refl
nat_abs_quot (pos a) (negsuc b) = nat_abs_neg (pos (a / suc b))
nat_abs_quot (negsuc a) (pos b) = nat_abs_neg (pos (suc a / b))
nat_abs_quot (negsuc a) (negsuc b) = refl

pub nat_abs_rem : (a b : ℤ) → nat_abs (rem_z a b) ≡ nat_abs a % nat_abs b
nat_abs_rem (pos a) b = refl
nat_abs_rem (negsuc a) b = nat_abs_neg (pos (suc a % nat_abs b))

-- The law --------------------------------------------------------------------------------------------------------------

-- -(q b) - r, where q b + r = n
negative_law : (n q b r : ℕ) → q * b + r ≡ n → neg_ℤ (pos (q * b)) +ℤ neg_ℤ (pos r) ≡ neg_ℤ (pos n)
negative_law n q b r e = sym (neg_ℤ-+ℤ (pos (q * b)) (pos r)) ∙ ap (λ (m : ℕ). neg_ℤ (pos m)) e

pub quot-rem : (a b : ℤ) → quot_z a b *ℤ b +ℤ rem_z a b ≡ a
quot-rem (pos a) (pos b) = ap pos (div-add-mod' a b)
quot-rem (pos a) (negsuc b) =
    ap (λ x. x +ℤ pos (a % suc b)) (neg-mul (pos (a / suc b)) (negsuc b) ∙ ap neg_ℤ (mul-neg (pos (a / suc b)) (pos (suc b))) ∙ neg_ℤ-neg_ℤ (pos (a / suc b * suc b)))
    ∙ ap pos (div-add-mod' a (suc b))
quot-rem (negsuc a) (pos b) =
    ap (λ x. x +ℤ neg_ℤ (pos (suc a % b))) (neg-mul (pos (suc a / b)) (pos b))
    ∙ negative_law (suc a) (suc a / b) b (suc a % b) (div-add-mod' (suc a) b)
quot-rem (negsuc a) (negsuc b) =
    ap (λ x. x +ℤ neg_ℤ (pos (suc a % suc b))) (mul-neg (pos (suc a / suc b)) (pos (suc b)))
    ∙ negative_law (suc a) (suc a / suc b) (suc b) (suc a % suc b) (div-add-mod' (suc a) (suc b))

pub rem_is : (a b : ℤ) → a -ℤ quot_z a b *ℤ b ≡ rem_z a b
rem_is a b = from1 (negsuc 0) (quot-rem a b) (ring! (a ∷ b ∷ quot_z a b ∷ rem_z a b ∷ []) (search quote depth 40 fits 20000) tt)

-- Bounds ---------------------------------------------------------------------------------------------------------------

pub quot_le : (a b : ℤ) → nat_abs (quot_z a b) ≤ nat_abs a
quot_le a b = omega (arith, nat_abs_quot a b, div-le_self (nat_abs a) (nat_abs b))

pub rem_le : (a b : ℤ) → nat_abs (rem_z a b) ≤ nat_abs a
rem_le a b = omega (arith, nat_abs_rem a b, mod-le (nat_abs a) (nat_abs b))

pub rem_lt : (a b : ℤ) → 0 < nat_abs b → nat_abs (rem_z a b) < nat_abs b
rem_lt a b h = omega (arith, nat_abs_rem a b, mod-lt (nat_abs a) h)

mod_halves : (a b : ℕ) → 0 < b → b ≤ a → 2 * (a % b) < a
mod_halves a b h k =
    let one : 1 ≤ a / b = (le-div_iff_mul-le {x = 1} h).1 (subst (λ (n : ℕ). n ≤ a) (sym (one-mul b)) k) in
    omega (arith, div-add-mod' a b, mod-lt a h, mul-le-mul_right b one)

pub rem_halves : (a b : ℤ) → 0 < nat_abs b → nat_abs b ≤ nat_abs a → 2 * nat_abs (rem_z a b) < nat_abs a
rem_halves a b h k = omega (arith, nat_abs_rem a b, mod_halves (nat_abs a) (nat_abs b) h k)

pub quot_halves : (a b : ℤ) → 0 < nat_abs b → nat_abs b ≤ nat_abs a → 2 * nat_abs (a -ℤ quot_z a b *ℤ b) < nat_abs a
quot_halves a b h k = subst (λ x. 2 * nat_abs x < nat_abs a) (sym (rem_is a b)) (rem_halves a b h k)

-- Sign -----------------------------------------------------------------------------------------------------------------

pub rem_nonneg : (a b : ℤ) → pos 0 ≤ℤ a → pos 0 ≤ℤ rem_z a b
rem_nonneg (pos a) b h = parts_le (pos 0) (pos (a % nat_abs b)) (omega arith)
rem_nonneg (negsuc a) b h = absurd h.le

pub rem_nonpos : (a b : ℤ) → a ≤ℤ pos 0 → rem_z a b ≤ℤ pos 0
rem_nonpos (pos a) b h = let k = le_parts (pos a) (pos 0) h in parts_le (pos (a % nat_abs b)) (pos 0) (omega (arith, mod-le a (nat_abs b)))
rem_nonpos (negsuc a) b h = parts_le (neg_ℤ (pos (suc a % nat_abs b))) (pos 0) (omega (arith, parts_neg (pos (suc a % nat_abs b))))

-- Exact ----------------------------------------------------------------------------------------------------------------

pub rem-mul : (k b : ℤ) → rem_z (k *ℤ b) b ≡ pos 0
rem-mul k b = nat_abs_zero (rem_z (k *ℤ b) b) (nat_abs_rem (k *ℤ b) b ∙ ap (λ (n : ℕ). n % nat_abs b) (nat_abs_mul k b) ∙ mul-mod_left (nat_abs k) (nat_abs b))

pub quot-mul : (k b : ℤ) → (b ≡ pos 0 → ⊥) → quot_z (k *ℤ b) b ≡ k
quot-mul k b h = mul_cancel b (quot_z (k *ℤ b) b) k h
    (from2 (pos 1) (negsuc 0) (quot-rem (k *ℤ b) b) (rem-mul k b) (ring! (k ∷ b ∷ quot_z (k *ℤ b) b ∷ rem_z (k *ℤ b) b ∷ []) (search quote depth 40 fits 20000) tt))

-- Zero -----------------------------------------------------------------------------------------------------------------

pub quot-zero : (b : ℤ) → quot_z (pos 0) b ≡ pos 0
quot-zero b = nat_abs_zero (quot_z (pos 0) b) (omega (arith, quot_le (pos 0) b))

pub rem-zero : (b : ℤ) → rem_z (pos 0) b ≡ pos 0
rem-zero b = nat_abs_zero (rem_z (pos 0) b) (omega (arith, rem_le (pos 0) b))
