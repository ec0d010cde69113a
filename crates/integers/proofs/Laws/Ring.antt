-- ℤ is a commutative ring. Together with std, which has +ℤ_assoc, +ℤ_comm, +ℤ_idl, +ℤ_idr, +ℤ_invl, +ℤ_invr,
-- *ℤ_comm, zero-*ℤ, *ℤ-zero, neg_ℤ-+ℤ and neg_ℤ-neg_ℤ:
--
--     Sums          +ℤ_left_comm    a + (b + c) = b + (a + c)
--                   sub_self        a - a = 0
--                   eq_of_sub       a - b = 0: a = b
--                   sub_of_eq       a = b: a - b = 0
--                   neg_unique      a + b = 0: b = -a
--     Products      *ℤ_assoc        (a b) c = a (b c)
--                   *ℤ_left_comm    a (b c) = b (a c)
--                   one_mul         1 a = a           mul_one    a 1 = a
--                   add-mul         (a + b) c = a c + b c
--                   mul-add         a (b + c) = a b + a c
--                   neg-mul         (-a) b = -(a b)   mul-neg    a (-b) = -(a b)
--     Equations     from1 k h e             x = y, where e says x - y = k (a - b) and h says a = b
--                   from2 k l h g e         the same from two equations: x - y = k (a - b) + l (c - d)
--                   from3 k l m h g f e     the same from three
--     Induction     ℤ-step          by successor and predecessor from 0
--
-- Any other polynomial identity is proved by `ring!` of Normaliser, and so is the `e` of from1, from2 and from3.
-- Assumes nothing.
use mathlib.Core.Path.{◌≡◌, sym, ◌∙◌, ap}
use Prim.Native.Nat.{zero, suc}
use lib.IntN.{ℤ, pos, negsuc, suc_ℤ, pred_ℤ, neg_ℤ, ◌+ℤ◌, ◌-ℤ◌, ◌*ℤ◌, +ℤ_assoc, +ℤ_comm, +ℤ_idl, +ℤ_idr, +ℤ_invr, +ℤ_invl, suc_ℤ-+ℤ, pred_ℤ-+ℤ, suc_ℤ-*ℤ, pred_ℤ-*ℤ, zero-*ℤ, *ℤ-zero, *ℤ_comm}

-- Induction ------------------------------------------------------------------------------------------------------------

pub ℤ-step : (P : ℤ → Type 0) → P (pos 0) → ((z : ℤ) → P z → P (suc_ℤ z)) → ((z : ℤ) → P z → P (pred_ℤ z)) → (z : ℤ) → P z
ℤ-step P base up down (pos zero) = base
ℤ-step P base up down (pos (suc n)) = up (pos n) (ℤ-step P base up down (pos n))
ℤ-step P base up down (negsuc zero) = down (pos 0) base
ℤ-step P base up down (negsuc (suc n)) = down (negsuc n) (ℤ-step P base up down (negsuc n))

-- Sums -----------------------------------------------------------------------------------------------------------------

pub +ℤ_left_comm : (a b c : ℤ) → a +ℤ (b +ℤ c) ≡ b +ℤ (a +ℤ c)
+ℤ_left_comm a b c = sym (+ℤ_assoc a b c) ∙ ap (λ x. x +ℤ c) (+ℤ_comm a b) ∙ +ℤ_assoc b a c

+ℤ_right_comm : (a b c : ℤ) → (a +ℤ b) +ℤ c ≡ (a +ℤ c) +ℤ b
+ℤ_right_comm a b c = +ℤ_assoc a b c ∙ ap (λ x. a +ℤ x) (+ℤ_comm b c) ∙ sym (+ℤ_assoc a c b)

pub sub_self : (a : ℤ) → a -ℤ a ≡ pos 0
sub_self a = +ℤ_invr a

pub eq_of_sub : (a b : ℤ) → a -ℤ b ≡ pos 0 → a ≡ b
eq_of_sub a b e = sym (+ℤ_idr a) ∙ ap (λ x. a +ℤ x) (sym (+ℤ_invl b)) ∙ sym (+ℤ_assoc a (neg_ℤ b) b) ∙ ap (λ x. x +ℤ b) e ∙ +ℤ_idl b

pub sub_of_eq : (a b : ℤ) → a ≡ b → a -ℤ b ≡ pos 0
sub_of_eq a b e = ap (λ x. x -ℤ b) e ∙ sub_self b

pub neg_unique : (a b : ℤ) → a +ℤ b ≡ pos 0 → b ≡ neg_ℤ a
neg_unique a b e = sym (+ℤ_idl b) ∙ ap (λ x. x +ℤ b) (sym (+ℤ_invl a)) ∙ +ℤ_assoc (neg_ℤ a) a b ∙ ap (λ x. neg_ℤ a +ℤ x) e ∙ +ℤ_idr (neg_ℤ a)

-- Products -------------------------------------------------------------------------------------------------------------

pub add-mul : (a b c : ℤ) → (a +ℤ b) *ℤ c ≡ a *ℤ c +ℤ b *ℤ c
add-mul a b c = ℤ-step (λ z. (z +ℤ b) *ℤ c ≡ z *ℤ c +ℤ b *ℤ c)
    (ap (λ x. x *ℤ c) (+ℤ_idl b) ∙ sym (+ℤ_idl (b *ℤ c)) ∙ ap (λ x. x +ℤ b *ℤ c) (sym (zero-*ℤ c)))
    (λ z ih. ap (λ x. x *ℤ c) (suc_ℤ-+ℤ z b) ∙ suc_ℤ-*ℤ (z +ℤ b) c ∙ ap (λ x. x +ℤ c) ih ∙ +ℤ_right_comm (z *ℤ c) (b *ℤ c) c ∙ ap (λ x. x +ℤ b *ℤ c) (sym (suc_ℤ-*ℤ z c)))
    (λ z ih. ap (λ x. x *ℤ c) (pred_ℤ-+ℤ z b) ∙ pred_ℤ-*ℤ (z +ℤ b) c ∙ ap (λ x. x -ℤ c) ih ∙ +ℤ_right_comm (z *ℤ c) (b *ℤ c) (neg_ℤ c) ∙ ap (λ x. x +ℤ b *ℤ c) (sym (pred_ℤ-*ℤ z c)))
    a

pub mul-add : (a b c : ℤ) → a *ℤ (b +ℤ c) ≡ a *ℤ b +ℤ a *ℤ c
mul-add a b c = *ℤ_comm a (b +ℤ c) ∙ add-mul b c a ∙ ap (λ x. x +ℤ c *ℤ a) (*ℤ_comm b a) ∙ ap (λ x. a *ℤ b +ℤ x) (*ℤ_comm c a)

pub neg-mul : (a b : ℤ) → neg_ℤ a *ℤ b ≡ neg_ℤ (a *ℤ b)
neg-mul a b = neg_unique (a *ℤ b) (neg_ℤ a *ℤ b) (sym (add-mul a (neg_ℤ a) b) ∙ ap (λ x. x *ℤ b) (+ℤ_invr a) ∙ zero-*ℤ b)

pub mul-neg : (a b : ℤ) → a *ℤ neg_ℤ b ≡ neg_ℤ (a *ℤ b)
mul-neg a b = *ℤ_comm a (neg_ℤ b) ∙ neg-mul b a ∙ ap neg_ℤ (*ℤ_comm b a)

pub one_mul : (a : ℤ) → pos 1 *ℤ a ≡ a
one_mul a = suc_ℤ-*ℤ (pos 0) a ∙ ap (λ x. x +ℤ a) (zero-*ℤ a) ∙ +ℤ_idl a

pub mul_one : (a : ℤ) → a *ℤ pos 1 ≡ a
mul_one a = *ℤ_comm a (pos 1) ∙ one_mul a

pub *ℤ_assoc : (a b c : ℤ) → (a *ℤ b) *ℤ c ≡ a *ℤ (b *ℤ c)
*ℤ_assoc a b c = ℤ-step (λ z. (z *ℤ b) *ℤ c ≡ z *ℤ (b *ℤ c))
    (ap (λ x. x *ℤ c) (zero-*ℤ b) ∙ zero-*ℤ c ∙ sym (zero-*ℤ (b *ℤ c)))
    (λ z ih. ap (λ x. x *ℤ c) (suc_ℤ-*ℤ z b) ∙ add-mul (z *ℤ b) b c ∙ ap (λ x. x +ℤ b *ℤ c) ih ∙ sym (suc_ℤ-*ℤ z (b *ℤ c)))
    (λ z ih. ap (λ x. x *ℤ c) (pred_ℤ-*ℤ z b) ∙ add-mul (z *ℤ b) (neg_ℤ b) c ∙ ap (λ x. x +ℤ neg_ℤ b *ℤ c) ih ∙ ap (λ x. z *ℤ (b *ℤ c) +ℤ x) (neg-mul b c) ∙ sym (pred_ℤ-*ℤ z (b *ℤ c)))
    a

pub *ℤ_left_comm : (a b c : ℤ) → a *ℤ (b *ℤ c) ≡ b *ℤ (a *ℤ c)
*ℤ_left_comm a b c = sym (*ℤ_assoc a b c) ∙ ap (λ x. x *ℤ c) (*ℤ_comm a b) ∙ *ℤ_assoc b a c

-- Equations ------------------------------------------------------------------------------------------------------------

-- a multiple of a difference that is 0 may be dropped
without : (x k : ℤ) {a b : ℤ} → a ≡ b → x +ℤ k *ℤ (a -ℤ b) ≡ x
without x k {a} {b} h = ap (λ t. x +ℤ k *ℤ t) (sub_of_eq a b h) ∙ ap (λ t. x +ℤ t) (*ℤ-zero k) ∙ +ℤ_idr x

pub from1 : {x y a b : ℤ} (k : ℤ) → a ≡ b → x -ℤ y ≡ k *ℤ (a -ℤ b) → x ≡ y
from1 {x} {y} {a} {b} k h e = eq_of_sub x y (e ∙ ap (λ t. k *ℤ t) (sub_of_eq a b h) ∙ *ℤ-zero k)

pub from2 : {x y a b c d : ℤ} (k l : ℤ) → a ≡ b → c ≡ d → x -ℤ y ≡ k *ℤ (a -ℤ b) +ℤ l *ℤ (c -ℤ d) → x ≡ y
from2 {a = a} {b = b} k l h g e = from1 k h (e ∙ without (k *ℤ (a -ℤ b)) l g)

pub from3 : {x y a b c d u v : ℤ} (k l m : ℤ) → a ≡ b → c ≡ d → u ≡ v → x -ℤ y ≡ k *ℤ (a -ℤ b) +ℤ l *ℤ (c -ℤ d) +ℤ m *ℤ (u -ℤ v) → x ≡ y
from3 {a = a} {b = b} {c = c} {d = d} k l m h g f e = from2 k l h g (e ∙ without (k *ℤ (a -ℤ b) +ℤ l *ℤ (c -ℤ d)) m f)
