-- Magnitudes. |z| is `nat_abs z` (std), a natural number, which `omega` reads: keep every bound in this form.
--
--     Operations    nat_abs_neg     |-a| = |a|
--                   nat_abs_mul     |a b| = |a| |b|
--                   nat_abs_add     |a + b| ≤ |a| + |b|
--                   nat_abs_sub     |a - b| ≤ |a| + |b|
--                   signed_abs      |a| is a times a sign: |a| = s a
--     Bounds        add_bound       |a| ≤ A and |b| ≤ B: |a + b| ≤ A + B
--                   sub_bound       likewise |a - b| ≤ A + B
--                   mul_bound       likewise |a b| ≤ A B
--     Zero          nat_abs_zero    |z| = 0: z = 0
--                   nat_abs_pos     z ≠ 0: 0 < |z|
--     Cancelling    nonzero_mul     g ≠ 0 and g x = 0: x = 0
--                   mul_cancel      g ≠ 0 and g x = g y: x = y
--
-- An equation between integers becomes one of naturals by `ap nat_abs e`. Assumes nothing.
use mathlib.Core.Path.{◌≡◌, refl, sym, ◌∙◌, ap, subst}
use mathlib.Core.Bool.{Bool, true, false, cond}
use mathlib.Core.List.{[], ◌∷◌}
use Prim.Native.Nat.{ℕ, zero, suc, ◌+◌, ◌*◌, ◌-◌, ◌<◌, ◌≤◌}
use native.Mathlib.Nat.{mul-le-mul}
use native.Mathlib.Omega.{arith}
use lib.Dec.{T, ltb, ltb→lt}
use lib.IntN.{ℤ, pos, negsuc, neg_ℤ, nat_abs, sub_ℕ, ◌+ℤ◌, ◌-ℤ◌, ◌*ℤ◌}
use Rattle.integers.proofs.Laws.Ring.{eq_of_sub, from1, neg-mul, one_mul}
use Rattle.integers.proofs.Laws.Normaliser.{ring!, quote}

-- Operations -----------------------------------------------------------------------------------------------------------

pub nat_abs_neg : (a : ℤ) → nat_abs (neg_ℤ a) ≡ nat_abs a
nat_abs_neg (pos zero) = refl
nat_abs_neg (pos (suc n)) = refl
nat_abs_neg (negsuc n) = refl

pub nat_abs_mul : (a b : ℤ) → nat_abs (a *ℤ b) ≡ nat_abs a * nat_abs b
nat_abs_mul (pos a) (pos b) = refl
nat_abs_mul (pos a) (negsuc b) = nat_abs_neg (pos (a * suc b))
nat_abs_mul (negsuc a) (pos b) = nat_abs_neg (pos (suc a * b))
nat_abs_mul (negsuc a) (negsuc b) = refl

-- the difference of two naturals
nat_abs_sub_ℕ : (a b : ℕ) → nat_abs (sub_ℕ a b) ≤ a + b
nat_abs_sub_ℕ a b = go (ltb a b) (λ t. ltb→lt a b t)
  where
    go : (c : Bool) → (T c → a < b) → nat_abs (cond c (negsuc (b - suc a)) (pos (a - b))) ≤ a + b
    go true below = let h = below tt in omega arith
    go false below = omega arith

pub nat_abs_add : (a b : ℤ) → nat_abs (a +ℤ b) ≤ nat_abs a + nat_abs b
nat_abs_add (pos a) (pos b) = omega arith
nat_abs_add (pos a) (negsuc b) = nat_abs_sub_ℕ a (suc b)
nat_abs_add (negsuc a) (pos b) = omega (arith, nat_abs_sub_ℕ b (suc a))
nat_abs_add (negsuc a) (negsuc b) = omega arith

pub nat_abs_sub : (a b : ℤ) → nat_abs (a -ℤ b) ≤ nat_abs a + nat_abs b
nat_abs_sub a b = omega (arith, nat_abs_add a (neg_ℤ b), nat_abs_neg b)

pub signed_abs : (a : ℤ) → (s : ℤ) × (pos (nat_abs a) ≡ s *ℤ a)
signed_abs (pos n) = (pos 1, sym (one_mul (pos n)))
signed_abs (negsuc n) = (negsuc 0, sym (neg-mul (pos 1) (negsuc n) ∙ ap neg_ℤ (one_mul (negsuc n))))

-- Bounds ---------------------------------------------------------------------------------------------------------------

module _ (a b : ℤ) {A B : ℕ} (a_in : nat_abs a ≤ A) (b-in : nat_abs b ≤ B) where
  pub add_bound : nat_abs (a +ℤ b) ≤ A + B
  add_bound = omega (arith, nat_abs_add a b)

  pub sub_bound : nat_abs (a -ℤ b) ≤ A + B
  sub_bound = omega (arith, nat_abs_sub a b)

  pub mul_bound : nat_abs (a *ℤ b) ≤ A * B
  mul_bound = subst (λ (n : ℕ). n ≤ A * B) (sym (nat_abs_mul a b)) (mul-le-mul a_in b-in)

-- Zero -----------------------------------------------------------------------------------------------------------------

pub nat_abs_zero : (z : ℤ) → nat_abs z ≡ 0 → z ≡ pos 0
nat_abs_zero (pos zero) e = refl
nat_abs_zero (pos (suc n)) e = absurd (omega arith)
nat_abs_zero (negsuc n) e = absurd (omega arith)

pub nat_abs_pos : (z : ℤ) → (z ≡ pos 0 → ⊥) → 0 < nat_abs z
nat_abs_pos (pos zero) h = absurd (h refl)
nat_abs_pos (pos (suc n)) h = omega arith
nat_abs_pos (negsuc n) h = omega arith

-- Cancelling -----------------------------------------------------------------------------------------------------------

pub nonzero_mul : (g x : ℤ) → (g ≡ pos 0 → ⊥) → g *ℤ x ≡ pos 0 → x ≡ pos 0
nonzero_mul (pos zero) x n e = absurd (n refl)
nonzero_mul (pos (suc k)) x n e = nat_abs_zero x (omega (arith, sym (nat_abs_mul (pos (suc k)) x) ∙ ap nat_abs e))
nonzero_mul (negsuc k) x n e = nat_abs_zero x (omega (arith, sym (nat_abs_mul (negsuc k) x) ∙ ap nat_abs e))

pub mul_cancel : (g x y : ℤ) → (g ≡ pos 0 → ⊥) → g *ℤ x ≡ g *ℤ y → x ≡ y
mul_cancel g x y n e = eq_of_sub x y (nonzero_mul g (x -ℤ y) n (from1 (pos 1) e (ring! (g ∷ x ∷ y ∷ []) (search quote depth 40 fits 20000) tt)))
