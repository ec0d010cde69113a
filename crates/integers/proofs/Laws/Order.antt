-- The order of ℤ, made readable for `omega`. An integer z has two parts, `up z` and `down z`, of which one is 0, and z is
-- up z - down z. Orders of integers are orders of sums of parts, which are naturals.
--
--     omega (arith, order-facts, order-goals, PARTS ..)
--
--     order-facts    reads a ≤ℤ b, a <ℤ b, a ≡ b and a test lt_z a b, le_z a b that is true or false among the facts in scope
--     order-goals    proves a ≤ℤ b, a <ℤ b and a ≡ b
--     order-flags    proves lt_z a b ≡ true, lt_z a b ≡ false, and the same for le_z
--     PARTS          one law for each operation that occurs: parts_add, parts_sub, parts_neg, parts_mul, parts_abs
--
-- Beside these:
--     Ranges         abs_within     -B ≤ z ≤ B: |z| ≤ B           within_abs    the other way round
--     Differences    le_difference  a ≤ b: b = a + n              difference_le the other way round
--                    mul_le         0 ≤ k and a ≤ b: k a ≤ k b
--                    le_by2         x ≤ y, where y - x is a sum of natural multiples of differences b - a with a ≤ b
--     Signs          negative_abs   z < 0: -z = |z|               nonnegative_abs   otherwise z = |z|
--                    nonneg_is      0 ≤ z: z = |z|
--     Above 0        positive_is  positive_lt  positive_ne  positive_mul  positive_of     of `Positive`
--
-- In std ≤ℤ and <ℤ bind tighter than +ℤ: write (x +ℤ y) ≤ℤ z. Assumes nothing.
use mathlib.Core.Path.{◌≡◌, refl, sym, ◌∙◌, ap, ap₂}
use mathlib.Core.Bool.{Bool, true, false, cond, true≢false, false≢true}
use mathlib.Core.List.{[], ◌∷◌}
use Prim.Native.Nat.{ℕ, zero, suc, ◌+◌, ◌*◌, ◌-◌, ◌<◌, ◌≤◌}
use native.Mathlib.Omega.{arith}
use borrow.Author.Tests.{ltb-true, ltb-false, leb-true, leb-false}
use lib.Dec.{T, ltb, le→leb, lt→ltb}
use lib.IntN.{ℤ, pos, negsuc, neg_ℤ, nat_abs, sub_ℕ, ◌+ℤ◌, ◌-ℤ◌, ◌*ℤ◌}
use lib.Signed.{lt_z, le_z, ◌≤ℤ◌, ◌<ℤ◌}
use Rattle.integers.specs.Range.{is_negative, Positive}
use Rattle.integers.proofs.Laws.Ring.{from2, from3}
use Rattle.integers.proofs.Laws.Normaliser.{ring!, quote}

abbrev pub up : ℤ → ℕ
up (pos n) = n
up (negsuc n) = 0

abbrev pub down : ℤ → ℕ
down (pos n) = 0
down (negsuc n) = suc n

-- Facts ----------------------------------------------------------------------------------------------------------------

pub lt_true : (a b : ℤ) → lt_z a b ≡ true → up a + down b < up b + down a
lt_true (pos a) (pos b) e = omega (arith, ltb-true a b e)
lt_true (pos a) (negsuc b) e = absurd (false≢true e)
lt_true (negsuc a) (pos b) e = omega arith
lt_true (negsuc a) (negsuc b) e = omega (arith, ltb-true b a e)

pub lt_false : (a b : ℤ) → lt_z a b ≡ false → up b + down a ≤ up a + down b
lt_false (pos a) (pos b) e = omega (arith, ltb-false a b e)
lt_false (pos a) (negsuc b) e = omega arith
lt_false (negsuc a) (pos b) e = absurd (true≢false e)
lt_false (negsuc a) (negsuc b) e = omega (arith, ltb-false b a e)

pub le_true : (a b : ℤ) → le_z a b ≡ true → up a + down b ≤ up b + down a
le_true (pos a) (pos b) e = omega (arith, leb-true a b e)
le_true (pos a) (negsuc b) e = absurd (false≢true e)
le_true (negsuc a) (pos b) e = omega arith
le_true (negsuc a) (negsuc b) e = omega (arith, leb-true b a e)

pub le_false : (a b : ℤ) → le_z a b ≡ false → up b + down a < up a + down b
le_false (pos a) (pos b) e = omega (arith, leb-false a b e)
le_false (pos a) (negsuc b) e = omega arith
le_false (negsuc a) (pos b) e = absurd (true≢false e)
le_false (negsuc a) (negsuc b) e = omega (arith, leb-false b a e)

is_true : (b : Bool) → T b → b ≡ true
is_true true t = refl
is_true false t = absurd t

is_false : (b : Bool) → (b ≡ true → ⊥) → b ≡ false
is_false true f = absurd (f refl)
is_false false f = refl

pub le_parts : (a b : ℤ) → a ≤ℤ b → up a + down b ≤ up b + down a
le_parts a b h = le_true a b (is_true (le_z a b) h.le)

pub lt_parts : (a b : ℤ) → a <ℤ b → up a + down b < up b + down a
lt_parts a b h = lt_true a b (is_true (lt_z a b) h.lt)

pub eq_parts : (a b : ℤ) → a ≡ b → up a + down b ≡ up b + down a
eq_parts a b e = ap (λ z. up z + down b) e ∙ ap (λ z. up b + down z) (sym e)

pub ruleset order-facts = (lt_true, lt_false, le_true, le_false, le_parts, lt_parts, eq_parts)

-- Goals ----------------------------------------------------------------------------------------------------------------

pub parts_eq : (a b : ℤ) → up a + down b ≡ up b + down a → a ≡ b
parts_eq (pos a) (pos b) e = ap pos (omega arith)
parts_eq (pos a) (negsuc b) e = absurd (omega arith)
parts_eq (negsuc a) (pos b) e = absurd (omega arith)
parts_eq (negsuc a) (negsuc b) e = ap negsuc (omega arith)

pub parts_le : (a b : ℤ) → up a + down b ≤ up b + down a → a ≤ℤ b
parts_le (pos a) (pos b) h = record { le = le→leb a b (omega arith) }
parts_le (pos a) (negsuc b) h = absurd (omega arith)
parts_le (negsuc a) (pos b) h = record { le = tt }
parts_le (negsuc a) (negsuc b) h = record { le = le→leb b a (omega arith) }

pub parts_lt : (a b : ℤ) → up a + down b < up b + down a → a <ℤ b
parts_lt (pos a) (pos b) h = record { lt = lt→ltb a b (omega arith) }
parts_lt (pos a) (negsuc b) h = absurd (omega arith)
parts_lt (negsuc a) (pos b) h = record { lt = tt }
parts_lt (negsuc a) (negsuc b) h = record { lt = lt→ltb b a (omega arith) }

pub ruleset order-goals = (parts_eq, parts_le, parts_lt)

pub le_is_true : (a b : ℤ) → up a + down b ≤ up b + down a → le_z a b ≡ true
le_is_true a b h = is_true (le_z a b) (parts_le a b h).le

pub lt_is_true : (a b : ℤ) → up a + down b < up b + down a → lt_z a b ≡ true
lt_is_true a b h = is_true (lt_z a b) (parts_lt a b h).lt

pub le_is_false : (a b : ℤ) → up b + down a < up a + down b → le_z a b ≡ false
le_is_false a b h = is_false (le_z a b) (λ e. let g = le_true a b e in omega arith)

pub lt_is_false : (a b : ℤ) → up b + down a ≤ up a + down b → lt_z a b ≡ false
lt_is_false a b h = is_false (lt_z a b) (λ e. let g = lt_true a b e in omega arith)

pub ruleset order-flags = (le_is_true, lt_is_true, le_is_false, lt_is_false)

-- Parts of operations ----------------------------------------------------------------------------------------------------

parts_sub_ℕ : (a b : ℕ) → up (sub_ℕ a b) + b ≡ down (sub_ℕ a b) + a
parts_sub_ℕ a b = go (ltb a b) refl
  where
    go : (t : Bool) → ltb a b ≡ t → up (cond t (negsuc (b - suc a)) (pos (a - b))) + b ≡ down (cond t (negsuc (b - suc a)) (pos (a - b))) + a
    go true e = omega (arith, ltb-true a b e)
    go false e = omega (arith, ltb-false a b e)

pub parts_add : (a b : ℤ) → up (a +ℤ b) + (down a + down b) ≡ down (a +ℤ b) + (up a + up b)
parts_add (pos a) (pos b) = omega arith
parts_add (pos a) (negsuc b) = omega (arith, parts_sub_ℕ a (suc b))
parts_add (negsuc a) (pos b) = omega (arith, parts_sub_ℕ b (suc a))
parts_add (negsuc a) (negsuc b) = omega arith

pub parts_neg : (a : ℤ) → (up (neg_ℤ a) ≡ down a) × (down (neg_ℤ a) ≡ up a)
parts_neg (pos zero) = (refl, refl)
parts_neg (pos (suc n)) = (refl, refl)
parts_neg (negsuc n) = (refl, refl)

pub parts_sub : (a b : ℤ) → up (a -ℤ b) + (down a + up b) ≡ down (a -ℤ b) + (up a + down b)
parts_sub a b = omega (arith, parts_add a (neg_ℤ b), parts_neg b)

pub parts_mul : (a b : ℤ) → (up (a *ℤ b) ≡ up a * up b + down a * down b) × (down (a *ℤ b) ≡ up a * down b + down a * up b)
parts_mul (pos a) (pos b) = (omega arith, omega arith)
parts_mul (pos a) (negsuc b) = let n = parts_neg (pos (a * suc b)) in (omega (arith, n.0), omega (arith, n.1))
parts_mul (negsuc a) (pos b) = let n = parts_neg (pos (suc a * b)) in (omega (arith, n.0), omega (arith, n.1))
parts_mul (negsuc a) (negsuc b) = (omega arith, omega arith)

pub parts_abs : (z : ℤ) → nat_abs z ≡ up z + down z
parts_abs (pos n) = omega arith
parts_abs (negsuc n) = omega arith

-- Ranges ---------------------------------------------------------------------------------------------------------------

pub abs_within : (z : ℤ) (B : ℕ) → neg_ℤ (pos B) ≤ℤ z → z ≤ℤ pos B → nat_abs z ≤ B
abs_within z B low high = go z (le_parts (neg_ℤ (pos B)) z low) (le_parts z (pos B) high)
  where
    go : (z : ℤ) → up (neg_ℤ (pos B)) + down z ≤ up z + down (neg_ℤ (pos B)) → up z + 0 ≤ B + down z → nat_abs z ≤ B
    go (pos n) l h = omega arith
    go (negsuc n) l h = omega (arith, parts_neg (pos B))

pub within_abs : (z : ℤ) (B : ℕ) → nat_abs z ≤ B → (neg_ℤ (pos B) ≤ℤ z) × (z ≤ℤ pos B)
within_abs z B h = (parts_le (neg_ℤ (pos B)) z (omega (arith, parts_neg (pos B), parts_abs z)), parts_le z (pos B) (omega (arith, parts_abs z)))

-- Differences ----------------------------------------------------------------------------------------------------------

pub le_difference : (a b : ℤ) → a ≤ℤ b → (n : ℕ) × (b ≡ a +ℤ pos n)
le_difference a b h =
    let n : ℕ = up b + down a - (up a + down b) in
    (n, parts_eq b (a +ℤ pos n) (omega (arith, le_parts a b h, parts_add a (pos n))))

pub difference_le : (a b : ℤ) (n : ℕ) → b ≡ a +ℤ pos n → a ≤ℤ b
difference_le a b n e = parts_le a b (omega (arith, eq_parts b (a +ℤ pos n) e, parts_add a (pos n)))

pub nonneg_is : (z : ℤ) → pos 0 ≤ℤ z → z ≡ pos (nat_abs z)
nonneg_is (pos n) h = refl
nonneg_is (negsuc n) h = absurd h.le

pub mul_le : (k a b : ℤ) → pos 0 ≤ℤ k → a ≤ℤ b → (k *ℤ a) ≤ℤ (k *ℤ b)
mul_le k a b h g = let d = le_difference a b g in
    difference_le (k *ℤ a) (k *ℤ b) (nat_abs k * d.0) (scaled k a b (pos d.0) (pos (nat_abs k)) d.1 (nonneg_is k h))
  where
    scaled : (k a b d m : ℤ) → b ≡ a +ℤ d → k ≡ m → k *ℤ b ≡ k *ℤ a +ℤ m *ℤ d
    scaled k a b d m e f = from2 k d e f (ring! (k ∷ a ∷ b ∷ d ∷ m ∷ []) (search quote depth 40 fits 20000) tt)

pub le_by2 : {x y a b c d : ℤ} (k l n : ℕ) → a ≤ℤ b → c ≤ℤ d → y -ℤ x ≡ pos k *ℤ (b -ℤ a) +ℤ pos l *ℤ (d -ℤ c) +ℤ pos n → x ≤ℤ y
le_by2 {x} {y} {a} {b} {c} {d} k l n h i e = let u = le_difference a b h in let v = le_difference c d i in
    difference_le x y (k * u.0 + l * v.0 + n) (joined x y a b c d (pos k) (pos l) (pos n) (pos u.0) (pos v.0) u.1 v.1 e)
  where
    joined : (x y a b c d k l n u v : ℤ) → b ≡ a +ℤ u → d ≡ c +ℤ v → y -ℤ x ≡ k *ℤ (b -ℤ a) +ℤ l *ℤ (d -ℤ c) +ℤ n → y ≡ x +ℤ (k *ℤ u +ℤ l *ℤ v +ℤ n)
    joined x y a b c d k l n u v f g m = from3 k l (pos 1) f g m (ring! (x ∷ y ∷ a ∷ b ∷ c ∷ d ∷ k ∷ l ∷ n ∷ u ∷ v ∷ []) (search quote depth 40 fits 20000) tt)

-- Signs ----------------------------------------------------------------------------------------------------------------

pub negative_abs : (z : ℤ) → is_negative z ≡ true → neg_ℤ z ≡ pos (nat_abs z)
negative_abs (pos n) e = absurd (omega (arith, ltb-true n 0 e))
negative_abs (negsuc n) e = refl

pub nonnegative_abs : (z : ℤ) → is_negative z ≡ false → z ≡ pos (nat_abs z)
nonnegative_abs (pos n) e = refl
nonnegative_abs (negsuc n) e = absurd (true≢false e)

-- Above 0 --------------------------------------------------------------------------------------------------------------

pub positive_is : (z : ℤ) → pos 0 <ℤ z → Positive z
positive_is (pos zero) h = absurd h.lt
positive_is (pos (suc n)) h = record { by = n; is = refl }
positive_is (negsuc n) h = absurd h.lt

pub positive_lt : {z : ℤ} → Positive z → pos 0 <ℤ z
positive_lt {z} p = parts_lt (pos 0) z (omega (arith, eq_parts z (pos (suc p.by)) p.is))

pub positive_ne : {z : ℤ} → Positive z → z ≡ pos 0 → ⊥
positive_ne p e = let h = ap nat_abs (sym p.is ∙ e) in omega arith

pub positive_mul : {a b : ℤ} → Positive a → Positive b → Positive (a *ℤ b)
positive_mul p q = record { by = p.by * suc q.by + q.by; is = ap₂ (λ x y. x *ℤ y) p.is q.is ∙ ap pos (omega arith) }

-- a natural that is not 0
pub positive_of : (z : ℤ) (n : ℕ) → z ≡ pos n → (z ≡ pos 0 → ⊥) → Positive z
positive_of z zero e h = absurd (h e)
positive_of z (suc n) e h = record { by = n; is = e }

-- Examples -------------------------------------------------------------------------------------------------------------

next_le : (x y z : ℤ) → x <ℤ y → y ≤ℤ z → (x +ℤ pos 1) ≤ℤ z
next_le x y z h k = omega (arith, order-facts, order-goals, parts_add x (pos 1))

from_test : (x y : ℤ) → lt_z x y ≡ false → x ≡ y +ℤ pos 3 → pos 3 ≤ℤ (x -ℤ y)
from_test x y h k = omega (arith, order-facts, order-goals, parts_add y (pos 3), parts_sub x y)

to_test : (x : ℤ) → nat_abs x ≤ 1000000000 → le_z (negsuc 999999999) x ≡ true
to_test x h = omega (arith, order-flags, parts_abs x)

by_multiples : (x y z : ℤ) → (pos 2 *ℤ x) ≤ℤ y → y ≤ℤ z → (pos 6 *ℤ x) ≤ℤ (pos 2 *ℤ z +ℤ y)
by_multiples x y z h k = le_by2 3 2 0 h k (ring! (x ∷ y ∷ z ∷ []) (search quote depth 40 fits 20000) tt)
