-- A test decides a statement: both directions at once, and composed from tests that decide their parts.
--
--     Decides t P     `yes`: t is true, so P holds;   `is`: P holds, so t is true
--     decides_no      t is false: P does not hold
--     decides_false   P does not hold: t is false
--     decides_stable  P, if it is impossible that P does not hold
--     Naturals        by_le  by_lt  by_eq               leb m n, ltb m n, eqb m n
--     Integers        by_lt-ℤ                           lt_z a b
--                     by_zero  by_nonneg                is_zero z, not (is_negative z)
--                     by_within  by_divides             within B z, divides a b
--     Composed        by_and  by_not                    _&&_ of a pair, not of a negation
--                     by_all                            all_below
--                     by_same                           the statement replaced by an equivalent one
--
-- Assumes nothing.
use mathlib.Core.Path.{◌≡◌, refl, sym, ◌∙◌, ap}
use mathlib.Core.Bool.{Bool, true, false, not, ◌&&◌, true≢false, false≢true}
use Prim.Native.Nat.{ℕ, ◌<◌, ◌≤◌}
use native.Mathlib.Omega.{arith}
use borrow.Author.Tests.{ltb-true, lt-ltb, leb-true, le-leb, eqb-true, eq-eqb, not-true}
use lib.Dec.{leb, ltb, eqb}
use lib.IntN.{ℤ, pos, nat_abs}
use lib.Signed.{lt_z, ◌≤ℤ◌, ◌<ℤ◌}
use Rattle.integers.specs.Range.{is_zero, is_negative, within}
use Rattle.integers.specs.Divisibility.{◌∣ℤ◌, divides}
use Rattle.integers.specs.Below.{all_below}
use Rattle.integers.proofs.Laws.Magnitude.{nat_abs_zero}
use Rattle.integers.proofs.Laws.Order.{lt_true, lt_false, lt_is_true, lt_is_false, le_parts, lt_parts, parts_le, parts_lt}
use Rattle.integers.proofs.Laws.Divisibility.{divides_true, divides_is}
use Rattle.integers.proofs.Laws.Below.{all_each, all_true}

pub record Decides (t : Bool) (P : Type 0) : Type 0 where
  pub yes : t ≡ true → P
  pub is : P → t ≡ true

pub decides_no : {t : Bool} {P : Type 0} → Decides t P → t ≡ false → P → ⊥
decides_no d e h = true≢false (sym (d.is h) ∙ e)

pub decides_false : {t : Bool} {P : Type 0} → Decides t P → (P → ⊥) → t ≡ false
decides_false {t = true} d h = absurd (h (d.yes refl))
decides_false {t = false} d h = refl

pub decides_stable : {t : Bool} {P : Type 0} → Decides t P → ((P → ⊥) → ⊥) → P
decides_stable {t = true} d h = d.yes refl
decides_stable {t = false} d h = absurd (h (decides_no d refl))

-- Naturals -------------------------------------------------------------------------------------------------------------

pub by_le : (m n : ℕ) → Decides (leb m n) (m ≤ n)
by_le m n = record { yes = leb-true m n; is = le-leb m n }

pub by_lt : (m n : ℕ) → Decides (ltb m n) (m < n)
by_lt m n = record { yes = ltb-true m n; is = lt-ltb m n }

pub by_eq : (m n : ℕ) → Decides (eqb m n) (m ≡ n)
by_eq m n = record { yes = eqb-true m n; is = eq-eqb m n }

-- Integers -------------------------------------------------------------------------------------------------------------

pub by_lt-ℤ : (a b : ℤ) → Decides (lt_z a b) (a <ℤ b)
by_lt-ℤ a b = record { yes = λ e. parts_lt a b (lt_true a b e); is = λ h. lt_is_true a b (lt_parts a b h) }

pub by_zero : (z : ℤ) → Decides (is_zero z) (z ≡ pos 0)
by_zero z = record { yes = λ e. nat_abs_zero z (eqb-true (nat_abs z) 0 e); is = λ h. eq-eqb (nat_abs z) 0 (ap nat_abs h) }

pub by_nonneg : (z : ℤ) → Decides (not (is_negative z)) (pos 0 ≤ℤ z)
by_nonneg z = record {
  yes = λ e. parts_le (pos 0) z (omega (arith, lt_false z (pos 0) (not-true (is_negative z) e)));
  is = λ h. ap not (lt_is_false z (pos 0) (omega (arith, le_parts (pos 0) z h)));
}

pub by_within : (B : ℕ) (z : ℤ) → Decides (within B z) (nat_abs z ≤ B)
by_within B z = by_le (nat_abs z) B

pub by_divides : (a b : ℤ) → Decides (divides a b) (a ∣ℤ b)
by_divides a b = record { yes = divides_true a b; is = divides_is a b }

-- Composed -------------------------------------------------------------------------------------------------------------

pub by_and : {s t : Bool} {P Q : Type 0} → Decides s P → Decides t Q → Decides (s && t) (P × Q)
by_and {s = true} d e = record { yes = λ h. (d.yes refl, e.yes h); is = λ h. e.is h.1 }
by_and {s = false} d e = record { yes = λ h. absurd (false≢true h); is = λ h. d.is h.0 }

pub by_not : {t : Bool} {P : Type 0} → Decides t P → Decides (not t) (P → ⊥)
by_not {t = true} d = record { yes = λ h. absurd (false≢true h); is = λ h. absurd (h (d.yes refl)) }
by_not {t = false} d = record { yes = λ h. decides_no d refl; is = λ h. refl }

pub by_all : (n : ℕ) (t : ℕ → Bool) (P : ℕ → Type 0) → ((i : ℕ) → Decides (t i) (P i)) → Decides (all_below n t) ((i : ℕ) → i < n → P i)
by_all n t P d = record { yes = λ e i h. (d i).yes (all_each n t e i h); is = λ h. all_true n t (λ i l. (d i).is (h i l)) }

pub by_same : {t : Bool} {P Q : Type 0} → (P → Q) → (Q → P) → Decides t P → Decides t Q
by_same f g d = record { yes = λ e. f (d.yes e); is = λ h. d.is (g h) }
