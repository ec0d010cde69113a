-- Laws of `first_nonzero k c`, the first of c 0, .., c (k - 1) that is not 0, and 0 if there is none.
--
--     Turns     first_none       k = 0: it is 0
--               first_more       at the code's k + 1
--               first_onward     it is 0 and c k is 0: it stays 0
--               first_found      it is 0 and c k is not: from then on it is c k
--     Equal     first_ext        equal at each place: equal
--     Zeros     first_zero       it is 0: each c j is 0
--     Sign      first_neg        that of -(c j) is its negative
--
-- Assumes nothing.
use mathlib.Core.Path.{◌≡◌, refl, sym, ◌∙◌, ap, ap₂}
use mathlib.Core.Bool.{Bool, true, false, cond}
use Prim.Native.Nat.{ℕ, zero, suc, ◌+◌, ◌<◌}
use native.Mathlib.Numerals.{add-one}
use native.Mathlib.Omega.{arith}
use native.Mathlib.Decide.{ℕ_discrete}
use lib.Dec.{eqb}
use lib.IntN.{ℤ, pos, neg_ℤ}
use Rattle.integers.specs.Range.{is_zero}
use Rattle.integers.proofs.Laws.Magnitude.{nat_abs_neg}
use Rattle.integers.proofs.Laws.Decide.{by_zero, decides_no, decides_false}
use Rattle.checker.specs.NormalForm.{or_else, first_nonzero}

or_first : (x y : ℤ) → (x ≡ pos 0 → ⊥) → or_else x y ≡ x
unfolding or_else
or_first x y h = ap (λ (t : Bool). cond t y x) (decides_false (by_zero x) h)

or_second : (x y : ℤ) → x ≡ pos 0 → or_else x y ≡ y
unfolding or_else
or_second x y e = ap (λ (t : Bool). cond t y x) ((by_zero x).is e)

-- Turns ----------------------------------------------------------------------------------------------------------------

pub first_none : (c : ℕ → ℤ) → first_nonzero 0 c ≡ pos 0
unfolding first_nonzero
first_none c = refl

first_more : (k : ℕ) (c : ℕ → ℤ) → first_nonzero (k + 1) c ≡ or_else (first_nonzero k c) (c k)
unfolding first_nonzero
first_more k c = rw add-one

pub first_onward : (k : ℕ) (c : ℕ → ℤ) → first_nonzero k c ≡ pos 0 → c k ≡ pos 0 → first_nonzero (k + 1) c ≡ pos 0
first_onward k c none e = first_more k c ∙ or_second (first_nonzero k c) (c k) none ∙ e

pub first_found : (n : ℕ) (c : ℕ → ℤ) (k : ℕ) → first_nonzero k c ≡ pos 0 → (c k ≡ pos 0 → ⊥) → k < n → first_nonzero n c ≡ c k
unfolding first_nonzero
first_found zero c k none h l = absurd (omega arith)
first_found (suc n) c k none h l = elim (ℕ_discrete k n) [
  | yes e ↦ or_second (first_nonzero n c) (c n) (ap (λ (i : ℕ). first_nonzero i c) (sym e) ∙ none) ∙ ap c (sym e)
  | no e ↦ let found = first_found n c k none h (omega arith) in or_first (first_nonzero n c) (c n) (λ z. h (sym found ∙ z)) ∙ found
]

-- Equal ----------------------------------------------------------------------------------------------------------------

pub first_ext : (n : ℕ) (c e : ℕ → ℤ) → ((j : ℕ) → j < n → c j ≡ e j) → first_nonzero n c ≡ first_nonzero n e
unfolding first_nonzero
first_ext zero c e h = refl
first_ext (suc n) c e h = ap₂ or_else (first_ext n c e (λ j l. h j (omega arith))) (h n (omega arith))

-- Zeros ----------------------------------------------------------------------------------------------------------------

or_zero : (x y : ℤ) → or_else x y ≡ pos 0 → (x ≡ pos 0) × (y ≡ pos 0)
unfolding or_else
or_zero x y = go (is_zero x) refl
  where
    go : (t : Bool) → is_zero x ≡ t → cond t y x ≡ pos 0 → (x ≡ pos 0) × (y ≡ pos 0)
    go true z e = ((by_zero x).yes z, e)
    go false z e = absurd (decides_no (by_zero x) z e)

pub first_zero : (n : ℕ) (c : ℕ → ℤ) → first_nonzero n c ≡ pos 0 → (j : ℕ) → j < n → c j ≡ pos 0
unfolding first_nonzero
first_zero zero c e j l = absurd (omega arith)
first_zero (suc n) c e j l = let z = or_zero (first_nonzero n c) (c n) e in elim (ℕ_discrete j n) [
  | yes r ↦ ap c r ∙ z.1
  | no r ↦ first_zero n c z.0 j (omega arith)
]

-- Sign -----------------------------------------------------------------------------------------------------------------

or_neg : (x y : ℤ) → or_else (neg_ℤ x) (neg_ℤ y) ≡ neg_ℤ (or_else x y)
unfolding or_else
or_neg x y = ap (λ (k : ℕ). cond (eqb k 0) (neg_ℤ y) (neg_ℤ x)) (nat_abs_neg x) ∙ go (is_zero x)
  where
    go : (t : Bool) → cond t (neg_ℤ y) (neg_ℤ x) ≡ neg_ℤ (cond t y x)
    go true = refl
    go false = refl

pub first_neg : (n : ℕ) (c : ℕ → ℤ) → first_nonzero n (λ j. neg_ℤ (c j)) ≡ neg_ℤ (first_nonzero n c)
unfolding first_nonzero
first_neg zero c = refl
first_neg (suc n) c = ap (λ x. or_else x (neg_ℤ (c n))) (first_neg n c) ∙ or_neg (first_nonzero n c) (c n)
