-- From stored bits to numbers and back. A signed local holds its bits, a natural: the number is `to_z w64 bits`, and z is
-- stored as `of_z w64 z`. So a goal of a function on i64 speaks of `stored z`, that is `to_z w64 (of_z w64 z)`, which is z
-- only by a proof that z fits. Two ways to answer a goal in one line:
--
--     simp (to_z-of_z, FITS ..) FACT       replaces each stored z by z; FITS has one `SFits w64 z` for each z that is stored
--     fits_both OP FIT FIT RESULT          the goal of x OP y itself;   stored_both   its value, in `returns`
--
-- Where an `SFits w64 z` comes from: a parameter x has `c.ranges.x`, a call's result `record { sfits = c.f.type_inv }`, an element
-- that was read `record { sfits = c.v.given }`, and any number below 2^63 in magnitude `fits`.
--
--     Fits          fits               |z| < 2^63: z fits
--                   fits_add fits_sub fits_mul    |a| ≤ A, |b| ≤ B, and A + B or A B < 2^63: the result fits
--                   fits_neg           |z| < 2^63: 0 - z fits, which is what -z computes
--                   fits_quot fits_rem             |a| < 2^63: a / b fits; a fits: a % b fits
--                   abs_of_fits        z fits: |z| ≤ 2^63
--     Stored        stored_is          z fits: stored z = z
--                   stored_two         OP (stored x) (stored y) = OP x y
--                   stored_both        stored (OP (stored x) (stored y)) = OP x y
--                   stored_pos         n < 2^63: the bits n are the number n
--     Needs         fits_both          OP (stored x) (stored y) fits
--                   divisor_need       what `/` and `%` ask: the divisor's bits are not 0, and the quotient fits
--     Tests         bits_eq            equal bits (`==` taken): equal numbers
--                   bits_pos           z ≠ 0: its bits are not 0
--                   zero_bits          z == 0, as a flag, is `is_zero z`
--
-- All of it is for 64 bits, the one width of signed numbers here. Assumes nothing.
use mathlib.Core.Path.{◌≡◌, refl, sym, ◌∙◌, ap, ap₂, subst⁻¹}
use Prim.Native.Nat.{ℕ, suc, ◌+◌, ◌*◌, ◌-◌, ◌<◌, ◌≤◌, ◌^◌}
use native.Mathlib.Nat.{lt_of_le_of_lt}
use native.Mathlib.Omega.{arith}
use borrow.Author.Tests.{ne_eqb}
use lib.Dec.{eqb}
use lib.IntN.{ℤ, pos, negsuc, nat_abs, ◌+ℤ◌, ◌-ℤ◌, ◌*ℤ◌}
use lib.Signed.{mag, quot_z, rem_z, mag_rem}
use mir.Syntax.{w64}
use mir.Val.{SFits, to_z, of_z}
use mir.ValLaws.{to_z-of_z, to_z_pos}
use Rattle.integers.specs.Range.{is_zero}
use Rattle.integers.proofs.Laws.Magnitude.{nat_abs_sub, add_bound, sub_bound, mul_bound}
use Rattle.integers.proofs.Laws.Division.{quot_le}

-- what is read back where z was stored
abbrev pub stored : ℤ → ℤ
stored z = to_z w64 (of_z w64 z)

-- Fits -----------------------------------------------------------------------------------------------------------------

-- `mag z` is |z|, or |z| - 1 below 0
mag_le : (z : ℤ) → mag z ≤ nat_abs z
mag_le (pos n) = omega arith
mag_le (negsuc n) = omega arith

le_mag : (z : ℤ) → nat_abs z ≤ suc (mag z)
le_mag (pos n) = omega arith
le_mag (negsuc n) = omega arith

pub fits : (z : ℤ) → nat_abs z < 2 ^ 63 → SFits w64 z
fits z h = record { sfits = omega (arith, mag_le z) }

pub abs_of_fits : (z : ℤ) → SFits w64 z → nat_abs z ≤ 2 ^ 63
abs_of_fits z f = omega (arith, le_mag z, f.sfits)

module _ (a b : ℤ) {A B : ℕ} (a_in : nat_abs a ≤ A) (b-in : nat_abs b ≤ B) where
  pub fits_add : A + B < 2 ^ 63 → SFits w64 (a +ℤ b)
  fits_add h = fits (a +ℤ b) (omega (arith, add_bound a b a_in b-in))

  pub fits_sub : A + B < 2 ^ 63 → SFits w64 (a -ℤ b)
  fits_sub h = fits (a -ℤ b) (omega (arith, sub_bound a b a_in b-in))

  pub fits_mul : A * B < 2 ^ 63 → SFits w64 (a *ℤ b)
  fits_mul h = fits (a *ℤ b) (lt_of_le_of_lt (mul_bound a b a_in b-in) h)

pub fits_neg : (z : ℤ) → nat_abs z < 2 ^ 63 → SFits w64 (pos 0 -ℤ z)
fits_neg z h = fits (pos 0 -ℤ z) (omega (arith, nat_abs_sub (pos 0) z))

pub fits_quot : (a b : ℤ) → nat_abs a < 2 ^ 63 → SFits w64 (quot_z a b)
fits_quot a b h = fits (quot_z a b) (omega (arith, quot_le a b))

pub fits_rem : (a b : ℤ) → SFits w64 a → SFits w64 (rem_z a b)
fits_rem a b f = record { sfits = lt_of_le_of_lt (mag_rem a b) f.sfits }

-- Stored ---------------------------------------------------------------------------------------------------------------

pub stored_is : {z : ℤ} → SFits w64 z → stored z ≡ z
stored_is {z} f = to_z-of_z w64 z f

pub stored_pos : (n : ℕ) → n < 2 ^ 63 → to_z w64 n ≡ pos n
stored_pos n h = to_z_pos w64 n h

module _ (op : ℤ → ℤ → ℤ) {x y : ℤ} (fx : SFits w64 x) (fy : SFits w64 y) where
  pub stored_two : op (stored x) (stored y) ≡ op x y
  stored_two = ap₂ op (stored_is fx) (stored_is fy)

  pub fits_both : SFits w64 (op x y) → SFits w64 (op (stored x) (stored y))
  fits_both f = subst⁻¹ (SFits w64) stored_two f

  pub stored_both : SFits w64 (op x y) → stored (op (stored x) (stored y)) ≡ op x y
  stored_both f = ap stored stored_two ∙ stored_is f

-- Tests ----------------------------------------------------------------------------------------------------------------

pub bits_eq : (a b : ℤ) → SFits w64 a → SFits w64 b → of_z w64 a ≡ of_z w64 b → a ≡ b
bits_eq a b f g e = sym (stored_is f) ∙ ap (to_z w64) e ∙ stored_is g

pub bits_pos : (z : ℤ) → SFits w64 z → 0 < nat_abs z → 0 < of_z w64 z
bits_pos (pos n) f h = h
bits_pos (negsuc n) f h = omega (arith, f.sfits)

pub zero_bits : (z : ℤ) → SFits w64 z → eqb (of_z w64 z) 0 ≡ is_zero z
zero_bits (pos n) f = refl
zero_bits (negsuc n) f =
    let some : (2 ^ 64 - suc n ≡ 0) → ⊥ = λ e. let h = f.sfits in omega arith in
    ne_eqb (2 ^ 64 - suc n) 0 some ∙ sym (ne_eqb (suc n) 0 (λ e. omega arith))

-- Needs ----------------------------------------------------------------------------------------------------------------

pub divisor_need : (a b : ℤ) → SFits w64 a → SFits w64 b → nat_abs a < 2 ^ 63 → 0 < nat_abs b → (0 < of_z w64 b) × SFits w64 (quot_z (stored a) (stored b))
divisor_need a b fa fb h k = (bits_pos b fb k, fits_both quot_z fa fb (fits_quot a b h))
