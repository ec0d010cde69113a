-- Sums of at most 12 products of numbers within 2^28, as the code takes them: they stay far below 2^63.
--
--     is_zero_yes is_zero_no      a number whose bits are 0, or are not
--     difference    y - q x, of the three as they are stored     difference_fits    it fits
--     quotient_need quotient_is   what r / e asks, and what it is
--     Turn, turn    one turn of a loop that takes one: all that is computed fits, and the total is small
--     dot_small     the sum is at most 12 × 2^56 in magnitude
--
-- Assumes nothing.
use mathlib.Core.Path.{◌≡◌, sym, ap, ap₂, subst⁻¹, ◌∙◌}
use mathlib.Core.Bool.{true, false}
use Prim.Native.Nat.{ℕ, ◌+◌, ◌*◌, ◌<◌, ◌≤◌, ◌^◌}
use native.Mathlib.Omega.{arith}
use lib.IntN.{ℤ, nat_abs, ◌+ℤ◌, ◌-ℤ◌, ◌*ℤ◌}
use borrow.Author.Tests.{eq-eqb, ne_eqb, eqb-false}
use lib.Signed.{quot_z}
use mir.Syntax.{w64}
use mir.Val.{SFits, of_z}
use Rattle.integers.specs.Range.{is_zero}
use Rattle.integers.specs.Sum.{dot}
use Rattle.integers.proofs.Laws.Magnitude.{nat_abs_add, mul_bound}
use Rattle.integers.proofs.Laws.Bits.{fits, fits_sub, fits_mul, fits_quot, divisor_need, stored, stored_is, zero_bits}
use Rattle.integers.proofs.Laws.Sum.{dot_bound}
use Rattle.search.specs.Table.{bound, less_times}

module _ (z : ℤ) (f : SFits w64 z) where
  pub is_zero_yes : of_z w64 z ≡ 0 → is_zero z ≡ true
  is_zero_yes h = sym (zero_bits z f) ∙ eq-eqb (of_z w64 z) 0 h

  pub is_zero_no : (of_z w64 z ≡ 0 → ⊥) → is_zero z ≡ false
  is_zero_no h = sym (zero_bits z f) ∙ ne_eqb (of_z w64 z) 0 h

module _ (y q x : ℤ) (hy : nat_abs y ≤ bound) (hq : nat_abs q ≤ bound) (hx : nat_abs x ≤ bound) where
  pub difference_fits : SFits w64 (less_times y q x)
  difference_fits = fits_sub y (q *ℤ x) hy (mul_bound q x hq hx) (omega arith)

  pub difference : {a b c : ℤ} → a ≡ y → b ≡ q → c ≡ x → a -ℤ stored (b *ℤ c) ≡ less_times y q x
  difference ea eb ec = ap₂ (λ (a p : ℤ). a -ℤ p) ea (ap stored (ap₂ (λ (b c : ℤ). b *ℤ c) eb ec) ∙ stored_is (fits_mul q x hq hx (omega arith)))

-- r and e are as the code has them, R and E what they are
module _ {r e R E : ℤ} (fr : SFits w64 r) (ir : r ≡ R) (fe : SFits w64 e) (ie : e ≡ E) (small : nat_abs R < 2 ^ 62) where
  pub quotient_need : is_zero E ≡ false → (0 < of_z w64 e) × SFits w64 (quot_z (stored r) (stored e))
  quotient_need h =
      let some = eqb-false (nat_abs E) 0 h in
      divisor_need r e fr fe (subst⁻¹ (λ (x : ℤ). nat_abs x < 2 ^ 63) ir (omega arith)) (subst⁻¹ (λ (x : ℤ). 0 < nat_abs x) ie (omega arith))

  pub quotient_is : stored (quot_z (stored r) (stored e)) ≡ quot_z R E
  quotient_is = ap stored (ap₂ quot_z (stored_is fr ∙ ir) (stored_is fe ∙ ie)) ∙ stored_is (fits_quot R E (omega arith))

-- the turn of place k of such a sum, with s the sum so far
pub record Turn (s a b : ℤ) (k : ℕ) : Type 0 where
  pub product : SFits w64 (a *ℤ b)
  pub total : SFits w64 (s +ℤ a *ℤ b)
  pub small : nat_abs (s +ℤ a *ℤ b) ≤ (k + 1) * 72057594037927936

pub turn : (s a b : ℤ) (k : ℕ) → k < 12 → nat_abs s ≤ k * 72057594037927936 → nat_abs a ≤ bound → nat_abs b ≤ bound → Turn s a b k
turn s a b k few hs ha hb =
    let p = mul_bound a b ha hb in
    let small : nat_abs (s +ℤ a *ℤ b) ≤ (k + 1) * 72057594037927936 = omega (arith, nat_abs_add s (a *ℤ b)) in
    record { product = fits (a *ℤ b) (omega arith); total = fits (s +ℤ a *ℤ b) (omega arith); small = small }

module _ (x y : ℕ → ℤ) (x-in : (i : ℕ) → nat_abs (x i) ≤ bound) (y-in : (i : ℕ) → nat_abs (y i) ≤ bound) where
  pub dot_small : (m : ℕ) → m ≤ 12 → nat_abs (dot m x y) ≤ 864691128455135232
  dot_small m few = let h = dot_bound m bound bound x y (λ i l. x-in i) (λ i l. y-in i) in omega arith
