use mathlib.Core.Path.{◌≡◌, ◌∙◌, ap, ap₂, subst⁻¹}
use Prim.Native.Nat.{ℕ, ◌<◌, ◌^◌}
use native.Mathlib.Omega.{arith}
use lib.IntN.{pos, nat_abs}
use Rattle.integers.specs.Gcd.{gcd_ℕ, gcd_ℤ}
use Rattle.integers.proofs.Laws.Bits.{fits, stored_is, stored_pos}
use Rattle.integers.proofs.Laws.Gcd.{gcd_ℕ_le}
use Rattle.search.proofs.common_divisor.Goals as goal
use Rattle.search.proofs.common_divisor.Goals.{After-gcd}

gcd-is : (c : After-gcd) → c.gcd.result ≡ gcd_ℕ (nat_abs c.args.s) (nat_abs c.args.e)
gcd-is c =
    c.gcd.ensures ∙ ap₂ gcd_ℕ (c.unsigned_abs.ensures.value ∙ ap nat_abs (stored_is c.ranges.s)) (c.unsigned_abs-2.ensures.value ∙ ap nat_abs (stored_is c.ranges.e))

gcd-small : (c : After-gcd) → c.gcd.result < 2 ^ 63
gcd-small c =
    let h = gcd_ℕ_le (nat_abs c.args.s) (nat_abs c.args.e) (2 ^ 62) (omega arith) (omega arith) in
    subst⁻¹ (λ (n : ℕ). n < 2 ^ 63) (gcd-is c) (omega arith)

pub overflow_cast-result : goal.overflow_cast-result
overflow_cast-result c = fits (pos c.gcd.result) (gcd-small c)

pub returns : goal.returns
unfolding gcd_ℤ
returns c = stored_pos c.gcd.result (gcd-small c) ∙ ap pos (gcd-is c)
