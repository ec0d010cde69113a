use Rattle.std.proofs.Common.{sym, ◌∙◌, ap, pos, nat_abs, rules}
use mir.Syntax.{w64}
use mir.Val.{SFits}
use Rattle.integers.specs.Gcd.{gcd_ℕ}
use Rattle.integers.specs.Run.{at}
use Rattle.integers.proofs.Laws.Bits.{stored_is}
use Rattle.integers.proofs.Laws.Gcd.{gcd_from_none, gcd_from_turn}
use Rattle.checker.proofs.common_factor.Goals as goal

pub loop-c-init : goal.loop-c-init
loop-c-init c = sym (gcd_from_none (pos c.args.modulus) (at c.args.coeffs.now))

pub loop-c-preserved : goal.loop-c-preserved
loop-c-preserved c =
    let fits : SFits w64 (at c.args.coeffs.now c.loop-c.c-index) = search rules in
    gcd_from_turn _ _ (at c.args.coeffs.now) _ _ c.loop-c.invariant (c.gcd-common.ensures ∙ ap (gcd_ℕ c.loop-c.common) (c.magnitude.ensures ∙ ap nat_abs (stored_is fits)))
