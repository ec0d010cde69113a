use Rattle.std.proofs.Common.{◌≡◌, ◌+◌, ◌*◌, sym, ◌∙◌, ap, nat_abs, arith, ◌*ℤ◌}
use Rattle.integers.specs.Gcd.{gcd_ℕ}
use Rattle.integers.specs.Run.{at}
use Rattle.integers.proofs.Laws.Bits.{stored_is}
use Rattle.integers.proofs.Laws.Gcd.{gcd_from_none, gcd_from_turn}
use Rattle.checker.proofs.WeighedSide.moduli_gcd.Goals as goal

pub loop-i-init : goal.loop-i-init
loop-i-init c = sym (gcd_from_none _ _)

pub loop-i-preserved : goal.loop-i-preserved
loop-i-preserved c =
    let s = c.args.self.now in
    let i = c.loop-i.i in
    let place : i * (s.side.n + 2) + (s.side.n + 1) ≡ i * (s.side.n + 2) + s.side.n + 1 = omega arith in
    gcd_from_turn _ _ _ _ _ c.loop-i.invariant
    (c.gcd-common.ensures ∙ ap (gcd_ℕ c.loop-i.common)
    (c.magnitude.ensures ∙ ap nat_abs (stored_is (record { sfits = c.product.type_inv }) ∙ c.product.ensures.value ∙ ap (λ k. at s.weights.now i *ℤ at s.side.run.now k) place)))
