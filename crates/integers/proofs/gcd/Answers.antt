use Rattle.std.proofs.Common.{sym, ◌∙◌, ap}
use native.Mathlib.Nat.{pos_of_ne-zero}
use Rattle.integers.specs.Gcd.{gcd_ℕ}
use Rattle.integers.proofs.Laws.Gcd.{gcd_ℕ-zero, gcd_ℕ_step}
use Rattle.integers.proofs.gcd.Goals as goal

pub loop-y-preserved : goal.loop-y-preserved
loop-y-preserved c = sym (gcd_ℕ_step c.loop-y.x c.loop-y.y (pos_of_ne-zero c.loop-y-test.true)) ∙ c.loop-y.invariant

pub returns : goal.returns
returns c = sym (gcd_ℕ-zero c.loop-y.x) ∙ ap (gcd_ℕ c.loop-y.x) (sym c.loop-y-test.false) ∙ c.loop-y.invariant
