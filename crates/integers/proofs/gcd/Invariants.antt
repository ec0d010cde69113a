-- The gcd of x and y stays that of a and b, and y falls.
use Rattle.std.proofs.Common.{◌≡◌}
use Rattle.integers.specs.Gcd.{gcd_ℕ}
use Rattle.integers.proofs.gcd.Given as goal

abbrev pub invariant-loop-y : goal.invariant-loop-y
invariant-loop-y l = gcd_ℕ l.x l.y ≡ gcd_ℕ l.fn.a l.fn.b

abbrev pub decreases-loop-y : goal.decreases-loop-y
decreases-loop-y l = l.y
