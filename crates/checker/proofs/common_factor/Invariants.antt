-- The gcd is that of the modulus and of the coefficients passed.
use Rattle.std.proofs.Common.{◌≡◌, pos}
use Rattle.integers.specs.Gcd.{gcd_from}
use Rattle.integers.specs.Run.{at}
use Rattle.checker.proofs.common_factor.Given as goal

abbrev pub invariant-loop-c : goal.invariant-loop-c
invariant-loop-c l = pos l.common ≡ gcd_from (pos l.modulus) l.c-index (at l.coeffs)
