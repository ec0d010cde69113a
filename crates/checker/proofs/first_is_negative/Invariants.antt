-- The coefficients passed are 0.
use Rattle.std.proofs.Common.{◌≡◌, pos}
use Rattle.integers.specs.Run.{at}
use Rattle.checker.specs.NormalForm.{first_nonzero}
use Rattle.checker.proofs.first_is_negative.Given as goal

abbrev pub invariant-loop-c : goal.invariant-loop-c
invariant-loop-c l = first_nonzero l.c-index (at l.coeffs) ≡ pos 0
