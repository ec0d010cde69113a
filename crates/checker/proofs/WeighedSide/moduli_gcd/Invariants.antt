-- The gcd is that of g and of the rows passed.
use Rattle.std.proofs.Common.{◌≡◌, pos, ◌*ℤ◌}
use Rattle.integers.specs.Gcd.{gcd_from}
use Rattle.integers.specs.Run.{at}
use Rattle.problem.specs.Rows.{side_of}
use Rattle.checker.proofs.WeighedSide.moduli_gcd.Given as goal

abbrev pub invariant-loop-i : goal.invariant-loop-i
invariant-loop-i l = pos l.common ≡ gcd_from (pos l.g) l.i (λ i. at l.self.weights.now i *ℤ (side_of l.self.side.n l.self.side.m l.self.side.run.now).modulus i)
