-- The places passed have their shared sums, and the gcd is that of the local ones.
use Rattle.std.proofs.Common.{◌≡◌, pos}
use Rattle.integers.specs.Gcd.{gcd_from}
use Rattle.integers.proofs.Laws.Run.{filled}
use Rattle.problem.specs.Lent.{lent}
use Rattle.checker.specs.Code.{shared_sum, local_sum}
use Rattle.checker.proofs.Weighed.shared_sums.Given as goal

abbrev pub invariant-loop-j : goal.invariant-loop-j
invariant-loop-j l = record {
  gcd : pos l.local ≡ gcd_from (pos 0) l.j (lent local_sum l.self.rows.problem l.self.p.now);
  written : l.coeffs ≡ filled l.j (lent shared_sum l.self.rows.problem l.self.p.now) l.initial.coeffs;
}
