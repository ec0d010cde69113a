-- The sum is that over the rows passed; twelve products of two numbers up to a million stay far below 2^63.
use Rattle.std.proofs.Common.{◌≡◌, ◌*◌, ◌≤◌, nat_abs}
use Rattle.integers.specs.Sum.{dot}
use Rattle.integers.specs.Run.{at}
use Rattle.checker.specs.Code.{numbers}
use Rattle.checker.proofs.WeighedSide.column_sum.Given as goal

abbrev pub invariant-loop-i : goal.invariant-loop-i
invariant-loop-i l = record {
  so_far : l.sum ≡ dot l.i (at l.self.weights.now) (numbers l.self.side.n l.self.side.run.now l.column);
  small : nat_abs l.sum ≤ l.i * 1000000000000;
}
