-- The numbers passed are changed, the others are as they were.
use Rattle.std.proofs.Common.{◌≡◌, ℕ, ◌<◌, ◌≤◌}
use Rattle.integers.specs.Run.{at}
use Rattle.checker.proofs.change_all.Given as goal

abbrev pub invariant-loop-x : goal.invariant-loop-x
invariant-loop-x g l = record {
  passed : (j : ℕ) → j < l.x-index → g.F.Fn.post l.change (at l.initial.run j, tt) (at l.run j);
  left : (j : ℕ) → l.x-index ≤ j → at l.run j ≡ at l.initial.run j;
}
