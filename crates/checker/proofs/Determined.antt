-- No second possibility: two results, and two runs at exit, that both meet the contract of the public function are equal.
-- Assumes nothing.
use mathlib.Core.Path.{◌≡◌}
use mathlib.Core.List.{List}
use Prim.Native.Nat.{ℕ}
use lib.IntN.{ℤ}
use Rattle.integers.proofs.Determined.{determined}
use Rattle.checker.specs.Answer.{judge_answer, judge_run}
use Rattle.std.specs.Prelude.{Result}
use Rattle.problem.specs.declared.Refusal.{Refusal}
use Rattle.checker.specs.declared.Fact.{Fact}

module _ (n ma mb : ℕ) (a b : List ℤ) (q : ℤ) (p entry : List ℤ) where
  pub judge_determined : (r s : Result Fact Refusal) → r ≡ judge_answer n ma mb a b q p entry → s ≡ judge_answer n ma mb a b q p entry → r ≡ s
  judge_determined r s = determined

  pub judge_run_determined : (exit other : List ℤ) → exit ≡ judge_run n ma mb a b q p entry → other ≡ judge_run n ma mb a b q p entry → exit ≡ other
  judge_run_determined exit other = determined
