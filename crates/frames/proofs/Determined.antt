-- No second possibility: two results, and two runs at exit, that both meet the contract of the public function are equal.
-- Assumes nothing.
use mathlib.Core.Path.{◌≡◌}
use mathlib.Core.List.{List}
use Prim.Native.Nat.{ℕ}
use Rattle.integers.proofs.Determined.{determined}
use Rattle.frames.specs.Answer.{respond_end, respond_run}

module _ (line out : List ℕ) (at : ℕ) where
  pub respond_determined : (r s : ℕ) → r ≡ respond_end line out at → s ≡ respond_end line out at → r ≡ s
  respond_determined r s = determined

  pub respond_run_determined : (exit other : List ℕ) → exit ≡ respond_run line out at → other ≡ respond_run line out at → exit ≡ other
  respond_run_determined exit other = determined
