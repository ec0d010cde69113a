-- "The largest modulus they allow": the interpolant loses nothing of A's weighted row. It holds exactly at the points at which
-- that row can be completed with integers, for the A-local variables and one for each congruence.
--
--     projected    Completes exactly where the interpolant holds, for any vector
--
-- Assumes nothing.
use Prim.Native.Nat.{ℕ}
use lib.IntN.{ℤ}
use Rattle.problem.specs.Rows.{Rows}
use Rattle.problem.specs.Occurrence.{occurs}
use Rattle.problem.proofs.Laws.Occurrence.{absent}
use Rattle.checker.specs.Fact.{Holds, raw_fact}
use Rattle.checker.specs.NormalForm.{interpolant_of}
use Rattle.checker.specs.Promises.{Completes}
use Rattle.checker.proofs.Laws.Same.{normal_same}
use Rattle.checker.proofs.Laws.Projected.{completed_holds, holds_completed}

pub projected : (n : ℕ) (A B : Rows) (p X : ℕ → ℤ) → let completed = Completes n (occurs A) (occurs B) A p X in
    (completed → Holds n (interpolant_of n A B p) X) × (Holds n (interpolant_of n A B p) X → completed)
projected n A B p X = let same = normal_same n (raw_fact n (occurs A) (occurs B) A p) in (
  λ c. same.from X (completed_holds n (occurs A) (occurs B) A p (absent A) X c),
  λ h. holds_completed n (occurs A) (occurs B) A p (absent A) X (same.to X h),
)
