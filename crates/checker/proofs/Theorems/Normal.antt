-- The normal form says the same as the fact, and is normal: TRUE, FALSE, an equality without common factor and with its first
-- nonzero coefficient positive, or a congruence modulo 2 or more without common factor and with all else in 0..modulus − 1.
--
--     normal_same         the normal form of a fact holds at the points at which the fact holds
--     normal-form         it is normal, if the fact's modulus is not negative
--     interpolant_same    the interpolant of any vector holds at the points at which its raw fact holds
--     interpolant_form    it is normal
--
-- Assumes nothing.
use Prim.Native.Nat.{ℕ}
use lib.IntN.{ℤ, pos}
use lib.Signed.{◌≤ℤ◌}
use Rattle.problem.specs.Rows.{Rows}
use Rattle.problem.specs.Occurrence.{occurs}
use Rattle.checker.specs.Fact.{Fact, raw_fact}
use Rattle.checker.specs.NormalForm.{normal_form, interpolant_of}
use Rattle.checker.specs.Promises.{Same, IsNormal}
use Rattle.checker.proofs.Laws.Same as Points
use Rattle.checker.proofs.Laws.Form as Form
use Rattle.checker.proofs.Laws.Bounds.{modulus_low}

module _ (n : ℕ) (f : Fact) where
  pub normal_same : Same n (normal_form n f) f
  normal_same = Points.normal_same n f

  pub normal-form : pos 0 ≤ℤ f.modulus → IsNormal n (normal_form n f)
  normal-form = Form.normal-form n f

module _ (n : ℕ) (A B : Rows) (p : ℕ → ℤ) where
  pub interpolant_same : Same n (interpolant_of n A B p) (raw_fact n (occurs A) (occurs B) A p)
  interpolant_same = normal_same n (raw_fact n (occurs A) (occurs B) A p)

  pub interpolant_form : IsNormal n (interpolant_of n A B p)
  interpolant_form = normal-form n (raw_fact n (occurs A) (occurs B) A p) (modulus_low n (occurs A) (occurs B) A p)
