-- A refutation is right: where a vector refutes, no point meets all rows.
--
--     no_point    of any rows
--     refuted     of a problem whose vector is accepted: no point meets both sides
--
-- Assumes nothing.
use mathlib.Core.List.{List}
use Prim.Native.Nat.{ℕ}
use lib.IntN.{ℤ}
use Rattle.problem.specs.Rows.{Rows, side_of, rows_of}
use Rattle.problem.specs.Points.{Meets}
use Rattle.problem.proofs.Laws.Points.{meets_both}
use Rattle.checker.specs.Refutation.{Refutes, numerator}
use Rattle.checker.specs.Promises.{Accepted}
use Rattle.checker.proofs.Laws.Weighed as Weighed

pub no_point : (n : ℕ) (R : Rows) (q : ℤ) (p : ℕ → ℤ) → Refutes n R q p → (X : ℕ → ℤ) → Meets n R X → ⊥
no_point n R q p r X s = Weighed.no_point n R q p X r s

pub refuted : (n ma mb : ℕ) (a b : List ℤ) (q : ℤ) (p : List ℤ) → Accepted n ma mb a b q p → (X : ℕ → ℤ) → Meets n (side_of n ma a) X → Meets n (side_of n mb b) X → ⊥
refuted n ma mb a b q p accepted X s t = no_point n (rows_of n ma mb a b) q (numerator p) accepted.refutes X (meets_both n (side_of n ma a) (side_of n mb b) X s t)
