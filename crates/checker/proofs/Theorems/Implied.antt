-- The interpolant of an accepted vector is one: A implies it, B excludes it, and it speaks of shared variables only.
--
--     implied        it holds at every point that meets A
--     excluded       it holds at no point that meets B
--     only_shared    a variable whose coefficient is not 0 is shared
--     left_out       at a variable that is not shared M divides A's column sum, which may be other than 0 though the variable does not
--                    occur in A
--
-- Assumes nothing.
use mathlib.Core.Path.{◌≡◌, refl, ap}
use mathlib.Core.List.{List}
use mathlib.Core.Bool.{Bool, true, false, cond}
use Prim.Native.Nat.{ℕ, ◌<◌}
use lib.IntN.{ℤ, pos}
use Rattle.integers.specs.Divisibility.{◌∣ℤ◌}
use Rattle.problem.specs.Rows.{Rows, side_of}
use Rattle.problem.specs.Points.{Meets}
use Rattle.problem.specs.Occurrence.{occurs, shared}
use Rattle.problem.proofs.Laws.Occurrence.{absent}
use Rattle.checker.specs.Refutation.{column_sum, numerator}
use Rattle.checker.specs.Fact.{Fact, Holds, modulus_of, raw_fact}
use Rattle.checker.specs.NormalForm.{interpolant_of}
use Rattle.checker.specs.Promises.{Accepted}
use Rattle.checker.proofs.Laws.Weighed.{raw_implied, raw_excluded, M-unshared}
use Rattle.checker.proofs.Laws.Same.{normal_same, normal_zero}

-- of any vector
module _ (n : ℕ) (A B : Rows) (p : ℕ → ℤ) where
  abbrev raw : Fact
  raw = raw_fact n (occurs A) (occurs B) A p

  pub implied : (X : ℕ → ℤ) → Meets n A X → Holds n (interpolant_of n A B p) X
  implied X s = (normal_same n raw).from X (raw_implied n (occurs A) (occurs B) A p (absent A) X s)

  pub only_shared : (j : ℕ) → ((interpolant_of n A B p).coef j ≡ pos 0 → ⊥) → shared (occurs A) (occurs B) j ≡ true
  only_shared j h = go (shared (occurs A) (occurs B) j) refl
    where
      go : (t : Bool) → shared (occurs A) (occurs B) j ≡ t → t ≡ true
      go true e = refl
      go false e = absurd (h (normal_zero n raw j (ap (λ (t : Bool). cond t (column_sum A p j) (pos 0)) e)))

  pub left_out : (j : ℕ) → j < n → shared (occurs A) (occurs B) j ≡ false → modulus_of n (occurs A) (occurs B) A p ∣ℤ column_sum A p j
  left_out = M-unshared n (occurs A) (occurs B) A p (absent A)

-- of an accepted one
pub excluded : (n ma mb : ℕ) (a b : List ℤ) (q : ℤ) (p : List ℤ) → Accepted n ma mb a b q p → (X : ℕ → ℤ) → Meets n (side_of n mb b) X →
    Holds n (interpolant_of n (side_of n ma a) (side_of n mb b) (numerator p)) X → ⊥
excluded n ma mb a b q p accepted X s h =
    let A = side_of n ma a in
    let B = side_of n mb b in
    raw_excluded n (occurs A) (occurs B) A (numerator p) (absent A) B (absent B) q accepted.refutes X s ((normal_same n (raw n A B (numerator p))).to X h)
