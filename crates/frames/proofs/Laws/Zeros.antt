-- Runs of zeros.
--
--     zeros_long     a part of k zeros is k long
--     zeros_part     a part of k zeros is the run of k zeros
--
-- Assumes nothing.
use mathlib.Core.Path.{◌≡◌, refl, sym, ap}
use mathlib.Core.List.{List, ◌∷◌}
use Prim.Native.Nat.{ℕ, zero, suc, ◌≤◌}
use native.Mathlib.Omega.{arith}
use lib.ListN.{length, take, length-replicate}
use lib.Seq.{length-take-le}
use lib.IntN.{ℤ, pos}
use Rattle.frames.specs.Answer.{zeros}

pub zeros_long : (n k : ℕ) → k ≤ n → k ≡ length (take k (zeros n))
zeros_long n k h = sym (length-take-le k (zeros n) (let e = length-replicate n (pos 0) in omega arith))

pub zeros_part : (n k : ℕ) → k ≤ n → take k (zeros n) ≡ zeros k
zeros_part n zero h = refl
zeros_part zero (suc k) h = absurd (omega arith)
zeros_part (suc n) (suc k) h = ap (λ (r : List ℤ). pos 0 ∷ r) (zeros_part n k (omega arith))
