-- No second possibility: two results that both meet the contract of a public function are equal. The contracts are equations,
-- so each theorem is one line. Assumes nothing.
use mathlib.Core.Path.{◌≡◌, sym, ◌∙◌}
use mathlib.Core.Bool.{Bool}
use mathlib.Core.List.{List}
use Prim.Native.Nat.{ℕ}
use lib.IntN.{ℤ, nat_abs}
use Rattle.integers.specs.Range.{is_zero, is_negative, within}
use Rattle.integers.specs.Divisibility.{divides}
use Rattle.integers.specs.Gcd.{gcd_ℕ}
use Rattle.integers.specs.Below.{all_below}
use Rattle.integers.specs.Run.{at}
use Rattle.std.specs.Prelude.{length}

pub determined : {A : Type 0} {value r s : A} → r ≡ value → s ≡ value → r ≡ s
determined h k = h ∙ sym k

pub is_zero_determined : (x : ℤ) (r s : Bool) → r ≡ is_zero x → s ≡ is_zero x → r ≡ s
is_zero_determined x r s = determined

pub is_negative_determined : (x : ℤ) (r s : Bool) → r ≡ is_negative x → s ≡ is_negative x → r ≡ s
is_negative_determined x r s = determined

pub magnitude_determined : (x : ℤ) (r s : ℕ) → r ≡ nat_abs x → s ≡ nat_abs x → r ≡ s
magnitude_determined x r s = determined

pub within_determined : (bound : ℕ) (x : ℤ) (r s : Bool) → r ≡ within bound x → s ≡ within bound x → r ≡ s
within_determined bound x r s = determined

pub divides_determined : (d x : ℤ) (r s : Bool) → r ≡ divides d x → s ≡ divides d x → r ≡ s
divides_determined d x r s = determined

pub gcd_determined : (a b r s : ℕ) → r ≡ gcd_ℕ a b → s ≡ gcd_ℕ a b → r ≡ s
gcd_determined a b r s = determined

pub at_determined : (run : List ℤ) (place : ℕ) (r s : ℤ) → r ≡ at run place → s ≡ at run place → r ≡ s
at_determined run place r s = determined

pub all_within_determined : (bound : ℕ) (run : List ℤ) (r s : Bool) → r ≡ all_below (length run) (λ i. within bound (at run i)) → s ≡ all_below (length run) (λ i. within bound (at run i)) → r ≡ s
all_within_determined bound run r s = determined
