-- The least number from 2 up that does not divide.
--
--     non_divisor_is        s ≠ 0: non_divisor s is the LeastNonDivisor of s
--     non_divisor_unique    it is the only one: what a loop over 2, 3, .. stops at is non_divisor s
--     non_divisor-zero      non_divisor 0 = 2
--
-- Assumes nothing.
use mathlib.Core.Path.{◌≡◌, refl, sym, subst}
use mathlib.Core.Bool.{Bool, true, false}
use Prim.Native.Nat.{ℕ, zero, suc, ◌+◌, ◌<◌, ◌≤◌}
use native.Mathlib.Omega.{arith}
use native.Mathlib.Decide.{ℕ_discrete, dec_lt}
use lib.IntN.{ℤ, pos, nat_abs}
use Rattle.integers.specs.Divisibility.{◌∣ℤ◌, divides}
use Rattle.integers.specs.NonDivisor.{LeastNonDivisor, non_divisor_from, non_divisor}
use Rattle.integers.proofs.Laws.Magnitude.{nat_abs_zero}
use Rattle.integers.proofs.Laws.Divisibility.{∣_le, ∣_zero, divides_true, divides_false}

-- each number from 2 on and below q divides s
abbrev Below : ℤ → ℕ → Type 0
Below s q = (k : ℕ) → 2 ≤ k → k < q → pos k ∣ℤ s

below_more : (s : ℤ) (q : ℕ) → Below s q → pos q ∣ℤ s → Below s (q + 1)
below_more s q b d k l h = elim (ℕ_discrete k q) [
  | yes e ↦ subst (λ (j : ℕ). pos j ∣ℤ s) (sym e) d
  | no e ↦ b k l (omega arith)
]

-- q + k is past |s|, so that the trial of q, .., q + k - 1 finds one that does not divide, at the latest |s| + 1
found : (k q : ℕ) (s : ℤ) → (s ≡ pos 0 → ⊥) → 2 ≤ q → q ≤ nat_abs s + 1 → nat_abs s + 2 ≡ q + k → Below s q →
    LeastNonDivisor s (non_divisor_from k q s) × (non_divisor_from k q s ≤ nat_abs s + 1)
unfolding non_divisor_from
found zero q s n l h e b = absurd (omega arith)
found (suc k) q s n l h e b = go (divides (pos q) s) refl
    (λ d. found k (q + 1) s n (omega arith) (last d) (omega arith) (below_more s q b d))
  where
    last : pos q ∣ℤ s → q + 1 ≤ nat_abs s + 1
    last d = let r = ∣_le n d in omega arith

    go : (t : Bool) → divides (pos q) s ≡ t → (pos q ∣ℤ s → LeastNonDivisor s (non_divisor_from k (q + 1) s) × (non_divisor_from k (q + 1) s ≤ nat_abs s + 1))
        → LeastNonDivisor s (elim t as (λ x. ℕ) [ true ↦ non_divisor_from k (q + 1) s | false ↦ q ]) × (elim t as (λ x. ℕ) [ true ↦ non_divisor_from k (q + 1) s | false ↦ q ] ≤ nat_abs s + 1)
    go true d onward = onward (divides_true (pos q) s d)
    go false d onward = (record { from_two = l; fails = divides_false (pos q) s d; below = b }, h)

both : (s : ℤ) → (s ≡ pos 0 → ⊥) → LeastNonDivisor s (non_divisor s) × (non_divisor s ≤ nat_abs s + 1)
unfolding non_divisor
both s n = found (nat_abs s) 2 s n (omega arith) (some (nat_abs s) refl) (omega arith) (λ k l h. absurd (omega arith))
  where
    some : (m : ℕ) → nat_abs s ≡ m → 2 ≤ nat_abs s + 1
    some zero e = absurd (n (nat_abs_zero s e))
    some (suc m) e = omega arith

pub non_divisor_is : (s : ℤ) → (s ≡ pos 0 → ⊥) → LeastNonDivisor s (non_divisor s)
non_divisor_is s n = (both s n).0

pub non_divisor-zero : non_divisor (pos 0) ≡ 2
unfolding non_divisor non_divisor_from
non_divisor-zero = refl

pub non_divisor_unique : (s : ℤ) (q : ℕ) → LeastNonDivisor s q → q ≡ non_divisor s
non_divisor_unique s q l = same (non_divisor_is s (λ e. l.fails (subst (λ x. pos q ∣ℤ x) (sym e) (∣_zero (pos q)))))
  where
    same : LeastNonDivisor s (non_divisor s) → q ≡ non_divisor s
    same r = elim (dec_lt q (non_divisor s)) [
      | yes h ↦ absurd (l.fails (r.below q l.from_two h))
      | no h ↦ elim (dec_lt (non_divisor s) q) [
        | yes k ↦ absurd (r.fails (l.below (non_divisor s) r.from_two k))
        | no k ↦ omega arith
      ]
    ]
