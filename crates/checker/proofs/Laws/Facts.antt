-- Facts whose coefficients stand in a run, as the code has them.
--
--     run_small        every place of the run of a small fact is small, also past the end
--     divided_run      the run, the constant and the modulus divided by g are the fact divided by g
--     divided_small    a fact divided by g stays small         divided_low      a modulus that is 0 or above stays so
--     residue_is       what `rem_euclid` leaves, by a positive number
--
-- Assumes nothing.
use mathlib.Core.Path.{◌≡◌, sym, ◌∙◌, ap, subst}
use mathlib.Core.Bool.{Bool, cond}
use mathlib.Core.List.{List}
use borrow.Author.Tests.{le-ltb}
use Rattle.std.proofs.lemmas.Int.{ints}
use Rattle.std.proofs.Math.Nat.{suc-mod, mod_self, mod-lt, mod-eq_of_lt}
use Prim.Native.Nat.{ℕ, suc, ◌+◌, ◌-◌, ◌%◌, ◌/◌, ◌<◌, ◌≤◌}
use native.Mathlib.Omega.{arith}
use native.Mathlib.Decide.{dec_lt}
use lib.ListN.{length}
use lib.IntN.{ℤ, pos, negsuc, nat_abs, ◌+ℤ◌}
use lib.Signed.{quot_z, ◌≤ℤ◌}
use Rattle.integers.specs.Run.{at, tabulate}
use Rattle.integers.proofs.Laws.Order.{nonneg_is, parts_le}
use Rattle.integers.proofs.Laws.Division.{quot_le, quot-zero}
use Rattle.integers.proofs.Laws.Run.{at_end, tabulate_all}
use Rattle.std.specs.Int.{int_rem_euclid}
use Rattle.checker.specs.NormalForm.{divided, residue}
use Rattle.checker.specs.Code.{fact_of, Small}

pub run_small : (C : ℕ) (run : List ℤ) (constant modulus : ℤ) → Small C (length run) (fact_of run constant modulus) → (j : ℕ) → nat_abs (at run j) ≤ C
run_small C run constant modulus s j = elim (dec_lt j (length run)) [
  | yes h ↦ s.coefs j h
  | no h ↦ let e : at run j ≡ pos 0 = at_end run j (omega arith) in rw e (omega arith)
]

module _ (run : List ℤ) (constant modulus g : ℤ) where
  pub divided_run : fact_of (tabulate (length run) (λ j. quot_z (at run j) g)) (quot_z constant g) (quot_z modulus g) ≡ divided g (fact_of run constant modulus)
  unfolding divided
  divided_run = ap (λ (c : ℕ → ℤ). record { coef = c; const = quot_z constant g; modulus = quot_z modulus g })
      (tabulate_all (length run) (λ j. quot_z (at run j) g) (λ j h. ap (λ x. quot_z x g) (at_end run j h) ∙ quot-zero g))

  pub divided_small : (C n : ℕ) → Small C n (fact_of run constant modulus) → Small C n (divided g (fact_of run constant modulus))
  unfolding divided
  divided_small C n s = record {
    coefs = λ j h. omega (arith, s.coefs j h, quot_le (at run j) g);
    const = omega (arith, s.const, quot_le constant g);
    modulus = omega (arith, s.modulus, quot_le modulus g);
  }

pub divided_low : (m g : ℤ) → pos 0 ≤ℤ m → pos 0 ≤ℤ g → pos 0 ≤ℤ quot_z m g
divided_low m g h k = subst (λ x. pos 0 ≤ℤ x) (sym (ap (λ x. quot_z x g) (nonneg_is m h) ∙ ap (quot_z (pos (nat_abs m))) (nonneg_is g k))) (parts_le (pos 0) (pos (nat_abs m / nat_abs g)) (omega arith))

-- what `rem_euclid` by a positive number leaves, by the remainder of the magnitude
below_zero : (n k : ℕ) → k < n → negsuc k +ℤ pos n ≡ pos (n - 1 - k)
below_zero n k h = omega (arith, ints)

pub residue_is : (n : ℕ) (x : ℤ) → 0 < n → int_rem_euclid x (pos n) ≡ residue (pos n) x
unfolding residue
residue_is n (pos a) h = ap (λ (t : Bool). cond t (pos (a % n + n)) (pos (a % n))) (sym (le-ltb (a % n) 0 (omega arith)))
residue_is n (negsuc a) h = elim (dec_lt (suc (a % n)) n) [
  | yes l ↦ let e : suc a % n ≡ suc (a % n) = suc-mod a n ∙ mod-eq_of_lt l in rw e (sym (below_zero n (a % n) (omega arith)))
  | no l ↦ let e : suc a % n ≡ 0 = suc-mod a n ∙ ap (λ k. k % n) (omega (arith, mod-lt a h)) ∙ mod_self n in rw e (ap pos (omega (arith, mod-lt a h)))
]
