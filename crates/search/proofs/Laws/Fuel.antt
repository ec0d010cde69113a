-- Why a search ends: "A reduction leaves less than half the magnitude, so a column needs at most 28 in one row: 24 × 28 + 1 = 673
-- steps a row".
--
--     quotient_halves    what a reduction leaves of an entry is less than half of it; all that is asked of the quotient
--     total n f          f 0 + .. + f (n - 1), of naturals
--     Fuel v row steps   column j needs at most `left j` reductions more in the current row, whose entries are v, since |v j| + 2 is at
--                        most 2^(left j + 1); the steps so far and those are at most 673 for each earlier row and 672 for this one
--     fuel_start         at most 673 steps for each earlier row, entries within 2^28: there is fuel
--     fuel_reduce        after a step that less than halves one entry
--     fuel_close         after a step to the next row
--
-- Assumes nothing.
use mathlib.Core.Path.{◌≡◌, refl, sym, ap, ap₂, subst, ◌∙◌}
use mathlib.Core.Bool.{Bool, cond}
use Prim.Native.Nat.{ℕ, zero, suc, ◌+◌, ◌*◌, ◌^◌, ◌≤◌, ◌<◌}
use native.Mathlib.Nat.{pow-succ'}
use native.Mathlib.Omega.{arith}
use native.Mathlib.Decide.{ℕ_discrete}
use borrow.Author.Tests.{eq-eqb, ne_eqb}
use lib.Dec.{eqb}
use lib.IntN.{ℤ, nat_abs}
use Rattle.integers.proofs.Laws.Division.{quot_halves}
use Rattle.search.specs.Table.{bound, less_times}
use Rattle.search.specs.Step.{quotient}

pub quotient_halves : (y x : ℤ) → 0 < nat_abs x → nat_abs x ≤ nat_abs y → 2 * nat_abs (less_times y (quotient y x) x) < nat_abs y
quotient_halves y x some least = quot_halves y x some least

unfoldable pub total : ℕ → (ℕ → ℕ) → ℕ
total zero f = 0
total (suc n) f = total n f + f n

pub record Fuel (v : ℕ → ℤ) (row steps : ℕ) : Type 0 where
  pub left : ℕ → ℕ
  pub enough : (j : ℕ) → j < 24 → nat_abs (v j) + 2 ≤ 2 ^ suc (left j)
  pub paid : steps + total 24 left ≤ 673 * row + 672

total_same : (n : ℕ) (f g : ℕ → ℕ) → ((i : ℕ) → i < n → g i ≡ f i) → total n g ≡ total n f
unfolding total
total_same zero f g h = refl
total_same (suc n) f g h = ap₂ (λ (a b : ℕ). a + b) (total_same n f g (λ i l. h i (omega arith))) (h n (omega arith))

-- one of them less by 1
total_less : (n : ℕ) (f g : ℕ → ℕ) (k : ℕ) → k < n → ((i : ℕ) → i < n → (i ≡ k → ⊥) → g i ≡ f i) → suc (g k) ≡ f k → suc (total n g) ≡ total n f
unfolding total
total_less zero f g k l h e = absurd (omega arith)
total_less (suc n) f g k l h e = elim (ℕ_discrete k n) [
  | yes q ↦ let s = total_same n f g (λ i r. h i (omega arith) (omega arith)) in
      let t = subst (λ (j : ℕ). suc (g j) ≡ f j) q e in
      omega arith
  | no q ↦ let s = total_less n f g k (omega arith) (λ i r. h i (omega arith)) e in
      let t = h n (omega arith) (λ r. q (sym r)) in
      omega arith
]

total_row : total 24 (λ j. 28) ≡ 672
unfolding total
total_row = refl

pub fuel_start : (v : ℕ → ℤ) (row steps : ℕ) → ((j : ℕ) → nat_abs (v j) ≤ bound) → steps ≤ 673 * row → Fuel v row steps
fuel_start v row steps b h = record {
  left = λ j. 28;
  enough = λ j l. let s = b j in omega arith;
  paid = let e = total_row in omega arith;
}

pub fuel_close : (v next : ℕ → ℤ) (row steps : ℕ) → Fuel v row steps → ((j : ℕ) → nat_abs (next j) ≤ bound) → Fuel next (row + 1) (steps + 1)
fuel_close v next row steps f b = let p = f.paid in fuel_start next (row + 1) (steps + 1) b (omega arith)

pub fuel_reduce : (v next : ℕ → ℤ) (row steps k : ℕ) → Fuel v row steps → k < 24 → 2 * nat_abs (next k) < nat_abs (v k) →
    ((j : ℕ) → j < 24 → (j ≡ k → ⊥) → next j ≡ v j) → Fuel next row (steps + 1)
fuel_reduce v next row steps k f h less rest = by (f.left k) refl
  where
    keep : ℕ → ℕ → ℕ
    keep x j = cond (eqb j k) x (f.left j)

    at_k : (x : ℕ) → keep x k ≡ x
    at_k x = ap (λ (b : Bool). cond b x (f.left k)) (eq-eqb k k refl)

    at_other : (x j : ℕ) → (j ≡ k → ⊥) → keep x j ≡ f.left j
    at_other x j d = ap (λ (b : Bool). cond b x (f.left j)) (ne_eqb j k d)

    by : (x : ℕ) → f.left k ≡ x → Fuel next row (steps + 1)
    by zero e = let r = subst (λ (y : ℕ). nat_abs (v k) + 2 ≤ 2 ^ suc y) e (f.enough k h) in absurd (omega arith)
    by (suc x) e = record {
      left = keep x;
      enough = λ j l. elim (ℕ_discrete j k) [
        | yes q ↦ subst (λ (i : ℕ). nat_abs (next i) + 2 ≤ 2 ^ suc (keep x i)) (sym q) (subst (λ (y : ℕ). nat_abs (next k) + 2 ≤ 2 ^ suc y) (sym (at_k x))
            (let r = subst (λ (y : ℕ). nat_abs (v k) + 2 ≤ 2 ^ suc y) e (f.enough k h) in let s = pow-succ' 2 (suc x) in omega arith))
        | no d ↦ subst (λ (y : ℕ). nat_abs (next j) + 2 ≤ 2 ^ suc y) (sym (at_other x j d)) (subst (λ (z : ℤ). nat_abs z + 2 ≤ 2 ^ suc (f.left j)) (sym (rest j l d)) (f.enough j l))
      ];
      paid = let p = f.paid in let s = total_less 24 f.left (keep x) k h (λ i l d. at_other x i d) (ap suc (at_k x) ∙ sym e) in omega arith;
    }
