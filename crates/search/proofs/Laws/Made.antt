-- An array that is made place by place.
--
--     made_is     of what a call at each place gives, where a call leaves the closure as it is
--
-- Assumes nothing.
use Rattle.std.proofs.Common.{◌≡◌, ℕ, zero, suc, ◌+◌, ◌<◌, ◌≤◌, List, ℤ, pos, sym, ◌∙◌, ap, subst, arith}
use native.Mathlib.Decide.{ℕ_discrete}
use denote.Param.Members.{Mut, Called}
use Rattle.std.specs.Array.{IsFromFnResultFrom, IsFromFnResult}
use Rattle.integers.specs.Run.{at, tabulate}
use Rattle.integers.proofs.Laws.Run.{tabulate_is}

module _ {F : Type 0} (g : Mut F (ℕ × Unit {0}) ℤ) (f : F) (ys : List ℤ) (h : ℕ → ℤ) (gives : (i : ℕ) (y : ℤ) (q : F) → Called g f (i, tt) y q → (q ≡ f) × (y ≡ h i)) where
  each : (n i k : ℕ) → IsFromFnResultFrom g f ys i n → i ≤ k → k < i + n → at ys k ≡ h k
  each zero i k e low high = absurd (omega arith)
  each (suc n) i k (q, y, here, called, rest) low high =
      let r = gives i y q called in
      elim (ℕ_discrete k i) [
        | yes s ↦ ap (at ys) s ∙ here.1 (pos 0) ∙ r.1 ∙ ap h (sym s)
        | no s ↦ each n (i + 1) k (subst (λ (p : F). IsFromFnResultFrom g p ys (i + 1) n) r.0 rest) (omega arith) (omega arith)
      ]

  pub made_is : (n : ℕ) → IsFromFnResult g f ys n → ys ≡ tabulate n h
  made_is n e = tabulate_is n h ys e.long (λ k l. each n 0 k e.each (omega arith) (omega arith))
