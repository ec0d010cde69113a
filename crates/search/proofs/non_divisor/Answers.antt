use mathlib.Core.Path.{◌≡◌, sym, ◌∙◌, ap, subst⁻¹}
use Prim.Native.Nat.{ℕ, ◌+◌, ◌<◌, ◌≤◌, ◌^◌}
use native.Mathlib.Omega.{arith}
use native.Mathlib.Decide.{ℕ_discrete}
use lib.IntN.{ℤ, pos, nat_abs, ◌+ℤ◌}
use mathlib.Core.Bool.{true, false}
use mir.Syntax.{w64}
use mir.Val.{to_z, of_z}
use Rattle.integers.specs.Divisibility.{◌∣ℤ◌, divides}
use Rattle.integers.specs.NonDivisor.{non_divisor}
use Rattle.integers.proofs.Laws.Bits.{fits, bits_eq, stored, stored_is, stored_pos}
use Rattle.integers.proofs.Laws.Divisibility.{∣_le, divides_true, divides_false}
use Rattle.integers.proofs.Laws.NonDivisor.{non_divisor_unique, non_divisor-zero}
use Rattle.search.proofs.non_divisor.Goals as goal

-- Q is the number q, S the number s, as they are read back
module _ (S Q : ℤ) (q : ℕ) (is : Q ≡ pos q) where
  next : q ≤ nat_abs S + 1 → nat_abs S < 2 ^ 62 → stored (Q +ℤ pos 1) ≡ pos (q + 1)
  next h small = ap (λ (x : ℤ). stored (x +ℤ pos 1)) is ∙ stored_pos (q + 1) (omega arith)

  divided : divides Q S ≡ true → pos q ∣ℤ S
  divided e = divides_true (pos q) S (ap (λ (x : ℤ). divides x S) (sym is) ∙ e)

  stops : divides Q S ≡ false → pos q ∣ℤ S → ⊥
  stops e = divides_false (pos q) S (ap (λ (x : ℤ). divides x S) (sym is) ∙ e)

pub returns-then-s-eq0 : goal.returns-then-s-eq0
returns-then-s-eq0 c = ap pos (sym non_divisor-zero) ∙ ap (λ (x : ℤ). pos (non_divisor x)) (sym (bits_eq c.args.s (pos 0) c.ranges.s (fits (pos 0) (omega arith)) c.if-s-eq0.true))

pub loop-q-preserved : goal.loop-q-preserved
loop-q-preserved c =
    let S = stored c.args.s in
    let Q = to_z w64 c.loop-q.q-bits in
    let q = nat_abs Q in
    let inv = c.loop-q.invariant in
    let small : nat_abs S < 2 ^ 62 = subst⁻¹ (λ (x : ℤ). nat_abs x < 2 ^ 62) (stored_is c.ranges.s) c.requires in
    let some : S ≡ pos 0 → ⊥ = λ e. c.if-s-eq0.false (ap (of_z w64) (sym (stored_is c.ranges.s) ∙ e)) in
    let by = divided S Q q inv.0 (sym c.divides.ensures ∙ c.if-not-divides.false) in
    let low : q ≤ nat_abs S = ∣_le some by in
    let e : stored (Q +ℤ pos 1) ≡ pos (q + 1) = next S Q q inv.0 inv.2 small in
    let n : nat_abs (stored (Q +ℤ pos 1)) ≡ q + 1 = ap nat_abs e in (
      e ∙ ap (λ (x : ℤ). pos (nat_abs x)) (sym e),
      omega (arith, n, inv.1),
      omega (arith, n, low),
      λ k two less. elim (ℕ_discrete k q) [
        | yes r ↦ subst⁻¹ (λ (j : ℕ). pos j ∣ℤ S) r by
        | no r ↦ inv.3 k two (omega (arith, n))
      ],
    )

pub returns : goal.returns
returns c =
    let S = stored c.args.s in
    let Q = to_z w64 c.loop-q.q-bits in
    let inv = c.loop-q.invariant in
    let fails = stops S Q (nat_abs Q) inv.0 (sym c.divides.ensures ∙ c.if-not-divides.true) in
    inv.0 ∙ ap pos (non_divisor_unique S (nat_abs Q) (record { from_two = inv.1; fails = fails; below = inv.3 }))
    ∙ ap (λ (x : ℤ). pos (non_divisor x)) (stored_is c.ranges.s)
