use mathlib.Core.Path.{◌≡◌, sym, ◌∙◌, ap, ap₂}
use mathlib.Core.List.{[], ◌∷◌}
use native.Mathlib.Omega.{arith}
use lib.IntN.{ℤ, pos, nat_abs, ◌-ℤ◌, ◌*ℤ◌}
use lib.Signed.{quot_z, rem_z}
use mir.Syntax.{w64}
use mir.Val.{SFits}
use Rattle.integers.proofs.Laws.Normaliser.{ring!, quote}
use Rattle.integers.proofs.Laws.Magnitude.{nat_abs_sub}
use Rattle.integers.proofs.Laws.Division.{rem_is, rem_le, quot-mul}
use Rattle.integers.proofs.Laws.Bits.{fits, fits_quot, stored, stored_is}
use Rattle.search.proofs.quotient.Goals as goal
use Rattle.search.proofs.quotient.Goals.{After-remainder, Start}

-- what y has beyond the remainder
abbrev beyond : Start → ℤ
beyond s = s.args.y -ℤ rem_z s.args.y s.args.x

beyond-fits : (s : Start) → SFits w64 (beyond s)
beyond-fits s = let y = s.args.y in let r = rem_z y s.args.x in fits (beyond s) (omega (arith, nat_abs_sub y r, rem_le y s.args.x, s.requires.0))

-- x divides it
exact : (y x : ℤ) → (x ≡ pos 0 → ⊥) → quot_z (y -ℤ rem_z y x) x ≡ quot_z y x
exact y x h =
    let q = quot_z y x in
    let e : y -ℤ rem_z y x ≡ q *ℤ x = ap (λ (r : ℤ). y -ℤ r) (sym (rem_is y x)) ∙ ring! (y ∷ x ∷ q ∷ []) (search quote depth 40 fits 20000) tt in
    ap (λ (z : ℤ). quot_z z x) e ∙ quot-mul q x h

beyond-is : (c : After-remainder) → stored c.args.y -ℤ stored c.remainder.result ≡ beyond c.before
beyond-is c =
    let read = stored_is c.ranges.y in
    ap₂ (λ (y r : ℤ). y -ℤ r) read (stored_is (record { sfits = c.remainder.type_inv }) ∙ c.remainder.ensures.value ∙ ap₂ rem_z read (stored_is c.ranges.x))

divided-is : (c : After-remainder) → quot_z (stored (stored c.args.y -ℤ stored c.remainder.result)) (stored c.args.x) ≡ quot_z (beyond c.before) c.args.x
divided-is c = ap₂ quot_z (ap stored (beyond-is c) ∙ stored_is (beyond-fits c.before)) (stored_is c.ranges.x)

pub returns : goal.returns
returns c =
    let y = c.args.y in
    let x = c.args.x in
    let r = rem_z y x in
    ap stored (divided-is c)
    ∙ stored_is (fits_quot (beyond c.before) x (omega (arith, nat_abs_sub y r, rem_le y x, c.requires.0)))
    ∙ exact y x (λ e. let z = ap nat_abs e in omega (arith, c.requires.1))
