use Rattle.std.proofs.Common.{◌≡◌, Bool, true, false, eqb, ℕ, ◌+◌, ◌-◌, ◌*◌, ◌<◌, ◌≤◌, List, ℤ, nat_abs, sym, ◌∙◌, ap, ap₂, subst, subst₂, arith}
use Rattle.std.specs.Int.Signed.{quot_z}
use borrow.Author.Tests.{eq-eqb, ne_eqb}
use lib.Signed.{mag}
use Rattle.integers.proofs.Laws.Division.{quot_le}
use Rattle.integers.proofs.Laws.Bits.{stored, stored_is}
use Rattle.search.specs.Table.{bound, cell, subtract_column, subtraction_fits}
use Rattle.search.specs.State.{State}
use Rattle.search.specs.Step.{other, first_column, second_column, reduce_by, reduce_of, close_of, step_by, step_of}
use Rattle.search.specs.Code.{last_count, Sound, Reducible, Closable}
use Rattle.search.proofs.Laws.Sound.{step_reducible, step_closable}
use Rattle.search.proofs.State.step.Goals as goal

-- the two columns, as the code has them
module _ (s : State) {first second : ℕ} (f : first ≡ first_column s) (g : second ≡ other (cell s.cells s.row) first s.count (s.given.width - s.count)) where
  second_is : second ≡ second_column s
  second_is = g ∙ ap (λ (f : ℕ). other (cell s.cells s.row) f s.count (s.given.width - s.count)) f

  -- the definition, by the test's answer
  by : (b : Bool) → eqb (second_column s) (first_column s) ≡ b → step_by b s (first_column s) (second_column s) ≡ step_of s
  unfolding step_of
  by b e = ap (λ (x : Bool). step_by x s (first_column s) (second_column s)) (sym e)

  closable : Sound s → s.steps < last_count → Closable s first
  closable h few = subst (Closable s) (sym f) (step_closable s h few)

  closing : second ≡ first → close_of s first ≡ step_of s
  unfolding step_by
  closing e = ap (close_of s) f ∙ by true (eq-eqb (second_column s) (first_column s) (sym second_is ∙ e ∙ f))

  module _ (differ : second ≡ first → ⊥) where
    reducible : Sound s → s.steps < last_count → Reducible s first second
    reducible h few = subst₂ (Reducible s) (sym f) (sym second_is) (step_reducible s h few (λ e. differ (second_is ∙ e ∙ sym f)))

    reducing : reduce_of s first second ≡ step_of s
    unfolding step_by
    reducing = ap₂ (reduce_of s) f second_is ∙ by false (ne_eqb (second_column s) (first_column s) (λ e. differ (second_is ∙ e ∙ sym f)))

-- their entries and the quotient, as the code has them
module _ (s : State) (first second : ℕ) {y x : ℤ} (fy : mag y < 9223372036854775808) (iy : y ≡ cell s.cells s.row second) (fx : mag x < 9223372036854775808) (ix : x ≡ cell s.cells s.row first) where
  abbrev Q : ℤ
  Q = quot_z (cell s.cells s.row second) (cell s.cells s.row first)

  upper : stored y ≡ cell s.cells s.row second
  upper = stored_is {z = y} (record { sfits = fy }) ∙ iy

  lower : stored x ≡ cell s.cells s.row first
  lower = stored_is {z = x} (record { sfits = fx }) ∙ ix

  module _ {q : ℤ} (fq : mag q < 9223372036854775808) (iq : q ≡ quot_z (stored y) (stored x)) where
    quotient_is : stored q ≡ Q
    quotient_is = stored_is {z = q} (record { sfits = fq }) ∙ iq ∙ ap₂ quot_z upper lower

    quotient_in : Reducible s first second → nat_abs (stored q) ≤ bound
    quotient_in h = subst (λ (z : ℤ). nat_abs z ≤ bound) (sym quotient_is) (omega (arith, quot_le (cell s.cells s.row second) (cell s.cells s.row first), h.bounded.place (s.row * 24 + second)))

    fits_by : (t : Bool) → t ≡ subtraction_fits s.cells first second (stored q) → reduce_by t s first second Q ≡ reduce_of s first second
    unfolding reduce_of
    fits_by t e = ap (λ (b : Bool). reduce_by b s first second Q) (e ∙ ap (subtraction_fits s.cells first second) quotient_is)

-- the same state one step on, at other cells
abbrev onward : State → List ℤ → State
onward s l = record { given = s.given; cells = l; row = s.row; count = s.count; pivots = s.pivots; zs = s.zs; steps = s.steps + 1; outcome = s.outcome; found = s.found }

pub close-requires : goal.close-requires
close-requires c = closable c.args.self c.least-first.ensures c.other-second.ensures c.requires.0 c.requires.1

pub returns-then-second-first : goal.returns-then-second-first
returns-then-second-first c = c.close.ensures ∙ closing c.args.self c.least-first.ensures c.other-second.ensures c.if-second-first.true

pub get-requires : goal.get-requires
get-requires c = let h = reducible c.args.self c.least-first.ensures c.other-second.ensures c.if-second-first.false c.requires.0 c.requires.1 in (h.row, h.second_in)

pub get-requires-2 : goal.get-requires-2
get-requires-2 c = let h = reducible c.args.self c.least-first.ensures c.other-second.ensures c.if-second-first.false c.requires.0 c.requires.1 in (h.row, h.first_in)

pub quotient-q-requires : goal.quotient-q-requires
quotient-q-requires c =
    let h = reducible c.args.self c.least-first.ensures c.other-second.ensures c.if-second-first.false c.requires.0 c.requires.1 in
    let y = upper c.args.self c.least-first.result c.other-second.result c.get.type_inv c.get.ensures c.get-2.type_inv c.get-2.ensures in
    let x = lower c.args.self c.least-first.result c.other-second.result c.get.type_inv c.get.ensures c.get-2.type_inv c.get-2.ensures in (
      subst (λ (z : ℤ). nat_abs z ≤ bound) (sym y) (h.bounded.place _),
      subst (λ (z : ℤ). 0 < nat_abs z) (sym x) h.some,
      subst₂ (λ (x y : ℤ). nat_abs x ≤ nat_abs y) (sym x) (sym y) h.less,
    )

pub subtraction_fits-requires : goal.subtraction_fits-requires
subtraction_fits-requires c =
    let h = reducible c.args.self c.least-first.ensures c.other-second.ensures c.if-second-first.false c.requires.0 c.requires.1 in
    (h.first_in, h.second_in, quotient_in c.args.self c.least-first.result c.other-second.result c.get.type_inv c.get.ensures c.get-2.type_inv c.get-2.ensures c.quotient-q.type_inv c.quotient-q.ensures h, h.bounded)

pub returns-then-not-subtraction_fits : goal.returns-then-not-subtraction_fits
unfolding reduce_by
returns-then-not-subtraction_fits c =
    c.too_large.ensures
    ∙ fits_by c.args.self c.least-first.result c.other-second.result c.get.type_inv c.get.ensures c.get-2.type_inv c.get-2.ensures c.quotient-q.type_inv c.quotient-q.ensures false (sym c.if-not-subtraction_fits.true ∙ c.subtraction_fits.ensures)
    ∙ reducing c.args.self c.least-first.ensures c.other-second.ensures c.if-second-first.false

pub subtract_column-requires : goal.subtract_column-requires
subtract_column-requires c =
    let h = reducible c.args.self c.least-first.ensures c.other-second.ensures c.if-second-first.false c.requires.0 c.requires.1 in
    (h.first_in, h.second_in, quotient_in c.args.self c.least-first.result c.other-second.result c.get.type_inv c.get.ensures c.get-2.type_inv c.get-2.ensures c.quotient-q.type_inv c.quotient-q.ensures h, h.bounded)

pub returns : goal.returns
unfolding reduce_by
returns c =
    let s = c.args.self in
    let q = quotient_is c.args.self c.least-first.result c.other-second.result c.get.type_inv c.get.ensures c.get-2.type_inv c.get-2.ensures c.quotient-q.type_inv c.quotient-q.ensures in
    ap (onward s) (c.subtract_column.ensures ∙ ap (subtract_column s.cells c.least-first.result c.other-second.result) q)
    ∙ fits_by c.args.self c.least-first.result c.other-second.result c.get.type_inv c.get.ensures c.get-2.type_inv c.get-2.ensures c.quotient-q.type_inv c.quotient-q.ensures true (sym c.if-not-subtraction_fits.false ∙ c.subtraction_fits.ensures)
    ∙ reducing c.args.self c.least-first.ensures c.other-second.ensures c.if-second-first.false
