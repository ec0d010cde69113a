use Rattle.std.proofs.Common.{◌≡◌, ℕ, ◌/◌, ◌<◌, ◌≤◌, sym, ◌∙◌, ap, ap₂, subst, rules, arith, length, List, ℤ, pos, nat_abs}
use mathlib.Core.Bool.{Bool, true, false}
use lib.Signed.{quot_z}
use mir.Syntax.{w64}
use mir.Val.{SFits, to_z}
use Rattle.std.proofs.lemmas.Int.{ints}
use Rattle.integers.specs.Divisibility.{◌∣ℤ◌, divides}
use Rattle.integers.specs.Run.{at, tabulate}
use Rattle.integers.proofs.Laws.Bits.{stored, stored_is, fits}
use Rattle.integers.proofs.Laws.Divisibility.{divides_true}
use Rattle.integers.proofs.Laws.Division.{quot_le}
use Rattle.integers.proofs.Laws.Gcd.{gcd_from_start, gcd_from_each, gcd_from_le}
use Rattle.integers.proofs.Laws.Run.{tabulate_is}
use Rattle.checker.specs.Fact.{Fact}
use Rattle.checker.specs.NormalForm.{true_fact, divided}
use Rattle.checker.specs.Answer.{stated}
use Rattle.checker.specs.Code.{largest, fact_of, Small, finished, short_by, common_factor, short_form}
use Rattle.checker.proofs.Laws.Short.{Agree, zeros_true}
use Rattle.checker.proofs.Laws.Facts.{divided_run, divided_small}
use Rattle.checker.proofs.normalise.Goals as goal

-- the fact of a run, a constant and a modulus, and the gcd of its numbers
module _ (run : List ℤ) (constant : ℤ) (modulus g : ℕ) (is : pos g ≡ common_factor (length run) (fact_of run constant (pos modulus))) where
  abbrev entry : Fact
  entry = fact_of run constant (pos modulus)

  abbrev n : ℕ
  n = length run

  factor-small : Small largest n entry → g ≤ largest
  factor-small s = subst (λ x. nat_abs x ≤ largest) (sym is) (gcd_from_le (pos modulus) n (at run) largest s.modulus s.coefs)

  by_test : (t : Bool) → t ≡ divides (pos g) constant → short_by t n (divided (pos g) entry) ≡ short_form n entry
  unfolding short_form
  by_test t e = ap₂ (λ b x. short_by b n (divided x entry)) e is ∙ ap (λ x. short_by (divides x constant) n (divided (common_factor n entry) entry)) is

  no_factor : g ≡ 0 → true ≡ divides (pos g) constant → Agree n (finished n (divided (pos g) entry)) true_fact
  no_factor zero e = zeros_true n entry (pos g) (subst (λ x. x ∣ℤ pos modulus) (sym is) (gcd_from_start (pos modulus) n (at run))) (λ j l. subst (λ x. x ∣ℤ at run j) (sym is) (gcd_from_each (pos modulus) n (at run) j l)) (ap pos zero) (divides_true (pos g) constant (sym e))

pub overflow_cast-divisor : goal.overflow_cast-divisor
overflow_cast-divisor c = fits (pos c.common_factor-g.result) (omega (arith, factor-small c.args.coeffs.now c.args.constant c.args.modulus _ c.common_factor-g.ensures c.requires))

-- what was tested, of the numbers themselves
tested : (g : ℕ) (k : ℤ) (t : Bool) → g ≤ largest → SFits w64 k → t ≡ divides (to_z w64 g) (stored k) → t ≡ divides (pos g) k
tested g k t small fit e = let same : to_z w64 g ≡ pos g = omega (arith, ints, small) in e ∙ ap₂ divides same (stored_is fit)

pub returns-then-not-divides-clause-value : goal.returns-then-not-divides-clause-value
unfolding short_by
returns-then-not-divides-clause-value c =
    let a = c.args in
    let small = factor-small a.coeffs.now a.constant a.modulus _ c.common_factor-g.ensures c.requires in
    ap stated (by_test a.coeffs.now a.constant a.modulus _ c.common_factor-g.ensures false (tested _ a.constant false small c.ranges.constant (sym c.if-not-divides.true ∙ c.divides.ensures)))

pub returns-then-not-divides-clause-coeffs_after : goal.returns-then-not-divides-clause-coeffs_after
unfolding short_by
returns-then-not-divides-clause-coeffs_after c =
    let a = c.args in
    let small = factor-small a.coeffs.now a.constant a.modulus _ c.common_factor-g.ensures c.requires in
    let zeros : (j : ℕ) → j < length a.coeffs.now → at c.fill.new.self j ≡ pos 0 = λ j l. search rules in
    tabulate_is (length a.coeffs.now) (λ j. pos 0) c.fill.new.self c.fill.auto.self zeros
    ∙ ap (λ (h : Fact). tabulate (length a.coeffs.now) h.coef) (by_test a.coeffs.now a.constant a.modulus _ c.common_factor-g.ensures false (tested _ a.constant false small c.ranges.constant (sym c.if-not-divides.true ∙ c.divides.ensures)))

pub returns-then-g-eq0-clause-value : goal.returns-then-g-eq0-clause-value
unfolding short_by
returns-then-g-eq0-clause-value c =
    let a = c.args in
    let small = factor-small a.coeffs.now a.constant a.modulus _ c.common_factor-g.ensures c.requires in
    let e = tested c.common_factor-g.result a.constant true small c.ranges.constant (sym c.if-not-divides.false ∙ c.divides.ensures) in
    let zeros = no_factor a.coeffs.now a.constant a.modulus _ c.common_factor-g.ensures c.if-g-eq0.true e in
    ap₂ (λ (k m : ℤ). record { constant = k; modulus = m }) (sym zeros.const) (sym zeros.modulus) ∙ ap stated (by_test a.coeffs.now a.constant a.modulus _ c.common_factor-g.ensures true e)

pub returns-then-g-eq0-clause-coeffs_after : goal.returns-then-g-eq0-clause-coeffs_after
unfolding short_by
returns-then-g-eq0-clause-coeffs_after c =
    let a = c.args in
    let small = factor-small a.coeffs.now a.constant a.modulus _ c.common_factor-g.ensures c.requires in
    let e = tested c.common_factor-g.result a.constant true small c.ranges.constant (sym c.if-not-divides.false ∙ c.divides.ensures) in
    let none = no_factor a.coeffs.now a.constant a.modulus _ c.common_factor-g.ensures c.if-g-eq0.true e in
    let zeros : (j : ℕ) → j < length a.coeffs.now → at c.fill-then-g-eq0.new.self j ≡ pos 0 = λ j l. search rules in
    tabulate_is (length a.coeffs.now) _ c.fill-then-g-eq0.new.self c.fill-then-g-eq0.auto.self (λ j l. zeros j l ∙ sym (none.coefs j l))
    ∙ ap (λ (h : Fact). tabulate (length a.coeffs.now) h.coef) (by_test a.coeffs.now a.constant a.modulus _ c.common_factor-g.ensures true e)

-- the fact that is left to finish
divided_is : (run new : List ℤ) (k : ℤ) (m g : ℕ) → length new ≡ length run → g ≤ largest → SFits w64 k → nat_abs k ≤ largest → ((j : ℕ) → j < length run → at new j ≡ quot_z (at run j) (pos g)) →
    fact_of new (stored (quot_z (stored k) (to_z w64 g))) (pos (m / g)) ≡ divided (pos g) (fact_of run k (pos m))
divided_is run new k m g long small fit k-small each =
    let same : to_z w64 g ≡ pos g = omega (arith, ints, small) in
    let q : stored (quot_z (stored k) (to_z w64 g)) ≡ quot_z k (pos g) = ap stored (ap₂ quot_z (stored_is fit) same) ∙ stored_is (fits (quot_z k (pos g)) (omega (arith, quot_le k (pos g), k-small))) in
    ap₂ (λ run k. fact_of run k (pos (m / g))) (tabulate_is (length run) (λ j. quot_z (at run j) (pos g)) new long each) q
    ∙ divided_run run k (pos m) (pos g)

pub finish-requires : goal.finish-requires
finish-requires c =
    let a = c.args in
    let run = a.coeffs.now in
    let new = c.change_all.new.run in
    let g = c.common_factor-g.result in
    let small = factor-small run a.constant a.modulus g c.common_factor-g.ensures c.requires in
    let same : to_z w64 g ≡ pos g = omega (arith, ints, small) in
    let each : (j : ℕ) → j < length run → at new j ≡ quot_z (at run j) (to_z w64 g) = λ j l. let e = c.change_all.ensures j l in search rules in
    let left = divided_is run new a.constant a.modulus g c.change_all.auto.run small c.ranges.constant c.requires.const (λ j l. each j l ∙ ap (quot_z (at run j)) same) in
    subst (λ n. Small largest n (fact_of new (stored (quot_z (stored a.constant) (to_z w64 g))) (pos (a.modulus / g)))) (sym c.change_all.auto.run) (subst (Small largest (length run)) (sym left) (divided_small run a.constant (pos a.modulus) (pos g) largest (length run) c.requires))

pub returns-clause-value : goal.returns-clause-value
unfolding short_by
returns-clause-value c =
    let a = c.args in
    let run = a.coeffs.now in
    let new = c.change_all.new.run in
    let g = c.common_factor-g.result in
    let small = factor-small run a.constant a.modulus g c.common_factor-g.ensures c.requires in
    let same : to_z w64 g ≡ pos g = omega (arith, ints, small) in
    let each : (j : ℕ) → j < length run → at new j ≡ quot_z (at run j) (to_z w64 g) = λ j l. let e = c.change_all.ensures j l in search rules in
    let left = divided_is run new a.constant a.modulus g c.change_all.auto.run small c.ranges.constant c.requires.const (λ j l. each j l ∙ ap (quot_z (at run j)) same) in
    let e = tested g a.constant true small c.ranges.constant (sym c.if-not-divides.false ∙ c.divides.ensures) in
    c.finish.ensures.value ∙ ap stated (ap₂ finished c.change_all.auto.run left ∙ by_test run a.constant a.modulus g c.common_factor-g.ensures true e)

pub returns-clause-coeffs_after : goal.returns-clause-coeffs_after
unfolding short_by
returns-clause-coeffs_after c =
    let a = c.args in
    let run = a.coeffs.now in
    let new = c.change_all.new.run in
    let g = c.common_factor-g.result in
    let small = factor-small run a.constant a.modulus g c.common_factor-g.ensures c.requires in
    let same : to_z w64 g ≡ pos g = omega (arith, ints, small) in
    let each : (j : ℕ) → j < length run → at new j ≡ quot_z (at run j) (to_z w64 g) = λ j l. let e = c.change_all.ensures j l in search rules in
    let left = divided_is run new a.constant a.modulus g c.change_all.auto.run small c.ranges.constant c.requires.const (λ j l. each j l ∙ ap (quot_z (at run j)) same) in
    let e = tested g a.constant true small c.ranges.constant (sym c.if-not-divides.false ∙ c.divides.ensures) in
    c.finish.ensures.coeffs_after ∙ ap₂ (λ (n : ℕ) (h : Fact). tabulate n h.coef) c.change_all.auto.run (ap₂ finished c.change_all.auto.run left ∙ by_test run a.constant a.modulus g c.common_factor-g.ensures true e)
