use Rattle.std.proofs.Common.{◌≡◌, ℕ, ◌<◌, sym, ◌∙◌, ap, ap₂, rules, arith, length, List, ℤ, pos, nat_abs, eqb}
use mathlib.Core.Bool.{Bool, true, false}
use borrow.Author.Tests.{eq-eqb, ne_eqb}
use mir.Syntax.{w64}
use mir.Val.{to_z}
use Rattle.std.proofs.lemmas.Int.{ints}
use Rattle.std.specs.Int.{int_rem_euclid}
use Rattle.integers.specs.Run.{at, tabulate}
use Rattle.integers.proofs.Laws.Bits.{stored_is}
use Rattle.integers.proofs.Laws.Run.{tabulate_is}
use Rattle.checker.specs.Fact.{Fact}
use Rattle.checker.specs.NormalForm.{residue, unit_by}
use Rattle.checker.specs.Answer.{stated}
use Rattle.checker.specs.Code.{fact_of, made_positive, finished}
use Rattle.checker.proofs.Laws.Facts.{residue_is}
use Rattle.checker.proofs.Laws.Short.{finished_equality, finished_congruence}
use Rattle.checker.proofs.finish.Goals as goal

module _ (run : List ℤ) (constant : ℤ) (modulus : ℕ) where
  equality : (k : ℤ) → k ≡ constant → modulus ≡ 0 → made_positive (length run) (fact_of run k (pos 0)) ≡ finished (length run) (fact_of run constant (pos modulus))
  equality k e zero = ap₂ (λ k m. made_positive (length run) (fact_of run k (pos m))) e (sym zero) ∙ sym (finished_equality (length run) (fact_of run constant (pos modulus)) (ap pos zero))

  congruence : (t : Bool) → t ≡ eqb modulus 1 → 0 < modulus → unit_by t (fact_of run constant (pos modulus)) ≡ finished (length run) (fact_of run constant (pos modulus))
  congruence t e some = ap (λ (b : Bool). unit_by b (fact_of run constant (pos modulus))) e ∙ sym (finished_congruence (length run) (fact_of run constant (pos modulus)) (λ z. omega (arith, ap nat_abs z)))

pub returns-in-0-clause-value : goal.returns-in-0-clause-value
returns-in-0-clause-value c = c.make_positive.ensures.value ∙ ap stated (equality c.args.coeffs.now c.args.constant c.args.modulus _ (stored_is c.ranges.constant) c.in-0.is)

pub returns-in-0-clause-coeffs_after : goal.returns-in-0-clause-coeffs_after
returns-in-0-clause-coeffs_after c = c.make_positive.ensures.coeffs_after ∙ ap (λ (h : Fact). tabulate (length c.args.coeffs.now) h.coef) (equality c.args.coeffs.now c.args.constant c.args.modulus _ (stored_is c.ranges.constant) c.in-0.is)

pub returns-in-1-clause-value : goal.returns-in-1-clause-value
unfolding unit_by
returns-in-1-clause-value c = ap stated (congruence c.args.coeffs.now c.args.constant c.args.modulus true (sym (eq-eqb c.args.modulus 1 c.in-1.is)) (omega (arith, c.in-1.is)))

pub returns-in-1-clause-coeffs_after : goal.returns-in-1-clause-coeffs_after
unfolding unit_by
returns-in-1-clause-coeffs_after c =
    let zeros : (j : ℕ) → j < length c.args.coeffs.now → at c.fill.new.self j ≡ pos 0 = λ j l. search rules in
    tabulate_is (length c.args.coeffs.now) (λ j. pos 0) c.fill.new.self c.fill.auto.self zeros
    ∙ ap (λ (h : Fact). tabulate (length c.args.coeffs.now) h.coef) (congruence c.args.coeffs.now c.args.constant c.args.modulus true (sym (eq-eqb c.args.modulus 1 c.in-1.is)) (omega (arith, c.in-1.is)))

pub returns-in_default-clause-value : goal.returns-in_default-clause-value
unfolding unit_by
returns-in_default-clause-value c =
    let some : 0 < c.args.modulus = omega arith in
    let modulus : to_z w64 c.args.modulus ≡ pos c.args.modulus = omega (arith, ints, c.requires.modulus) in
    ap₂ (λ (k m : ℤ). record { constant = k; modulus = m })
    (stored_is (record { sfits = c.rem_euclid.type_inv }) ∙ c.rem_euclid.ensures.value ∙ ap₂ int_rem_euclid (stored_is c.ranges.constant) modulus ∙ residue_is c.args.modulus c.args.constant some) modulus
    ∙ ap stated (congruence c.args.coeffs.now c.args.constant c.args.modulus false (sym (ne_eqb c.args.modulus 1 (λ e. omega (arith, e)))) some)

pub returns-in_default-clause-coeffs_after : goal.returns-in_default-clause-coeffs_after
unfolding unit_by
returns-in_default-clause-coeffs_after c =
    let some : 0 < c.args.modulus = omega arith in
    let modulus : to_z w64 c.args.modulus ≡ pos c.args.modulus = omega (arith, ints, c.requires.modulus) in
    let remainders : (j : ℕ) → j < length c.args.coeffs.now → at c.change_all.new.run j ≡ int_rem_euclid (at c.args.coeffs.now j) (to_z w64 c.args.modulus) = λ j l. let e = c.change_all.ensures j l in search rules in
    tabulate_is (length c.args.coeffs.now) (λ j. residue (pos c.args.modulus) (at c.args.coeffs.now j)) c.change_all.new.run c.change_all.auto.run
    (λ j l. remainders j l ∙ ap (int_rem_euclid (at c.args.coeffs.now j)) modulus ∙ residue_is c.args.modulus (at c.args.coeffs.now j) some)
    ∙ ap (λ (h : Fact). tabulate (length c.args.coeffs.now) h.coef) (congruence c.args.coeffs.now c.args.constant c.args.modulus false (sym (ne_eqb c.args.modulus 1 (λ e. omega (arith, e)))) some)
