use Rattle.std.proofs.Common.{◌≡◌, ℕ, ◌<◌, sym, ◌∙◌, ap, rules, length, List, ℤ, pos, neg_ℤ, ◌-ℤ◌, arith}
use Rattle.std.proofs.lemmas.Int.{ints}
use mir.Syntax.{w64}
use mir.Val.{to_z, of_z}
use mathlib.Core.Bool.{Bool, true, false}
use Rattle.integers.specs.Range.{is_negative}
use Rattle.integers.specs.Run.{at, tabulate}
use Rattle.integers.proofs.Laws.Bits.{stored_is}
use Rattle.integers.proofs.Laws.Run.{run_is, tabulate_is}
use Rattle.checker.specs.Fact.{Fact}
use Rattle.checker.specs.NormalForm.{first_nonzero, sign_by}
use Rattle.checker.specs.Answer.{stated}
use Rattle.checker.specs.Code.{fact_of, made_positive}
use Rattle.checker.proofs.make_positive.Goals as goal

by_sign : (run : List ℤ) (constant : ℤ) (t : Bool) → t ≡ is_negative (first_nonzero (length run) (at run)) → sign_by t (fact_of run constant (pos 0)) ≡ made_positive (length run) (fact_of run constant (pos 0))
unfolding made_positive
by_sign run constant t e = ap (λ (x : Bool). sign_by x (fact_of run constant (pos 0))) e

pub returns-then-not-first_is_negative-clause-value : goal.returns-then-not-first_is_negative-clause-value
unfolding sign_by
returns-then-not-first_is_negative-clause-value c = ap (λ (k : ℤ). record { constant = k; modulus = pos 0 }) (stored_is c.ranges.constant) ∙ ap stated (by_sign _ _ false (sym c.if-not-first_is_negative.true ∙ c.first_is_negative.ensures))

pub returns-then-not-first_is_negative-clause-coeffs_after : goal.returns-then-not-first_is_negative-clause-coeffs_after
unfolding sign_by
returns-then-not-first_is_negative-clause-coeffs_after c = run_is c.args.coeffs.now ∙ ap (λ (h : Fact). tabulate (length c.args.coeffs.now) h.coef) (by_sign _ c.args.constant false (sym c.if-not-first_is_negative.true ∙ c.first_is_negative.ensures))

pub returns-clause-value : goal.returns-clause-value
unfolding sign_by
returns-clause-value c =
    let negated : to_z w64 (of_z w64 (pos 0 -ℤ to_z w64 (of_z w64 c.args.constant))) ≡ neg_ℤ c.args.constant = omega (arith, ints, c.requires.const) in
    ap (λ (k : ℤ). record { constant = k; modulus = pos 0 }) negated ∙ ap stated (by_sign c.args.coeffs.now c.args.constant true (sym c.if-not-first_is_negative.false ∙ c.first_is_negative.ensures))

pub returns-clause-coeffs_after : goal.returns-clause-coeffs_after
unfolding sign_by
returns-clause-coeffs_after c =
    let negated : (j : ℕ) → j < length c.args.coeffs.now → at c.change_all.new.run j ≡ neg_ℤ (at c.args.coeffs.now j) = λ j l. let e = c.change_all.ensures j l in search rules in
    tabulate_is (length c.args.coeffs.now) (λ j. neg_ℤ (at c.args.coeffs.now j)) c.change_all.new.run c.change_all.auto.run negated
    ∙ ap (λ (h : Fact). tabulate (length c.args.coeffs.now) h.coef) (by_sign _ c.args.constant true (sym c.if-not-first_is_negative.false ∙ c.first_is_negative.ensures))
