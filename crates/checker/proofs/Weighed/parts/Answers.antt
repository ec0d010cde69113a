use Rattle.std.proofs.Common.{◌≡◌, ℕ, refl, sym, ◌∙◌, ap, ap₂, ℤ, pos}
use mathlib.Core.Bool.{Bool, true, false, cond, not, ◌&&◌}
use Rattle.integers.specs.Run.{at}
use Rattle.integers.proofs.Laws.Bits.{stored_is}
use Rattle.integers.proofs.Laws.Decide.{by_zero}
use Rattle.problem.specs.Rows.{Rows, side_of}
use Rattle.problem.specs.Occurrence.{occurs}
use Rattle.checker.specs.Refutation.{column_sum, numerator}
use Rattle.checker.proofs.Laws.Sums.{side_same, side_dot}
use Rattle.checker.proofs.Weighed.parts.Goals as goal

-- a sum of 0, whether it is kept or not
nothing : (t : Bool) (s : ℤ) → s ≡ pos 0 → pos 0 ≡ cond t s (pos 0)
nothing true s e = sym e
nothing false s e = refl

-- where a variable occurs
found : {R S : Rows} (t : Bool) (j : ℕ) → t ≡ occurs R j → R ≡ S → t ≡ occurs S j
found t j e same = e ∙ ap (λ (R : Rows). occurs R j) same

pub returns-then-is_zero-clause-shared : goal.returns-then-is_zero-clause-shared
returns-then-is_zero-clause-shared c =
    let a = c.a-a.ensures in
    let sum = c.column_sum-sum.ensures.value ∙ side_dot a.n a.m a.run (at c.a-a.result.weights.now) (numerator c.args.self.now.p.now) a.weights c.args.j in
    let fit = stored_is (record { sfits = c.column_sum-sum.type_inv }) in
    nothing _ _ (sym sum ∙ sym fit ∙ (by_zero _).yes (sym c.is_zero.ensures ∙ c.if-is_zero.true))

pub returns-then-is_zero-clause-local : goal.returns-then-is_zero-clause-local
returns-then-is_zero-clause-local c =
    let a = c.a-a.ensures in
    let sum = c.column_sum-sum.ensures.value ∙ side_dot a.n a.m a.run (at c.a-a.result.weights.now) (numerator c.args.self.now.p.now) a.weights c.args.j in
    let fit = stored_is (record { sfits = c.column_sum-sum.type_inv }) in
    nothing _ _ (sym sum ∙ sym fit ∙ (by_zero _).yes (sym c.is_zero.ensures ∙ c.if-is_zero.true))

pub returns-in-true-true-clause-shared : goal.returns-in-true-true-clause-shared
returns-in-true-true-clause-shared c =
    let a = c.a-a.ensures in
    let b = c.b.ensures in
    let s = c.args.self.now in
    stored_is (record { sfits = c.column_sum-sum.type_inv })
    ∙ (c.column_sum-sum.ensures.value ∙ side_dot a.n a.m a.run (at c.a-a.result.weights.now) (numerator s.p.now) a.weights c.args.j)
    ∙ ap₂ (λ (x y : Bool). cond (x && y) (column_sum (side_of s.rows.problem.n s.rows.problem.ma s.rows.problem.a.now) (numerator s.p.now) c.args.j) (pos 0))
    (found true c.args.j c.in-true-true.ensures (side_same a.n a.m a.run)) (found true c.args.j c.in-true-true.ensures' (side_same b.n b.m b.run))

pub returns-in-true-false-clause-local : goal.returns-in-true-false-clause-local
returns-in-true-false-clause-local c =
    let a = c.a-a.ensures in
    let b = c.b.ensures in
    let s = c.args.self.now in
    stored_is (record { sfits = c.column_sum-sum.type_inv })
    ∙ (c.column_sum-sum.ensures.value ∙ side_dot a.n a.m a.run (at c.a-a.result.weights.now) (numerator s.p.now) a.weights c.args.j)
    ∙ ap₂ (λ (x y : Bool). cond (x && not y) (column_sum (side_of s.rows.problem.n s.rows.problem.ma s.rows.problem.a.now) (numerator s.p.now) c.args.j) (pos 0))
    (found true c.args.j c.in-true-false.ensures (side_same a.n a.m a.run)) (found false c.args.j c.in-true-false.ensures' (side_same b.n b.m b.run))
