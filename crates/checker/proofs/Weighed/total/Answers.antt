use Rattle.std.proofs.Common.{◌∙◌, ap₂, arith, ◌+ℤ◌}
use Rattle.integers.specs.Run.{at}
use Rattle.integers.proofs.Laws.Bits.{fits_add, stored_both}
use Rattle.checker.specs.Refutation.{numerator}
use Rattle.checker.specs.Code.{weights}
use Rattle.checker.proofs.Laws.Sums.{side_dot}
use Rattle.checker.proofs.Weighed.total.Goals as goal

pub returns : goal.returns
returns c =
    let p = c.args.self.now.p.now in
    let a = c.a.ensures in
    let b = c.b.ensures in
    stored_both ◌+ℤ◌ {x = c.column_sum.result} {y = c.column_sum-2.result} (record { sfits = c.column_sum.type_inv }) (record { sfits = c.column_sum-2.type_inv })
    (fits_add c.column_sum.result c.column_sum-2.result c.column_sum.ensures.bound c.column_sum-2.ensures.bound (omega arith))
    ∙ ap₂ ◌+ℤ◌ (c.column_sum.ensures.value ∙ side_dot a.n a.m a.run (at c.a.result.weights.now) (numerator p) a.weights c.args.column)
    (c.column_sum-2.ensures.value ∙ side_dot b.n b.m b.run (at c.b.result.weights.now) (weights p c.args.self.now.rows.problem.ma) (λ i l. b.weights i) c.args.column)
