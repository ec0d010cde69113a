use Rattle.std.proofs.Common.{sym, arith, ◌*ℤ◌}
use Rattle.integers.specs.Run.{at}
use Rattle.integers.proofs.Laws.Sum.{sum_none, sum_turn}
use Rattle.checker.specs.Code.{numbers}
use Rattle.checker.proofs.WeighedSide.column_sum.Goals as goal

pub loop-i-init : goal.loop-i-init
loop-i-init c = record { so_far = sym (sum_none _); small = omega arith }

pub loop-i-preserved : goal.loop-i-preserved
loop-i-preserved c =
    let s = c.args.self.now in
    let next = sum_turn c.loop-i.i 1000000000000 (λ i. at s.weights.now i *ℤ numbers s.side.n s.side.run.now c.args.column i) _ c.product-sum.result c.loop-i.invariant.so_far c.loop-i.invariant.small c.product-sum.ensures.value c.product-sum.ensures.bound (omega (arith, s.side.few_m)) in
    record { so_far = next.0; small = next.1 }
