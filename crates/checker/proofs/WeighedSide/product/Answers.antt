use Rattle.std.proofs.Common.{◌≡◌, ◌*◌, ◌≤◌, ◌∙◌, sym, ap₂, subst, arith, nat_abs, ◌*ℤ◌}
use Rattle.integers.proofs.Laws.Bits.{stored, fits_mul, fits_both, stored_both}
use Rattle.integers.proofs.Laws.Magnitude.{mul_bound}
use Rattle.problem.specs.WellFormed.{million}
use Rattle.checker.proofs.WeighedSide.product.Goals as goal
use Rattle.checker.proofs.WeighedSide.product.Goals.{After-number}

weight-small : (c : After-number) → nat_abs c.at.result ≤ million
weight-small c = subst (λ x. nat_abs x ≤ million) (sym c.at.ensures) (c.args.self.now.in_range c.args.i)

product_is : (c : After-number) → stored (stored c.at.result *ℤ stored c.number.result) ≡ c.at.result *ℤ c.number.result
product_is c = stored_both ◌*ℤ◌ {x = c.at.result} {y = c.number.result} (record { sfits = c.at.type_inv }) (record { sfits = c.number.type_inv }) (fits_mul c.at.result c.number.result (weight-small c) c.number.ensures.bound (omega arith))

pub returns-clause-value : goal.returns-clause-value
returns-clause-value c = product_is c ∙ ap₂ ◌*ℤ◌ c.at.ensures (c.number.ensures.inside c.requires.0 (omega arith))

pub returns-clause-bound : goal.returns-clause-bound
returns-clause-bound c = subst (λ x. nat_abs x ≤ million * million) (sym (product_is c)) (mul_bound c.at.result c.number.result (weight-small c) c.number.ensures.bound)

pub overflow_mul-result : goal.overflow_mul-result
overflow_mul-result c = fits_both ◌*ℤ◌ {x = c.at.result} {y = c.number.result} (record { sfits = c.at.type_inv }) (record { sfits = c.number.type_inv }) (fits_mul c.at.result c.number.result (weight-small c) c.number.ensures.bound (omega arith))
