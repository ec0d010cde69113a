use native.Mathlib.Omega.{arith}
use lib.IntN.{◌*ℤ◌}
use mir.Syntax.{w64}
use mir.Val.{SFits}
use Rattle.integers.proofs.Laws.Bits.{fits_mul, stored_both}
use Rattle.search.proofs.times.Goals as goal
use Rattle.search.proofs.times.Goals.{Start}

product-fits : (c : Start) → SFits w64 (c.args.x *ℤ c.args.y)
product-fits c = fits_mul c.args.x c.args.y c.requires.0 c.requires.1 (omega arith)

pub returns : goal.returns
returns c = stored_both ◌*ℤ◌ c.ranges.x c.ranges.y (product-fits c)
