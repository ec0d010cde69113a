use mathlib.Core.Path.{subst⁻¹}
use Prim.Native.Nat.{◌*◌, ◌<◌}
use lib.IntN.{ℤ, nat_abs}
use lib.Signed.{rem_z}
use Rattle.integers.proofs.Laws.Division.{rem_halves}
use Rattle.integers.proofs.Laws.Bits.{fits_rem, stored_both}
use Rattle.search.proofs.remainder.Goals as goal

pub returns : goal.returns
returns c =
    let y = c.args.y in
    let x = c.args.x in
    let e = stored_both rem_z c.ranges.y c.ranges.x (fits_rem y x c.ranges.y) in
    record {
      value = e;
      result_bound = subst⁻¹ (λ (r : ℤ). 2 * nat_abs r < nat_abs y) e (rem_halves y x c.requires.1 c.requires.2);
    }
