-- Signs and ranges of single numbers.
--
--     is_zero z         whether z is 0
--     is_negative z     whether z is below 0
--     within B z        whether z lies in -B..B
--     Positive z        z is above 0: z is `by` + 1
--
-- The magnitude |z| is `nat_abs z` of std, a natural number.
use Rattle.std.specs.Prelude.{◌≡◌, Bool, ℕ, suc, eqb, leb, ℤ, pos, nat_abs}
use Rattle.std.specs.Int.Signed.{lt_z}

abbrev pub is_zero : ℤ → Bool
is_zero z = eqb (nat_abs z) 0

abbrev pub is_negative : ℤ → Bool
is_negative z = lt_z z (pos 0)

abbrev pub within : ℕ → ℤ → Bool
within B z = leb (nat_abs z) B

pub record Positive (z : ℤ) : Type 0 where
  pub by : ℕ
  pub is : z ≡ pos (suc by)
