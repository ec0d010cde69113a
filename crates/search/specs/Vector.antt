-- "The vector, when row i refutes".
--
--     Vector                numerators and denominator q
--     in_range v            whether all of them are in range; checked v     the vector if they are, else nothing
--     unit_vector i e       "numerator 1 at row i; q is its pivot, or 1 if it has none" (e = 0)
--     column_sum m t p k    s, "the sum of numerator × entry so far in that column"
--     back_one              what is done at one earlier pivot column; back_from    "For earlier pivot columns from last to first"
--     vector_of s t e       the vector of the current row of s, whose table is t and whose entry is e
--
-- "or above 1,000,000 into any numerator or q at any moment": the numbers are looked at after each column, and once one is out
-- of range the vector stays as it is.
use Rattle.std.specs.Prelude.{List, Bool, true, false, cond, ◌&&◌, ℕ, zero, suc, eqb, ℤ, pos, neg_ℤ, ◌*ℤ◌, Option, Some, None}
use Rattle.std.specs.Int.Signed.{quot_z}
use Rattle.integers.specs.Range.{is_zero, within}
use Rattle.integers.specs.Divisibility.{divides}
use Rattle.integers.specs.Gcd.{gcd_ℤ}
use Rattle.integers.specs.NonDivisor.{non_divisor}
use Rattle.integers.specs.Sum.{dot}
use Rattle.integers.specs.Below.{all_below}
use Rattle.integers.specs.Run.{at, tabulate}
use Rattle.problem.specs.WellFormed.{million}
use Rattle.search.specs.Table.{cell}
use Rattle.search.specs.State.{State, const_of, pivot_of}
pub use Rattle.search.specs.declared.Vector.{Vector}

abbrev pub in_range : Vector → Bool
in_range v = all_below 12 (λ i. within million (at v.p i)) && within million v.q

abbrev pub checked : Vector → Option Vector
checked v = cond (in_range v) (Some v) None

unfoldable pub unit_vector : ℕ → ℤ → Vector
unit_vector i e = record { p = tabulate 12 (λ k. cond (eqb k i) (pos 1) (pos 0)); q = cond (is_zero e) (pos 1) e }

unfoldable pub column_sum : ℕ → List ℤ → List ℤ → ℕ → ℤ
column_sum m t p k = dot m (at p) (λ i. cell t i k)

-- "If e does not divide s, multiply all numerators and q by e / gcd(s, e)."
unfoldable pub factor_of : ℤ → ℤ → ℤ
factor_of s e = cond (divides e s) (pos 1) (quot_z e (gcd_ℤ s e))

-- "The numerator of that pivot's row is then −s / e, with s as it is after the multiplication."
unfoldable pub back_one : ℕ → List ℤ → ℕ → ℕ → Vector → Vector
back_one m t i k v =
    let s = column_sum m t v.p k in
    let e = cell t i k in
    let f = factor_of s e in
    record { p = tabulate 12 (λ r. cond (eqb r i) (neg_ℤ (quot_z (f *ℤ s) e)) (f *ℤ at v.p r)); q = f *ℤ v.q }

unfoldable pub back_by : Bool → ℕ → List ℤ → ℕ → ℕ → Vector → Vector
back_by true m t i k v = back_one m t i k v
back_by false m t i k v = v

unfoldable pub back_from : ℕ → ℕ → List ℤ → (ℕ → ℕ) → Vector → Vector
back_from zero m t pivot v = v
back_from (suc k) m t pivot v = back_from k m t pivot (back_by (in_range v) m t (pivot k) k v)

-- "If row i had no pivot, take the sum of p × d at the end; q is the smallest number from 2 up that does not divide it."
unfoldable pub denominator_by : Bool → State → Vector → Vector
denominator_by false s v = v
denominator_by true s v = record { p = v.p; q = pos (non_divisor (dot s.given.m (at v.p) (const_of s.given))) }

unfoldable pub vector_of : State → List ℤ → ℤ → Vector
vector_of s t e =
    let v = back_from s.count s.given.m t (pivot_of s) (unit_vector s.row e) in
    denominator_by (in_range v && is_zero e) s v
