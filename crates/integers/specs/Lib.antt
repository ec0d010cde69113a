-- The definitions of `integers`, which contracts and theorems cite. Laws about them are in proofs/Laws/.
--
--     Range          is_zero  is_negative  within  Positive    signs and ranges of single numbers
--     Divisibility   ◌∣ℤ◌  divides  Congruent                  0 divides only 0
--     Gcd            gcd_ℕ  gcd_ℤ  gcd_from                    of two naturals, of two integers, of many
--     NonDivisor     non_divisor                               the least number from 2 up that does not divide
--     Sum            sum  dot                                  finite sums, products of two lists
--     Below          all_below  any_below                      a test at every, or at some, place
--     Run            at  tabulate                              a lent run by its places, and back
pub mod Range
pub mod Divisibility
pub mod Gcd
pub mod NonDivisor
pub mod Sum
pub mod Below
pub mod Run
