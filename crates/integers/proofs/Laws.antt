-- The laws of ℤ, one subject a file. Each file opens with a list of what it proves.
--
--     Ring            sums, products, negation; an equation from other equations
--     Normaliser      `ring!`, which proves polynomial identities by computation
--     Magnitude       |a|, bounds of sums, differences and products, cancelling
--     Order           ≤ and < for `omega`, orders from orders, numbers above 0
--     Division        a / b and a % b cut towards zero, halving, exact division
--     Bits            what fits an i64, and what is read back where a number was stored
--     Divisibility    a ∣ b with 0 ∣ b only for b = 0, and congruence
--     Sum             finite sums and products of two lists
--     Gcd             of two numbers and of many, greatest by divisibility, Bezout
--     NonDivisor      the least number from 2 up that does not divide
--     Below           tests at every place, or at some place, of a range
--     Decide          tests that decide statements, composed
--     Run             runs by their places, and what a writing loop leaves
pub mod Ring
pub mod Normaliser
pub mod Magnitude
pub mod Order
pub mod Division
pub mod Bits
pub mod Divisibility
pub mod Sum
pub mod Gcd
pub mod NonDivisor
pub mod Below
pub mod Decide
pub mod Run
