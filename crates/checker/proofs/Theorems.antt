-- What the checker's definitions promise, in the terms of specs/, one subject a file.
--
--     Accepted    accepted_is  refused_is              a vector is accepted, or refused with k, exactly in its case
--                 judge_number_is                      and so the answer has its number
--     Refuted     no_point  refuted                    an accepted vector leaves no point that meets both sides
--     Implied     implied  excluded  only_shared       A implies the interpolant, B excludes it, it has shared variables only
--                 left_out                             M divides A's column sums at the others
--     Normal      normal_same  normal-form             the normal form says the same as the fact, and is normal
--                 interpolant_same  interpolant_form   so does, and so is, the interpolant
--     Largest     projected                            the interpolant loses nothing of A's weighted row
--     Demand      demand                               demand 2 of a call of `judge`, all of the above
pub mod Accepted
pub mod Refuted
pub mod Implied
pub mod Normal
pub mod Largest
pub mod Demand
